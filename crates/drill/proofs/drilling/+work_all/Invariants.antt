use Rattle.std.proofs.Common.{◌+◌, ◌*◌, vec_len}
use Rattle.drill.proofs.drilling.+work_all.Given as goal

abbrev pub decreases-work_all : goal.decreases-work_all
decreases-work_all g l = 3 * vec_len l.workers

abbrev pub decreases-work_beside-join+arg3 : goal.decreases-work_beside-join+arg3
decreases-work_beside-join+arg3 g l = 3 * vec_len l.others + 1

abbrev pub decreases-work_beside : goal.decreases-work_beside
decreases-work_beside g l = 3 * vec_len l.others + 2
