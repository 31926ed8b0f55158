use Rattle.std.proofs.Common.{◌+◌, ◌*◌, vec_len}
use Rattle.host_server.proofs.accepting.+accept_all+fn-accept_all-join+arg3.Given as goal

abbrev pub decreases-join+arg3 : goal.decreases-join+arg3
decreases-join+arg3 g l = 2 * vec_len l.rows + 2

abbrev pub decreases-accept_all : goal.decreases-accept_all
decreases-accept_all g l = 2 * vec_len l.rows + 1
