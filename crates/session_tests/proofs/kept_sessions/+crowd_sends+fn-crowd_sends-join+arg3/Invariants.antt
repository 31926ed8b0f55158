use Rattle.std.proofs.Common.{◌+◌, ◌*◌, vec_len}
use Rattle.session_tests.proofs.kept_sessions.+crowd_sends+fn-crowd_sends-join+arg3.Given as goal

abbrev pub decreases-join+arg3 : goal.decreases-join+arg3
decreases-join+arg3 g l = 2 * vec_len l.passes + 2

abbrev pub decreases-crowd_sends : goal.decreases-crowd_sends
decreases-crowd_sends g l = 2 * vec_len l.passes + 1
