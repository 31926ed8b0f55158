use Rattle.std.proofs.Common.{◌+◌, ◌*◌, vec_len}
use Rattle.id_claims_tests.proofs.claims.+crowd_claims+fn-crowd_claims-join+arg3.Given as goal

abbrev pub decreases-join+arg3 : goal.decreases-join+arg3
decreases-join+arg3 g l = 2 * vec_len l.passes + 2

abbrev pub decreases-crowd_claims : goal.decreases-crowd_claims
decreases-crowd_claims g l = 2 * vec_len l.passes + 1
