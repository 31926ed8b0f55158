use Rattle.std.proofs.Common.{◌≡◌}
use Rattle.id_claims_tests.proofs.claims.claim_some.Given as goal

abbrev pub invariant-loop-step : goal.invariant-loop-step
invariant-loop-step g l = l.pass.claims ≡ l.claims.claims
