use Rattle.std.proofs.Common.{◌≡◌, ◌+◌, ◌<◌, All}
use Rattle.id_claims_tests.proofs.claims.passes_of.Given as goal

abbrev pub invariant-loop-made : goal.invariant-loop-made
invariant-loop-made l = record {
  claims : l.lead.claims ≡ l.claims.claims;
  passes : All (λ pass. pass.claims ≡ l.claims.claims) l.passes.items;
  enough : l.fn.count < l.lead.parts + l._made;
}
