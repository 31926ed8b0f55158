use Rattle.std.proofs.Common.{◌<◌, ap, sym, subst, ◌∙◌, arith}
use Rattle.id_claims.specs.Passes.{ClaimsState, PassState}
use Rattle.id_claims.proofs.Sharing.{splits_pass}
use Rattle.id_claims.proofs.claims.Claims.split.Goals as goal

pub split_seat-seat-requires : goal.split_seat-seat-requires
split_seat-seat-requires c = (
  ap (λ (p : PassState). p.claims) c.pass.view_is ∙ (c.requires.claims ∙ sym (ap (λ (s : ClaimsState). s.claims) c.self.view_is)),
  omega (arith, c.self.invariant.0),
  splits_pass c.self.inside.table.shared.key.value c.pass.inside.seat.id c.pass.inside.seat.me.0 (subst (λ (p : PassState). 1 < p.parts) (sym c.pass.view_is) c.requires.enough),
)
