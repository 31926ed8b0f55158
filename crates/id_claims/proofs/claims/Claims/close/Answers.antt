use Rattle.std.proofs.Common.{List, ap, sym, subst}
use Rattle.tea_base.specs.declared.entry.SessionId.{SessionId}
use Rattle.id_claims.specs.Passes.{ClaimsState, Closes}
use Rattle.id_claims.proofs.Closing.{closed}
use Rattle.id_claims.proofs.claims.Claims.close.Goals as goal

pub returns : goal.returns
returns c =
    let told = closed c.self.inside.table.shared.key.value c.pass.inside.seat.id c.pass.inside.seat.me _ _ c.pass.inside.seat.table_id c.args.pass c.take-ids.result c.close_with-closed.ensures.values.2 c.pass.invariant c.pass.view_is c.requires.whole c.take-ids.ensures.value c.into_vec.ensures.few in
    subst (λ (x : List SessionId × List SessionId). Closes x.0 c.args.pass x.1) (λ i. (ap (λ (s : ClaimsState). s.listed) c.self.view_is i, sym c.into_vec.ensures.ids i)) told
