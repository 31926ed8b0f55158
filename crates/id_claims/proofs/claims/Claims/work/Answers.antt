use Rattle.std.proofs.Common.{List, ◌∷◌, ap, sym, ◌∙◌}
use Rattle.atomic_table.specs.Table.{rest}
use Rattle.id_claims.proofs.Contracts.{has_worked}
use Rattle.id_claims.proofs.claims.Claims.work.Goals as goal

pub slot_mut-ids-requires : goal.slot_mut-ids-requires
slot_mut-ids-requires c =
    let hand = c.requires.hand in
    (cc (c.requires.table, c.self.view_is), (hand.0, hand.1 ∙ ap (λ (l : List _). (0, hand.0) ∷ l) (sym (ap rest hand.1))))

pub returns-clause-worked : goal.returns-clause-worked
returns-clause-worked c =
    has_worked c.args.seat.now.me c.args.id.now c.claim.result c.slot_mut-ids.result.now c.claim.new.self c.requires.hand c.slot_mut-ids.ensures.value c.claim.ensures.takes c.claim.ensures.has
