use Rattle.std.proofs.Common.{List, ◌∷◌, sym, ap, ◌∙◌}
use Rattle.atomic_table.specs.Table.{rest}
use Rattle.session_lock.specs.declared.held.KeptSession.{KeptSession}
use Rattle.session_lock.specs.Keeping.{HasCounts, KeepsHoped}
use Rattle.session_lock.proofs.Working.{has_worked, in_hand}
use Rattle.session_lock.proofs.lock.SharedSession.work.Goals as goal

pub slot_mut-kept-requires : goal.slot_mut-kept-requires
slot_mut-kept-requires g c =
    let hand = c.requires.hand in
    (cc (c.requires.table, c.self.view_is), (hand.0, hand.1 ∙ ap (λ (l : List _). (0, hand.0) ∷ l) (sym (ap rest hand.1))))

pub call-requires : goal.call-requires
call-requires g c =
    let hand = c.requires.hand in in_hand (λ (k : KeptSession _). HasCounts k) c.args.seat.now.me.1 hand.0 c.slot_mut-kept.result.now hand.1 c.slot_mut-kept.ensures.value hand.2

pub returns-clause-reply : goal.returns-clause-reply
returns-clause-reply g c = λ first.
    has_worked (KeepsHoped g.K.Keeper.holds g.K.Keeper.writes g.K.Keeper.shut g.K.Keeper.faults first) g.K.Keeper.shut c.args.seat.now.me c.args.request.now c.call.result.0 c.call.result.1 c.slot_mut-kept.result.now c.call.new.self c.requires.hand.0 c.requires.hand.1 c.slot_mut-kept.ensures.value
    c.call.ensures.ok c.call.ensures.err c.call.ensures.sound c.call.ensures.cause (c.call.ensures.tried first)
