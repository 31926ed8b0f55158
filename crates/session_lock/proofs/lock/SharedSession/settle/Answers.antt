use Rattle.std.proofs.Common.{List, ◌∷◌, sym, ap, ◌∙◌}
use Rattle.atomic_table.specs.Table.{rest}
use Rattle.session_lock.specs.declared.held.KeptSession.{KeptSession}
use Rattle.session_lock.specs.Keeping.{CanGoBack, HasCounts, KeepsHoped}
use Rattle.session_lock.proofs.Working.{has_gone_on, in_hand}
use Rattle.session_lock.proofs.lock.SharedSession.settle.Goals as goal

pub slot_mut-kept-requires : goal.slot_mut-kept-requires
slot_mut-kept-requires g c =
    let hand = c.requires.hand in
    (cc (c.requires.table, c.self.view_is), (hand.0, hand.1 ∙ ap (λ (l : List _). (0, hand.0) ∷ l) (sym (ap rest hand.1))))

pub settle-requires-clause-counts : goal.settle-requires-clause-counts
settle-requires-clause-counts g c =
    let hand = c.requires.hand in in_hand (λ (k : KeptSession _). HasCounts k) c.args.seat.now.me.1 hand.0 c.slot_mut-kept.result.now hand.1 c.slot_mut-kept.ensures.value hand.2

pub settle-requires-clause-back : goal.settle-requires-clause-back
settle-requires-clause-back g c =
    let hand = c.requires.hand in in_hand (λ (k : KeptSession _). CanGoBack k) c.args.seat.now.me.1 hand.0 c.slot_mut-kept.result.now hand.1 c.slot_mut-kept.ensures.value hand.3

pub returns-clause-how : goal.returns-clause-how
returns-clause-how g c = λ first.
    has_gone_on (KeepsHoped g.K.Keeper.holds g.K.Keeper.writes g.K.Keeper.shut g.K.Keeper.faults first) c.args.seat.now.me c.args.place c.settle.result c.slot_mut-kept.result.now c.settle.new.self c.requires.hand.0 c.requires.hand.1 c.slot_mut-kept.ensures.value
    (c.settle.ensures.settled first)
