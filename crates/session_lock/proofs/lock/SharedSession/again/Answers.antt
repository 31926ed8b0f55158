use Rattle.std.proofs.Common.{◌∙◌, sym, subst, ap, refl}
use Rattle.reflector_core.specs.declared.request.Request.{Request}
use Rattle.session_lock.specs.History.{play_from, item_of}
use Rattle.session_lock.specs.Keeping.{KeepsHoped, SomeShut}
use Rattle.session_lock.specs.Trusts.{MayBeAsked}
use Rattle.session_lock.specs.Steps.{M, HasMade, Works, rested}
use Rattle.session_lock.proofs.Turning.{at_once, counts_in_hand, in_turn_lost, lost_then, made_at_once, may_end, plays_here, tried}
use Rattle.session_lock.proofs.lock.SharedSession.again.Goals as goal

pub lose-requires-clause-holding : goal.lose-requires-clause-holding
lose-requires-clause-holding g c = ap (λ (m : M _). m.0.holding) c.requires.lost.1.turn.is

pub work-result-requires-clause-hand : goal.work-result-requires-clause-hand
work-result-requires-clause-hand g c =
    let lost = c.requires.lost in
    counts_in_hand g.K.Keeper.holds g.K.Keeper.writes g.K.Keeper.shut g.K.Keeper.faults g.J.Trusting.first g.J.Trusting.trusted lost.0 c.lose.new.seat.me (in_turn_lost g.K.Keeper.holds g.K.Keeper.writes g.K.Keeper.shut g.K.Keeper.faults g.J.Trusting.first g.J.Trusting.trusted lost.0 c.args.seat.now.me c.lose.new.seat.me lost.1 c.lose.ensures.lost)

pub end-requires-clause-may : goal.end-requires-clause-may
end-requires-clause-may g c =
    let lost = c.requires.lost in
    let turn = in_turn_lost g.K.Keeper.holds g.K.Keeper.writes g.K.Keeper.shut g.K.Keeper.faults g.J.Trusting.first g.J.Trusting.trusted lost.0 c.args.seat.now.me c.lose.new.seat.me lost.1 c.lose.ensures.lost in
    let work = subst (λ (r : Request). Works (KeepsHoped g.K.Keeper.holds g.K.Keeper.writes g.K.Keeper.shut g.K.Keeper.faults g.J.Trusting.first) g.K.Keeper.shut c.lose.new.seat.me r c.work-result.result.0 c.work-result.result.1 c.work-result.new.seat.me) c.requires.asked (c.work-result.ensures.reply g.J.Trusting.first) in
    let asked = subst (λ (r : Request). MayBeAsked g.T.Trust.allows c.args.self.now.trust c.args.self.now.id (play_from lost.0.opening lost.0.seen) r) c.requires.asked lost.2 in
    let item = item_of turn.caller g.J.Asking.request c.work-result.result.0 in
    let none = at_once (KeepsHoped g.K.Keeper.holds g.K.Keeper.writes g.K.Keeper.shut g.K.Keeper.faults g.J.Trusting.first) lost.0.opening turn.history turn.pending turn.lost item c.work-result.result.1 work.after (lost_then g.K.Keeper.holds g.K.Keeper.writes g.K.Keeper.shut g.K.Keeper.faults g.J.Trusting.first g.J.Trusting.trusted lost.0 c.args.seat.now.me c.lose.new.seat.me lost.1 c.lose.ensures.lost)
    (tried g.K.Keeper.holds g.K.Keeper.writes g.K.Keeper.shut g.K.Keeper.faults g.J.Trusting.first g.J.Trusting.trusted lost.0 c.lose.new.seat.me c.work-result.new.seat.me g.J.Asking.request c.work-result.result.0 c.work-result.result.1 turn work) in
    may_end g.K.Keeper.holds g.K.Keeper.writes g.K.Keeper.shut g.K.Keeper.faults g.J.Trusting.first g.T.Trust.allows g.T.Trust.stays c.args.self.now.trust c.args.self.now.id g.J.Trusting.trusted lost.0 c.lose.new.seat.me c.work-result.new.seat.me g.J.Asking.request c.work-result.result.0 c.work-result.result.1 turn work asked none

pub returns-clause-made : goal.returns-clause-made
returns-clause-made g c = λ v lost.
    let turn = in_turn_lost g.K.Keeper.holds g.K.Keeper.writes g.K.Keeper.shut g.K.Keeper.faults g.J.Trusting.first g.J.Trusting.trusted v c.args.seat.now.me c.lose.new.seat.me lost c.lose.ensures.lost in
    let work = subst (λ (r : Request). Works (KeepsHoped g.K.Keeper.holds g.K.Keeper.writes g.K.Keeper.shut g.K.Keeper.faults g.J.Trusting.first) g.K.Keeper.shut c.lose.new.seat.me r c.work-result.result.0 c.work-result.result.1 c.work-result.new.seat.me) c.requires.asked (c.work-result.ensures.reply g.J.Trusting.first) in
    let item = item_of turn.caller g.J.Asking.request c.work-result.result.0 in
    let none = at_once (KeepsHoped g.K.Keeper.holds g.K.Keeper.writes g.K.Keeper.shut g.K.Keeper.faults g.J.Trusting.first) v.opening turn.history turn.pending turn.lost item c.work-result.result.1 work.after (lost_then g.K.Keeper.holds g.K.Keeper.writes g.K.Keeper.shut g.K.Keeper.faults g.J.Trusting.first g.J.Trusting.trusted v c.args.seat.now.me c.lose.new.seat.me lost c.lose.ensures.lost)
    (tried g.K.Keeper.holds g.K.Keeper.writes g.K.Keeper.shut g.K.Keeper.faults g.J.Trusting.first g.J.Trusting.trusted v c.lose.new.seat.me c.work-result.new.seat.me g.J.Asking.request c.work-result.result.0 c.work-result.result.1 turn work) in
    subst (λ (r : Request). HasMade g.J.Trusting.trusted (SomeShut g.K.Keeper.shut) (rested v) r c.work-result.result.0 c.end.new.seat.me) (sym c.requires.asked)
    (made_at_once g.K.Keeper.holds g.K.Keeper.writes g.K.Keeper.shut g.K.Keeper.faults g.J.Trusting.first g.J.Trusting.trusted v c.lose.new.seat.me c.work-result.new.seat.me g.J.Asking.request c.work-result.result.0 c.work-result.result.1 turn work (rested v) refl refl refl turn.saw none c.end.new.seat.me c.end.ensures.ended)

pub returns-clause-plays : goal.returns-clause-plays
returns-clause-plays g c =
    let work = c.work-result.ensures.reply g.J.Trusting.first in
    plays_here g.J.Trusting.trusted c.args.seat.now.me.0.opening c.work-result.new.seat.me c.end.new.seat.me.0.seen (ap (λ (m : M _). m.0.opening) work.has ∙ ap (λ (m : M _). m.0.opening) c.lose.ensures.lost) c.end.ensures.ended.4
