use Rattle.std.proofs.Common.{subst, ap}
use Rattle.reflector_core.specs.declared.request.Request.{Request}
use Rattle.session_lock.specs.History.{item_of}
use Rattle.session_lock.specs.Keeping.{KeepsHoped}
use Rattle.session_lock.specs.Trusts.{IsTrusted}
use Rattle.session_lock.specs.Steps.{M, MayEnd}
use Rattle.session_lock.proofs.Turning.{next_made, next_may_end, plays_here}
use Rattle.session_lock.proofs.lock.SharedSession.wait.Goals as goal

pub reach-requires-clause-rests : goal.reach-requires-clause-rests
reach-requires-clause-rests g c =
    let idle = c.requires.waits.idle in
    record { empty = idle.empty; ticket = idle.ticket; holding = idle.holding; pending = idle.pending; lost = idle.lost; kept = idle.kept; other = idle.other; first = idle.first; others = idle.others; callers = idle.callers }

pub reach-requires-clause-hopes : goal.reach-requires-clause-hopes
reach-requires-clause-hopes g c = let w = c.requires.waits in (w.history, item_of w.idle.first c.args.request.now c.args.hoped, w.hope, w.behind)

pub end-requires-clause-may : goal.end-requires-clause-may
end-requires-clause-may g c =
    let w = c.requires.waits in
    subst (λ (r : Request). MayEnd (IsTrusted g.T.Trust.allows c.args.self.now.trust c.args.self.now.id) (KeepsHoped g.K.Keeper.holds g.K.Keeper.writes g.K.Keeper.shut g.K.Keeper.faults g.J.Trusting.first) c.reach.new.seat.me (λ caller. item_of caller r c.args.hoped)) c.requires.asked
    (next_may_end g.K.Keeper.holds g.K.Keeper.writes g.K.Keeper.shut g.K.Keeper.faults g.J.Trusting.first g.J.Trusting.trusted c.args.seat.now.me.0 c.reach.new.seat.me c.args.request.now c.args.hoped c.args.place (c.reach.ensures.next c.if-reach.true) w.history w.idle.first w.idle.others w.idle.callers w.hope
    (IsTrusted g.T.Trust.allows c.args.self.now.trust c.args.self.now.id))

pub returns-then-reach-clause-made : goal.returns-then-reach-clause-made
returns-then-reach-clause-made g c =
    let w = c.requires.waits in
    next_made g.K.Keeper.holds g.K.Keeper.writes g.K.Keeper.shut g.K.Keeper.faults g.J.Trusting.first g.J.Trusting.trusted c.args.seat.now.me.0 c.reach.new.seat.me c.args.request.now c.args.hoped c.args.place (c.reach.ensures.next c.if-reach.true) w.history w.idle.first w.idle.others w.idle.callers w.hope
    w.answers w.cause c.end.new.seat.me (rw (← c.requires.asked) at c.end.ensures.ended)

pub returns-then-reach-clause-plays : goal.returns-then-reach-clause-plays
returns-then-reach-clause-plays g c =
    plays_here g.J.Trusting.trusted c.args.seat.now.me.0.opening c.reach.new.seat.me c.end.new.seat.me.0.seen (ap (λ (m : M _). m.0.opening) (c.reach.ensures.next c.if-reach.true).turn.is) c.end.ensures.ended.4

pub again-made-requires-clause-lost : goal.again-made-requires-clause-lost
again-made-requires-clause-lost g c = (c.args.seat.now.me.0, c.reach.ensures.lost c.if-reach.false, c.requires.allowed)

pub returns-clause-made : goal.returns-clause-made
returns-clause-made g c = c.again-made.ensures.made c.args.seat.now.me.0 (c.reach.ensures.lost c.if-reach.false)

pub returns-clause-plays : goal.returns-clause-plays
returns-clause-plays g c =
    plays_here g.J.Trusting.trusted c.args.seat.now.me.0.opening c.reach.new.seat.me c.again-made.new.seat.me.0.seen (ap (λ (m : M _). m.0.opening) (c.reach.ensures.lost c.if-reach.false).turn.is) c.again-made.ensures.plays
