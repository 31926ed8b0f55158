use Rattle.std.proofs.Common.{sym, subst, ap, refl}
use Rattle.reflector_core.specs.declared.request.Request.{Request}
use Rattle.session_lock.specs.History.{play_from}
use Rattle.session_lock.specs.Keeping.{KeepsHoped, SomeShut}
use Rattle.session_lock.specs.Trusts.{MayBeAsked}
use Rattle.session_lock.specs.Steps.{M, HasMade, IsWaiting, Works, rested}
use Rattle.session_lock.proofs.Turning.{after_is, counts_in_hand, made_at_once, made_since, may_end, may_put_off, may_wait, plays_here, waits_now}
use Rattle.session_lock.proofs.lock.SharedSession.make.Goals as goal

pub enter-requires-clause-rests : goal.enter-requires-clause-rests
enter-requires-clause-rests g c =
    let idle = c.requires.idle in
    record { empty = idle.empty; ticket = idle.ticket; holding = idle.holding; pending = idle.pending; lost = idle.lost; kept = idle.kept; other = idle.other; first = idle.first; others = idle.others; callers = idle.callers }

pub work-result-requires-clause-hand : goal.work-result-requires-clause-hand
work-result-requires-clause-hand g c = counts_in_hand g.K.Keeper.holds g.K.Keeper.writes g.K.Keeper.shut g.K.Keeper.faults g.J.Trusting.first g.J.Trusting.trusted c.args.seat.now.me.0 c.enter.new.seat.me c.enter.ensures.turn

pub end-requires-clause-may : goal.end-requires-clause-may
end-requires-clause-may g c =
    let work = subst (λ (r : Request). Works (KeepsHoped g.K.Keeper.holds g.K.Keeper.writes g.K.Keeper.shut g.K.Keeper.faults g.J.Trusting.first) g.K.Keeper.shut c.enter.new.seat.me r c.work-result.result.0 c.work-result.result.1 c.work-result.new.seat.me) c.requires.asked (c.work-result.ensures.reply g.J.Trusting.first) in
    let asked = subst (λ (r : Request). MayBeAsked g.T.Trust.allows c.args.self.now.trust c.args.self.now.id (play_from c.args.seat.now.me.0.opening c.args.seat.now.me.0.seen) r) c.requires.asked c.requires.allowed in
    may_end g.K.Keeper.holds g.K.Keeper.writes g.K.Keeper.shut g.K.Keeper.faults g.J.Trusting.first g.T.Trust.allows g.T.Trust.stays c.args.self.now.trust c.args.self.now.id g.J.Trusting.trusted c.args.seat.now.me.0 c.enter.new.seat.me c.work-result.new.seat.me g.J.Asking.request c.work-result.result.0 c.work-result.result.1 c.enter.ensures.turn work asked c.in-None.is

pub returns-in-None-clause-made : goal.returns-in-None-clause-made
returns-in-None-clause-made g c =
    let work = subst (λ (r : Request). Works (KeepsHoped g.K.Keeper.holds g.K.Keeper.writes g.K.Keeper.shut g.K.Keeper.faults g.J.Trusting.first) g.K.Keeper.shut c.enter.new.seat.me r c.work-result.result.0 c.work-result.result.1 c.work-result.new.seat.me) c.requires.asked (c.work-result.ensures.reply g.J.Trusting.first) in
    let v = c.args.seat.now.me.0 in
    subst (λ (r : Request). HasMade g.J.Trusting.trusted (SomeShut g.K.Keeper.shut) v r c.work-result.result.0 c.end.new.seat.me) (sym c.requires.asked)
    (made_at_once g.K.Keeper.holds g.K.Keeper.writes g.K.Keeper.shut g.K.Keeper.faults g.J.Trusting.first g.J.Trusting.trusted c.args.seat.now.me.0 c.enter.new.seat.me c.work-result.new.seat.me g.J.Asking.request c.work-result.result.0 c.work-result.result.1 c.enter.ensures.turn work v refl refl refl c.enter.ensures.turn.saw c.in-None.is c.end.new.seat.me c.end.ensures.ended)

pub put_off-requires-clause-may : goal.put_off-requires-clause-may
put_off-requires-clause-may g c =
    let work = subst (λ (r : Request). Works (KeepsHoped g.K.Keeper.holds g.K.Keeper.writes g.K.Keeper.shut g.K.Keeper.faults g.J.Trusting.first) g.K.Keeper.shut c.enter.new.seat.me r c.work-result.result.0 c.work-result.result.1 c.work-result.new.seat.me) c.requires.asked (c.work-result.ensures.reply g.J.Trusting.first) in
    let asked = subst (λ (r : Request). MayBeAsked g.T.Trust.allows c.args.self.now.trust c.args.self.now.id (play_from c.args.seat.now.me.0.opening c.args.seat.now.me.0.seen) r) c.requires.asked c.requires.allowed in
    may_put_off g.K.Keeper.holds g.K.Keeper.writes g.K.Keeper.shut g.K.Keeper.faults g.J.Trusting.first g.T.Trust.allows g.T.Trust.stays c.args.self.now.trust c.args.self.now.id g.J.Trusting.trusted c.args.seat.now.me.0 c.enter.new.seat.me c.work-result.new.seat.me g.J.Asking.request c.work-result.result.0 c.work-result.result.1 c.enter.ensures.turn work asked c.in-Some.place c.in-Some.is c.requires.idle.hopes

pub wait-requires-clause-waits : goal.wait-requires-clause-waits
wait-requires-clause-waits g c =
    let work = subst (λ (r : Request). Works (KeepsHoped g.K.Keeper.holds g.K.Keeper.writes g.K.Keeper.shut g.K.Keeper.faults g.J.Trusting.first) g.K.Keeper.shut c.enter.new.seat.me r c.work-result.result.0 c.work-result.result.1 c.work-result.new.seat.me) c.requires.asked (c.work-result.ensures.reply g.J.Trusting.first) in
    subst (λ (r : Request). IsWaiting g.K.Keeper.shut c.put_off.new.seat.me r c.work-result.result.0 c.in-Some.place) (sym c.requires.asked)
    (waits_now g.K.Keeper.holds g.K.Keeper.writes g.K.Keeper.shut g.K.Keeper.faults g.J.Trusting.first g.J.Trusting.trusted c.args.seat.now.me.0 c.enter.new.seat.me c.work-result.new.seat.me g.J.Asking.request c.work-result.result.0 c.work-result.result.1 c.enter.ensures.turn work c.in-Some.place c.in-Some.is c.put_off.new.seat.me c.put_off.ensures.put).0

pub wait-requires-clause-allowed : goal.wait-requires-clause-allowed
wait-requires-clause-allowed g c =
    let work = subst (λ (r : Request). Works (KeepsHoped g.K.Keeper.holds g.K.Keeper.writes g.K.Keeper.shut g.K.Keeper.faults g.J.Trusting.first) g.K.Keeper.shut c.enter.new.seat.me r c.work-result.result.0 c.work-result.result.1 c.work-result.new.seat.me) c.requires.asked (c.work-result.ensures.reply g.J.Trusting.first) in
    let asked = subst (λ (r : Request). MayBeAsked g.T.Trust.allows c.args.self.now.trust c.args.self.now.id (play_from c.args.seat.now.me.0.opening c.args.seat.now.me.0.seen) r) c.requires.asked c.requires.allowed in
    let waits = (waits_now g.K.Keeper.holds g.K.Keeper.writes g.K.Keeper.shut g.K.Keeper.faults g.J.Trusting.first g.J.Trusting.trusted c.args.seat.now.me.0 c.enter.new.seat.me c.work-result.new.seat.me g.J.Asking.request c.work-result.result.0 c.work-result.result.1 c.enter.ensures.turn work c.in-Some.place c.in-Some.is c.put_off.new.seat.me c.put_off.ensures.put).1 in
    subst (λ (r : Request). MayBeAsked g.T.Trust.allows c.args.self.now.trust c.args.self.now.id (play_from c.put_off.new.seat.me.0.opening c.put_off.new.seat.me.0.seen) r) (sym c.requires.asked)
    (may_wait g.K.Keeper.holds g.K.Keeper.writes g.K.Keeper.shut g.K.Keeper.faults g.J.Trusting.first g.T.Trust.allows g.T.Trust.stays c.args.self.now.trust c.args.self.now.id g.J.Trusting.trusted c.args.seat.now.me.0 c.enter.new.seat.me c.work-result.new.seat.me g.J.Asking.request c.work-result.result.0 c.work-result.result.1 c.enter.ensures.turn work asked c.put_off.new.seat.me waits)

pub returns-in-None-clause-plays : goal.returns-in-None-clause-plays
returns-in-None-clause-plays g c =
    let work = subst (λ (r : Request). Works (KeepsHoped g.K.Keeper.holds g.K.Keeper.writes g.K.Keeper.shut g.K.Keeper.faults g.J.Trusting.first) g.K.Keeper.shut c.enter.new.seat.me r c.work-result.result.0 c.work-result.result.1 c.work-result.new.seat.me) c.requires.asked (c.work-result.ensures.reply g.J.Trusting.first) in
    plays_here g.J.Trusting.trusted c.args.seat.now.me.0.opening c.work-result.new.seat.me c.end.new.seat.me.0.seen (ap (λ (m : M _). m.0.opening) (after_is g.K.Keeper.holds g.K.Keeper.writes g.K.Keeper.shut g.K.Keeper.faults g.J.Trusting.first g.J.Trusting.trusted c.args.seat.now.me.0 c.enter.new.seat.me c.work-result.new.seat.me g.J.Asking.request c.work-result.result.0 c.work-result.result.1 c.enter.ensures.turn work)) c.end.ensures.ended.4

pub returns-in-Some-clause-made : goal.returns-in-Some-clause-made
returns-in-Some-clause-made g c =
    let work = subst (λ (r : Request). Works (KeepsHoped g.K.Keeper.holds g.K.Keeper.writes g.K.Keeper.shut g.K.Keeper.faults g.J.Trusting.first) g.K.Keeper.shut c.enter.new.seat.me r c.work-result.result.0 c.work-result.result.1 c.work-result.new.seat.me) c.requires.asked (c.work-result.ensures.reply g.J.Trusting.first) in
    let waits = (waits_now g.K.Keeper.holds g.K.Keeper.writes g.K.Keeper.shut g.K.Keeper.faults g.J.Trusting.first g.J.Trusting.trusted c.args.seat.now.me.0 c.enter.new.seat.me c.work-result.new.seat.me g.J.Asking.request c.work-result.result.0 c.work-result.result.1 c.enter.ensures.turn work c.in-Some.place c.in-Some.is c.put_off.new.seat.me c.put_off.ensures.put).1 in
    made_since g.J.Trusting.trusted (SomeShut g.K.Keeper.shut) c.args.seat.now.me.0 c.enter.ensures.turn.history c.args.request.now c.wait.result c.wait.new.seat.me c.enter.ensures.turn.saw
    (subst (λ (m : M _). HasMade g.J.Trusting.trusted (SomeShut g.K.Keeper.shut) (rested m.0) c.args.request.now c.wait.result c.wait.new.seat.me) waits c.wait.ensures.made)

pub returns-in-Some-clause-plays : goal.returns-in-Some-clause-plays
returns-in-Some-clause-plays g c =
    let work = subst (λ (r : Request). Works (KeepsHoped g.K.Keeper.holds g.K.Keeper.writes g.K.Keeper.shut g.K.Keeper.faults g.J.Trusting.first) g.K.Keeper.shut c.enter.new.seat.me r c.work-result.result.0 c.work-result.result.1 c.work-result.new.seat.me) c.requires.asked (c.work-result.ensures.reply g.J.Trusting.first) in
    let waits = (waits_now g.K.Keeper.holds g.K.Keeper.writes g.K.Keeper.shut g.K.Keeper.faults g.J.Trusting.first g.J.Trusting.trusted c.args.seat.now.me.0 c.enter.new.seat.me c.work-result.new.seat.me g.J.Asking.request c.work-result.result.0 c.work-result.result.1 c.enter.ensures.turn work c.in-Some.place c.in-Some.is c.put_off.new.seat.me c.put_off.ensures.put).1 in
    plays_here g.J.Trusting.trusted c.args.seat.now.me.0.opening c.put_off.new.seat.me c.wait.new.seat.me.0.seen (ap (λ (m : M _). m.0.opening) waits) c.wait.ensures.plays
