use Rattle.std.proofs.Common.{refl}
use Rattle.session_lock.proofs.Histories.{saw_all}
use Rattle.session_lock.proofs.Turning.{can_settle, goes_on, goes_round, later_lost, later_next, lost_in_turn, next_in_turn, rests_on}
use Rattle.session_lock.proofs.lock.SharedSession.reach.Goals as goal

pub loop-init : goal.loop-init
loop-init g c = record { table = refl; rests = c.requires.rests; hopes = c.requires.hopes; same = refl; saw = saw_all c.args.seat.now.me.0.callers c.args.seat.now.me.0.seen }

pub settle-requires-clause-hand : goal.settle-requires-clause-hand
settle-requires-clause-hand g c = can_settle g.K.Keeper.holds g.K.Keeper.writes g.K.Keeper.shut g.K.Keeper.faults g.J.Trusting.first g.J.Trusting.trusted c.loop.seat.me.0 c.enter.new.seat.me c.enter.ensures.turn

pub release-requires-clause-may : goal.release-requires-clause-may
release-requires-clause-may g c =
    (goes_on g.K.Keeper.holds g.K.Keeper.writes g.K.Keeper.shut g.K.Keeper.faults g.J.Trusting.first g.J.Trusting.trusted c.loop.seat.me.0 c.enter.new.seat.me c.settle.new.seat.me c.args.place c.settle.result c.enter.ensures.turn (c.settle.ensures.how g.J.Trusting.first) c.in-GoesOn.is).0

pub returns-in-Ended-clause-next : goal.returns-in-Ended-clause-next
returns-in-Ended-clause-next g c = λ _.
    later_next g.K.Keeper.holds g.K.Keeper.writes g.K.Keeper.shut g.K.Keeper.faults g.J.Trusting.first g.J.Trusting.trusted c.args.seat.now.me.0 c.loop.seat.me.0 c.settle.new.seat.me c.loop.invariant.same c.loop.invariant.saw
    (next_in_turn g.K.Keeper.holds g.K.Keeper.writes g.K.Keeper.shut g.K.Keeper.faults g.J.Trusting.first g.J.Trusting.trusted c.loop.seat.me.0 c.enter.new.seat.me c.settle.new.seat.me c.args.place c.settle.result c.enter.ensures.turn (c.settle.ensures.how g.J.Trusting.first) c.in-Ended.is c.loop.invariant.hopes)

pub returns-in-Lost-clause-lost : goal.returns-in-Lost-clause-lost
returns-in-Lost-clause-lost g c = λ _.
    later_lost g.K.Keeper.holds g.K.Keeper.writes g.K.Keeper.shut g.K.Keeper.faults g.J.Trusting.first g.J.Trusting.trusted c.args.seat.now.me.0 c.loop.seat.me.0 c.settle.new.seat.me c.loop.invariant.same c.loop.invariant.saw
    (lost_in_turn g.K.Keeper.holds g.K.Keeper.writes g.K.Keeper.shut g.K.Keeper.faults g.J.Trusting.first g.J.Trusting.trusted c.loop.seat.me.0 c.enter.new.seat.me c.settle.new.seat.me c.args.place c.settle.result c.enter.ensures.turn (c.settle.ensures.how g.J.Trusting.first) c.in-Lost.is)

pub loop-preserved : goal.loop-preserved
loop-preserved g c =
    let rests = c.loop.invariant.rests in
    let v = c.loop.seat.me.0 in
    let turn = c.enter.ensures.turn in
    let now = rests_on g.K.Keeper.holds g.K.Keeper.writes g.K.Keeper.shut g.K.Keeper.faults g.J.Trusting.first g.J.Trusting.trusted v c.enter.new.seat.me c.settle.new.seat.me c.release.new.seat.me c.args.place c.settle.result turn (c.settle.ensures.how g.J.Trusting.first) c.in-GoesOn.is c.release.ensures.released
    rests.ticket rests.holding rests.pending rests.lost in
    let on = goes_round g.K.Keeper.holds g.K.Keeper.writes g.K.Keeper.shut g.K.Keeper.faults g.J.Trusting.first c.args.seat.now.me.0 v turn.history c.loop.seat.me c.release.new.seat.me c.args.place rests refl c.loop.invariant.same c.loop.invariant.saw turn.saw c.loop.invariant.hopes now in
    record { table = cc (c.release.ensures.table, c.requires.table); rests = on.0; hopes = on.1; same = on.2; saw = on.3 }
