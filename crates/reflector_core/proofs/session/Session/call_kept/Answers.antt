use Rattle.reflector_core.proofs.KeepingLaws.{stays}
use Rattle.reflector_core.proofs.session.Session.call_kept.Goals as goal
use Rattle.reflector_core.proofs.session.Session.call_kept.Goals.{in-Join, in-Send, in-Tick, in-Leave, in-Offer, in-Pull}

pub returns-clause-pace : goal.returns-clause-pace
returns-clause-pace g c = elim c.match-request.branch [
  | in-Join w ↦ rw (w.self-is, w.keeper-is) w.join-reply.ensures.pace
  | in-Send w ↦ rw (w.self-is, w.keeper-is) w.send-reply.ensures.pace
  | in-Tick w ↦ rw (w.self-is, w.keeper-is) w.tick-reply.ensures.pace
  | in-Leave w ↦ rw (w.self-is, w.keeper-is) w.leave-reply.ensures.pace
  | in-Offer w ↦ rw (w.self-is, w.keeper-is) w.offer-reply.ensures.pace
  | in-Pull w ↦ rw (w.self-is, w.keeper-is) (stays g.K.Keeper.holds g.K.Keeper.writes g.K.Keeper.settled g.K.Keeper.shut g.K.Keeper.faults c.args.keeper.now c.args.self.now.plain)
]
