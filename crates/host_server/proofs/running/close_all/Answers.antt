use Rattle.std.proofs.Common.{arith}
use Rattle.host_server.proofs.ClosingLaws.{closed_more, last_whole}
use Rattle.host_server.proofs.running.close_all.Goals as goal

pub close-requires-clause-session : goal.close-requires-clause-session
close-requires-clause-session c =
    (last_whole c.loop-room.rooms.items c.pop.new.self.items c.loop-room.leads.items c.pop-in-Some.new.self.items c.args.leads.items c.loop-room.sessions.items c.in-Some.room c.in-Some-pop.lead
    c.in-Some.ensures.items c.in-Some-pop.ensures.items c.loop-room.invariant.0).0

pub close-requires-clause-whole : goal.close-requires-clause-whole
close-requires-clause-whole c =
    (last_whole c.loop-room.rooms.items c.pop.new.self.items c.loop-room.leads.items c.pop-in-Some.new.self.items c.args.leads.items c.loop-room.sessions.items c.in-Some.room c.in-Some-pop.lead
    c.in-Some.ensures.items c.in-Some-pop.ensures.items c.loop-room.invariant.0).1

pub loop-room-preserved : goal.loop-room-preserved
loop-room-preserved c =
    let within = c.loop-room.invariant.1 in
    let longer = c.push_reserved.ensures.len in
    let same = c.push_reserved.ensures.capacity in
    let one = c.in-Some.ensures.len in (
      closed_more c.loop-room.rooms.items c.pop.new.self.items c.loop-room.leads.items c.pop-in-Some.new.self.items c.args.leads.items c.loop-room.sessions.items c.push_reserved.new.self.items c.in-Some.room c.in-Some-pop.lead
          c.close.result c.in-Some.ensures.items c.in-Some-pop.ensures.items c.push_reserved.ensures.items c.close.ensures c.loop-room.invariant.0,
      omega (arith, within, longer, same, one),
    )
