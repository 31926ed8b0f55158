use Rattle.std.proofs.Common.{◌∙◌, arith}
use Rattle.host_server.proofs.Openings.{new_more, new_room}
use Rattle.host_server.proofs.running.open_all.Goals as goal

pub loop-made-preserved : goal.loop-made-preserved
loop-made-preserved c =
    let held = c.loop-made.invariant in
    let rooms = c.push_reserved.ensures in
    let leads = c.push_reserved-in-loop-made.ensures in
    let count = held.count in let more = rooms.len in
    let as_many = held.as_many in let longer = leads.len in
    let room_for_rooms = held.room_for_rooms in let same = rooms.capacity in
    let room_for_leads = held.room_for_leads in let still = leads.capacity in
    record {
      passes = new_more c.loop-made.rooms.items c.push_reserved.new.self.items c.loop-made.leads.items c.push_reserved-in-loop-made.new.self.items _ _ held.passes
          (new_room _ _ c.new-session.result.plain (c.new-in-loop-made.ensures ∙ c.in-Ok.ensures.pass) c.new-session.ensures) rooms.items leads.items;
      count = omega (arith, count, more);
      as_many = omega (arith, as_many, longer);
      room_for_rooms = omega (arith, room_for_rooms, same);
      room_for_leads = omega (arith, room_for_leads, still);
    }
