use Rattle.std.proofs.Common.{◌∙◌, arith}
use Rattle.host_server.proofs.Finals.{counts_next, ends_next, over_next}
use Rattle.host_server.proofs.running.give_back.Goals as goal

pub loop-one-preserved : goal.loop-one-preserved
loop-one-preserved g c =
    let held = c.loop-one.invariant in
    let all = c.loop-one.served.items in
    let rest = c.pop.new.self.items in
    let is = c.in-Some.ensures.items in
    let back = c.back.ensures in
    let pushed = c.push_reserved.ensures in
    let within = held.within in let room = held.room in let lent = held.lent in let len = c.in-Some.ensures.len in
    let given = back.lent in let longer = pushed.len in let same = pushed.capacity in
    record {
      within = omega (arith, within, given, len);
      room = omega (arith, room, longer, same, len);
      ends = ends_next all rest c.in-Some.one is c.loop-one.ends.items c.push_reserved.new.self.items pushed.items ∙ held.ends;
      over = over_next all rest c.in-Some.one is (g.N.Net.over c.loop-one.net) (g.N.Net.over c.back.new.self) back.over ∙ held.over;
      counts =
          counts_next all rest c.in-Some.one is g.N.Conn.Link.counts (g.N.Net.link_counts c.loop-one.net) (g.N.Net.link_counts c.back.new.self) back.counts
          ∙ held.counts;
      lent = omega (arith, lent, given, len);
      coming = back.coming ∙ held.coming;
      asked = back.asked ∙ held.asked;
      faults = back.faults ∙ held.faults;
    }
