use Rattle.std.proofs.Common.{◌∙◌, arith}
use Rattle.reflect_server.proofs.GivingBack.{counts_next, ends_next, over_next}
use Rattle.reflect_server.proofs.reflecting.give_back.Goals as goal

pub loop-link-preserved : goal.loop-link-preserved
loop-link-preserved g c =
    let held = c.loop-link.invariant in
    let all = c.loop-link.served.items in
    let rest = c.pop.new.self.items in
    let one = c.in-Some.field-0 in
    let is = c.in-Some.ensures.items in
    let back = c.back.ensures in
    let pushed = c.push_reserved.ensures in
    record {
      within = omega (arith, held.within, back.lent, c.in-Some.ensures.len);
      room = omega (arith, held.room, pushed.len, pushed.capacity, c.in-Some.ensures.len);
      ends = ends_next all rest one.link one.ended is c.loop-link.ends.items c.push_reserved.new.self.items pushed.items ∙ held.ends;
      over = over_next all rest one.link one.ended is (g.N.Net.over c.loop-link.net) (g.N.Net.over c.back.new.self) back.over ∙ held.over;
      counts =
          counts_next all rest one.link one.ended is g.N.Conn.Link.counts (g.N.Net.link_counts c.loop-link.net) (g.N.Net.link_counts c.back.new.self) back.counts
          ∙ held.counts;
      lent = omega (arith, held.lent, back.lent, c.in-Some.ensures.len);
      coming = back.coming ∙ held.coming;
      asked = back.asked ∙ held.asked;
      faults = back.faults ∙ held.faults;
    }
