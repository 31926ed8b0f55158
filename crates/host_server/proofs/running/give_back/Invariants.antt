use Rattle.std.proofs.Common.{◌≡◌, ◌+◌, ◌≤◌, ◌++◌, vec_len, vec_capacity}
use Rattle.tea_io.specs.Told.{with_more}
use Rattle.reflect_server.specs.Rounds.{links_of, with_links}
use Rattle.host_server.specs.Prepares.{bare_all}
use Rattle.host_server.specs.Rounds.{ends_in}
use Rattle.host_server.proofs.running.give_back.Given as goal

abbrev pub invariant-loop-one : goal.invariant-loop-one
invariant-loop-one g l = record {
  within : vec_len l.served ≤ g.N.Net.lent l.net;
  room : vec_len l.ends + vec_len l.served ≤ vec_capacity l.ends;
  ends : l.ends.items ++ ends_in l.served.items ≡ l.fn.ends.items ++ ends_in l.fn.served.items;
  over : with_more (g.N.Net.over l.net) (links_of (bare_all l.served.items)) ≡ with_more (g.N.Net.over l.initial.net) (links_of (bare_all l.fn.served.items));
  counts :
      with_links g.N.Conn.Link.counts (g.N.Net.link_counts l.net) (links_of (bare_all l.served.items))
      ≡ with_links g.N.Conn.Link.counts (g.N.Net.link_counts l.initial.net) (links_of (bare_all l.fn.served.items));
  lent : g.N.Net.lent l.net + vec_len l.fn.served ≡ g.N.Net.lent l.initial.net + vec_len l.served;
  coming : g.N.Net.coming l.net ≡ g.N.Net.coming l.initial.net;
  asked : g.N.Net.asked l.net ≡ g.N.Net.asked l.initial.net;
  faults : g.N.Net.faults l.net ≡ g.N.Net.faults l.initial.net;
}

abbrev pub decreases-loop-one : goal.decreases-loop-one
decreases-loop-one g l = vec_len l.served
