use Rattle.std.proofs.Common.{◌≡◌, ◌+◌, ◌≤◌, All, vec_len, vec_capacity}
use Rattle.run_steps.specs.Outside.{net_tells}
use Rattle.host_posts.specs.Hosts.{HasGivenNone}
use Rattle.host_posts.specs.Shares.{IsUnused, share_tells}
use Rattle.reflect_posts.proofs.sharing.take_shares.Given as goal

abbrev pub invariant-loop-taken : goal.invariant-loop-taken
invariant-loop-taken g l = record {
  number : vec_len l.shares ≡ l._taken;
  room : l.fn.count ≤ vec_capacity l.shares;
  shared : g.N.SharedNet.shared l.net ≡ g.N.SharedNet.shared l.initial.net + l._taken;
  none : HasGivenNone (net_tells {N = g.row.N.Denot} {L = g.row.N-Conn.Denot} g.N.Net) l.initial.net l.net;
  asked : g.N.Net.asked l.net ≡ g.N.Net.asked l.initial.net;
  unused : All (IsUnused (net_tells {N = g.row.N.Denot} {L = g.row.N-Conn.Denot} g.N.Net) (share_tells {S = g.row.N-Part.Denot} {L = g.row.N-Conn.Denot} g.N.Part.Share) l.initial.net) l.shares.items;
}
