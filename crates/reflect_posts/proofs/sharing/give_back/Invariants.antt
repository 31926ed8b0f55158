use Rattle.std.proofs.Common.{◌≡◌, ◌+◌, ◌-◌, ◌≤◌, All, replicate, vec_len}
use Rattle.run_steps.specs.Outside.{links_tell, net_tells}
use Rattle.host_posts.specs.Hosts.{idle_post}
use Rattle.host_posts.specs.Shares.{HasShares, IsUnused, share_tells}
use Rattle.reflect_posts.proofs.sharing.give_back.Given as goal

abbrev pub invariant-loop-share : goal.invariant-loop-share
invariant-loop-share g l = record {
  within : vec_len l.shares ≤ vec_len l.initial.shares;
  shared : g.N.SharedNet.shared l.net + vec_len l.initial.shares ≡ g.N.SharedNet.shared l.initial.net + vec_len l.shares;
  unused : All (IsUnused (net_tells {N = g.row.N.Denot} {L = g.row.N-Conn.Denot} g.N.Net) (share_tells {S = g.row.N-Part.Denot} {L = g.row.N-Conn.Denot} g.N.Part.Share) l.initial.net) l.shares.items;
  back : HasShares (net_tells {N = g.row.N.Denot} {L = g.row.N-Conn.Denot} g.N.Net) (links_tell {L = g.row.N-Conn.Denot} g.N.Conn.Link) l.initial.net l.net (replicate (vec_len l.initial.shares - vec_len l.shares) idle_post);
}

abbrev pub decreases-loop-share : goal.decreases-loop-share
decreases-loop-share g l = vec_len l.shares
