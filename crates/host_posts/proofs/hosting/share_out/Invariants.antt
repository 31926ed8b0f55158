use Rattle.std.proofs.Common.{◌≡◌, ◌+◌, ◌≤◌, All, vec_len, vec_capacity}
use Rattle.run_steps.specs.Outside.{net_tells}
use Rattle.reflector_core.specs.declared.keeper.NoKeeper.{NoKeeper}
use Rattle.host_server.specs.declared.rooms.Row.{Row}
use Rattle.host_posts.specs.Counts.{no_ends}
use Rattle.host_posts.specs.Hosts.{HasGivenNone}
use Rattle.host_posts.specs.Passes.{IsPostRow}
use Rattle.host_posts.specs.Shares.{IsUnused, share_tells}
use Rattle.host_posts.proofs.hosting.share_out.Given as goal

abbrev pub invariant-loop-row : goal.invariant-loop-row
invariant-loop-row g l = record {
  number : vec_len l.posts + vec_len l.rows ≡ vec_len l.fn.rows;
  room : vec_len l.fn.rows ≤ vec_capacity l.posts;
  shared : g.N.SharedNet.shared l.net ≡ g.N.SharedNet.shared l.initial.net + vec_len l.posts;
  none : HasGivenNone (net_tells {N = g.row.N.Denot} {L = g.row.N-Conn.Denot} g.N.Net) l.initial.net l.net;
  asked : g.N.Net.asked l.net ≡ g.N.Net.asked l.initial.net;
  unused : All (λ post. IsUnused (net_tells {N = g.row.N.Denot} {L = g.row.N-Conn.Denot} g.N.Net) (share_tells g.N.Part.Share) l.initial.net post.share × (post.counts ≡ no_ends)) l.posts.items;
  rows : (lead : Row NoKeeper) → All (IsPostRow lead) l.fn.rows.items → All (IsPostRow lead) l.rows.items × All (λ post. IsPostRow lead post.row) l.posts.items;
}

abbrev pub decreases-loop-row : goal.decreases-loop-row
decreases-loop-row g l = vec_len l.rows
