use Rattle.std.proofs.Common.{◌≡◌, ◌+◌, ◌-◌, ◌≤◌, All, replicate, vec_len}
use Rattle.run_steps.specs.Outside.{links_tell, net_tells}
use Rattle.host_posts.specs.Hosts.{idle_post}
use Rattle.host_posts.specs.Shares.{HasShares, IsUnused, share_tells}
use Rattle.host_posts.proofs.hosting.take_back.Given as goal

abbrev pub invariant-loop-post : goal.invariant-loop-post
invariant-loop-post g l = record {
  within : vec_len l.posts ≤ vec_len l.fn.posts;
  shared : g.N.SharedNet.shared l.net + vec_len l.fn.posts ≡ g.N.SharedNet.shared l.initial.net + vec_len l.posts;
  unused : All (λ post. IsUnused (net_tells {N = g.row.N.Denot} {L = g.row.N-Conn.Denot} g.N.Net) (share_tells g.N.Part.Share) l.initial.net post.share) l.posts.items;
  back : HasShares (net_tells {N = g.row.N.Denot} {L = g.row.N-Conn.Denot} g.N.Net) (links_tell {L = g.row.N-Conn.Denot} g.N.Conn.Link) l.initial.net l.net (replicate (vec_len l.fn.posts - vec_len l.posts) idle_post);
}

abbrev pub decreases-loop-post : goal.decreases-loop-post
decreases-loop-post g l = vec_len l.posts
