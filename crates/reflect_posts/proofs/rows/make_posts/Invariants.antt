use Rattle.std.proofs.Common.{◌≡◌, ◌+◌, ◌*◌, ◌≤◌, All, vec_len, vec_capacity}
use Rattle.run_steps.specs.Outside.{net_tells}
use Rattle.host_server.specs.Rows.{AtEach, HasGiven}
use Rattle.host_posts.specs.Posts.{post_numbers}
use Rattle.host_posts.specs.Shares.{IsUnused, share_tells}
use Rattle.reflect_posts.specs.Prepares.{IsBareRow}
use Rattle.reflect_posts.proofs.RowLaws.{IsMade}
use Rattle.reflect_posts.proofs.rows.make_posts.Given as goal

abbrev pub invariant-loop-row : goal.invariant-loop-row
invariant-loop-row g l = record {
  number : vec_len l.posts + vec_len l.rows ≡ vec_len l.fn.rows;
  shares : vec_len l.shares ≡ vec_len l.rows;
  room : vec_len l.fn.rows ≤ vec_capacity l.posts;
  lead : AtEach (HasGiven (vec_len l.posts * post_numbers)) l.initial.lead.seats.items l.lead.seats.items;
  claim : l.lead.claim ≡ l.initial.lead.claim;
  rows : All (IsBareRow l.initial.lead.claim) l.rows.items;
  posts : All (IsMade l.initial.lead) l.posts.items;
  unused :
      (net : g.row.N.Denot)
      → All (IsUnused (net_tells {N = g.row.N.Denot} {L = g.row.N-Conn.Denot} g.N.Net) (share_tells {S = g.row.N-Part.Denot} {L = g.row.N-Conn.Denot} g.N.Part.Share) net) l.fn.shares.items
      → All (IsUnused (net_tells {N = g.row.N.Denot} {L = g.row.N-Conn.Denot} g.N.Net) (share_tells {S = g.row.N-Part.Denot} {L = g.row.N-Conn.Denot} g.N.Part.Share) net) l.shares.items
      × All (λ post. IsUnused (net_tells {N = g.row.N.Denot} {L = g.row.N-Conn.Denot} g.N.Net) (share_tells {S = g.row.N-Part.Denot} {L = g.row.N-Conn.Denot} g.N.Part.Share) net post.share) l.posts.items;
}

abbrev pub decreases-loop-row : goal.decreases-loop-row
decreases-loop-row g l = vec_len l.rows
