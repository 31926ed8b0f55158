use Rattle.std.proofs.Common.{◌≡◌, drop}
use Rattle.host_posts.specs.Counts.{no_ends, with_posts}
use Rattle.host_posts.proofs.posting.counts_of_posts.Given as goal

-- it depends on the posts that are left
abbrev pub invariant-loop-post : goal.invariant-loop-post
invariant-loop-post l = with_posts no_ends l.posts ≡ with_posts l.counts (drop l.post-index l.posts)
