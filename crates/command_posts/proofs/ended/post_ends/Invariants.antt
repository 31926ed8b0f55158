use Rattle.std.proofs.Common.{◌≡◌, drop}
use Rattle.command_posts.specs.PostsEnded.{no_posts, post_ends}
use Rattle.command_posts.proofs.ended.post_ends.Given as goal

-- it depends on the posts that are left
abbrev pub invariant-loop-post : goal.invariant-loop-post
invariant-loop-post l = post_ends no_posts l.posts ≡ post_ends l.ends (drop l.post-index l.posts)
