use Rattle.std.proofs.Common.{◌≡◌, drop}
use Rattle.command_posts.specs.PostsEnded.{has_end, is_failed}
use Rattle.command_posts.proofs.ended.has_failed.Given as goal

-- it depends on the posts that are left
abbrev pub invariant-loop-post : goal.invariant-loop-post
invariant-loop-post l = has_end is_failed l.posts ≡ has_end is_failed (drop l.post-index l.posts)
