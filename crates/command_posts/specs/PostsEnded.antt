-- How posts have ended, all together.
use Rattle.std.specs.Prelude.{Bool, true, false, ◌||◌, if◌then◌else◌, List, [], ◌∷◌, Option, Some, None}
use Rattle.tea_io.specs.Told.{count_up}
use Rattle.tea_io.specs.declared.net.NetFault.{NetFault}
use Rattle.tea_io.specs.declared.net.NetFault.TheVariants as net_fault
use Rattle.host_posts.specs.declared.posting.PostEnd.{PostEnd}
use Rattle.host_posts.specs.declared.posting.PostEnd.TheVariants as post_end
use Rattle.host_posts.specs.declared.posting.PostOutcome.{PostOutcome}
use Rattle.command_posts.specs.declared.ended.PostEnds.{PostEnds}

abbrev pub is_failed : PostEnd → Bool
is_failed post_end.Failed = true
is_failed end = false

abbrev pub is_want : PostEnd → Bool
is_want post_end.WantOfMemory = true
is_want end = false

-- one of them has ended so
abbrev pub has_end : (PostEnd → Bool) → List PostOutcome → Bool
has_end so [] = false
has_end so (post ∷ posts) = so post.end || has_end so posts

-- the fault of posts: that a call of the net failed, if it is so of one; else that memory was wanted, if it is so of one
abbrev pub posts_fault : List PostOutcome → Option NetFault
posts_fault posts =
    if has_end is_failed posts then Some net_fault.Failed
    else if has_end is_want posts then Some net_fault.WantOfMemory
    else None

-- no post has ended
abbrev pub no_posts : PostEnds
no_posts = record { stopped = 0; failed = 0; want_of_memory = 0; spent = 0 }

-- one more has ended so
abbrev pub with_post : PostEnds → PostEnd → PostEnds
with_post ends post_end.Stopped = record ends { stopped = count_up ends.stopped }
with_post ends post_end.Failed = record ends { failed = count_up ends.failed }
with_post ends post_end.WantOfMemory = record ends { want_of_memory = count_up ends.want_of_memory }
with_post ends post_end.Spent = record ends { spent = count_up ends.spent }

-- and so of all these
abbrev pub post_ends : PostEnds → List PostOutcome → PostEnds
post_ends ends [] = ends
post_ends ends (post ∷ posts) = post_ends (with_post ends post.end) posts
