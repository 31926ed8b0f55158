-- What is printed of posts.
use Rattle.std.specs.Prelude.{ℕ, List, [], ◌∷◌, ◌++◌, length, codes}
use Rattle.text_lines.specs.Lines.{spell_numbers}
use Rattle.host_posts.specs.Counts.{no_ends, with_posts}
use Rattle.host_posts.specs.declared.counting.EndCounts.{EndCounts}
use Rattle.host_posts.specs.declared.posting.PostOutcome.{PostOutcome}
use Rattle.command_posts.specs.PostsEnded.{no_posts, post_ends}
use Rattle.command_posts.specs.declared.ended.PostEnds.{PostEnds}

-- how many links have ended by their client, or by themselves
abbrev pub own_ends : EndCounts → List ℕ
own_ends counts = spell_numbers (codes " left") (counts.left ∷ []) ++ spell_numbers (codes " link-end") (counts.link_end ∷ [])
    ++ spell_numbers (codes " link-fault") (counts.link_fault ∷ [])

-- how many were ended by a rule
abbrev pub rule_ends : EndCounts → List ℕ
rule_ends counts = spell_numbers (codes " idle") (counts.idle ∷ []) ++ spell_numbers (codes " stale") (counts.stale ∷ [])
    ++ spell_numbers (codes " refused") (counts.refused ∷ [])

-- how many could not be served on, and how many have given no frame, which have ended in one of these ways too
abbrev pub other_ends : EndCounts → List ℕ
other_ends counts = spell_numbers (codes " memory") (counts.want_of_memory ∷ [])
    ++ spell_numbers (codes " unkept") (counts.unkept ∷ []) ++ spell_numbers (codes " silent") (counts.silent ∷ [])

-- the line of the links: in which ways they have ended
abbrev pub links_line : EndCounts → List ℕ
links_line counts = codes "links" ++ own_ends counts ++ rule_ends counts ++ other_ends counts ++ codes "\n"

-- the line of the posts: how many there were, and in which ways they have ended
abbrev pub posts_line : ℕ → PostEnds → List ℕ
posts_line count ends = spell_numbers (codes "posts") (count ∷ []) ++ spell_numbers (codes " stopped") (ends.stopped ∷ [])
    ++ spell_numbers (codes " failed") (ends.failed ∷ []) ++ spell_numbers (codes " memory") (ends.want_of_memory ∷ [])
    ++ spell_numbers (codes " spent") (ends.spent ∷ []) ++ codes "\n"

-- the line of the links of all posts, and that of the posts
abbrev pub posts_lines : List PostOutcome → List ℕ
posts_lines posts = links_line (with_posts no_ends posts) ++ posts_line (length posts) (post_ends no_posts posts)
