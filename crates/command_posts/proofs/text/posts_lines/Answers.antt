use Rattle.std.proofs.Common.{ℕ, ◌≡◌, List, ◌++◌, length, string_bytes, ap, ◌∙◌}
use Rattle.host_posts.specs.Counts.{no_ends, with_posts}
use Rattle.host_posts.specs.declared.counting.EndCounts.{EndCounts}
use Rattle.command_posts.specs.PostsEnded.{no_posts, post_ends}
use Rattle.command_posts.specs.PostsText.{links_line, posts_line}
use Rattle.command_posts.specs.declared.ended.PostEnds.{PostEnds}
use Rattle.command_posts.proofs.text.posts_lines.Goals as goal

-- both lines were told
lines_told : (counts counted : EndCounts) (ends ended : PostEnds) (number : ℕ) (front back all : List ℕ) → all ≡ front ++ back → front ≡ links_line counted → counted ≡ counts → back ≡ posts_line number ended → ended ≡ ends
    → all ≡ links_line counts ++ posts_line number ends
lines_told counts counted ends ended number front back all is first same second alike =
    is ∙ (ap (λ (l : List ℕ). l ++ back) (first ∙ ap links_line same) ∙ ap (λ (l : List ℕ). links_line counts ++ l) (second ∙ ap (posts_line number) alike))

pub returns : goal.returns
returns c =
    let posts = c.args.posts.now in
    lines_told (with_posts no_ends posts) c.counts_of_posts.result (post_ends no_posts posts) c.post_ends-ends.result (length posts) (string_bytes c.in_ok-text.text) _ _ c.in_ok-push_str.ensures.bytes
    c.in_ok-text.ensures c.counts_of_posts.ensures (c.as_str.ensures.value ∙ c.in_ok-posts_line.ensures) c.post_ends-ends.ensures
