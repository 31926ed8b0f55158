use Rattle.std.proofs.Common.{ℕ, ◌≡◌, List, ◌++◌, string_bytes, ap, ◌∙◌}
use Rattle.reflector_core.specs.PlainSession.{PlainSession}
use Rattle.host_posts.specs.declared.posting.PostOutcome.{PostOutcome}
use Rattle.command_posts.specs.PostsText.{posts_lines}
use Rattle.command_reflect.specs.ReflectedSteps.{session_line}
use Rattle.command_reflect.proofs.text.reflected_on_text.Goals as goal

-- the lines of the posts were told, and then that of the session
all_told : (posts : List PostOutcome) (session : PlainSession) (front back all : List ℕ) → all ≡ front ++ back → front ≡ posts_lines posts → back ≡ session_line session → all ≡ posts_lines posts ++ session_line session
all_told posts session front back all is first second = is ∙ (ap (λ (l : List ℕ). l ++ back) first ∙ ap (λ (l : List ℕ). posts_lines posts ++ l) second)

pub returns : goal.returns
returns c =
    all_told c.args.posts.now c.args.session.now.plain (string_bytes c.in_ok-text.text) _ _ c.in_ok-push_str.ensures.bytes c.in_ok-text.ensures (c.as_str.ensures.value ∙ c.in_ok-line.ensures)
