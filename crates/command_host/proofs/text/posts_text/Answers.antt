use Rattle.std.proofs.Common.{ℕ, ◌≡◌, List, ◌++◌, string_bytes, ap, ◌∙◌}
use Rattle.tea_base.specs.declared.entry.SessionId.{SessionId}
use Rattle.reflector_core.specs.SessionState.{SessionState}
use Rattle.host_posts.specs.declared.posting.PostOutcome.{PostOutcome}
use Rattle.command_posts.specs.PostsText.{posts_lines}
use Rattle.command_host.specs.HostedSteps.{session_lines}
use Rattle.command_host.proofs.text.posts_text.Goals as goal

posts_told : (posts given : List PostOutcome) (text : List ℕ) → text ≡ posts_lines given → given ≡ posts → text ≡ posts_lines posts
posts_told posts given text is same = is ∙ ap posts_lines same

sessions_told : (listed : ℕ) (ids given : List SessionId) (sessions kept : List SessionState) (text : List ℕ) → text ≡ session_lines listed 1 given kept → given ≡ ids → kept ≡ sessions → text ≡ session_lines listed 1 ids sessions
sessions_told listed ids given sessions kept text is same alike = is ∙ (ap (λ (l : List SessionId). session_lines listed 1 l kept) same ∙ ap (session_lines listed 1 ids) alike)

-- the lines of the posts were told, and then those of the sessions
all_told : (posts sessions front back all : List ℕ) → all ≡ front ++ back → front ≡ posts → back ≡ sessions → all ≡ posts ++ sessions
all_told posts sessions front back all is first second = is ∙ (ap (λ (l : List ℕ). l ++ back) first ∙ ap (λ (l : List ℕ). posts ++ l) second)

pub returns : goal.returns
returns c =
    let hosted = c.args.hosted.now in
    all_told (posts_lines hosted.posts) (session_lines c.args.listed 1 hosted.ids hosted.sessions) (string_bytes c.in_ok-text.text) _ _ c.in_ok-push_str.ensures.bytes
    (posts_told hosted.posts _ (string_bytes c.in_ok-text.text) c.in_ok-text.ensures c.as_slice.ensures)
    (c.as_str.ensures.value ∙ sessions_told c.args.listed hosted.ids _ hosted.sessions _ _ c.in_ok-session_lines.ensures c.as_slice-ids.ensures c.as_slice-sessions.ensures)
