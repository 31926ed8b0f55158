use Rattle.std.proofs.Common.{◌≡◌, ◌+◌, ◌++◌, ℕ, ◌≤◌, List, [], ◌∷◌, length, drop, string_bytes, refl, sym, ap, ◌∙◌}
use Rattle.std.proofs.lemmas.List.{append-nil, drop_all}
use Rattle.tea_base.specs.declared.entry.SessionId.{SessionId}
use Rattle.reflector_core.specs.SessionState.{SessionState}
use Rattle.command_host.specs.HostedSteps.{session_lines}
use Rattle.command_host.proofs.text.session_lines.Goals as goal

no_lines : (listed number : ℕ) (ids : List SessionId) → session_lines listed number ids [] ≡ []
no_lines listed number [] = refl
no_lines listed number (id ∷ ids) = refl

-- no session is left
lines_done : (listed k : ℕ) (ids : List SessionId) (sessions : List SessionState) (text all : List ℕ) → length sessions ≤ k
    → text ++ session_lines listed (k + 1) (drop k ids) (drop k sessions) ≡ all → text ≡ all
lines_done listed k ids sessions text all long invariant =
    sym (append-nil text) ∙ ap (λ left. text ++ left) (sym (ap (session_lines listed (k + 1) (drop k ids)) (drop_all k sessions long) ∙ no_lines listed (k + 1) (drop k ids))) ∙ invariant

pub returns : goal.returns
returns c =
    lines_done c.args.listed c.loop-place.place c.args.ids.now c.args.sessions.now (string_bytes c.loop-place.text) _ c.loop-place-test.false c.loop-place.invariant
