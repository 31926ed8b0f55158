-- Which calls of an object in memory fail, and what a call may answer.
use Rattle.std.specs.Prelude.{◌≡◌, ◌⊎◌, ℕ, ◌==◌, Bool, List}
use Rattle.std.specs.List.{list_any}

-- the number of this call stands in the list
abbrev pub fails_at : List ℕ → ℕ → Bool
fails_at failing call = list_any (λ number. number == call) failing

-- want of memory may come in place of the answer that is due
abbrev pub IsAnswerOr : {A : Type 0} → A → A → A → Type 0
IsAnswerOr want answer result = (result ≡ answer) ⊎ (result ≡ want)
