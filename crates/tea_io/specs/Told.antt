-- What is known of the outside, and the counts of its faults.
use Rattle.std.specs.Prelude.{◌≡◌, ℕ, ⊤, ◌+◌, ◌-◌, ◌^◌, ◌≤◌, min, List, [], ◌∷◌, ◌++◌, Option, Some, None}

-- a list that is told, with more behind it; one that is not told stays so
abbrev pub with_more : {A : Type 0} → Option (List A) → List A → Option (List A)
with_more None more = None
with_more (Some told) more = Some (told ++ more)

-- the first of what is told to come is this one, and the rest is still to come; what is not told
-- stays so
abbrev pub TakesFirst : {A : Type 0} → Option (List A) → Option (List A) → A → Type 0
TakesFirst None now first = now ≡ None
TakesFirst (Some told) now first = (rest : _) × (told ≡ first ∷ rest) × (now ≡ Some rest)

-- nothing is left to come, where that is told
abbrev pub HasNoMore : {A : Type 0} → Option (List A) → Type 0
HasNoMore None = ⊤
HasNoMore (Some told) = told ≡ []

-- a count that goes up by one, and stays at the last value of a `u64`
abbrev pub count_up : ℕ → ℕ
count_up count = min (count + 1) (2 ^ 64 - 1)

-- a count of faults has risen, or stands at its last value
abbrev pub Rose : ℕ → ℕ → Type 0
Rose before now = count_up before ≤ now
