-- The order of texts.
use Rattle.std.specs.Prelude.{◌≡◌, ℕ, Bool, true, false, ◌||◌, ◌&&◌, nat_eq, nat_lt, List, [], ◌∷◌}

-- by their characters, a shorter text before what it begins
abbrev pub comes_before : List ℕ → List ℕ → Bool
comes_before x [] = false
comes_before [] (d ∷ ds) = true
comes_before (c ∷ cs) (d ∷ ds) = nat_lt c d || (nat_eq c d && comes_before cs ds)

abbrev pub IsBefore : List ℕ → List ℕ → Type 0
IsBefore x y = comes_before x y ≡ true
