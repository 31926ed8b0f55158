-- Weights of lists add up.
use Rattle.std.proofs.Common.{◌≡◌, ℕ, ◌+◌, List, [], ◌∷◌, ◌++◌, arith}
use Rattle.world_plain.specs.World.{total_weight}

pub total-append : {A : Type 0} (weighs : A → ℕ) (xs ys : List A) → total_weight weighs (xs ++ ys) ≡ total_weight weighs xs + total_weight weighs ys
total-append weighs [] ys = omega arith
total-append weighs (x ∷ xs) ys = omega (arith, total-append weighs xs ys)
