-- Which files may be there.
use Rattle.std.specs.Prelude.{ℕ, List, Option, Some, None}

-- the file of the name may be there; of no name there is none
abbrev pub MayBeAny : (List ℕ → Type 0) → Option (List ℕ) → Type 0
MayBeAny may_be None = ⊥
MayBeAny may_be (Some name) = may_be name
