-- What a store holds, what its calls leave, and what an end of the program leaves of it.
use Rattle.std.specs.Prelude.{◌≡◌, ◌⊎◌, ℕ, ◌≤◌, ⊤, min, List, [], length, take, Option, Some, None, option_map, Result, Ok, Err, OnErr}
use Rattle.tea_io.specs.Told.{Rose}
use Rattle.store_io.specs.declared.store.StoreFault.{StoreFault}

-- the count of faults does not fall, and a call that was not done raised it
pub record StoreCause {T : Type 0} (before now : ℕ) (result : Result T StoreFault) : Type 0 where
  pub later : before ≤ now
  pub failed : OnErr result (Rose before now)

-- all that is told is safe
abbrev pub IsAllSafe : Option (List ℕ) → ℕ → Type 0
IsAllSafe None safe = ⊤
IsAllSafe (Some bytes) safe = safe ≡ length bytes

-- no more is safe than there is
abbrev pub IsWithin : Option (List ℕ) → ℕ → Type 0
IsWithin None safe = ⊤
IsWithin (Some bytes) safe = safe ≤ length bytes

-- the first of what is told
abbrev pub cut_to : ℕ → Option (List ℕ) → Option (List ℕ)
cut_to len bytes = option_map (take len) bytes

-- what a cut that failed leaves: all as it was, or the bytes cut, of which no more is safe than was safe before
abbrev pub MayBeCut : ℕ → Option (List ℕ) → Option (List ℕ) → ℕ → ℕ → Type 0
MayBeCut len old new safe_old safe_new =
    ((new ≡ old) × (safe_new ≡ safe_old)) ⊎ ((new ≡ cut_to len old) × (safe_new ≡ min safe_old len))

-- what a killed program may leave: a first part, in which all that is safe is
abbrev pub MayBeLeft : Option (List ℕ) → ℕ → List ℕ → Type 0
MayBeLeft None safe left = ⊤
MayBeLeft (Some bytes) safe left = (n : ℕ) × (safe ≤ n) × (left ≡ take n bytes)

-- what a loss of power may leave: what is safe, and anything after it
abbrev pub MayBeTorn : Option (List ℕ) → ℕ → List ℕ → Type 0
MayBeTorn None safe left = ⊤
MayBeTorn (Some bytes) safe left = take safe left ≡ take safe bytes
