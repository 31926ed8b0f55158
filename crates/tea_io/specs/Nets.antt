-- What a net is asked and gives, and what it adds up.
use Rattle.std.specs.Prelude.{◌≡◌, ℕ, ◌+◌, ◌-◌, ◌^◌, ◌≤◌, ◌⊎◌, min, List, [], ◌∷◌, Option}
use Rattle.std.specs.Prelude.{Result, Ok, Err, IsErrOf}
use Rattle.tea_io.specs.Told.{with_more, Rose}
use Rattle.tea_io.specs.Links.{Counts}
use Rattle.tea_io.specs.declared.net.NetCall.{NetCall}
use Rattle.tea_io.specs.declared.net.NetFault.{NetFault}
use Rattle.tea_io.specs.declared.net.NetFault.TheVariants.{Failed, WantOfMemory}

-- the sum of two counts, which stays at the last value of a `u64`
abbrev pub sum_of : ℕ → ℕ → ℕ
sum_of a b = min (a + b) (2 ^ 64 - 1)

-- the counts of both
abbrev pub plus : Counts → Counts → Counts
plus a b = record {
  faults = sum_of a.faults b.faults;
  quiets = sum_of a.quiets b.quiets;
  ends = sum_of a.ends b.ends;
}

-- the list of calls has grown by this one, which may be missing after want of memory
abbrev pub AsksNet
    : {T : Type 0} → Option (List NetCall) → Option (List NetCall) → NetCall → Result T NetFault
    → Type 0
AsksNet before now call (Ok value) = now ≡ with_more before (call ∷ [])
AsksNet before now call (Err Failed) = now ≡ with_more before (call ∷ [])
AsksNet before now call (Err WantOfMemory) = (now ≡ before) ⊎ (now ≡ with_more before (call ∷ []))

-- the count of faults does not fall, and `Failed` comes only where it rose
pub record NetCause {T : Type 0} (before now : ℕ) (result : Result T NetFault) : Type 0 where
  pub later : before ≤ now
  pub failed : IsErrOf result Failed → Rose before now
