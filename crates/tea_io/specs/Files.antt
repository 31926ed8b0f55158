-- What files hold, as far as they tell it, and what their calls do.
use Rattle.std.specs.Prelude.{◌≡◌, ℕ, ◌≤◌, ◌<◌, ◌⊎◌, ⊤, List, [], ◌∷◌, length, Option}
use Rattle.std.specs.Prelude.{Result, Ok, Err, IsErrOf}
use Rattle.tea_io.specs.Told.{with_more, Rose}
use Rattle.tea_io.specs.declared.files.FileCall.{FileCall}
use Rattle.tea_io.specs.declared.files.FileFault.{FileFault}
use Rattle.tea_io.specs.declared.files.FileFault.TheVariants.{Failed, TooLarge, WantOfMemory}

-- what stands under a name
pub data Content : Type 0 where
  Untold : Content
  Absent : Content
  Present : List ℕ → Content

-- these bytes may stand there
abbrev pub MayBe : Content → List ℕ → Type 0
MayBe Untold bytes = ⊤
MayBe Absent bytes = ⊥
MayBe (Present held) bytes = bytes ≡ held

-- this may be the length of what stands there
abbrev pub MayBeLong : Content → ℕ → Type 0
MayBeLong Untold len = ⊤
MayBeLong Absent len = ⊥
MayBeLong (Present held) len = len ≡ length held

-- a length is told in this fault only where it is above the limit
abbrev pub IsTooLargeFor : Content → ℕ → FileFault → Type 0
IsTooLargeFor content limit Failed = ⊤
IsTooLargeFor content limit (TooLarge len) = (limit < len) × MayBeLong content len
IsTooLargeFor content limit WantOfMemory = ⊤

-- a write has no limit
abbrev pub IsNotTooLarge : FileFault → Type 0
IsNotTooLarge Failed = ⊤
IsNotTooLarge (TooLarge len) = ⊥
IsNotTooLarge WantOfMemory = ⊤

-- bytes that were put there stand there; where the content was told, it still is
abbrev pub Holds : Content → Content → List ℕ → Type 0
Holds Untold new bytes = MayBe new bytes
Holds Absent new bytes = new ≡ Present bytes
Holds (Present held) new bytes = new ≡ Present bytes

-- the list of calls has grown by this one, which may be missing after want of memory
abbrev pub AsksFiles
    : {T : Type 0} → Option (List FileCall) → Option (List FileCall) → FileCall → Result T FileFault
    → Type 0
AsksFiles old new call (Ok value) = new ≡ with_more old (call ∷ [])
AsksFiles old new call (Err Failed) = new ≡ with_more old (call ∷ [])
AsksFiles old new call (Err (TooLarge len)) = new ≡ with_more old (call ∷ [])
AsksFiles old new call (Err WantOfMemory) = (new ≡ old) ⊎ (new ≡ with_more old (call ∷ []))

-- the count of calls that were out of memory does not fall, and `WantOfMemory` comes only where it rose
pub record FileWant {T : Type 0} (before now : ℕ) (result : Result T FileFault) : Type 0 where
  pub later : before ≤ now
  pub wanted : IsErrOf result WantOfMemory → Rose before now

-- the count of faults does not fall, and `Failed` comes only where it rose
pub record FileCause {T : Type 0} (before now : ℕ) (result : Result T FileFault) : Type 0 where
  pub later : before ≤ now
  pub failed : IsErrOf result Failed → Rose before now
