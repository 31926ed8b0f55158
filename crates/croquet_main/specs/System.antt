-- What is counted of a call of the system that did not succeed.
use Rattle.std.specs.Prelude.{◌≡◌, ℕ, ◌≤◌, ◌<◌, vec_len}
use Rattle.tea_io.specs.Told.{Rose}
use Rattle.croquet_main.specs.declared.system.FileCounts.{FileCounts}
use Rattle.croquet_main.specs.declared.system.Found.{Found}
use Rattle.croquet_main.specs.declared.system.Found.TheVariants.{Bytes, TooLong}
use Rattle.tea_io.specs.declared.files.FileFault.{FileFault}
use Rattle.tea_io.specs.declared.files.FileFault.TheVariants.{Failed, TooLarge, WantOfMemory}

-- a failure is counted, and so is, apart from it, that a call was out of memory
abbrev pub IsCounted : FileCounts → FileCounts → FileFault → Type 0
IsCounted before now Failed = Rose before.faults now.faults × (before.faults ≤ now.faults) × (now.wants ≡ before.wants)
IsCounted before now (TooLarge len) = ⊥
IsCounted before now WantOfMemory = Rose before.wants now.wants × (before.wants ≤ now.wants)
    × (now.faults ≡ before.faults)

-- bytes of at most so many, or a length above it
abbrev pub IsWithin : ℕ → Found → Type 0
IsWithin limit (Bytes bytes) = vec_len bytes ≤ limit
IsWithin limit (TooLong len) = limit < len
