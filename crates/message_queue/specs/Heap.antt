-- Messages as a heap, and how many comparisons are few.
use Rattle.std.specs.Prelude.{ℕ, ◌+◌, ◌*◌, ◌^◌, ◌<◌, ◌≤◌, Bool, List, length}
use Rattle.std.specs.Slice.Heapsort.{IsHeapWithin}
use Rattle.world_plain.specs.Messages.{plain_message}
use Rattle.world_plain.specs.ValidTest.{is_due_before}
use Rattle.world_plain.specs.declared.message.Message.{Message}

abbrev pub is_sooner : Message → Message → Bool
is_sooner m n = is_due_before (plain_message m) (plain_message n)

abbrev pub is_later : Message → Message → Bool
is_later m n = is_sooner n m

-- no message is later than one of its children
abbrev pub IsHeap : List Message → Type 0
IsHeap ms = IsHeapWithin is_later ms 0 (length ms)

-- where n has d binary digits, at most 2d + 2 comparisons are counted; said of each d with n < 2 ^ d
abbrev pub CountsFew : ℕ → ℕ → ℕ → Type 0
CountsFew n old new = (old ≤ new) × ((digits : ℕ) → n < 2 ^ digits → new ≤ old + (2 * digits + 2))
