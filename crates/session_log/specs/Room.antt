-- Bytes that are written into memory that was taken before, and how many a stored session has at most.
use Rattle.std.specs.Prelude.{◌≡◌, ◌≤◌, ◌+◌, ◌*◌, ℕ, List, ◌++◌, length, Option, Some, None}
use Rattle.tea_base.specs.Limits.{most_entries, most_bytes, most_snapshot}
use Rattle.tea_base.specs.Readings.{payload_bytes}
use Rattle.session_log.specs.Stored.{PlainStored}
use Rattle.session_log.specs.declared.stored.Kept.{Kept}

-- the bytes that were written, and for how many more there is memory
pub record FillingState : Type 0 where
  pub bytes : List ℕ
  pub spare : ℕ

-- these bytes were written behind those before, and no other memory was used up
pub record Fills (old new : FillingState) (more : List ℕ) : Type 0 where
  pub written : new.bytes ≡ old.bytes ++ more
  pub room : old.spare ≤ new.spare + length more

-- the bytes of what is kept
abbrev pub kept_len : Option Kept → ℕ
kept_len None = 0
kept_len (Some kept) = length kept.bytes

-- A stored session has no more bytes than these: 33 of its mark, its horizon, what says of what is kept, and the count of its entries; those of what
-- is kept; 21 of each entry; and those of the payloads.
abbrev pub room_for : PlainStored → ℕ
room_for s = 33 + kept_len s.kept + (21 * length s.log + payload_bytes s.log)

-- no stored session has more bytes
abbrev pub most_stored : ℕ
most_stored = 33 + most_snapshot + (21 * most_entries + most_bytes)
