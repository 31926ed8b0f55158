-- What the fields of a log stand for, and what is true of them.
use Rattle.std.specs.Prelude.{ℕ, ◌+◌, ◌≤◌, ◌≡◌, List, length, map, vec_len, vec_capacity}
use Rattle.tea_base.specs.declared.entry.Entry.{Entry}
use Rattle.tea_base.specs.Readings.{payload_bytes}
use Rattle.tea_base.specs.Legal.{IsLegal}
use Rattle.tea_base.specs.Limits.{most_entries}
use Rattle.session_log.specs.LogState.{LogState}
use Rattle.session_log.specs.Heads.{entry_of, AreWithin}
use Rattle.session_log.specs.declared.heads.Head.{Head}
use Rattle.session_log.specs.declared.log.Log.TheInside.{Inside}

abbrev pub log_entries : Inside → List Entry
log_entries log = map (entry_of log.payloads.bytes) log.heads.items

abbrev pub log_state : Inside → LogState
log_state log =
    record { entries = log_entries log; spare_entries = log.spare_entries; spare_bytes = log.payloads.spare }

-- the bytes of all payloads and the heads are those of a legal log
pub record AreSound (payloads : List ℕ) (heads : List Head) : Type 0 where
  pub legal : IsLegal (map (entry_of payloads) heads)
  pub within : AreWithin (length payloads) heads

-- the heads have memory for the room that is told
pub record IsSoundLog (log : Inside) : Type 0 where
  pub kept : AreSound log.payloads.bytes log.heads.items
  pub counted : log.bytes ≡ payload_bytes (log_entries log)
  pub short : vec_len log.heads ≤ most_entries
  pub room_for_entries : vec_len log.heads + log.spare_entries ≤ vec_capacity log.heads
