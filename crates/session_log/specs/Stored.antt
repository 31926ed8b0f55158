-- What a session leaves for one that goes on, and its bytes. All numbers are big-endian.
use Rattle.std.specs.Prelude.{ℕ, ◌+◌, ◌≤◌, ◌<◌, ◌==◌, Bool, true, false, if◌then◌else◌, List, [], ◌∷◌, ◌++◌, length, codes, Option, Some, None}
use Rattle.std.specs.Int.{to_be_bytes, w64}
use Rattle.byte_fields.specs.Fields.{blob, list_of}
use Rattle.tea_base.specs.declared.entry.Entry.{Entry}
use Rattle.tea_base.specs.Legal.{IsLegal}
use Rattle.tea_base.specs.Limits.{time_limit, most_snapshot}
use Rattle.tea_base.specs.Readings.{here_count, last_time}
use Rattle.session_log.specs.Spelling.{log_entry_spelling, log_spelling}
use Rattle.session_log.specs.declared.stored.Kept.{Kept}
use Rattle.session_log.specs.declared.stored.LentKept.{LentKept}
use Rattle.session_log.specs.declared.stored.Stored.{Stored}

-- what is kept, whose bytes are borrowed
abbrev pub lent_kept : LentKept → Kept
lent_kept kept = record { time = kept.time; bytes = kept.bytes.now }

-- a log, the horizon of its times, and what is kept
pub record PlainStored : Type 0 where
  pub log : List Entry
  pub horizon : ℕ
  pub kept : Option Kept

abbrev pub plain_of : List Entry → ℕ → Option Kept → PlainStored
plain_of log horizon kept = record { log = log; horizon = horizon; kept = kept }

abbrev pub plain_stored : Stored → PlainStored
plain_stored s = plain_of s.log.entries s.horizon s.kept

-- what is kept has a time of at most this, and no more bytes than a snapshot may have
abbrev pub MayBeKept : ℕ → Option Kept → Type 0
MayBeKept horizon None = Unit {0}
MayBeKept horizon (Some kept) = (kept.time ≤ horizon) × (length kept.bytes ≤ most_snapshot)

-- they are a stored session: no entry is later than the horizon, and there is time for the Exit of each view that is here
pub record IsStored (s : PlainStored) : Type 0 where
  pub legal : IsLegal s.log
  pub latest : last_time s.log ≤ s.horizon
  pub bounded : s.horizon + here_count s.log < time_limit
  pub kept : MayBeKept s.horizon s.kept

abbrev pub is_kept : Option Kept → Bool
is_kept None = false
is_kept (Some kept) = true

-- the log tells all: the horizon is the time of its last entry, 0 of none, and nothing is kept
abbrev pub is_log_alone : PlainStored → Bool
is_log_alone s = if is_kept s.kept then false else s.horizon == last_time s.log

-- 0 where nothing is kept; else 1, the time, and the bytes behind their length
unfoldable pub kept_spelling : Option Kept → List ℕ
kept_spelling None = 0 ∷ []
kept_spelling (Some kept) = 1 ∷ (to_be_bytes w64 kept.time ++ blob kept.bytes)

-- a mark, the horizon, what is kept, how many entries there are, and the entries
abbrev pub full_spelling : PlainStored → List ℕ
full_spelling s = codes "TEALOG02"
    ++ (to_be_bytes w64 s.horizon ++ (kept_spelling s.kept ++ list_of log_entry_spelling s.log))

-- where the log tells all it is the log's
unfoldable pub stored_spelling : PlainStored → List ℕ
stored_spelling s = if is_log_alone s then log_spelling s.log else full_spelling s
