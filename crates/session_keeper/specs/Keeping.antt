-- What the journal of a session says as its keeper.
use Rattle.std.specs.Prelude.{◌≡◌, ◌⊎◌, ℕ, ◌+◌, ◌-◌, nat_le, nat_lt, Bool, true, not, ◌&&◌, List, length, Option, if◌then◌else◌}
use Rattle.tea_base.specs.Limits.{most_payload}
use Rattle.session_log.specs.Stored.{PlainStored}
use Rattle.reflector_core.specs.PlainSession.{PlainSession}
use Rattle.reflector_core.specs.Stored.{session_of}
use Rattle.session_journal.specs.declared.change.Change.TheVariants.{Kept}
use Rattle.session_journal.specs.declared.keeper.Journal.{Journal}
use Rattle.session_journal.specs.Heads.{record_len}
use Rattle.session_journal.specs.Journal.{most_journal}
use Rattle.session_journal.specs.State.{after_change}
use Rattle.session_journal.specs.Keeper.{IsKeptBy, IsWrittenBy}
use Rattle.session_keeper.specs.declared.keeper.JournalKeeper.{JournalKeeper}

-- the safe bytes are the journal of this session
pub record IsJournalOf {S : Type 0} (told : S → Option (List ℕ)) (safe : S → ℕ) (keeper : JournalKeeper S)
    (s : PlainSession) : Type 0 where
  pub state : PlainStored
  pub is_kept : IsKeptBy told safe keeper.id.0 keeper.journal state
  pub same : session_of state ≡ s

-- all bytes, safe or not, are the journal of this session, unless a call has failed
pub record WritesJournalOf {S : Type 0} (told : S → Option (List ℕ)) (safe : S → ℕ) (keeper : JournalKeeper S)
    (s : PlainSession) : Type 0 where
  pub state : PlainStored
  pub is_written : IsWrittenBy told safe keeper.id.0 keeper.journal state
  pub same : session_of state ≡ s

-- all bytes that were written are safe, no call has failed, and the journal was not full
abbrev pub is_settled : {S : Type 0} → JournalKeeper S → Bool
is_settled keeper = not keeper.full && (not keeper.journal.shut && not keeper.journal.dirty)

-- a call of the store has failed, or the journal was full
abbrev pub IsShut : {S : Type 0} → JournalKeeper S → Type 0
IsShut keeper = (keeper.journal.shut ≡ true) ⊎ (keeper.full ≡ true)

-- the most bytes of the record of an entry or of a horizon: of a head, of the payload of an Event, and of the check
abbrev pub most_record : ℕ
most_record = 26 + most_payload + 8

-- a longest record has no room in a journal of so many bytes
abbrev pub is_nearly_full : ℕ → Bool
is_nearly_full len = nat_lt most_journal (len + most_record)

-- the store's faults, and one more where the journal was full. That counts only while it is nearly full.
abbrev pub fault_count : {S : Type 0} → (S → ℕ) → JournalKeeper S → ℕ
fault_count faults keeper = faults keeper.journal.store + (if keeper.full && is_nearly_full keeper.journal.len then 1
    else 0)

-- a snapshot is written if the journal has grown by as many bytes since the last one, and has room for it
abbrev pub keeps_snapshot : {S : Type 0} → Journal S → ℕ → List ℕ → Bool
keeps_snapshot journal time bytes =
    nat_le (length bytes) (journal.len - journal.since)
    && nat_le (journal.len + record_len (Kept time bytes)) most_journal

abbrev pub with_due_snapshot : {S : Type 0} → Journal S → ℕ → List ℕ → PlainStored → PlainStored
with_due_snapshot journal time bytes s =
    if keeps_snapshot journal time bytes then after_change s (Kept time bytes) else s
