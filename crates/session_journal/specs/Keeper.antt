-- What the store of a journal holds.
use Rattle.std.specs.Prelude.{◌≡◌, ℕ, ◌+◌, max, min, nat_le, Bool, false, ⊤, List, ◌++◌, length, Option, Some, None, if◌then◌else◌}
use Rattle.tea_base.specs.Limits.{end_of_time}
use Rattle.store_io.specs.Store.{IsAllSafe}
use Rattle.store_io.specs.Stores.{TellsOnly}
use Rattle.session_log.specs.Stored.{PlainStored, plain_of}
use Rattle.session_journal.specs.declared.change.Change.{Change}
use Rattle.session_journal.specs.declared.change.Change.TheVariants.{Came, Reached, Kept}
use Rattle.session_journal.specs.declared.keeper.Journal.{Journal}
use Rattle.session_journal.specs.State.{journal_after, GoesOn, founded}
use Rattle.session_journal.specs.Journal.{header, first_check, journal_check, journal_spelling, read_journal, Goes}

-- of the bytes that are told, just these first ones are safe
abbrev pub AreSafe : List ℕ → Option (List ℕ) → ℕ → Type 0
AreSafe spelled None safe = ⊤
AreSafe spelled (Some bytes) safe = (rest : List ℕ) × (bytes ≡ spelled ++ rest) × (safe ≡ length spelled)

-- the safe bytes are the journal of this session
pub record Keeps (id : List ℕ) (told : Option (List ℕ)) (safe : ℕ) (state : PlainStored) : Type 0 where
  pub changes : List Change
  pub goes : GoesOn founded changes
  pub state_is : journal_after founded changes ≡ state
  pub safe_are : AreSafe (journal_spelling id changes) told safe

-- what a keeper knows of its journal: the check that the next record follows, how many bytes there are, the horizon that
-- they tell, whether some of them were not made safe since, and whether a call of the store has failed
pub record KeeperState : Type 0 where
  pub check : List ℕ
  pub len : ℕ
  pub horizon : ℕ
  pub dirty : Bool
  pub shut : Bool

-- The bytes, safe or not, are the journal of this session, unless a call of the store has failed. They are safe where none was added since.
pub record Writes (id : List ℕ) (told : Option (List ℕ)) (safe : ℕ) (keeper : KeeperState)
    (state : PlainStored) : Type 0 where
  pub changes : List Change
  pub goes : GoesOn founded changes
  pub state_is : journal_after founded changes ≡ state
  pub check_is : keeper.check ≡ journal_check id changes
  pub len_is : keeper.len ≡ length (journal_spelling id changes)
  pub horizon_is : keeper.horizon ≡ state.horizon
  pub told_are : keeper.shut ≡ false → TellsOnly told (journal_spelling id changes)
  pub all_safe : keeper.shut ≡ false → keeper.dirty ≡ false → IsAllSafe told safe

abbrev pub keeper_state : {S : Type 0} → Journal S → KeeperState
keeper_state journal =
    record {
      check = journal.check;
      len = journal.len;
      horizon = journal.horizon;
      dirty = journal.dirty;
      shut = journal.shut;
    }

-- the store of this journal keeps this session
abbrev pub IsKeptBy : {S : Type 0} → (S → Option (List ℕ)) → (S → ℕ) → List ℕ → Journal S → PlainStored → Type 0
IsKeptBy told safe id journal state = Keeps id (told journal.store) (safe journal.store) state

-- all that was written to it is this session
abbrev pub IsWrittenBy : {S : Type 0} → (S → Option (List ℕ)) → (S → ℕ) → List ℕ → Journal S → PlainStored → Type 0
IsWrittenBy told safe id journal state =
    Writes id (told journal.store) (safe journal.store) (keeper_state journal) state

-- whatever session it kept, it keeps still
abbrev pub KeepsStill : {S : Type 0} → (S → Option (List ℕ)) → (S → ℕ) → Journal S → Journal S → Type 0
KeepsStill told safe old new = (id : List ℕ) (s : PlainStored) → IsKeptBy told safe id old s
    → IsKeptBy told safe id new s

-- how far the horizon of a journal is written ahead of a tick, in microseconds: not past the end of time, unless the tick is
abbrev pub lease : ℕ → ℕ
lease time = max time (min (time + 2000000) end_of_time)

-- the session as its journal tells it once a tick may be told
abbrev pub reached_to : ℕ → PlainStored → PlainStored
reached_to time s = if nat_le time s.horizon then s else plain_of s.log (lease time) s.kept

-- how many bytes a journal had after the last snapshot that it keeps, where it has so many after a change
abbrev pub since_after : ℕ → ℕ → Change → ℕ
since_after since len (Came time view what) = since
since_after since len (Reached time) = since
since_after since len (Kept time bytes) = len

-- what is left is read as a session that goes on from one
pub record GoesOnFrom (id : List ℕ) (state : PlainStored) (left : List ℕ) : Type 0 where
  pub more : List Change
  pub goes : GoesOn state more
  pub check : List ℕ
  pub torn : List ℕ
  pub read : read_journal id left ≡ Goes (record { state = journal_after state more; check = check; rest = torn })

-- the keeper of a journal without records
abbrev pub first_keeper : List ℕ → KeeperState
first_keeper id = record { check = first_check id; len = length (header id); horizon = 0; dirty = false; shut = false }
