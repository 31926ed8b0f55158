-- The journal that a session is founded with, from nothing or from what is stored.
use Rattle.std.specs.Prelude.{◌≡◌, ℕ, List, [], ◌∷◌, ◌++◌, map, nat_lt, Option, Some, None, if◌then◌else◌}
use Rattle.tea_base.specs.declared.entry.Entry.{Entry}
use Rattle.tea_base.specs.Readings.{last_time}
use Rattle.session_log.specs.declared.stored.Kept.{Kept}
use Rattle.session_log.specs.Stored.{PlainStored}
use Rattle.session_journal.specs.declared.change.Change.{Change}
use Rattle.session_journal.specs.declared.change.Change.TheVariants as change
use Rattle.session_journal.specs.declared.founding.Draft.{Draft}
use Rattle.session_journal.specs.Changes.{change_spelling}
use Rattle.session_journal.specs.Frames.{last_check}
use Rattle.session_journal.specs.Journal.{record_check, records_spelling, journal_spelling, journal_check, read_journal, Goes}

-- that an entry came
abbrev pub came_of : Entry → Change
came_of entry = change.Came entry.time entry.view entry.what

-- that a horizon was reached, where it is later than the last entry
abbrev pub reached_after : ℕ → ℕ → List Change
reached_after last horizon = if nat_lt last horizon then change.Reached horizon ∷ [] else []

-- that a snapshot is kept, where one is
abbrev pub kept_after : Option Kept → List Change
kept_after None = []
kept_after (Some kept) = change.Kept kept.time kept.bytes ∷ []

-- the changes that lead to a stored session: its entries, its horizon, and what it keeps
abbrev pub founding_changes : PlainStored → List Change
founding_changes s = map came_of s.log ++ (reached_after (last_time s.log) s.horizon ++ kept_after s.kept)

abbrev pub founding_spelling : List ℕ → PlainStored → List ℕ
founding_spelling id s = journal_spelling id (founding_changes s)

-- a journal that was founded so is read as that session, and whole
abbrev pub FoundsSession : List ℕ → PlainStored → Type 0
FoundsSession id s = read_journal id (founding_spelling id s)
    ≡ Goes (record { state = s; check = journal_check id (founding_changes s); rest = [] })

-- a draft has these records more
pub record Adds (old new : Draft) (changes : List Change) : Type 0 where
  pub out : new.out ≡ old.out ++ records_spelling old.check changes
  pub check : new.check ≡ last_check record_check old.check (map change_spelling changes)
