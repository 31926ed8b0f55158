-- What the safe bytes of a store are read as.
use Rattle.std.specs.Prelude.{◌≡◌, ℕ, ◌≤◌, List, [], take, Option, Some}
use Rattle.reflector_core.specs.PlainSession.{PlainSession}
use Rattle.session_log.specs.Stored.{PlainStored}
use Rattle.session_journal.specs.Journal.{Goes, read_journal}
use Rattle.session_keeper.specs.declared.keeper.JournalKeeper.{JournalKeeper}

-- bytes are read as the journal of this session, and whole
abbrev pub ReadsAs : List ℕ → List ℕ → PlainStored → Type 0
ReadsAs id bytes state = (check : List ℕ)
    × (read_journal id bytes ≡ Goes (record { state = state; check = check; rest = [] }))

-- bytes are read as a session that has this log and at least this horizon
pub record ReadsAtLeast (id bytes : List ℕ) (s : PlainSession) : Type 0 where
  pub state : PlainStored
  pub reads : ReadsAs id bytes state
  pub log : state.log ≡ s.log
  pub horizon : s.horizon ≤ state.horizon

-- where the store of a keeper tells its bytes, the safe ones are read so
abbrev pub IsSafelyKept : {S : Type 0} → (S → Option (List ℕ)) → (S → ℕ) → JournalKeeper S → PlainSession → Type 0
IsSafelyKept told safe keeper s =
    (bytes : List ℕ) → told keeper.journal.store ≡ Some bytes
    → ReadsAtLeast keeper.id.0 (take (safe keeper.journal.store) bytes) s
