-- What contracts see of a log.
use Rattle.std.specs.Prelude.{ℕ, ◌+◌, ◌-◌, ◌≡◌, ◌≢◌, List, [], ◌∷◌, ◌++◌, length, slice_get, IsSomeAnd}
use Rattle.tea_base.specs.declared.entry.Entry.{Entry}
use Rattle.tea_base.specs.declared.entry.What.{What}
use Rattle.tea_base.specs.Readings.{IsEventOf}
use Rattle.session_log.specs.Kinds.{entry_kind}
use Rattle.session_log.specs.declared.kinds.EntryKind.{EntryKind}

-- the entries, and the room for more entries and payload bytes
pub record LogState : Type 0 where
  pub entries : List Entry
  pub spare_entries : ℕ
  pub spare_bytes : ℕ

-- an entry that stands directly after those of a log
abbrev pub next_entry : List Entry → ℕ → ℕ → What → Entry
next_entry log time view what =
    record { seq = length log + 1; time = time; view = view; what = what }

-- the log with it
abbrev pub with_next : List Entry → ℕ → ℕ → What → List Entry
with_next log time view what = log ++ next_entry log time view what ∷ []

-- the log has lost its last entry, which was of this view and of this kind
pub record LosesLast (old new : List Entry) (view : ℕ) (kind : EntryKind) : Type 0 where
  pub last : Entry
  pub whole : old ≡ new ++ last ∷ []
  pub of_view : last.view ≡ view
  pub of_kind : entry_kind last.what ≡ kind

-- the entry with a seq is an Event with this payload
abbrev pub HasPayloadAt : List Entry → ℕ → List ℕ → Type 0
HasPayloadAt log seq payload =
    (seq ≢ 0) × IsSomeAnd (slice_get log (seq - 1)) (λ entry. IsEventOf entry.what payload)
