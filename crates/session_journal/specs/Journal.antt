-- A journal: a mark, the session's id, and records; and what its bytes are read as.
use Rattle.std.specs.Prelude.{◌≡◌, ℕ, ◌<◌, List, [], ◌∷◌, ◌++◌, length, get_or, take, map, codes, Option, Some, None, if◌then◌else◌}
use Rattle.std.specs.Str.{bytes_eq}
use Rattle.sha2.specs.Sha256.{sha256}
use Rattle.byte_fields.specs.Fields.{Decoder, bytes_at, marked_at}
use Rattle.session_log.specs.Stored.{PlainStored}
use Rattle.session_journal.specs.declared.change.Change.{Change}
use Rattle.session_journal.specs.Changes.{change_spelling}
use Rattle.session_journal.specs.Frames.{Place, frames_spelling, last_check, read_on}
use Rattle.session_journal.specs.State.{journal_after, GoesOn, body_step, founded}

-- the most bytes of a journal
abbrev pub most_journal : ℕ
most_journal = 268435456

-- ---- spelling

abbrev pub header : List ℕ → List ℕ
header id = codes "TEALOG03" ++ id

-- the check of a body, by the check before it
unfoldable pub record_check : List ℕ → List ℕ → List ℕ
record_check before body = take 8 (sha256 (before ++ body))

-- the check before the first record: that of the header after nothing
abbrev pub first_check : List ℕ → List ℕ
first_check id = record_check [] (header id)

-- the records after a check
abbrev pub records_spelling : List ℕ → List Change → List ℕ
records_spelling before changes = frames_spelling record_check before (map change_spelling changes)

abbrev pub journal_spelling : List ℕ → List Change → List ℕ
journal_spelling id changes = header id ++ records_spelling (first_check id) changes

-- the check after all records
abbrev pub journal_check : List ℕ → List Change → List ℕ
journal_check id changes = last_check record_check (first_check id) (map change_spelling changes)

-- ---- reading

-- the id that a journal names, which has so many bytes
abbrev pub header_at : ℕ → Decoder (List ℕ)
header_at count = marked_at (codes "TEALOG03") (bytes_at count)

-- what bytes are to the reader of a session's journal: no journal, where they do not begin with a whole header; the journal
-- of another session; or this session as its records tell it, the check after them, and the bytes that are no record
pub data Found : Type 0 where
  NoJournal : Found
  OtherSession : Found
  Goes : Place PlainStored → Found

-- from the first record on
abbrev pub read_records : List ℕ → List ℕ → Place PlainStored
read_records check bytes =
    read_on record_check body_step (length bytes) (record { state = founded; check = check; rest = bytes })

abbrev pub found_after : List ℕ → Option (List ℕ × List ℕ) → Found
found_after id None = NoJournal
found_after id (Some named) = if bytes_eq named.0 id then Goes (read_records (first_check id) named.1) else OtherSession

unfoldable pub read_journal : List ℕ → List ℕ → Found
read_journal id bytes = found_after id (header_at (length id) bytes)

-- ---- what the laws speak of

abbrev pub AreBytes : List ℕ → Type 0
AreBytes bytes = (i : ℕ) → get_or bytes i 0 < 256

-- of a journal that is cut after the header and n bytes more, just the records that are whole are read
pub record ReadsWhole (id : List ℕ) (changes : List Change) (n : ℕ) : Type 0 where
  pub whole : List Change
  pub cut : List Change
  pub torn : List ℕ
  pub all : changes ≡ whole ++ cut
  pub spelled : take n (records_spelling (first_check id) changes) ≡ records_spelling (first_check id) whole ++ torn
  pub short : (next : Change) (rest : List Change) → cut ≡ next ∷ rest →
      length (records_spelling (first_check id) whole ++ torn)
      < length (records_spelling (first_check id) (whole ++ next ∷ []))
  pub none : cut ≡ [] → torn ≡ []
  pub read : read_journal id (header id ++ take n (records_spelling (first_check id) changes))
      ≡ Goes (record { state = journal_after founded whole; check = journal_check id whole; rest = torn })

-- with any bytes after a journal, it is read on after its own records
pub record ReadsFirst (id : List ℕ) (changes : List Change) (tail : List ℕ) : Type 0 where
  pub more : List Change
  pub torn : List ℕ
  pub goes : GoesOn (journal_after founded changes) more
  pub read : read_journal id (journal_spelling id changes ++ tail)
      ≡ Goes (record {
        state = journal_after founded (changes ++ more);
        check = journal_check id (changes ++ more);
        rest = torn;
      })
  pub spelled : journal_spelling id changes ++ tail ≡ journal_spelling id (changes ++ more) ++ torn

-- what is read is the session after changes that may come, spelled so at the front of the bytes
pub record IsReadFrom (id : List ℕ) (bytes : List ℕ) (read : Place PlainStored) : Type 0 where
  pub changes : List Change
  pub goes : GoesOn founded changes
  pub state : read.state ≡ journal_after founded changes
  pub check : read.check ≡ journal_check id changes
  pub spelled : bytes ≡ journal_spelling id changes ++ read.rest

abbrev pub IsSpelled : List ℕ → List ℕ → Type 0
IsSpelled id bytes = (read : Place PlainStored) → read_journal id bytes ≡ Goes read → IsReadFrom id bytes read
