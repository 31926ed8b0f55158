-- What a reader of a journal holds.
use Rattle.std.specs.Prelude.{ℕ, List, Option, Some}
use Rattle.byte_fields.specs.Fields.{◌>>=◌, whole}
use Rattle.session_log.specs.Stored.{PlainStored, plain_stored}
use Rattle.session_log.specs.declared.stored.Stored.{Stored}
use Rattle.session_journal.specs.declared.change.Change.{Change}
use Rattle.session_journal.specs.declared.reading.Read.{Read}
use Rattle.session_journal.specs.Changes.{change_at}
use Rattle.session_journal.specs.Frames.{Place, frame_at}
use Rattle.session_journal.specs.Journal.{record_check}

-- where a reader is, after a check and before some bytes
abbrev pub place_of : Stored → List ℕ → List ℕ → Place PlainStored
place_of stored check rest = record { state = plain_stored stored; check = check; rest = rest }

abbrev pub read_place : Read → Place PlainStored
read_place read = place_of read.stored read.check read.torn.now

-- what the first record says, its check, and the bytes after it
abbrev pub record_at : List ℕ → List ℕ → Option (Change × (List ℕ × List ℕ))
record_at before bytes =
    frame_at record_check before bytes >>= λ x. whole change_at x.0 >>= λ change.
    Some (change, (record_check before x.0, x.1))
