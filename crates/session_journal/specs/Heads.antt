-- The bytes of a record, in three pieces: a head, a payload, and the check.
use Rattle.std.specs.Prelude.{ℕ, ◌+◌, List, [], length}
use Rattle.tea_base.specs.Readings.{event_payload}
use Rattle.session_journal.specs.declared.change.Change.{Change}
use Rattle.session_journal.specs.declared.change.Change.TheVariants as change
use Rattle.session_journal.specs.declared.heads.Head.{Head}
use Rattle.session_journal.specs.declared.heads.Head.TheVariants.{Presence, Event, Reached, Kept}
use Rattle.session_journal.specs.Changes.{change_spelling}

abbrev pub head_bytes : Head → List ℕ
head_bytes (Presence bytes) = bytes
head_bytes (Event bytes) = bytes
head_bytes (Reached bytes) = bytes
head_bytes (Kept bytes) = bytes

-- the bytes at the end of a body that have a length of their own
abbrev pub payload_of : Change → List ℕ
payload_of (change.Came time view what) = event_payload what
payload_of (change.Reached time) = []
payload_of (change.Kept time bytes) = bytes

-- how many bytes a record has: those of a length, of its body, and of a check
abbrev pub record_len : Change → ℕ
record_len change = 4 + length (change_spelling change) + 8
