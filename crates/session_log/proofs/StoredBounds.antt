-- How many bytes a stored session has.
use Rattle.std.proofs.Common.{◌≡◌, ◌≤◌, ◌+◌, ◌*◌, ℕ, Bool, true, false, cond, List, [], ◌∷◌, ◌++◌, Option, Some, None, length, length-append, arith}
use Rattle.std.specs.Prelude.{codes}
use Rattle.std.specs.List.{flat_map}
use Rattle.std.specs.Int.{to_be_bytes, w32, w64}
use Rattle.std.proofs.lemmas.List.Sums.{sum_by-cons}
use Rattle.tea_base.specs.declared.entry.Entry.{Entry}
use Rattle.tea_base.specs.declared.entry.What.{What}
use Rattle.tea_base.specs.declared.entry.What.TheVariants.{Join, Exit, Event}
use Rattle.tea_base.specs.Limits.{most_snapshot}
use Rattle.tea_base.specs.Readings.{payload_bytes, payload_len}
use Rattle.tea_base.proofs.LogLaws.{payload_bytes-legal}
use Rattle.byte_fields.specs.Fields.{blob, list_of}
use Rattle.entry_fields.specs.Spelling.{what_spelling}
use Rattle.session_log.specs.Room.{kept_len, room_for, most_stored}
use Rattle.session_log.specs.Spelling.{log_entry_spelling, log_spelling}
use Rattle.session_log.specs.Stored.{PlainStored, MayBeKept, IsStored, is_log_alone, kept_spelling, full_spelling, stored_spelling}
use Rattle.session_log.specs.declared.stored.Kept.{Kept}
use Rattle.session_log.proofs.LegalityLaws.{length-legal}

-- ---- entries

what_bound : (what : What) → length (what_spelling what) ≤ 9 + payload_len what
what_bound Join = omega arith
what_bound Exit = omega arith
what_bound (Event number payload) = omega (arith, length-append (to_be_bytes w32 number) (blob payload), length-append (to_be_bytes w32 (length payload)) payload)

entry_bound : (entry : Entry) → length (log_entry_spelling entry) ≤ 21 + payload_len entry.what
unfolding log_entry_spelling
entry_bound entry =
    omega (arith, length-append (to_be_bytes w64 entry.time) (to_be_bytes w32 entry.view ++ what_spelling entry.what), length-append (to_be_bytes w32 entry.view) (what_spelling entry.what), what_bound entry.what)

entries_bound : (log : List Entry) → length (flat_map log_entry_spelling log) ≤ 21 * length log + payload_bytes log
entries_bound [] = omega arith
entries_bound (entry ∷ log) =
    let bytes : payload_bytes (entry ∷ log) ≡ payload_len entry.what + payload_bytes log = sum_by-cons (λ (e : Entry). payload_len e.what) entry log in
    omega (arith, length-append (log_entry_spelling entry) (flat_map log_entry_spelling log), entry_bound entry, entries_bound log)

log_bound : (log : List Entry) → length (list_of log_entry_spelling log) ≤ 4 + (21 * length log + payload_bytes log)
log_bound log = omega (arith, length-append (to_be_bytes w32 (length log)) (flat_map log_entry_spelling log), entries_bound log)

-- ---- all of it

kept_bound : (kept : Option Kept) → length (kept_spelling kept) ≤ 13 + kept_len kept
unfolding kept_spelling
kept_bound None = omega arith
kept_bound (Some kept) = omega (arith, length-append (to_be_bytes w64 kept.time) (blob kept.bytes), length-append (to_be_bytes w32 (length kept.bytes)) kept.bytes)

pub alone_bound : (s : PlainStored) → length (log_spelling s.log) ≤ room_for s
alone_bound s = omega (arith, length-append (codes "TEALOG01") (list_of log_entry_spelling s.log), log_bound s.log)

pub full_bound : (s : PlainStored) → length (full_spelling s) ≤ room_for s
full_bound s =
    let entries : List ℕ = list_of log_entry_spelling s.log in
    let kept : List ℕ = kept_spelling s.kept in
    omega (arith, length-append (codes "TEALOG02") (to_be_bytes w64 s.horizon ++ (kept ++ entries)), length-append (to_be_bytes w64 s.horizon) (kept ++ entries), length-append kept entries, kept_bound s.kept, log_bound s.log)

bound_if : (b : Bool) (s : PlainStored) → length (cond b (log_spelling s.log) (full_spelling s)) ≤ room_for s
bound_if true s = alone_bound s
bound_if false s = full_bound s

pub stored_bound : (s : PlainStored) → length (stored_spelling s) ≤ room_for s
unfolding stored_spelling
stored_bound s = bound_if (is_log_alone s) s

-- ---- the most

kept_short : (horizon : ℕ) (kept : Option Kept) → MayBeKept horizon kept → kept_len kept ≤ most_snapshot
kept_short horizon None may = omega arith
kept_short horizon (Some kept) may = may.1

pub room_most : (s : PlainStored) → IsStored s → room_for s ≤ most_stored
room_most s is = omega (arith, kept_short s.horizon s.kept is.kept, length-legal s.log is.legal, payload_bytes-legal s.log is.legal)

pub stored_most : (s : PlainStored) → IsStored s → length (stored_spelling s) ≤ most_stored
stored_most s is = omega (arith, stored_bound s, room_most s is)
