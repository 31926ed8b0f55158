-- Reading a stored session.
use Rattle.std.specs.Prelude.{ℕ, ◌+◌, Bool, true, not, ◌&&◌, ◌==◌, nat_lt, nat_le, if◌then◌else◌, List, length, codes, Option, Some, None}
use Rattle.std.specs.Int.{w64}
use Rattle.std.specs.Str.{bytes_eq}
use Rattle.tea_base.specs.declared.entry.Entry.{Entry}
use Rattle.tea_base.specs.Limits.{time_limit, most_snapshot}
use Rattle.tea_base.specs.Readings.{here_count, last_time}
use Rattle.byte_fields.specs.Fields.{Decoder, byte_at, bytes_at, number_at, blob_at, paired_at, headed_at, made_at, tested_at, nothing_at, never_at, list_at}
use Rattle.session_log.specs.Reading.{entry_after}
use Rattle.session_log.specs.Stored.{PlainStored, plain_of, is_log_alone}
use Rattle.session_log.specs.declared.stored.Kept.{Kept}

-- ---- what is kept

abbrev pub kept_of_mark : ℕ → Decoder (Option Kept)
kept_of_mark mark bytes =
    if mark == 0 then nothing_at None bytes
    else if mark == 1 then made_at (λ p. Some (record { time = p.0; bytes = p.1 }))
    (paired_at (number_at w64) blob_at) bytes
    else never_at bytes

unfoldable pub kept_at : Decoder (Option Kept)
kept_at = headed_at byte_at kept_of_mark

-- ---- what is stored

abbrev pub may_be_kept : ℕ → Option Kept → Bool
may_be_kept horizon None = true
may_be_kept horizon (Some kept) = nat_le kept.time horizon && nat_le (length kept.bytes) most_snapshot

-- of a legal log: the three are a stored session
abbrev pub may_be_stored : PlainStored → Bool
may_be_stored s =
    nat_le (last_time s.log) s.horizon
    && (nat_lt (s.horizon + here_count s.log) time_limit && may_be_kept s.horizon s.kept)

-- a log that tells all
abbrev pub alone : List Entry → PlainStored
alone log = plain_of log (last_time log) None

unfoldable pub alone_at : Decoder PlainStored
alone_at = tested_at may_be_stored (made_at alone (list_at entry_after))

-- the horizon and what is kept, where the log does not tell all
unfoldable pub told_at : Decoder PlainStored
told_at =
    tested_at (λ s. not (is_log_alone s) && may_be_stored s)
    (made_at (λ p. plain_of p.1.1 p.0 p.1.0) (paired_at (number_at w64) (paired_at kept_at (list_at entry_after))))

abbrev pub stored_of_mark : List ℕ → Decoder PlainStored
stored_of_mark mark bytes =
    if bytes_eq mark (codes "TEALOG01") then alone_at bytes
    else if bytes_eq mark (codes "TEALOG02") then told_at bytes
    else never_at bytes

unfoldable pub stored_at : Decoder PlainStored
stored_at = headed_at (bytes_at 8) stored_of_mark
