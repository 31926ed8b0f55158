-- What a journal leaves for a session that goes on.
use Rattle.std.specs.Prelude.{◌≡◌, ℕ, ◌+◌, max, Bool, true, ◌&&◌, nat_lt, nat_le, List, [], ◌∷◌, length, Some, None, if◌then◌else◌}
use Rattle.tea_base.specs.Limits.{time_limit, most_snapshot}
use Rattle.tea_base.specs.Readings.{here_count}
use Rattle.byte_fields.specs.Fields.{◌>>=◌, whole}
use Rattle.session_log.specs.LogState.{next_entry, with_next}
use Rattle.session_log.specs.Legality.{may_follow}
use Rattle.session_log.specs.Stored.{PlainStored, plain_of}
use Rattle.session_journal.specs.declared.change.Change.{Change}
use Rattle.session_journal.specs.declared.change.Change.TheVariants.{Came, Reached, Kept}
use Rattle.session_journal.specs.Changes.{IsTypedChange, change_at}
use Rattle.session_journal.specs.Frames.{Step}

-- a session that has just been founded
abbrev pub founded : PlainStored
founded = plain_of [] 0 None

-- the horizon after a change
abbrev pub horizon_after : ℕ → Change → ℕ
horizon_after horizon (Came time view what) = max horizon time
horizon_after horizon (Reached time) = time
horizon_after horizon (Kept time bytes) = horizon

abbrev pub after_change : PlainStored → Change → PlainStored
after_change s (Came time view what) = plain_of (with_next s.log time view what) (max s.horizon time) s.kept
after_change s (Reached time) = plain_of s.log time s.kept
after_change s (Kept time bytes) = plain_of s.log s.horizon (Some (record { time = time; bytes = bytes }))

abbrev pub journal_after : PlainStored → List Change → PlainStored
journal_after s [] = s
journal_after s (change ∷ rest) = journal_after (after_change s change) rest

-- an entry may follow those before it, a horizon rises, and a snapshot is of no later time
abbrev pub may_add : PlainStored → Change → Bool
may_add s (Came time view what) = may_follow s.log (next_entry s.log time view what)
may_add s (Reached time) = nat_lt s.horizon time
may_add s (Kept time bytes) = nat_le time s.horizon && nat_le (length bytes) most_snapshot

-- there is time left for the Exit of each view that is here
abbrev pub has_room : PlainStored → Bool
has_room s = nat_lt (s.horizon + here_count s.log) time_limit

-- a change may come where it may be added, and a session may still be opened after it
abbrev pub may_come : PlainStored → Change → Bool
may_come s change = may_add s change && has_room (after_change s change)

-- each may come after those before it
abbrev pub GoesOn : PlainStored → List Change → Type 0
GoesOn s [] = Unit {0}
GoesOn s (change ∷ rest) = (IsTypedChange change × (may_come s change ≡ true)) × GoesOn (after_change s change) rest

-- what the body of a record makes of a session
unfoldable pub body_step : Step PlainStored
body_step s body =
    whole change_at body >>= λ change. if may_come s change then Some (after_change s change) else None
