-- A session as it is stored, and who is here in one that goes on.
use Rattle.std.specs.Prelude.{ℕ, ◌≡◌, ◌<◌, true, false, List, Option, Some, None}
use Rattle.tea_base.specs.declared.entry.Entry.{Entry}
use Rattle.tea_base.specs.Readings.{current, is_here}
use Rattle.session_log.specs.declared.stored.Kept.{Kept}
use Rattle.session_log.specs.Stored.{PlainStored, plain_of}
use Rattle.wire_frames.specs.declared.start.Base.{Base}
use Rattle.reflector_core.specs.PlainSession.{PlainSession}

abbrev pub base_of : Option Kept → Option Base
base_of None = None
base_of (Some kept) = Some (record { time = kept.time; bytes = kept.bytes })

abbrev pub kept_of : Option Base → Option Kept
kept_of None = None
kept_of (Some base) = Some (record { time = base.time; bytes = base.bytes })

-- the session that goes on from what is stored
abbrev pub session_of : PlainStored → PlainSession
session_of s = record { log = s.log; horizon = s.horizon; kept = base_of s.kept }

-- what is stored of a session: all that it is
abbrev pub stored_of : PlainSession → PlainStored
stored_of s = plain_of s.log s.horizon (kept_of s.kept)

-- the least view above this that is here, with the seq of its Join; none is here where there is none
abbrev pub IsNextHere : List Entry → ℕ → Option (ℕ × ℕ) → Type 0
IsNextHere log above None = (view : ℕ) → above < view → is_here log view ≡ false
IsNextHere log above (Some next) =
    (above < next.0) × (is_here log next.0 ≡ true) × (next.1 ≡ current log next.0)
    × ((other : ℕ) → above < other → other < next.0 → is_here log other ≡ false)
