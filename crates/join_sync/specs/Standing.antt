-- Where a connection stands in the log of its session.
use Rattle.std.specs.Prelude.{◌≡◌, ℕ, ◌≤◌, ◌<◌, length}
use Rattle.reflector_core.specs.PlainSession.{PlainSession}
use Rattle.wire_frames.specs.Served.{Place}
use Rattle.join_sync.specs.declared.cursor.Cursor.{Cursor}

-- what was sent leaves the reading of the log at this place: the entries up to the cursor were received, and a tick that is sent from now
-- on is late enough
pub record StandsAt (s : PlainSession) (place : Place) (cursor : Cursor) : Type 0 where
  pub within : cursor.after ≤ length s.log
  pub seen : place.seen ≡ cursor.after
  pub least : (time : ℕ) → s.horizon ≤ time → cursor.last_tick < time → place.least ≤ time
