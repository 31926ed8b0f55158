-- A replica and its newest connection, between two calls.
use Rattle.std.specs.Prelude.{◌≡◌, ◌⊎◌, ◌≤◌, ◌<◌, ℕ, true, length}
use Rattle.tea_base.specs.Readings.{count_until}
use Rattle.reflector_core.specs.PlainSession.{PlainSession}
use Rattle.wire_frames.specs.Served.{Place}
use Rattle.join_sync.specs.declared.cursor.Cursor.{Cursor}
use Rattle.join_sync.specs.Standing.{StandsAt}
use Rattle.model_solved.specs.Founding.{founding_of, IsFounding}
use Rattle.replica_plain.specs.Following.{FollowsLog}
use Rattle.replica.specs.RealWorlds.{is_at_rest}
use Rattle.replica.specs.View.{ReplicaView, worlds_of}

-- it has taken the whole log and a tick of its horizon
pub record IsCaughtUp (s : PlainSession) (r : ReplicaView) : Type 0 where
  pub rests : is_at_rest r.plain.world ≡ true
  pub seen : r.plain.seen ≡ length s.log
  pub time : r.plain.world.time ≡ s.horizon

-- The replica follows the log, and has taken all that its connection was sent, up to one place of the log. Unless it is caught up, a tick
-- of the horizon is still to be sent.
pub record ReplicaWorks (s : PlainSession) (r : ReplicaView) (cursor : Cursor) : Type 0 where
  pub program : IsFounding (founding_of r.program)
  pub follows : FollowsLog (worlds_of r) s.log r.plain
  pub synced : r.plain.synced ≡ true
  pub within : r.plain.world.time ≤ s.horizon
  pub place : Place
  pub placed : place.seen ≡ r.plain.seen
  pub ahead : (time : ℕ) → place.least ≤ time → count_until s.log time ≡ place.seen → r.plain.world.time ≤ time
  pub sent : StandsAt s place cursor
  pub ticked : cursor.last_tick ≤ s.horizon
  pub next : (cursor.last_tick < s.horizon) ⊎ IsCaughtUp s r
