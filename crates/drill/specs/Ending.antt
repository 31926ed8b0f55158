-- How a replica comes to the end of a closed log.
use Rattle.std.specs.Prelude.{◌≡◌, ◌≤◌, ℕ, ℤ, pos, true, false, List, [], ◌∷◌, length}
use Rattle.tea_base.specs.Readings.{last_number}
use Rattle.reflector_core.specs.PlainSession.{PlainSession}
use Rattle.model_solved.specs.Founding.{Founding, founding_of, IsFounding}
use Rattle.model_value.specs.Plain.{PlainValue, int}
use Rattle.world_plain.specs.World.{ObjectRecord, WorldRecord}
use Rattle.world.specs.Worlds.{replay}
use Rattle.replica_plain.specs.Following.{FollowsLog}
use Rattle.replica_plain.specs.PlainReplica.{published_count}
use Rattle.replica.specs.View.{ReplicaView, worlds_of}

-- it follows the log, has taken its Sync, and has not come past the horizon
pub record Catches (s : PlainSession) (r : ReplicaView) : Type 0 where
  pub program : IsFounding (founding_of r.program)
  pub follows : FollowsLog (worlds_of r) s.log r.plain
  pub synced : r.plain.synced ≡ true
  pub within : r.plain.world.time ≤ s.horizon

-- a replica of this program and session, which has taken its Sync and all entries, and whose world is the replay of the log to the horizon
pub record HasReplay (s : PlainSession) (founding : Founding) (id : List ℕ) (r : ReplicaView) : Type 0 where
  pub program : founding_of r.program ≡ founding
  pub session : r.id ≡ id
  pub whole : r.plain.broken ≡ false
  pub synced : r.plain.synced ≡ true
  pub seen : r.plain.seen ≡ length s.log
  pub world : r.plain.world ≡ (replay founding id s.log s.horizon).world

-- the log has at least the events of its view that were acknowledged, and no more than it published
pub record IsCountedBy (s : PlainSession) (r : ReplicaView) : Type 0 where
  pub program : IsFounding (founding_of r.program)
  pub least : r.plain.acknowledged ≤ last_number s.log r.plain.view
  pub most : last_number s.log r.plain.view ≤ published_count r.plain

-- of the same program, session and view
pub record IsOfView (old new : ReplicaView) : Type 0 where
  pub program : new.program ≡ old.program
  pub id : new.id ≡ old.id
  pub view : new.plain.view ≡ old.plain.view

-- ---- the field `total` of Root, which is the first field of the first object

-- the number of an Int, and 0 of another value
abbrev pub int_or_zero : PlainValue → ℤ
int_or_zero (int number) = number
int_or_zero other = pos 0

abbrev pub fields_total : List PlainValue → ℤ
fields_total [] = pos 0
fields_total (value ∷ rest) = int_or_zero value

abbrev pub objects_total : List ObjectRecord → ℤ
objects_total [] = pos 0
objects_total (root ∷ rest) = fields_total root.fields

abbrev pub root_total : WorldRecord → ℤ
root_total w = objects_total w.objects
