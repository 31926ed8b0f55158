-- What a drill reports of its replicas.
use Rattle.std.specs.Prelude.{◌≡◌, ℕ, false, List, length, Some}
use Rattle.model_solved.specs.Founding.{CheckedView, checked_tree, founding_of}
use Rattle.model_tree.specs.Tree.{ProgramTree}
use Rattle.world_plain.specs.World.{WorldRecord}
use Rattle.world.specs.Worlds.{field_counts, replay}
use Rattle.snapshot_codec.specs.Answer.{IsSnapshot}
use Rattle.reflector_core.specs.SessionState.{SessionState}
use Rattle.replica.specs.View.{ReplicaView, worlds_of}
use Rattle.drill.specs.declared.report.DrillReport.{DrillReport}
use Rattle.drill.specs.Ending.{root_total}

-- want of memory has not broken it
pub record IsWhole (r : ReplicaView) : Type 0 where
  pub whole : r.plain.broken ≡ false

-- the bytes are the snapshot of its world, and are read as that world
pub record IsSnapshotOf (r : ReplicaView) (bytes : List ℕ) : Type 0 where
  pub spelled : bytes ≡ (worlds_of r).snapshot r.plain.world
  pub snapshot : IsSnapshot (field_counts (checked_tree r.program)) r.id bytes r.plain.world
  pub read : (worlds_of r).unsnap bytes ≡ Some r.plain.world

-- the bytes are the snapshot of a world of the program and the session
pub record IsWorldSnapshot (program : ProgramTree) (id bytes : List ℕ) : Type 0 where
  pub world : WorldRecord
  pub snapshot : IsSnapshot (field_counts program) id bytes world

-- the session and the replicas are told as they are, the total is that of the replay of the log to the horizon, and all replicas agree
pub record Reports (session : SessionState) (program : CheckedView) (id : List ℕ) (replicas : List ReplicaView)
    (report : DrillReport) : Type 0 where
  pub same_session : report.session ≡ session
  pub same_replicas : report.replicas ≡ replicas
  pub total : report.total ≡ root_total (replay (founding_of program) id session.plain.log session.plain.horizon).world
  pub agree : report.agree ≡ length replicas
