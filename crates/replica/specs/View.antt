-- What contracts see of a replica.
use Rattle.std.specs.Prelude.{◌≡◌, ℕ, true, false, List, []}
use Rattle.model_solved.specs.Founding.{CheckedView, founding_of, IsFounding}
use Rattle.world_plain.specs.Messages.{PlainOutgoing}
use Rattle.world_plain.specs.World.{WorldRecord}
use Rattle.world.specs.declared.fault.WorldFault.{WorldFault}
use Rattle.world.specs.declared.fault.WorldFault.TheVariants as fault
use Rattle.replica_plain.specs.declared.fault.ReplicaFault.{ReplicaFault}
use Rattle.replica_plain.specs.declared.fault.ReplicaFault.TheVariants as cause
use Rattle.replica_plain.specs.Worlds.{Worlds}
use Rattle.replica_plain.specs.PlainReplica.{PlainReplica, AreCounted, new_replica}
use Rattle.replica.specs.RealWorlds.{worlds}
use Rattle.replica.specs.SessionWorlds.{SessionWorldView}

-- the replica of a view, and of which program and session its world is
pub record ReplicaView : Type 0 where
  pub program : CheckedView
  pub id : List ℕ
  pub plain : PlainReplica WorldRecord PlainOutgoing

-- the worlds of its program and its session
abbrev pub worlds_of : ReplicaView → Worlds WorldRecord PlainOutgoing
worlds_of r = worlds (founding_of r.program) r.id

-- another replica of the same program and session
abbrev pub with_plain : ReplicaView → PlainReplica WorldRecord PlainOutgoing → ReplicaView
with_plain r plain = record r { plain = plain }

-- of the same program and session
abbrev pub KeepsSession : ReplicaView → ReplicaView → Type 0
KeepsSession old new = new ≡ with_plain old new.plain

-- the world and what its models published, as the rows of a plain replica name them
abbrev pub world_part : ReplicaView → SessionWorldView
world_part r = record {
  program = r.program;
  id = r.id;
  world = r.plain.world;
  out = r.plain.out;
  broken = r.plain.broken;
}

-- What is so of every replica: a session can be founded from its program; its world is a valid one of the program and the session where it is
-- not broken, and nothing is published where it is; and how its numbers stand.
pub record IsSoundReplica (r : ReplicaView) : Type 0 where
  pub program : IsFounding (founding_of r.program)
  pub valid : r.plain.broken ≡ false → (worlds_of r).valid r.plain.world ≡ true
  pub quiet : r.plain.broken ≡ true → r.plain.out ≡ []
  pub numbers : AreCounted r.plain

-- a view that has the first world of a session, has seen nothing and has not joined
abbrev pub founded_replica : CheckedView → List ℕ → ℕ → ReplicaView
founded_replica program id view =
    record { program = program; id = id; plain = new_replica (worlds (founding_of program) id) view }

-- what a replica says of a fault of its world
abbrev pub cause_of : WorldFault → ReplicaFault
cause_of fault.Broken = cause.Broken
cause_of (fault.Back time) = cause.Back time
cause_of fault.WantOfMemory = cause.WantOfMemory
