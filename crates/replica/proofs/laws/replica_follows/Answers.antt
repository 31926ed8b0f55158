use Rattle.std.proofs.Common.{refl}
use Rattle.model_solved.specs.Founding.{founding_of}
use Rattle.replica_plain.specs.Calls.{loses}
use Rattle.replica_plain.specs.PlainReplica.{new_replica}
use Rattle.replica_plain.proofs.SyncSteps.{first_world_follows, served_is_taken}
use Rattle.replica.specs.RealWorlds.{worlds}
use Rattle.replica.specs.View.{worlds_of}
use Rattle.replica.proofs.laws.replica_follows.Goals as goal

pub returns : goal.returns
returns c = record {
  founded = λ program id view log p legal.
      let m = worlds (founding_of program) id in
      first_world_follows m log (new_replica m view) (c.worlds_stand.ensures (founding_of program) id p) legal refl refl refl;
  lost = λ r log p legal. first_world_follows (worlds_of r) log (loses (worlds_of r) r.plain) (c.worlds_stand.ensures (founding_of r.program) r.id p) legal refl refl refl;
  follows = λ r log how given joined last from base calls rest p legal served.
      (served_is_taken (worlds_of r) log r.plain how given joined last from base calls rest (c.worlds_stand.ensures (founding_of r.program) r.id p) legal served).0;
  read = λ r log how given joined last from base calls rest p legal served.
      (served_is_taken (worlds_of r) log r.plain how given joined last from base calls rest (c.worlds_stand.ensures (founding_of r.program) r.id p) legal served).1;
}
