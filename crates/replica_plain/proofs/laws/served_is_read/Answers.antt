use Rattle.std.proofs.Common.{refl}
use Rattle.replica_plain.specs.PlainReplica.{new_replica}
use Rattle.replica_plain.specs.Calls.{loses}
use Rattle.replica_plain.proofs.SyncSteps.{first_world_follows, served_is_taken}
use Rattle.replica_plain.proofs.laws.served_is_read.Goals as goal

pub returns : goal.returns
returns g c = record {
  founded = λ m log view laws legal. first_world_follows m log (new_replica m view) laws legal refl refl refl;
  lost = λ m log r laws legal. first_world_follows m log (loses m r) laws legal refl refl refl;
  follows = λ m log r how given joined last from base calls rest laws legal served. (served_is_taken m log r how given joined last from base calls rest laws legal served).0;
  read = λ m log r how given joined last from base calls rest laws legal served. (served_is_taken m log r how given joined last from base calls rest laws legal served).1;
}
