-- A Sync with the world that a base spells.
use Rattle.std.proofs.Common.{◌≡◌, ◌≢◌, ℕ, true, false, [], Option, Some, refl, arith}
use Rattle.std.specs.Prelude.{◌==◌}
use Rattle.std.proofs.lemmas.Bool.Decides.{nat_tests}
use Rattle.world_plain.specs.World.{WorldRecord}
use Rattle.replica_plain.specs.declared.fault.ReplicaFault.TheVariants.{BadBase}
use Rattle.replica_plain.specs.Taking.{takes, faults, synced_with, begins_with_world}
use Rattle.replica.specs.View.{ReplicaView, worlds_of}

pub own-time : (r : ReplicaView) (from time : ℕ) (world : WorldRecord) (read : Option WorldRecord) → read ≡ Some world → world.time ≡ time
    → begins_with_world (worlds_of r) r.plain from time read ≡ takes (synced_with r.plain world [] from (Some time))
own-time r from time world read is timed =
    let at : (world.time == time) ≡ true = grind (arith, nat_tests) in
    rw (is, at) refl

pub other-time : (r : ReplicaView) (from time : ℕ) (world : WorldRecord) (read : Option WorldRecord) → read ≡ Some world → world.time ≢ time
    → begins_with_world (worlds_of r) r.plain from time read ≡ faults r.plain BadBase
other-time r from time world read is timed =
    let at : (world.time == time) ≡ false = grind (arith, nat_tests, timed) in
    rw (is, at) refl
