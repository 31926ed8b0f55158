use Rattle.std.proofs.Common.{◌≡◌, map, take}
use Rattle.croquet.specs.Calls.{snapshot_of}
use Rattle.croquet.proofs.drilling.snapshots.Given as goal

-- the snapshots of the replicas so far
abbrev pub invariant-loop-replica : goal.invariant-loop-replica
invariant-loop-replica l = l.snapshots ≡ map snapshot_of (take l.replica-index l.replica-items)
