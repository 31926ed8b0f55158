use Rattle.std.proofs.Common.{take}
use Rattle.std.specs.List.{AllZip}
use Rattle.drill.specs.Reports.{IsSnapshotOf}
use Rattle.drill.proofs.ending.snapshots.Given as goal

-- those of the replicas so far
abbrev pub invariant-loop-replica : goal.invariant-loop-replica
invariant-loop-replica l = AllZip IsSnapshotOf (take l.replica-index l.replicas) l.snapshots.items
