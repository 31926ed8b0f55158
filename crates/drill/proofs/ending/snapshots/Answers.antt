use Rattle.drill.proofs.Reporting.{is_snapshot, one_more_at}
use Rattle.drill.proofs.ending.snapshots.Goals as goal

pub loop-replica-preserved : goal.loop-replica-preserved
loop-replica-preserved c =
    one_more_at c.args.replicas.now c.as_slice-replica-items.result.now c.loop-replica.snapshots.items c.push.new.self.items c.loop-replica.replica-index c.replica-item.result c.in-Ok.snapshot
    c.as_slice-replica-items.ensures c.loop-replica-test.true c.replica-item.is c.in_ok-push-in-Ok.ensures.items c.loop-replica.invariant (is_snapshot c.replica-item.result c.in-Ok.snapshot c.in-Ok.ensures)
