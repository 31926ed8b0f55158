use Rattle.drill.proofs.SyncFaults.{sync_fault}
use Rattle.drill.proofs.taking.take_sync.Goals as goal

pub unreachable-requires : goal.unreachable-requires
unreachable-requires c = sync_fault c.args.replica.now c.args.frame.now _ c.requires.awaited c.requires.fine (rw c.in-Err-Unasked.field-0-is at c.in-Err-Unasked.ensures.taken).0

pub unreachable-requires-in-Err-Back : goal.unreachable-requires-in-Err-Back
unreachable-requires-in-Err-Back c = sync_fault c.args.replica.now c.args.frame.now _ c.requires.awaited c.requires.fine (rw c.in-Err-Back.field-0-is at c.in-Err-Back.ensures.taken).0

pub unreachable-requires-in-Err-BadBase : goal.unreachable-requires-in-Err-BadBase
unreachable-requires-in-Err-BadBase c = sync_fault c.args.replica.now c.args.frame.now _ c.requires.awaited c.requires.fine (rw c.in-Err-BadBase.field-0-is at c.in-Err-BadBase.ensures.taken).0

pub unreachable-requires-in-Err-Broken : goal.unreachable-requires-in-Err-Broken
unreachable-requires-in-Err-Broken c = sync_fault c.args.replica.now c.args.frame.now _ c.requires.awaited c.requires.fine (rw c.in-Err-Broken.field-0-is at c.in-Err-Broken.ensures.taken).0

pub unreachable-requires-in-Err-Refused : goal.unreachable-requires-in-Err-Refused
unreachable-requires-in-Err-Refused c = sync_fault c.args.replica.now c.args.frame.now _ c.requires.awaited c.requires.fine (rw c.in-Err-Refused.field-0-is at c.in-Err-Refused.ensures.taken).0
