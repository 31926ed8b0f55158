use Rattle.session_keeper.proofs.KeepingLaws.{cause_then, held_then, snapshot_then}
use Rattle.session_keeper.proofs.keeper.JournalKeeperKeeper.keep_snapshot.Goals as goal

pub returns-clause-written : goal.returns-clause-written
returns-clause-written g c = snapshot_then c.settle.result _ _ _ c.args.time c.args.bytes.now c.in_ok-put_snapshot.ensures.written c.settle.ensures.written

pub returns-clause-held : goal.returns-clause-held
returns-clause-held g c = held_then c.settle.result _ _ _ c.in_ok-put_snapshot.ensures.held c.settle.ensures.held

pub returns-clause-cause : goal.returns-clause-cause
returns-clause-cause g c = cause_then c.settle.result _ _ _ _ _ _ c.in_ok-put_snapshot.ensures.cause.kept c.in_ok-put_snapshot.ensures.cause.shuts c.settle.ensures.cause
