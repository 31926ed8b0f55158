use Rattle.std.proofs.Common.{inr, ap, arith}
use Rattle.session_journal.specs.declared.change.Change.TheVariants.{Kept}
use Rattle.session_journal.specs.State.{after_change}
use Rattle.reflector_core.specs.PlainSession.{PlainSession}
use Rattle.reflector_core.specs.Keeping.{with_snapshot}
use Rattle.session_keeper.proofs.KeepingLaws.{snapshot_may_come}
use Rattle.session_keeper.proofs.keeper.JournalKeeper.put_snapshot.Goals as goal

pub returns-in-Ok-clause-written : goal.returns-in-Ok-clause-written
returns-in-Ok-clause-written g c = λ held is sound past.
    inr (record {
      state = after_change is.state (Kept c.args.time c.args.bytes.now);
      is_written = c.in-Ok.ensures.written c.args.self.now.id.0 is.state is.is_written (c.ranges.time.fits, omega (arith, c.requires.short)) (snapshot_may_come is.state held c.args.time c.args.bytes.now is.same sound past c.requires.short);
      same = ap (λ (t : PlainSession). with_snapshot t c.args.time c.args.bytes.now) is.same;
    })
