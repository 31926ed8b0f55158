use Rattle.std.proofs.Common.{Err, ap}
use Rattle.session_journal.specs.Keeper.{lease, reached_to}
use Rattle.session_keeper.proofs.KeepingLaws.{full_for_tick, full_still, lease_has_room, reached_far, reached_session}
use Rattle.session_keeper.proofs.keeper.JournalKeeperKeeper.keep_tick.Goals as goal

pub returns-in-Ok-clause-written : goal.returns-in-Ok-clause-written
returns-in-Ok-clause-written g c = λ held is sound room.
    let far = reached_far is.state held c.args.time is.same in
    record {
      horizon = (reached_to c.args.time is.state).horizon;
      holds = record {
        state = reached_to c.args.time is.state;
        is_written = c.in-Ok.ensures.written c.args.self.now.id.0 is.state is.is_written (lease_has_room is.state held c.args.time is.same sound room);
        same = reached_session is.state held c.args.time is.same;
      };
      reaches = far.0;
      within = far.1;
    }

pub fill-requires-clause-nearly : goal.fill-requires-clause-nearly
fill-requires-clause-nearly g c =
    let full = c.in-Err-Full.ensures.full (ap (λ f. Err f) c.in-Err-Full.field-0-is) in
    full_still _ _ full.1 (full_for_tick c.args.self.now.journal.len (lease c.args.time) full.0)
