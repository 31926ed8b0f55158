use Rattle.std.proofs.Common.{Err, ap}
use Rattle.tea_base.specs.declared.entry.What.{What}
use Rattle.entry_fields.specs.Lent.{lent_what}
use Rattle.session_journal.specs.declared.change.Change.TheVariants.{Came}
use Rattle.session_journal.specs.State.{after_change}
use Rattle.reflector_core.specs.PlainSession.{PlainSession}
use Rattle.reflector_core.specs.Keeping.{with_entry}
use Rattle.session_keeper.proofs.KeepingLaws.{typed_what, entry_may_come, full_for_entry, full_still}
use Rattle.session_keeper.proofs.keeper.JournalKeeperKeeper.keep_entry.Goals as goal

pub returns-in-Ok-clause-written : goal.returns-in-Ok-clause-written
returns-in-Ok-clause-written g c = λ held is sound follows after.
    let recorded : What = lent_what c.args.what in
    let fits = typed_what held c.args.time c.args.view recorded sound follows c.requires in
    record {
      state = after_change is.state (Came c.args.time c.args.view recorded);
      is_written = c.in-Ok.ensures.written c.args.self.now.id.0 is.state is.is_written (c.ranges.time.fits, (c.ranges.view.fits, fits)) (entry_may_come is.state held c.args.time c.args.view recorded is.same follows after);
      same = ap (λ (t : PlainSession). with_entry t c.args.time c.args.view recorded) is.same;
    }

pub fill-requires-clause-nearly : goal.fill-requires-clause-nearly
fill-requires-clause-nearly g c =
    let full = c.in-Err-Full.ensures.full (ap (λ f. Err f) c.in-Err-Full.field-0-is) in
    full_still _ _ full.1 (full_for_entry c.args.self.now.journal.len c.args.time c.args.view (lent_what c.args.what) c.requires full.0)
