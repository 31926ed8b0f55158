use Rattle.std.proofs.Common.{ℕ, List, ap, ◌∙◌, subst}
use Rattle.session_lock.specs.Passes.{PassState, own_calls}
use Rattle.reflect_server.specs.Opening.{HasMadeLeaves, HasStopped}
use Rattle.reflect_server.proofs.OpeningLaws.{all_trusted, keeps_of, not_opened, opened_by, unopened_wants}
use Rattle.reflect_server.proofs.Reflections.{fails_when}
use Rattle.reflect_server.proofs.opening.open_session.Goals as goal

pub with_keeper-requires-clause-trusted : goal.with_keeper-requires-clause-trusted
with_keeper-requires-clause-trusted g c = all_trusted c.args.opening.session.plain.kept

pub returns-in-Ok-leave_all-clause-leaves : goal.returns-in-Ok-leave_all-clause-leaves
returns-in-Ok-leave_all-clause-leaves g c =
    let gives = g.C.Clock.gives c.args.clock.now in
    opened_by gives c.args.opening.session.plain c.in-Ok.views.items c.in-Ok-with_keeper.made.1 c.leave_all.new.pass (ap (λ (p : PassState). p.callers) c.in-Ok-with_keeper.ensures.pass) (ap own_calls c.in-Ok-with_keeper.ensures.pass)
    c.leave_all.ensures.kept c.in-Ok.ensures
    (subst (λ (l : List (ℕ × ℕ)). HasMadeLeaves gives l c.in-Ok-with_keeper.made.1 c.leave_all.new.pass) c.as_slice.ensures.value c.in-Ok-leave_all.ensures.left)

pub returns-in-Err-clause-unopened : goal.returns-in-Err-clause-unopened
returns-in-Err-clause-unopened g c =
    unopened_wants g.K.Keeper.holds g.K.Keeper.shut g.K.Keeper.faults (g.C.Clock.gives c.args.clock.now) c.args.opening.session.plain c.args.opening.keeper c.unmade.result.keeper c.unmade.result.fault
    c.requires.covered c.requires.unshut (c.unmade.ensures.0 ∙ c.in-Err.ensures.unused) c.unmade.ensures.1

pub returns-clause-unopened : goal.returns-clause-unopened
returns-clause-unopened g c =
    let begins = ap (λ (p : PassState). p.opening) c.leave_all.ensures.kept ∙ ap (λ (p : PassState). p.opening) c.in-Ok-with_keeper.ensures.pass in
    let keeps = keeps_of g.K.Keeper.holds g.K.Keeper.shut g.K.Keeper.faults _ _ _ _ c.leave_all.new.pass.seen c.close_opened.result c.in-Ok-with_keeper.ensures.faults begins c.close_opened.ensures.keeper in
    not_opened (g.C.Clock.gives c.args.clock.now) c.args.opening.session.plain _ c.in-Ok.views.items c.in-Ok-with_keeper.made.1 c.leave_all.new.pass (ap own_calls c.in-Ok-with_keeper.ensures.pass) c.in-Ok.ensures
    (subst (λ (l : List (ℕ × ℕ)). HasStopped (g.C.Clock.gives c.args.clock.now) l c.in-Ok-with_keeper.made.1 c.leave_all.new.pass) c.as_slice.ensures.value c.in-Err-leave_all.ensures.stopped)
    c.close_opened.ensures.calls keeps (fails_when g.K.Keeper.holds g.K.Keeper.shut g.K.Keeper.faults _ _ _ c.close_opened.result keeps)
