use Rattle.std.proofs.Common.{[], subst}
use Rattle.std.specs.Prelude.{IfErr, OnOk}
use Rattle.run_steps.specs.Outside.{PrintsText, Well, output_tells}
use Rattle.view_shell.specs.Phases.{Viewer, shown_text}
use Rattle.view_shell.specs.ViewRun.{StopsPrinting}
use Rattle.view_shell.proofs.Readiness.{viewer_at_rest}
use Rattle.view_shell.proofs.lines.rest_and_tell.Goals as goal

pub returns-clause-printed : goal.returns-clause-printed
returns-clause-printed g c address lines =
    let out = output_tells g.W.Sink in
    subst (λ (u : Viewer). OnOk c.finish.result (PrintsText out Well (shown_text u []) c.args.out.now c.finish.new.out))
    (viewer_at_rest address lines c.args.watcher.now c.rest.new.watcher c.rest.ensures.kept c.in_ok-rest.ensures.rests) (c.finish.ensures.ok address lines)

pub returns-clause-err : goal.returns-clause-err
returns-clause-err g c address lines =
    let out = output_tells g.W.Sink in
    subst (λ (u : Viewer). IfErr c.finish.result (λ end. StopsPrinting out end (shown_text u []) c.args.out.now c.finish.new.out))
    (viewer_at_rest address lines c.args.watcher.now c.rest.new.watcher c.rest.ensures.kept c.in_ok-rest.ensures.rests) (c.finish.ensures.err address lines)
