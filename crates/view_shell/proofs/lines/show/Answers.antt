use Rattle.std.proofs.Common.{◌≡◌, ◌∙◌, List, ℕ, ap, subst}
use Rattle.std.specs.Prelude.{IfErr, OnOk}
use Rattle.run_steps.specs.Outside.{PrintsText, Well, output_tells}
use Rattle.view_shell.specs.Phases.{Viewer, after_rest, shown_text, world_text}
use Rattle.view_shell.specs.ViewRun.{StopsPrinting}
use Rattle.view_shell.specs.Viewers.{viewer}
use Rattle.view_shell.proofs.Readiness.{viewer_at_rest}
use Rattle.view_shell.proofs.lines.show.Goals as goal

pub returns-clause-printed : goal.returns-clause-printed
returns-clause-printed g c address lines =
    let out = output_tells g.W.Sink in
    let v = after_rest (viewer address c.args.watcher.now lines) in
    let same : viewer address c.rest.new.watcher lines ≡ v = viewer_at_rest address lines c.args.watcher.now c.rest.new.watcher c.rest.ensures.kept c.in_ok-rest.ensures.rests in
    let text : c.as_str.result.now ≡ world_text v = c.as_str.ensures.value ∙ c.in_ok-text.ensures ∙ ap world_text same in
    subst (λ (t : List ℕ). OnOk c.finish.result (PrintsText out Well (shown_text v t) c.args.out.now c.finish.new.out)) text
    (subst (λ (u : Viewer). OnOk c.finish.result (PrintsText out Well (shown_text u c.as_str.result.now) c.args.out.now c.finish.new.out)) same (c.finish.ensures.ok address lines))

pub returns-clause-err : goal.returns-clause-err
returns-clause-err g c address lines =
    let out = output_tells g.W.Sink in
    let v = after_rest (viewer address c.args.watcher.now lines) in
    let same : viewer address c.rest.new.watcher lines ≡ v = viewer_at_rest address lines c.args.watcher.now c.rest.new.watcher c.rest.ensures.kept c.in_ok-rest.ensures.rests in
    let text : c.as_str.result.now ≡ world_text v = c.as_str.ensures.value ∙ c.in_ok-text.ensures ∙ ap world_text same in
    subst (λ (t : List ℕ). IfErr c.finish.result (λ end. StopsPrinting out end (shown_text v t) c.args.out.now c.finish.new.out)) text
    (subst (λ (u : Viewer). IfErr c.finish.result (λ end. StopsPrinting out end (shown_text u c.as_str.result.now) c.args.out.now c.finish.new.out)) same (c.finish.ensures.err address lines))
