use Rattle.std.proofs.Common.{◌≡◌, ◌∙◌}
use Rattle.view_shell.specs.Phases.{shown_text}
use Rattle.view_shell.specs.Viewers.{viewer}
use Rattle.view_shell.proofs.lines.finish.Goals as goal

pub returns-clause-ok : goal.returns-clause-ok
returns-clause-ok g c address lines =
    let text : c.as_bytes.result.now ≡ shown_text (viewer address c.args.watcher.now lines) c.args.text.now = c.as_bytes.ensures.value ∙ c.in_ok-shown.ensures.shown address lines in
    rw text at c.print.ensures.ok

pub returns-clause-err : goal.returns-clause-err
returns-clause-err g c address lines =
    let text : c.as_bytes.result.now ≡ shown_text (viewer address c.args.watcher.now lines) c.args.text.now = c.as_bytes.ensures.value ∙ c.in_ok-shown.ensures.shown address lines in
    rw text at c.print.ensures.err
