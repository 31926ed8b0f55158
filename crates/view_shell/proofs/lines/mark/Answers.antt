use Rattle.std.proofs.Common.{◌≡◌, ◌∙◌}
use Rattle.view_shell.specs.ViewText.{mark_line}
use Rattle.view_shell.proofs.lines.mark.Goals as goal

pub returns-clause-printed : goal.returns-clause-printed
returns-clause-printed g c address lines =
    let text : c.as_str.result.now ≡ mark_line c.args.word.now = c.as_str.ensures.value ∙ c.in_ok-text.ensures in
    rw text at c.finish.ensures.ok address lines

pub returns-clause-err : goal.returns-clause-err
returns-clause-err g c address lines =
    let text : c.as_str.result.now ≡ mark_line c.args.word.now = c.as_str.ensures.value ∙ c.in_ok-text.ensures in
    rw text at c.finish.ensures.err address lines
