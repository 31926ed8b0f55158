use Rattle.std.proofs.Common.{Some, sym, ap}
use Rattle.live_view.specs.declared.input.LiveInput.{LiveInput}
use Rattle.live_shell.specs.LiveRun.{lines_behind}
use Rattle.live_shell.proofs.run.lines_behind.Goals as goal

pub returns-in-Line : goal.returns-in-Line
returns-in-Line c = ap (λ (t : LiveInput). lines_behind c.args.lines (Some t)) (sym c.in-Line.is)

pub returns-in-Closed : goal.returns-in-Closed
returns-in-Closed c = ap (λ (t : LiveInput). lines_behind c.args.lines (Some t)) (sym c.in-Closed.is)

pub returns-in-Linked : goal.returns-in-Linked
returns-in-Linked c = ap (λ (t : LiveInput). lines_behind c.args.lines (Some t)) (sym c.in-Linked.is)

pub returns-in-LinkFailed : goal.returns-in-LinkFailed
returns-in-LinkFailed c = ap (λ (t : LiveInput). lines_behind c.args.lines (Some t)) (sym c.in-LinkFailed.is)

pub returns-in-Says : goal.returns-in-Says
returns-in-Says c = ap (λ (t : LiveInput). lines_behind c.args.lines (Some t)) (sym c.in-Says.is)
