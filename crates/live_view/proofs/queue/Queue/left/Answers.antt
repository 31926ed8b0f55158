use Rattle.std.proofs.Common.{◌-◌, List, length, drop, take, ap, ◌∙◌}
use Rattle.view_script.specs.declared.line.ViewLine.{ViewLine}
use Rattle.view_shell.proofs.Visits.{lines_left}
use Rattle.live_view.proofs.queue.Queue.left.Goals as goal

pub returns : goal.returns
returns c =
    let queue = c.args.self.now in
    ap (λ (ls : List ViewLine). take (length ls - queue.begun) (drop queue.begun ls)) c.deref.ensures.value ∙ lines_left queue.lines.items queue.begun
