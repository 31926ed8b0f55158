use Rattle.std.proofs.Common.{◌+◌, ◌-◌, List, drop, take, refl, ap, ◌∙◌}
use Rattle.view_script.specs.PlainLine.{plain_lines, publish_count}
use Rattle.view_script.specs.declared.line.ViewLine.{ViewLine}
use Rattle.live_view.specs.View.{queue_left}
use Rattle.live_view.proofs.Queues.{count_begun}
use Rattle.live_view.proofs.queue.Queue.publishes_of.Goals as goal

pub returns : goal.returns
returns c =
    let queue = c.args.self.now in
    let n = queue.begun + c.args.count - queue.begun in
    count_begun queue.lines.items (take n (drop queue.begun queue.lines.items)) queue.begun c.args.count c.publish_count.result (publish_count (queue_left queue)) refl
    (c.publish_count.ensures ∙ ap (λ (ls : List ViewLine). publish_count (plain_lines (take n (drop queue.begun ls)))) c.deref.ensures.value) refl
