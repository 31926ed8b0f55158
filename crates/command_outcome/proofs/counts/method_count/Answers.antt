use Rattle.std.proofs.Common.{◌<◌, length, arith}
use Rattle.model_tree.specs.TreeView.{program_tree}
use Rattle.command_outcome.proofs.CheckLaws.{method_count-most, method_count-next}
use Rattle.command_outcome.proofs.counts.method_count.Goals as goal

pub overflow_add-count : goal.overflow_add-count
overflow_add-count c =
    let within : c.loop-class.class-index < length c.args.classes.now = omega arith in
    let next = method_count-next c.args.classes.now c.loop-class.class-index c.class-item.result within in
    let item = rw (← c.class-item.is) at next in
    let most = method_count-most (program_tree c.args.classes.now) c.requires in
    let left = c.loop-class.invariant in
    omega (arith, item, most, left, c.len.ensures)
