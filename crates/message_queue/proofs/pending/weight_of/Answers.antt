use Rattle.std.proofs.Common.{arith}
use Rattle.message_queue.proofs.Messages.{sum_bound}
use Rattle.message_queue.proofs.pending.weight_of.Goals as goal

pub overflow_add-sum : goal.overflow_add-sum
overflow_add-sum c =
    omega (arith, sum_bound c.args.messages.now c.loop-message.message-index c.loop-message.sum c.message-item.result c.message-item.result c.loop-message-test.true c.message-item.is c.loop-message.invariant.0 c.requires.light c.requires.few, c.message_weight_of-sum.ensures)
