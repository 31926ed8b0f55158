use Rattle.std.proofs.Common.{arith, refl}
use Rattle.live_view.proofs.Queues.{one_left_if, well}
use Rattle.live_view.proofs.queue.Queue.settle.Goals as goal

pub returns-clause-left : goal.returns-clause-left
returns-clause-left c = one_left_if c.push.result c.push.new.items.items c.clear.new.self.items c.push.ensures.ok c.clear.ensures.items

pub returns-clause-within : goal.returns-clause-within
returns-clause-within c = well c.push.result (omega arith)

pub returns-clause-counted : goal.returns-clause-counted
returns-clause-counted c = well c.push.result refl
