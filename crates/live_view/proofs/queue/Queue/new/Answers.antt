use Rattle.std.proofs.Common.{refl, arith}
use Rattle.live_view.proofs.Queues.{empty_left, empty_lines}
use Rattle.live_view.proofs.queue.Queue.new.Goals as goal

pub returns-clause-left : goal.returns-clause-left
returns-clause-left c = empty_left c.new.result.items c.new.ensures.items

pub returns-clause-lines : goal.returns-clause-lines
returns-clause-lines c = empty_lines 0 _ c.new.ensures.items refl refl (omega arith)
