use Rattle.std.proofs.Common.{refl}
use Rattle.live_view.proofs.Queues.{empty_left, empty_lines}
use Rattle.live_view.proofs.queue.Queue.clear.Goals as goal

pub returns-clause-left : goal.returns-clause-left
returns-clause-left c = empty_left c.clear.new.self.items c.clear.ensures.items

pub returns-clause-lines : goal.returns-clause-lines
returns-clause-lines c published few = empty_lines published _ c.clear.ensures.items refl refl few
