use Rattle.std.proofs.Common.{arith, ap}
use Rattle.view_script.specs.PlainLine.{publish_count}
use Rattle.live_view.proofs.Queues.{begun_all, begun_on, empty_left}
use Rattle.live_view.proofs.queue.Queue.begin.Goals as goal

pub returns-then-begun-len-clause-left : goal.returns-then-begun-len-clause-left
returns-then-begun-len-clause-left c = begun_on c.args.self.now.lines.items c.args.self.now.begun c.args.count

pub returns-clause-left : goal.returns-clause-left
returns-clause-left c = begun_all c.args.self.now.lines.items c.clear.new.self.items c.args.self.now.begun c.args.count (omega arith) c.clear.ensures.items

pub returns-then-begun-len-clause-counted : goal.returns-then-begun-len-clause-counted
returns-then-begun-len-clause-counted c = let done = c.publishes_of-done.ensures in let counted = c.requires.counted in omega (arith, done, counted)

pub returns-clause-counted : goal.returns-clause-counted
returns-clause-counted c = let none = ap publish_count (empty_left c.clear.new.self.items c.clear.ensures.items) in omega (arith, none)
