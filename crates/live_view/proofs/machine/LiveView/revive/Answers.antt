use Rattle.std.proofs.Common.{arith, sym, ap}
use Rattle.live_view.specs.Live.{lines_kept}
use Rattle.live_view.specs.View.{left}
use Rattle.live_view.proofs.Queues.{lines_for, settled_left, settled_lines}
use Rattle.live_view.proofs.machine.LiveView.revive.Goals as goal

pub returns-then-self-clause-lines : goal.returns-then-self-clause-lines
returns-then-self-clause-lines c =
    let s = c.args.self.now in
    settled_lines c.settle.result s.watcher.published s.queue c.settle.new.self (lines_for _ s.watcher.published s.queue (omega arith) c.requires.live.lines) (c.requires.live.empty c.if-self.true) c.settle.ensures.left c.settle.ensures.within c.settle.ensures.counted

pub returns-clause-lines : goal.returns-clause-lines
returns-clause-lines c = lines_for _ c.args.self.now.watcher.published c.args.self.now.queue (omega arith) c.requires.live.lines

pub returns-then-self-clause-left : goal.returns-then-self-clause-left
returns-then-self-clause-left c = settled_left c.settle.result c.args.self.now.lost c.settle.new.self (left c.args.self.now) c.if-self.true c.settle.ensures.left

pub returns-clause-left : goal.returns-clause-left
returns-clause-left c = sym (ap (λ b. lines_kept b (left c.args.self.now)) c.if-self.false)
