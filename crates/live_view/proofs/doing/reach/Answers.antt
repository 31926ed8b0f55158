use Rattle.std.proofs.Common.{arith, ◌∙◌}
use Rattle.view_shell.specs.Viewers.{viewer}
use Rattle.live_view.proofs.Leading.{early_waits, reach_told}
use Rattle.live_view.proofs.doing.reach.Goals as goal

pub returns-then-time-now-clause-told : goal.returns-then-time-now-clause-told
returns-then-time-now-clause-told c address lines = early_waits c.args.out.now (viewer address c.args.watcher.now lines) c.args.time c.time_of-now.result c.time_of-now.ensures (omega (arith, c.if-time-now.true))

pub returns-clause-told : goal.returns-clause-told
returns-clause-told c address lines =
    reach_told c.args.out.now c.tell.new.out (viewer address c.args.watcher.now lines) (viewer address c.tell.new.watcher lines) c.args.time c.time_of-now.result c.as_str.result.now c.time_of-now.ensures
    (omega (arith, c.if-time-now.false)) (c.as_str.ensures.value ∙ c.in_ok-text.ensures) (c.in_ok-tell.ensures.told address lines)
