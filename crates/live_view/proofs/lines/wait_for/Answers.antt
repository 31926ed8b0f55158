use Rattle.std.proofs.Common.{ℕ, ap, sym}
use Rattle.view_shell.specs.Phases.{ToReach, receive, time_after}
use Rattle.view_shell.specs.Viewers.{viewer}
use Rattle.live_view.proofs.Leading.{comes_at}
use Rattle.live_view.proofs.Leading.{none_awaited}
use Rattle.live_view.proofs.lines.wait_for.Goals as goal

pub returns-clause-told : goal.returns-clause-told
returns-clause-told c address lines =
    let v = viewer address c.args.watcher.now lines in
    comes_at c.await_goal.result c.args.out.now c.await_goal.new.out (receive v (ToReach (time_after v.replica.world.time c.args.span))) (receive v (ToReach c.time_after-time.result)) (viewer address c.await_goal.new.watcher lines)
    (ap (λ (t : ℕ). receive v (ToReach t)) (sym c.time_after-time.ensures)) (c.await_goal.ensures.told address lines)

pub returns-clause-waits : goal.returns-clause-waits
returns-clause-waits c = none_awaited c.await_goal.result c.await_goal.ensures.waits
