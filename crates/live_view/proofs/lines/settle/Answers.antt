use Rattle.replica_plain.specs.Calls.{unsent}
use Rattle.view_shell.specs.Phases.{Receives, ToSettle, after_giving, receive, send_all}
use Rattle.view_shell.specs.Viewers.{viewer}
use Rattle.live_view.proofs.Leading.{leads_comes}
use Rattle.live_view.proofs.Leading.{none_awaited}
use Rattle.live_view.proofs.lines.settle.Goals as goal

pub returns-clause-told : goal.returns-clause-told
returns-clause-told c address lines =
    let v = viewer address c.args.watcher.now lines in
    let s = viewer address c.send_unsent.new.watcher lines in
    leads_comes c.await_goal.result c.args.out.now c.send_unsent.new.out c.await_goal.new.out (send_all (after_giving v) (unsent v.replica) (Receives ToSettle)) (receive s ToSettle) (viewer address c.await_goal.new.watcher lines)
    (c.in_ok-send_unsent.ensures.talk address lines (Receives ToSettle)) (c.await_goal.ensures.told address lines)

pub returns-clause-waits : goal.returns-clause-waits
returns-clause-waits c = none_awaited c.await_goal.result c.await_goal.ensures.waits
