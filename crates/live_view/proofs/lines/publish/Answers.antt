use Rattle.std.proofs.Common.{ap}
use Rattle.model_value.specs.Payload.{payload_spelling}
use Rattle.model_value.specs.View.{plain}
use Rattle.replica_plain.specs.Calls.{unsent}
use Rattle.view_shell.specs.Phases.{Viewer, Receives, ToCatchUp, after_giving, after_publish, receive, send_all}
use Rattle.view_shell.specs.Viewers.{viewer}
use Rattle.view_shell.proofs.Readiness.{viewer_published}
use Rattle.live_view.proofs.Leading.{comes_at, leads_comes}
use Rattle.live_view.proofs.Leading.{none_awaited}
use Rattle.live_view.proofs.lines.publish.Goals as goal

pub returns-clause-told : goal.returns-clause-told
returns-clause-told c address lines =
    let old = c.args.watcher.now in
    let payload = payload_spelling (record { scope = c.args.scope.now; event = c.args.event.now; value = plain c.args.value.now }) in
    let v = after_publish (viewer address old lines) payload in
    let p = viewer address c.publish.new.watcher lines in
    let s = viewer address c.send_unsent.new.watcher lines in
    let t = viewer address c.await_goal.new.watcher lines in
    comes_at c.await_goal.result c.args.out.now c.await_goal.new.out (send_all (after_giving v) (unsent v.replica) (Receives ToCatchUp)) (send_all (after_giving p) (unsent p.replica) (Receives ToCatchUp)) t
    (ap (λ (u : Viewer). send_all (after_giving u) (unsent u.replica) (Receives ToCatchUp)) (viewer_published address lines old c.publish.new.watcher payload c.publish.ensures.kept c.in-Ok.ensures.publishes))
    (leads_comes c.await_goal.result c.args.out.now c.send_unsent.new.out c.await_goal.new.out (send_all (after_giving p) (unsent p.replica) (Receives ToCatchUp)) (receive s ToCatchUp) t
    (c.in_ok-send_unsent.ensures.talk address lines (Receives ToCatchUp)) (c.await_goal.ensures.told address lines))

pub returns-clause-waits : goal.returns-clause-waits
returns-clause-waits c = none_awaited c.await_goal.result c.await_goal.ensures.waits
