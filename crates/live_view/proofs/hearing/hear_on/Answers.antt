use Rattle.std.proofs.Common.{[], refl, ap}
use Rattle.view_shell.specs.Phases.{Viewer, Receives, go_on, receive}
use Rattle.view_shell.specs.Viewers.{viewer}
use Rattle.view_shell.proofs.Readiness.{viewer_sent}
use Rattle.live_view.specs.Doing.{aim_of}
use Rattle.live_view.proofs.Leading.{comes_at, leads_comes}
use Rattle.view_shell.specs.declared.watcher.Watcher.{Watcher}
use Rattle.std.proofs.Common.{◌∙◌}
use Rattle.live_view.specs.Doing.{votes_for}
use Rattle.live_view.proofs.Leading.{count_waits}
use Rattle.live_view.proofs.hearing.hear_on.Goals as goal

pub returns-clause-told : goal.returns-clause-told
returns-clause-told c address lines =
    let v = viewer address c.args.watcher.now lines in
    let m = viewer address c.stay_alive.new.watcher lines in
    let u = record v { receives = c.stay_alive.new.watcher.receives } in
    let aim = aim_of c.args.goal in
    let w = viewer address c.await_goal.new.watcher lines in
    leads_comes c.await_goal.result c.args.out.now c.stay_alive.new.out c.await_goal.new.out (go_on v [] (Receives aim)) (receive u aim) w
    (c.in_ok-stay_alive.ensures.talk v [] (Receives aim) refl)
    (comes_at c.await_goal.result c.stay_alive.new.out c.await_goal.new.out (receive u aim) (receive m aim) w
    (ap (λ (one : Viewer). receive one aim) (viewer_sent address lines c.args.watcher.now c.stay_alive.new.watcher c.stay_alive.ensures.kept)) (c.await_goal.ensures.told address lines))

pub returns-clause-count : goal.returns-clause-count
returns-clause-count c =
    count_waits c.await_goal.result c.await_goal.new.watcher.published c.args.watcher.now.published (votes_for c.args.goal)
    (ap (λ (w : Watcher). w.published) c.await_goal.ensures.kept ∙ ap (λ (w : Watcher). w.published) c.stay_alive.ensures.kept) c.await_goal.ensures.waits
