use Rattle.std.proofs.Common.{[], refl}
use Rattle.view_shell.specs.Phases.{Begins, go_on}
use Rattle.view_shell.specs.Viewers.{viewer}
use Rattle.view_shell.proofs.Readiness.{viewer_sent}
use Rattle.live_view.proofs.Leading.{begins_comes}
use Rattle.view_shell.specs.declared.watcher.Watcher.{Watcher}
use Rattle.std.proofs.Common.{◌≡◌, ap, arith}
use Rattle.live_view.proofs.hearing.begun.Goals as goal

pub returns-clause-told : goal.returns-clause-told
returns-clause-told c address lines =
    let v = viewer address c.args.watcher.now lines in
    let u = record v { receives = c.stay_alive.new.watcher.receives } in
    begins_comes c.args.out.now c.stay_alive.new.out (go_on v [] Begins) v u (viewer address c.stay_alive.new.watcher lines) refl (c.in_ok-stay_alive.ensures.talk v [] Begins refl)
    (viewer_sent address lines c.args.watcher.now c.stay_alive.new.watcher c.stay_alive.ensures.kept)

pub returns-clause-count : goal.returns-clause-count
returns-clause-count c votes =
    let same : c.stay_alive.new.watcher.published ≡ c.args.watcher.now.published = ap (λ (w : Watcher). w.published) c.stay_alive.ensures.kept in
    omega (arith, same)
