use Rattle.std.proofs.Common.{[], refl, subst, ◌∙◌}
use Rattle.view_shell.specs.Phases.{Viewer, TellsText, finish, go_on}
use Rattle.view_shell.specs.Viewers.{viewer}
use Rattle.view_shell.specs.ViewText.{snap_refused_line}
use Rattle.view_shell.proofs.Readiness.{viewer_sent}
use Rattle.live_view.specs.Doing.{Leads}
use Rattle.live_view.proofs.Leading.{text_comes}
use Rattle.view_shell.specs.declared.watcher.Watcher.{Watcher}
use Rattle.std.proofs.Common.{◌≡◌, ap, arith}
use Rattle.live_view.proofs.hearing.refused.Goals as goal

pub returns-clause-told : goal.returns-clause-told
returns-clause-told c address lines =
    let v = viewer address c.args.watcher.now lines in
    let m = viewer address c.stay_alive.new.watcher lines in
    let text = snap_refused_line c.args.code c.args.kept in
    text_comes c.args.out.now c.stay_alive.new.out c.tell.new.out (go_on v [] (TellsText text)) m (viewer address c.tell.new.watcher lines) c.as_str.result.now text
    (subst (λ (u : Viewer). Leads c.args.out.now c.stay_alive.new.out (go_on v [] (TellsText text)) (finish u text)) (viewer_sent address lines c.args.watcher.now c.stay_alive.new.watcher c.stay_alive.ensures.kept)
    (c.in_ok-stay_alive.ensures.talk v [] (TellsText text) refl))
    (c.as_str.ensures.value ∙ c.in_ok-text.ensures) (c.in_ok-tell.ensures.told address lines)

pub returns-clause-count : goal.returns-clause-count
returns-clause-count c votes =
    let same : c.tell.new.watcher.published ≡ c.args.watcher.now.published = ap (λ (w : Watcher). w.published) c.tell.ensures.kept ∙ ap (λ (w : Watcher). w.published) c.stay_alive.ensures.kept in
    omega (arith, same)
