use Rattle.std.proofs.Common.{refl, subst, ◌∙◌}
use Rattle.replica_plain.specs.Calls.{unsent}
use Rattle.view_shell.specs.Phases.{Viewer, TellsText, after_giving, go_on, finish, send_all}
use Rattle.view_shell.specs.Viewers.{viewer}
use Rattle.view_shell.specs.ViewText.{rejoined_line}
use Rattle.view_shell.proofs.Readiness.{viewer_sent}
use Rattle.live_view.specs.Doing.{Leads}
use Rattle.live_view.proofs.Leading.{leads_on, text_comes}
use Rattle.view_shell.specs.declared.watcher.Watcher.{Watcher}
use Rattle.std.proofs.Common.{◌≡◌, ap, arith}
use Rattle.live_view.proofs.hearing.rejoined.Goals as goal

pub returns-clause-told : goal.returns-clause-told
returns-clause-told c address lines =
    let v = viewer address c.args.watcher.now lines in
    let m = viewer address c.stay_alive.new.watcher lines in
    let s = viewer address c.send_unsent.new.watcher lines in
    let text = rejoined_line c.args.joined c.args.from in
    let task = TellsText text in
    let alive : Leads c.args.out.now c.stay_alive.new.out (go_on (after_giving v) (unsent v.replica) task) (send_all (after_giving m) (unsent m.replica) task) =
    subst (λ (one : Viewer). Leads c.args.out.now c.stay_alive.new.out (go_on (after_giving v) (unsent v.replica) task) (send_all (after_giving one) (unsent one.replica) task))
    (viewer_sent address lines c.args.watcher.now c.stay_alive.new.watcher c.stay_alive.ensures.kept) (c.in_ok-stay_alive.ensures.talk (after_giving v) (unsent v.replica) task refl) in
    text_comes c.args.out.now c.send_unsent.new.out c.tell.new.out (go_on (after_giving v) (unsent v.replica) task) s (viewer address c.tell.new.watcher lines) c.as_str.result.now text
    (leads_on c.args.out.now c.stay_alive.new.out c.send_unsent.new.out (go_on (after_giving v) (unsent v.replica) task) (send_all (after_giving m) (unsent m.replica) task) (finish s text) alive
    (c.in_ok-send_unsent.ensures.talk address lines task))
    (c.as_str.ensures.value ∙ c.in_ok-text.ensures) (c.in_ok-tell.ensures.told address lines)

pub returns-clause-count : goal.returns-clause-count
returns-clause-count c votes =
    let same : c.tell.new.watcher.published ≡ c.args.watcher.now.published =
    ap (λ (w : Watcher). w.published) c.tell.ensures.kept ∙ ap (λ (w : Watcher). w.published) c.send_unsent.ensures.kept ∙ ap (λ (w : Watcher). w.published) c.stay_alive.ensures.kept in
    omega (arith, same)
