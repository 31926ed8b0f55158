use Rattle.std.proofs.Common.{◌≡◌, refl, ap, subst, ◌∙◌, arith}
use Rattle.replica_plain.specs.Calls.{unsent}
use Rattle.replica_plain.specs.PlainReplica.{published_count}
use Rattle.view_shell.specs.declared.watcher.Watcher.{Watcher}
use Rattle.view_shell.specs.Phases.{Viewer, TellsText, after_giving, finish, give_vote, send_all}
use Rattle.view_shell.specs.Viewers.{viewer}
use Rattle.view_shell.specs.ViewText.{voted_line}
use Rattle.view_shell.proofs.Readiness.{viewer_sent}
use Rattle.live_view.specs.Doing.{Leads}
use Rattle.live_view.proofs.Leading.{leads_on, text_comes}
use Rattle.live_view.proofs.hearing.give_vote.Goals as goal

pub returns-clause-told : goal.returns-clause-told
returns-clause-told c address lines =
    let v = viewer address c.args.watcher.now lines in
    let m = viewer address c.stay_alive.new.watcher lines in
    let s = viewer address c.send_unsent.new.watcher lines in
    let text = voted_line c.args.at (published_count v.replica) in
    let task = TellsText text in
    let count : c.send_unsent.new.watcher.published ≡ published_count v.replica =
    ap (λ (w : Watcher). w.published) c.send_unsent.ensures.kept ∙ ap (λ (w : Watcher). w.published) c.stay_alive.ensures.kept ∙ c.requires.heard.knows.published in
    let alive : Leads c.args.out.now c.stay_alive.new.out (give_vote v c.args.at) (send_all (after_giving m) (unsent m.replica) task) =
    subst (λ (one : Viewer). Leads c.args.out.now c.stay_alive.new.out (give_vote v c.args.at) (send_all (after_giving one) (unsent one.replica) task))
    (viewer_sent address lines c.args.watcher.now c.stay_alive.new.watcher c.stay_alive.ensures.kept) (c.in_ok-stay_alive.ensures.talk (after_giving v) (unsent v.replica) task refl) in
    text_comes c.args.out.now c.send_unsent.new.out c.tell.new.out (give_vote v c.args.at) s (viewer address c.tell.new.watcher lines) c.as_str.result.now text
    (leads_on c.args.out.now c.stay_alive.new.out c.send_unsent.new.out (give_vote v c.args.at) (send_all (after_giving m) (unsent m.replica) task) (finish s text) alive
    (c.in_ok-send_unsent.ensures.talk address lines task))
    (c.as_str.ensures.value ∙ c.in_ok-text.ensures ∙ ap (voted_line c.args.at) count) (c.in_ok-tell.ensures.told address lines)

pub returns-clause-count : goal.returns-clause-count
returns-clause-count c votes =
    let same : c.tell.new.watcher.published ≡ c.args.watcher.now.published =
    ap (λ (w : Watcher). w.published) c.tell.ensures.kept ∙ ap (λ (w : Watcher). w.published) c.send_unsent.ensures.kept ∙ ap (λ (w : Watcher). w.published) c.stay_alive.ensures.kept in
    omega (arith, same)
