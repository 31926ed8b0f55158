use Rattle.std.proofs.Common.{[], refl, ap, sym, subst}
use Rattle.run_steps.specs.Outside.{links_tell}
use Rattle.wire_frames.specs.declared.frame.ClientFrame.{ClientFrame}
use Rattle.view_shell.specs.declared.hearing.Stop.TheVariants as stop
use Rattle.view_shell.specs.Phases.{IsReadAsWorld, Receives, Receiving, Sending, ToJoin, enter_session, after_join}
use Rattle.view_shell.specs.Viewers.{viewer}
use Rattle.view_shell.specs.ViewRun.{Goes, LinkActs}
use Rattle.view_shell.specs.Hearing.{synced_phase}
use Rattle.view_shell.proofs.Entering.{sent_to_join}
use Rattle.view_shell.proofs.Going.{handed_on, link_acts_behind, link_wants, stops_from}
use Rattle.view_shell.proofs.Hearings.{goes_or_hears}
use Rattle.view_shell.proofs.view.join.Goals as goal

pub returns-then-broken-clause-talk : goal.returns-then-broken-clause-talk
returns-then-broken-clause-talk g c address lines = link_wants _ _ _ _ refl

pub returns-in_err-send-clause-talk : goal.returns-in_err-send-clause-talk
returns-in_err-send-clause-talk g c address lines =
    let old = c.args.watcher.now in
    let v = after_join (viewer address old lines) c.args.how in
    rw (handed_on c.from_residual.result (stop.End c.in_err-send.field-0.0) c.from_residual.ensures.1)
    (stops_from _ (enter_session (viewer address old lines) c.args.how) (Sending v c.join-frame.result [] (Receives (ToJoin c.args.how))) c.in_err-send.field-0.0 c.args.link.now c.send.new.link
    (ap (λ (f : ClientFrame). Sending v f [] (Receives (ToJoin c.args.how))) (sym c.join-frame.ensures.frame)) (c.in_err-send.ensures.talk v [] (Receives (ToJoin c.args.how)) (subst (IsReadAsWorld v) (sym c.join-frame.ensures.frame) tt)))

pub returns-clause-talk : goal.returns-clause-talk
returns-clause-talk g c address lines =
    let how = c.args.how in
    let v = after_join (viewer address c.args.watcher.now lines) how in
    let links = links_tell g.L.Link in
    let start = enter_session (viewer address c.args.watcher.now lines) how in
    let sent : Goes (LinkActs links) start (Receiving (viewer address c.send.new.watcher lines) (ToJoin how)) c.args.link.now c.send.new.link = sent_to_join links address lines c.args.watcher.now c.send.new.watcher c.join-frame.new.self how c.join-frame.result c.args.link.now c.send.new.link c.send.ensures.kept c.in_ok-send.ensures.sent c.join-frame.ensures.joins c.join-frame.ensures.frame (c.in_ok-send.ensures.talk v [] (Receives (ToJoin how)) (subst (IsReadAsWorld v) (sym c.join-frame.ensures.frame) tt)) in
    goes_or_hears (LinkActs links) (link_acts_behind links) start (Receiving (viewer address c.send.new.watcher lines) (ToJoin how)) (synced_phase (viewer address c.await_sync.new.watcher lines) how) (viewer address c.await_sync.new.watcher lines) (ToJoin how) c.await_sync.result c.args.link.now c.send.new.link c.await_sync.new.link sent
    (c.await_sync.ensures.talk address lines how)
