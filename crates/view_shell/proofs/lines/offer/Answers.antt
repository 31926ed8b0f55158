use Rattle.std.proofs.Common.{[], ap, sym}
use Rattle.wire_frames.specs.declared.frame.ClientFrame.{ClientFrame}
use Rattle.replica.specs.View.{worlds_of}
use Rattle.replica_plain.specs.Calls.{snap_frame}
use Rattle.view_shell.specs.Phases.{Viewer, Receives, Receiving, Sending, ToSnap, finish}
use Rattle.view_shell.specs.Viewers.{viewer}
use Rattle.view_shell.specs.Hearing.{answer_line}
use Rattle.view_shell.proofs.Going.{goes_from, goes_or_stops_on, goes_to, handed_on, link_acts_behind, link_wants, stops_from}
use Rattle.view_shell.proofs.Readiness.{viewer_after_send}
use Rattle.view_shell.proofs.lines.offer.Goals as goal

pub returns-in_err-frame-clause-talk : goal.returns-in_err-frame-clause-talk
returns-in_err-frame-clause-talk g c address lines =
    rw (handed_on c.from_residual.result c.in_err-frame.field-0.0 c.from_residual.ensures.1)
    (link_wants _ _ _ _ c.in_err-frame.ensures.want)

pub returns-in_err-send-clause-talk : goal.returns-in_err-send-clause-talk
returns-in_err-send-clause-talk g c address lines =
    let v = viewer address c.args.watcher.now lines in
    let frame = snap_frame (worlds_of c.args.watcher.now.replica) c.args.watcher.now.replica.plain in
    rw (handed_on c.from_residual-in_err-send.result c.in_err-send.field-0.0 c.from_residual-in_err-send.ensures.1)
    (stops_from _ (Sending v frame [] (Receives ToSnap)) (Sending v c.in_ok-frame.frame [] (Receives ToSnap)) c.in_err-send.field-0.0 c.args.link.now c.send.new.link
    (ap (λ (f : ClientFrame). Sending v f [] (Receives ToSnap)) (sym c.in_ok-frame.ensures.frame)) (c.in_err-send.ensures.talk v [] (Receives ToSnap) (c.in_ok-frame.ensures.world address lines)))

pub returns-clause-talk : goal.returns-clause-talk
returns-clause-talk g c address lines =
    let v = viewer address c.args.watcher.now lines in
    let u = viewer address c.send.new.watcher lines in
    let frame = snap_frame (worlds_of c.args.watcher.now.replica) c.args.watcher.now.replica.plain in
    goes_or_stops_on _ (link_acts_behind _) (Sending v frame [] (Receives ToSnap)) (Receiving u ToSnap) (λ answer. finish (viewer address c.await_answer.new.watcher lines) (answer_line answer)) c.await_answer.result c.args.link.now c.send.new.link c.await_answer.new.link
    (goes_from _ (Sending v frame [] (Receives ToSnap)) (Sending v c.in_ok-frame.frame [] (Receives ToSnap)) (Receiving u ToSnap) c.args.link.now c.send.new.link
    (ap (λ (f : ClientFrame). Sending v f [] (Receives ToSnap)) (sym c.in_ok-frame.ensures.frame))
    (goes_to _ (Sending v c.in_ok-frame.frame [] (Receives ToSnap)) (Receiving (record v { receives = 0 }) ToSnap) (Receiving u ToSnap) c.args.link.now c.send.new.link
    (ap (λ (one : Viewer). Receiving one ToSnap) (viewer_after_send address lines c.args.watcher.now c.send.new.watcher c.send.ensures.kept c.in_ok-send.ensures.sent)) (c.in_ok-send.ensures.talk v [] (Receives ToSnap) (c.in_ok-frame.ensures.world address lines))))
    (c.await_answer.ensures.talk address lines)
