use Rattle.std.proofs.Common.{[]}
use Rattle.run_steps.specs.Outside.{links_tell, output_tells}
use Rattle.replica.specs.View.{worlds_of}
use Rattle.replica_plain.specs.Calls.{snap_frame}
use Rattle.view_shell.specs.Phases.{Receives, Sending, ToSnap}
use Rattle.view_shell.specs.Viewers.{viewer}
use Rattle.view_shell.specs.Hearing.{answer_line}
use Rattle.view_shell.proofs.Going.{handed_on, stops_in_link_side}
use Rattle.view_shell.proofs.Flowing.{line_done}
use Rattle.view_shell.proofs.Readiness.{viewer_finished}
use Rattle.view_shell.proofs.lines.snap.Goals as goal

pub returns-in_err-answer-clause-talk : goal.returns-in_err-answer-clause-talk
returns-in_err-answer-clause-talk g c address lines =
    let out = output_tells g.W.Sink in
    let links = links_tell g.L.Link in
    let old = c.args.watcher.now in
    rw (handed_on c.from_residual.result c.in_err-answer.field-0.0 c.from_residual.ensures.1)
    (stops_in_link_side out links c.args.out.now (Sending (viewer address old lines) (snap_frame (worlds_of old.replica) old.replica.plain) [] (Receives ToSnap)) c.in_err-answer.field-0.0 c.args.link.now c.offer.new.link (c.in_err-answer.ensures.talk address lines))

pub returns-clause-talk : goal.returns-clause-talk
returns-clause-talk g c address lines =
    let out = output_tells g.W.Sink in
    let links = links_tell g.L.Link in
    let old = c.args.watcher.now in
    line_done out links (Sending (viewer address old lines) (snap_frame (worlds_of old.replica) old.replica.plain) [] (Receives ToSnap)) c.args.out.now c.tell_answer.new.out c.args.link.now c.offer.new.link
    (viewer address c.offer.new.watcher lines) (viewer address c.tell_answer.new.watcher lines) (answer_line c.in_ok-answer.answer) c.tell_answer.result
    (viewer_finished address lines c.offer.new.watcher c.tell_answer.new.watcher c.tell_answer.result c.tell_answer.ensures.kept c.tell_answer.ensures.ok)
    (c.in_ok-answer.ensures.talk address lines) (c.tell_answer.ensures.printed address lines) (c.tell_answer.ensures.err address lines)
