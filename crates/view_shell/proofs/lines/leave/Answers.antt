use Rattle.std.proofs.Common.{◌≡◌, [], refl, ap, ◌∙◌}
use Rattle.run_steps.specs.Outside.{Acts, links_tell, output_tells, link_side, link_side_tells}
use Rattle.wire_frames.specs.declared.frame.ClientFrame.TheVariants as client
use Rattle.view_shell.specs.declared.ending.ViewEnd.TheVariants as ending
use Rattle.view_shell.specs.Phases.{Leaves, Over, PrintingLast, Sending, leave_session}
use Rattle.view_shell.specs.ViewText.{view_line}
use Rattle.view_shell.specs.Viewers.{viewer}
use Rattle.view_shell.proofs.Going.{all_acts_behind, goes_and_stops, goes_or_stops_on, handed_on, stops_in_link_side}
use Rattle.view_shell.proofs.Flowing.{last_done}
use Rattle.view_shell.proofs.Printings.{rest_stops, rested_goes, wants_behind}
use Rattle.view_shell.proofs.Readiness.{viewer_rested}
use Rattle.view_shell.proofs.lines.leave.Goals as goal

pub returns-in_err-rest_and_tell-clause-talk : goal.returns-in_err-rest_and_tell-clause-talk
returns-in_err-rest_and_tell-clause-talk g c address lines =
    let out = output_tells g.W.Sink in
    let links = links_tell g.L.Link in
    rw (handed_on c.from_residual.result c.in_err-rest_and_tell.field-0.0 c.from_residual.ensures.1)
    (rest_stops out links c.args.link.now c.args.out.now c.rest_and_tell.new.out (viewer address c.args.watcher.now lines) c.in_err-rest_and_tell.field-0.0 (c.in_err-rest_and_tell.ensures.err address lines))

pub returns-in_err-send-clause-talk : goal.returns-in_err-send-clause-talk
returns-in_err-send-clause-talk g c address lines =
    let out = output_tells g.W.Sink in
    let links = links_tell g.L.Link in
    let old = viewer address c.args.watcher.now lines in
    let v = viewer address c.rest_and_tell.new.watcher lines in
    rw (handed_on c.from_residual-in_err-send.result c.in_err-send.field-0.0 c.from_residual-in_err-send.ensures.1)
    (goes_and_stops (Acts (link_side_tells out links)) (all_acts_behind (link_side_tells out links)) (leave_session old) (Sending v client.Leave [] Leaves) c.in_err-send.field-0.0
    (link_side c.args.out.now c.args.link.now) (link_side c.rest_and_tell.new.out c.args.link.now) (link_side c.rest_and_tell.new.out c.send.new.link)
    (rested_goes out links c.args.link.now c.args.out.now c.rest_and_tell.new.out old v (viewer_rested address lines c.args.watcher.now c.rest_and_tell.new.watcher c.rest_and_tell.ensures.kept c.in_ok-rest_and_tell.ensures.ok) (c.in_ok-rest_and_tell.ensures.printed address lines))
    (stops_in_link_side out links c.rest_and_tell.new.out (Sending v client.Leave [] Leaves) c.in_err-send.field-0.0 c.args.link.now c.send.new.link (c.in_err-send.ensures.talk v [] Leaves tt)))

pub returns-in_err-line-clause-talk : goal.returns-in_err-line-clause-talk
returns-in_err-line-clause-talk g c address lines =
    let out = output_tells g.W.Sink in
    let links = links_tell g.L.Link in
    let old = viewer address c.args.watcher.now lines in
    let v = viewer address c.rest_and_tell.new.watcher lines in
    rw (handed_on c.from_residual-in_err-line.result ending.WantOfMemory c.from_residual-in_err-line.ensures.1)
    (goes_and_stops (Acts (link_side_tells out links)) (all_acts_behind (link_side_tells out links)) (leave_session old) (Sending v client.Leave [] Leaves) ending.WantOfMemory
    (link_side c.args.out.now c.args.link.now) (link_side c.rest_and_tell.new.out c.args.link.now) (link_side c.rest_and_tell.new.out c.send.new.link)
    (rested_goes out links c.args.link.now c.args.out.now c.rest_and_tell.new.out old v (viewer_rested address lines c.args.watcher.now c.rest_and_tell.new.watcher c.rest_and_tell.ensures.kept c.in_ok-rest_and_tell.ensures.ok) (c.in_ok-rest_and_tell.ensures.printed address lines))
    (wants_behind out links (Sending v client.Leave [] Leaves) c.rest_and_tell.new.out c.rest_and_tell.new.out c.args.link.now c.send.new.link (PrintingLast (view_line v.replica)) ending.WantOfMemory refl (c.in_ok-send.ensures.talk v [] Leaves tt) refl))

pub returns-clause-talk : goal.returns-clause-talk
returns-clause-talk g c address lines =
    let out = output_tells g.W.Sink in
    let links = links_tell g.L.Link in
    let old = viewer address c.args.watcher.now lines in
    let v = viewer address c.rest_and_tell.new.watcher lines in
    let text : c.as_bytes.result.now ≡ view_line v.replica = c.as_bytes.ensures.value ∙ c.in_ok-line.ensures ∙ ap (λ w. view_line w.replica.plain) c.send.ensures.kept in
    goes_or_stops_on (Acts (link_side_tells out links)) (all_acts_behind (link_side_tells out links)) (leave_session old) (Sending v client.Leave [] Leaves) (λ it. Over ending.Done) c.print.result
    (link_side c.args.out.now c.args.link.now) (link_side c.rest_and_tell.new.out c.args.link.now) (link_side c.print.new.out c.send.new.link)
    (rested_goes out links c.args.link.now c.args.out.now c.rest_and_tell.new.out old v (viewer_rested address lines c.args.watcher.now c.rest_and_tell.new.watcher c.rest_and_tell.ensures.kept c.in_ok-rest_and_tell.ensures.ok) (c.in_ok-rest_and_tell.ensures.printed address lines))
    (last_done out links (Sending v client.Leave [] Leaves) c.rest_and_tell.new.out c.print.new.out c.args.link.now c.send.new.link (view_line v.replica) c.print.result (c.in_ok-send.ensures.talk v [] Leaves tt) (rw text at c.print.ensures.ok) (rw text at c.print.ensures.err))
