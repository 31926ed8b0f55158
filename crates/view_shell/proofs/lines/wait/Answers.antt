use Rattle.run_steps.specs.Outside.{links_tell, output_tells}
use Rattle.view_shell.specs.Phases.{ToReach, receive}
use Rattle.view_shell.specs.ViewText.{reached_time_line}
use Rattle.view_shell.specs.Viewers.{viewer}
use Rattle.view_shell.proofs.Going.{handed_on, stops_in_link_side}
use Rattle.view_shell.proofs.Flowing.{line_done}
use Rattle.view_shell.proofs.Readiness.{viewer_finished}
use Rattle.view_shell.proofs.lines.wait.Goals as goal

pub returns-in_err-reach-clause-talk : goal.returns-in_err-reach-clause-talk
returns-in_err-reach-clause-talk g c address lines =
    let out = output_tells g.W.Sink in
    let links = links_tell g.L.Link in
    rw (handed_on c.from_residual.result c.in_err-reach.field-0.0 c.from_residual.ensures.1)
    (stops_in_link_side out links c.args.out.now (receive (viewer address c.args.watcher.now lines) (ToReach c.args.time)) c.in_err-reach.field-0.0 c.args.link.now c.reach.new.link (c.in_err-reach.ensures.talk address lines))

pub returns-clause-talk : goal.returns-clause-talk
returns-clause-talk g c address lines =
    let out = output_tells g.W.Sink in
    let links = links_tell g.L.Link in
    let v = viewer address c.reach.new.watcher lines in
    line_done out links (receive (viewer address c.args.watcher.now lines) (ToReach c.args.time)) c.args.out.now c.finish_with.new.out c.args.link.now c.reach.new.link
    v (viewer address c.finish_with.new.watcher lines) (reached_time_line v.replica.world.time) c.finish_with.result
    (viewer_finished address lines c.reach.new.watcher c.finish_with.new.watcher c.finish_with.result c.finish_with.ensures.kept c.finish_with.ensures.ok) (c.in_ok-reach.ensures.talk address lines)
    (rw c.time-time.ensures.time at c.finish_with.ensures.printed address lines) (rw c.time-time.ensures.time at c.finish_with.ensures.err address lines)
