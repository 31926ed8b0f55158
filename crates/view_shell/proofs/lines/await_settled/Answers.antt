use Rattle.run_steps.specs.Outside.{links_tell, output_tells}
use Rattle.view_shell.specs.Phases.{ToSettle, receive}
use Rattle.view_shell.specs.ViewText.{settled_line}
use Rattle.view_shell.specs.Viewers.{viewer}
use Rattle.view_shell.proofs.Going.{handed_on, stops_in_link_side}
use Rattle.view_shell.proofs.Flowing.{line_done}
use Rattle.view_shell.proofs.Readiness.{viewer_finished}
use Rattle.view_shell.proofs.lines.await_settled.Goals as goal

pub returns-in_err-settle-clause-talk : goal.returns-in_err-settle-clause-talk
returns-in_err-settle-clause-talk g c address lines =
    let out = output_tells g.W.Sink in
    let links = links_tell g.L.Link in
    rw (handed_on c.from_residual.result c.in_err-settle.field-0.0 c.from_residual.ensures.1)
    (stops_in_link_side out links c.args.out.now (receive (viewer address c.args.watcher.now lines) ToSettle) c.in_err-settle.field-0.0 c.args.link.now c.settle.new.link (c.in_err-settle.ensures.talk address lines))

pub returns-clause-talk : goal.returns-clause-talk
returns-clause-talk g c address lines =
    let out = output_tells g.W.Sink in
    let links = links_tell g.L.Link in
    let v = viewer address c.settle.new.watcher lines in
    line_done out links (receive (viewer address c.args.watcher.now lines) ToSettle) c.args.out.now c.finish_with.new.out c.args.link.now c.settle.new.link
    v (viewer address c.finish_with.new.watcher lines) (settled_line c.settle.new.watcher.published) c.finish_with.result
    (viewer_finished address lines c.settle.new.watcher c.finish_with.new.watcher c.finish_with.result c.finish_with.ensures.kept c.finish_with.ensures.ok) (c.in_ok-settle.ensures.talk address lines)
    (rw c.from-count.ensures at c.finish_with.ensures.printed address lines) (rw c.from-count.ensures at c.finish_with.ensures.err address lines)
