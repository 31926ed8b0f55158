use Rattle.std.proofs.Common.{[], ap}
use Rattle.run_steps.specs.Outside.{links_tell, output_tells}
use Rattle.view_shell.specs.Phases.{ToCatchUp, receive}
use Rattle.view_shell.specs.declared.watcher.Watcher.{Watcher}
use Rattle.view_shell.specs.Viewers.{viewer}
use Rattle.view_shell.proofs.Going.{handed_on, stops_in_link_side}
use Rattle.view_shell.proofs.Flowing.{line_done}
use Rattle.view_shell.proofs.Voting.{if_well}
use Rattle.view_shell.proofs.lines.await_answers.Goals as goal

pub returns-in_err-catch_up-clause-talk : goal.returns-in_err-catch_up-clause-talk
returns-in_err-catch_up-clause-talk g c address lines =
    let out = output_tells g.W.Sink in
    let links = links_tell g.L.Link in
    rw (handed_on c.from_residual.result c.in_err-catch_up.field-0.0 c.from_residual.ensures.1)
    (stops_in_link_side out links c.args.out.now (receive (viewer address c.args.watcher.now lines) ToCatchUp) c.in_err-catch_up.field-0.0 c.args.link.now c.catch_up.new.link (c.in_err-catch_up.ensures.talk address lines))

pub returns-clause-talk : goal.returns-clause-talk
returns-clause-talk g c address lines =
    let out = output_tells g.W.Sink in
    let links = links_tell g.L.Link in
    let v = viewer address c.catch_up.new.watcher lines in
    line_done out links (receive (viewer address c.args.watcher.now lines) ToCatchUp) c.args.out.now c.finish.new.out c.args.link.now c.catch_up.new.link
    v (viewer address c.finish.new.watcher lines) [] c.finish.result (if_well c.finish.result (ap (λ (one : Watcher). viewer address one lines) c.finish.ensures.kept))
    (c.in_ok-catch_up.ensures.talk address lines) (c.finish.ensures.ok address lines) (c.finish.ensures.err address lines)
