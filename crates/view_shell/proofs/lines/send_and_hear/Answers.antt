use Rattle.run_steps.specs.Outside.{Acts, links_tell, output_tells, link_side, link_side_tells}
use Rattle.replica_plain.specs.Calls.{unsent}
use Rattle.view_shell.specs.Phases.{Receives, ToCatchUp, after_giving, receive, send_all}
use Rattle.view_shell.specs.Viewers.{viewer}
use Rattle.view_shell.proofs.Flowing.{done_behind}
use Rattle.view_shell.proofs.Going.{all_acts_behind, goes_in_link_side, handed_on, stops_in_link_side}
use Rattle.view_shell.proofs.lines.send_and_hear.Goals as goal

pub returns-in_err-send_unsent-clause-talk : goal.returns-in_err-send_unsent-clause-talk
returns-in_err-send_unsent-clause-talk g c address lines =
    let out = output_tells g.W.Sink in
    let links = links_tell g.L.Link in
    let old = c.args.watcher.now in
    rw (handed_on c.from_residual.result c.in_err-send_unsent.field-0.0 c.from_residual.ensures.1)
    (stops_in_link_side out links c.args.out.now (send_all (after_giving (viewer address old lines)) (unsent old.replica.plain) (Receives ToCatchUp)) c.in_err-send_unsent.field-0.0 c.args.link.now c.send_unsent.new.link
    (c.in_err-send_unsent.ensures.talk address lines (Receives ToCatchUp)))

pub returns-clause-talk : goal.returns-clause-talk
returns-clause-talk g c address lines =
    let out = output_tells g.W.Sink in
    let links = links_tell g.L.Link in
    let old = c.args.watcher.now in
    let from = send_all (after_giving (viewer address old lines)) (unsent old.replica.plain) (Receives ToCatchUp) in
    let mid = receive (viewer address c.send_unsent.new.watcher lines) ToCatchUp in
    done_behind (Acts (link_side_tells out links)) (all_acts_behind (link_side_tells out links)) from mid (viewer address c.await_answers.new.watcher lines) lines
    (link_side c.args.out.now c.args.link.now) (link_side c.args.out.now c.send_unsent.new.link) (link_side c.await_answers.new.out c.await_answers.new.link) c.await_answers.result
    (goes_in_link_side out links c.args.out.now from mid c.args.link.now c.send_unsent.new.link (c.in_ok-send_unsent.ensures.talk address lines (Receives ToCatchUp)))
    (c.await_answers.ensures.talk address lines)
