use Rattle.run_steps.specs.Outside.{links_tell, output_tells}
use Rattle.replica_plain.specs.Calls.{unsent}
use Rattle.view_shell.specs.Phases.{TellsText, after_giving, send_all}
use Rattle.view_shell.specs.Viewers.{viewer}
use Rattle.view_shell.specs.Hearing.{rejoined_text}
use Rattle.view_shell.proofs.Going.{handed_on, stops_in_link_side}
use Rattle.view_shell.proofs.Flowing.{line_done}
use Rattle.view_shell.proofs.Readiness.{viewer_finished}
use Rattle.view_shell.proofs.lines.send_and_tell.Goals as goal

pub returns-in_err-send_unsent-clause-talk : goal.returns-in_err-send_unsent-clause-talk
returns-in_err-send_unsent-clause-talk g c address lines =
    let out = output_tells g.W.Sink in
    let links = links_tell g.L.Link in
    let old = c.args.watcher.now in
    rw (handed_on c.from_residual.result c.in_err-send_unsent.field-0.0 c.from_residual.ensures.1)
    (stops_in_link_side out links c.args.out.now (send_all (after_giving (viewer address old lines)) (unsent old.replica.plain) (TellsText (rejoined_text c.args.synced))) c.in_err-send_unsent.field-0.0 c.args.link.now c.send_unsent.new.link
    (c.in_err-send_unsent.ensures.talk address lines (TellsText (rejoined_text c.args.synced))))

pub returns-clause-talk : goal.returns-clause-talk
returns-clause-talk g c address lines =
    let out = output_tells g.W.Sink in
    let links = links_tell g.L.Link in
    let old = c.args.watcher.now in
    line_done out links (send_all (after_giving (viewer address old lines)) (unsent old.replica.plain) (TellsText (rejoined_text c.args.synced))) c.args.out.now c.tell_synced.new.out c.args.link.now c.send_unsent.new.link
    (viewer address c.send_unsent.new.watcher lines) (viewer address c.tell_synced.new.watcher lines) (rejoined_text c.args.synced) c.tell_synced.result
    (viewer_finished address lines c.send_unsent.new.watcher c.tell_synced.new.watcher c.tell_synced.result c.tell_synced.ensures.kept c.tell_synced.ensures.ok)
    (c.in_ok-send_unsent.ensures.talk address lines (TellsText (rejoined_text c.args.synced))) (c.tell_synced.ensures.printed address lines) (c.tell_synced.ensures.err address lines)
