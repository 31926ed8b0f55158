use Rattle.std.proofs.Common.{Some, refl}
use Rattle.run_steps.specs.Outside.{Acts, links_tell, output_tells, link_side, link_side_tells}
use Rattle.replica_plain.specs.Calls.{unsent}
use Rattle.view_shell.specs.Phases.{TellsText, after_giving, send_all}
use Rattle.view_shell.specs.Hearing.{rejoined_text, synced_phase}
use Rattle.view_shell.proofs.Flowing.{done_from}
use Rattle.view_shell.specs.Viewers.{viewer}
use Rattle.view_shell.proofs.Entering.{begins, rejoins}
use Rattle.view_shell.proofs.view.begin.Goals as goal

pub returns-in-Fresh : goal.returns-in-Fresh
returns-in-Fresh g c = record {
  ready = c.requires.ready;
  published = refl;
  talk = λ address lines.
      begins (output_tells g.W.Sink) (links_tell g.L.Link) c.args.out.now c.args.link.now
      (viewer address c.args.watcher.now lines) c.args.how c.args.found c.in-Fresh.is;
}

pub returns-in-Resume-clause-talk : goal.returns-in-Resume-clause-talk
returns-in-Resume-clause-talk g c address lines =
    let out = output_tells g.W.Sink in
    let links = links_tell g.L.Link in
    let v = viewer address c.args.watcher.now lines in
    done_from (Acts (link_side_tells out links)) (synced_phase v c.args.how c.args.found) (send_all (after_giving v) (unsent v.replica) (TellsText (rejoined_text (Some c.args.found)))) (viewer address c.send_and_tell.new.watcher lines) lines
    (link_side c.args.out.now c.args.link.now) (link_side c.send_and_tell.new.out c.send_and_tell.new.link) c.send_and_tell.result (rejoins v c.args.how c.args.found c.in-Resume.is) (c.send_and_tell.ensures.talk address lines)
