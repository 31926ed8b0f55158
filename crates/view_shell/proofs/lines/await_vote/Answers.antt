use Rattle.run_steps.specs.Outside.{Acts, links_tell, output_tells, link_side, link_side_tells}
use Rattle.view_shell.specs.Phases.{Receiving, ToSee}
use Rattle.view_shell.specs.Viewers.{viewer}
use Rattle.view_shell.specs.Hearing.{vote_told}
use Rattle.view_shell.proofs.Flowing.{done_behind}
use Rattle.view_shell.proofs.Going.{all_acts_behind, goes_in_link_side, handed_on, stops_in_link_side}
use Rattle.view_shell.specs.declared.watcher.Watcher.{Watcher}
use Rattle.std.proofs.Common.{ap, ◌∙◌}
use Rattle.view_shell.proofs.Voting.{if_well}
use Rattle.view_shell.proofs.lines.await_vote.Goals as goal

pub returns-in_err-await_entry-clause-talk : goal.returns-in_err-await_entry-clause-talk
returns-in_err-await_entry-clause-talk g c address lines =
    let out = output_tells g.W.Sink in
    let links = links_tell g.L.Link in
    rw (handed_on c.from_residual.result c.in_err-await_entry.field-0.0 c.from_residual.ensures.1)
    (stops_in_link_side out links c.args.out.now (Receiving (viewer address c.args.watcher.now lines) (ToSee c.args.at)) c.in_err-await_entry.field-0.0 c.args.link.now c.await_entry.new.link (c.in_err-await_entry.ensures.talk address lines))

pub returns-clause-talk : goal.returns-clause-talk
returns-clause-talk g c address lines =
    let out = output_tells g.W.Sink in
    let links = links_tell g.L.Link in
    let from = Receiving (viewer address c.args.watcher.now lines) (ToSee c.args.at) in
    let mid = vote_told (viewer address c.await_entry.new.watcher lines) c.args.at in
    done_behind (Acts (link_side_tells out links)) (all_acts_behind (link_side_tells out links)) from mid (viewer address c.tell_vote.new.watcher lines) lines
    (link_side c.args.out.now c.args.link.now) (link_side c.args.out.now c.await_entry.new.link) (link_side c.tell_vote.new.out c.tell_vote.new.link) c.tell_vote.result
    (goes_in_link_side out links c.args.out.now from mid c.args.link.now c.await_entry.new.link (c.in_ok-await_entry.ensures.talk address lines))
    (c.tell_vote.ensures.talk address lines)

pub returns-clause-count : goal.returns-clause-count
returns-clause-count g c = if_well c.tell_vote.result (ap (λ (w : Watcher). w.published) c.tell_vote.ensures.kept ∙ c.in_ok-await_entry.ensures.count)
