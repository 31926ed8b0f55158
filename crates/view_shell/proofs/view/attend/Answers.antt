use Rattle.run_steps.specs.Outside.{Acts, links_tell, output_tells, link_side, link_side_tells}
use Rattle.view_script.specs.PlainLine.{plain_lines}
use Rattle.view_shell.specs.Phases.{ToJoin, bad_base, enter_session}
use Rattle.view_shell.specs.Flows.{departure_phase}
use Rattle.view_shell.specs.Viewers.{viewer}
use Rattle.view_shell.specs.Hearing.{synced_phase}
use Rattle.view_shell.proofs.Going.{all_acts_behind, goes_and_stops, goes_in_link_side, handed_on, stops_in_link_side}
use Rattle.view_shell.proofs.Hearings.{stopped_base, stopped_end}
use Rattle.view_shell.proofs.Entering.{base_flows, begun_flows}
use Rattle.view_shell.proofs.view.attend.Goals as goal

pub returns-in-Err-End-clause-talk : goal.returns-in-Err-End-clause-talk
returns-in-Err-End-clause-talk g c address =
    let out = output_tells g.W.Sink in
    let links = links_tell g.L.Link in
    let how = c.args.entry.now.how in
    let lines = plain_lines c.args.entry.now.lines.now in
    let start = enter_session (viewer address c.args.watcher.now lines) how in
    stops_in_link_side out links c.args.out.now start c.in-Err-End.end c.args.link.now c.join.new.link
    (stopped_end _ c.in-Err-End.field-0 c.in-Err-End.end start (viewer address c.join.new.watcher lines) (ToJoin how) c.args.link.now c.join.new.link c.in-Err-End.field-0-is (c.in-Err-End.ensures.talk address lines))

pub returns-in-Err-BadBase-clause-talk : goal.returns-in-Err-BadBase-clause-talk
returns-in-Err-BadBase-clause-talk g c address =
    let out = output_tells g.W.Sink in
    let links = links_tell g.L.Link in
    let how = c.args.entry.now.how in
    let lines = plain_lines c.args.entry.now.lines.now in
    let start = enter_session (viewer address c.args.watcher.now lines) how in
    let v = viewer address c.join.new.watcher in
    base_flows (Acts (link_side_tells out links)) start v lines how (link_side c.args.out.now c.args.link.now) (link_side c.args.out.now c.join.new.link) c.bad_base.result c.bad_base.ensures
    (goes_in_link_side out links c.args.out.now start (bad_base (v lines) (ToJoin how)) c.args.link.now c.join.new.link
    (stopped_base _ c.in-Err-BadBase.field-0 start (v lines) (ToJoin how) c.args.link.now c.join.new.link c.in-Err-BadBase.field-0-is (c.in-Err-BadBase.ensures.talk address lines)))

pub returns-in_err-begin-clause-talk : goal.returns-in_err-begin-clause-talk
returns-in_err-begin-clause-talk g c address =
    let out = output_tells g.W.Sink in
    let links = links_tell g.L.Link in
    let how = c.args.entry.now.how in
    let lines = plain_lines c.args.entry.now.lines.now in
    let start = enter_session (viewer address c.args.watcher.now lines) how in
    let met = synced_phase (viewer address c.join.new.watcher lines) how c.in-Ok.found in
    rw (handed_on c.from_residual.result c.in_err-begin.field-0.0 c.from_residual.ensures.1)
    (goes_and_stops (Acts (link_side_tells out links)) (all_acts_behind (link_side_tells out links)) start met c.in_err-begin.field-0.0
    (link_side c.args.out.now c.args.link.now) (link_side c.args.out.now c.join.new.link) (link_side c.begin.new.out c.begin.new.link)
    (goes_in_link_side out links c.args.out.now start met c.args.link.now c.join.new.link (c.in-Ok.ensures.talk address lines))
    (c.in_err-begin.ensures.talk address lines))

pub returns-clause-talk : goal.returns-clause-talk
returns-clause-talk g c address =
    let out = output_tells g.W.Sink in
    let links = links_tell g.L.Link in
    let lines = plain_lines c.args.entry.now.lines.now in
    begun_flows out links address lines c.args.entry.now.how c.in-Ok.found c.args.watcher.now c.join.new.watcher c.begin.new.watcher c.args.out.now c.args.link.now c.join.new.link
    (link_side c.begin.new.out c.begin.new.link) (link_side c.run_lines.new.out c.run_lines.new.link) (c.in-Ok.ensures.talk address lines) (c.in_ok-begin.ensures.talk address lines) (departure_phase (viewer address c.run_lines.new.watcher) lines) c.run_lines.result (c.run_lines.ensures.talk address)
