use Rattle.std.proofs.Common.{[], refl, subst}
use Rattle.run_steps.specs.Outside.{links_tell}
use Rattle.view_shell.specs.declared.ending.ViewEnd.TheVariants as ending
use Rattle.view_shell.specs.Phases.{Viewer, Receives, Receiving, bad_base, receive, go_on, send_all}
use Rattle.view_shell.specs.Viewers.{viewer}
use Rattle.view_shell.specs.ViewRun.{GoesOrStops, LinkActs}
use Rattle.view_shell.specs.Hearing.{HeardPhase}
use Rattle.view_shell.proofs.Going.{goes_or_stops_on, goes_to, link_acts_behind, reaches_end}
use Rattle.view_shell.proofs.Hearings.{bad_base_for, goes_on_for, stopped_base, stopped_end}
use Rattle.view_shell.proofs.Readiness.{viewer_sent}
use Rattle.view_shell.proofs.hearing.hear_on.Goals as goal

pub returns-in-Err-End-clause-talk : goal.returns-in-Err-End-clause-talk
returns-in-Err-End-clause-talk g c address lines aim goes =
    stopped_end _ c.in-Err-End.field-0 c.in-Err-End.end (Receiving (viewer address c.args.watcher.now lines) aim) (viewer address c.hear.new.watcher lines) aim _ _ c.in-Err-End.field-0-is (c.in-Err-End.ensures.talk address lines aim)

pub returns-in-Err-BadBase-clause-talk : goal.returns-in-Err-BadBase-clause-talk
returns-in-Err-BadBase-clause-talk g c address lines aim goes =
    let from = Receiving (viewer address c.args.watcher.now lines) aim in
    let v = viewer address c.hear.new.watcher lines in
    reaches_end _ from (bad_base v aim) ending.Peer _ _
    (stopped_base _ c.in-Err-BadBase.field-0 from v aim _ _ c.in-Err-BadBase.field-0-is (c.in-Err-BadBase.ensures.talk address lines aim)) (bad_base_for v aim goes)

pub returns-clause-talk : goal.returns-clause-talk
returns-clause-talk g c address lines aim goes =
    let links = links_tell g.L.Link in
    let from = Receiving (viewer address c.args.watcher.now lines) aim in
    let v = viewer address c.hear.new.watcher lines in
    let u = viewer address c.stay_alive.new.watcher lines in
    goes_or_stops_on (LinkActs links) (link_acts_behind links) from (go_on v [] (Receives aim)) (λ it. receive u aim) c.stay_alive.result c.args.link.now c.hear.new.link c.stay_alive.new.link
    (goes_to (LinkActs links) from (HeardPhase v aim c.in-Ok.field-0) (go_on v [] (Receives aim)) c.args.link.now c.hear.new.link (goes_on_for v aim c.in-Ok.field-0 goes) (c.in-Ok.ensures.talk address lines aim))
    (subst (λ (one : Viewer). GoesOrStops (LinkActs links) (go_on v [] (Receives aim)) (λ it. send_all one [] (Receives aim)) c.stay_alive.result c.hear.new.link c.stay_alive.new.link)
    (viewer_sent address lines c.hear.new.watcher c.stay_alive.new.watcher c.stay_alive.ensures.kept) (c.stay_alive.ensures.talk v [] (Receives aim) refl))
