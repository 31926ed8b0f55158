use Rattle.std.proofs.Common.{◌≡◌, Option, ap, sym, ◌∙◌}
use Rattle.run_steps.specs.Outside.{links_tell}
use Rattle.view_shell.specs.declared.hearing.Stop.TheVariants as stop
use Rattle.view_shell.specs.declared.hearing.Synced.{Synced}
use Rattle.view_shell.specs.Phases.{Viewer, ToJoin, Receiving}
use Rattle.view_shell.specs.Viewers.{viewer}
use Rattle.view_shell.specs.Hearing.{HeardPhase, joined_phase, sync_in}
use Rattle.view_shell.proofs.Going.{goes_and_stops, goes_on, goes_to, handed_on, link_acts_behind}
use Rattle.view_shell.proofs.Hearings.{behind_sync, hears_as, sync_goes, sync_phase, sync_stops}
use Rattle.view_shell.proofs.Readiness.{viewer_sent}
use Rattle.view_shell.proofs.hearing.hear_sync.Goals as goal

pub returns-clause-talk : goal.returns-clause-talk
returns-clause-talk g c address lines how =
    let from = Receiving (viewer address c.args.watcher.now lines) (ToJoin how) in
    let v = viewer address c.hear.new.watcher lines in
    let u = viewer address c.stay_alive.new.watcher lines in
    let found : c.sync_in-found.result ≡ sync_in c.in_ok-hear.field-0 = c.sync_in-found.ensures in
    goes_on _ (link_acts_behind _) from (behind_sync v how c.sync_in-found.result) (joined_phase u how c.sync_in-found.result) c.args.link.now c.hear.new.link c.stay_alive.new.link
    (goes_to _ from (HeardPhase v (ToJoin how) c.in_ok-hear.field-0) (behind_sync v how c.sync_in-found.result) c.args.link.now c.hear.new.link
    (sync_phase v how c.in_ok-hear.field-0 ∙ ap (λ (s : Option Synced). behind_sync v how s) (sym found)) (c.in_ok-hear.ensures.talk address lines (ToJoin how)))
    (goes_to _ (behind_sync v how c.sync_in-found.result) (joined_phase (record v { receives = u.receives }) how c.sync_in-found.result) (joined_phase u how c.sync_in-found.result) c.hear.new.link c.stay_alive.new.link
    (ap (λ (one : Viewer). joined_phase one how c.sync_in-found.result) (viewer_sent address lines c.hear.new.watcher c.stay_alive.new.watcher c.stay_alive.ensures.kept))
    (sync_goes _ v u.receives c.hear.new.link c.stay_alive.new.link how c.sync_in-found.result c.in_ok-stay_alive.ensures.talk))

pub returns-in_err-stay_alive-clause-talk : goal.returns-in_err-stay_alive-clause-talk
returns-in_err-stay_alive-clause-talk g c address lines how =
    let from = Receiving (viewer address c.args.watcher.now lines) (ToJoin how) in
    let v = viewer address c.hear.new.watcher lines in
    rw (handed_on c.from_residual-in_err-stay_alive.result (stop.End c.in_err-stay_alive.field-0.0) c.from_residual-in_err-stay_alive.ensures.1)
    (goes_and_stops _ (link_acts_behind _) from (behind_sync v how (sync_in c.in_ok-hear.field-0)) c.in_err-stay_alive.field-0.0 c.args.link.now c.hear.new.link c.stay_alive.new.link
    (goes_to _ from (HeardPhase v (ToJoin how) c.in_ok-hear.field-0) (behind_sync v how (sync_in c.in_ok-hear.field-0)) c.args.link.now c.hear.new.link (sync_phase v how c.in_ok-hear.field-0) (c.in_ok-hear.ensures.talk address lines (ToJoin how)))
    (sync_stops _ v v.receives c.hear.new.link c.stay_alive.new.link how (sync_in c.in_ok-hear.field-0) c.in_err-stay_alive.field-0.0 c.in_err-stay_alive.ensures.talk))

pub returns-in_err-hear-clause-talk : goal.returns-in_err-hear-clause-talk
returns-in_err-hear-clause-talk g c address lines how =
    rw (handed_on c.from_residual.result c.in_err-hear.field-0.0 c.from_residual.ensures.1)
    (hears_as (links_tell g.L.Link) c.in_err-hear.field-0.0 (Receiving (viewer address c.args.watcher.now lines) (ToJoin how)) (viewer address c.hear.new.watcher lines) (ToJoin how)
    c.args.link.now c.hear.new.link (c.in_err-hear.ensures.talk address lines (ToJoin how)))
