use Rattle.std.proofs.Common.{ap}
use Rattle.view_shell.specs.Phases.{Viewer, ToSee, Receiving}
use Rattle.view_shell.specs.Viewers.{viewer}
use Rattle.view_shell.specs.Hearing.{entry_phase, voted_phase}
use Rattle.view_shell.proofs.Going.{goes_and_stops, goes_on, goes_to, handed_on, link_acts_behind}
use Rattle.view_shell.proofs.Hearings.{entry_goes, entry_stops}
use Rattle.view_shell.proofs.Readiness.{viewer_sent}
use Rattle.view_shell.specs.declared.watcher.Watcher.{Watcher}
use Rattle.std.proofs.Common.{◌≡◌, arith}
use Rattle.view_shell.proofs.hearing.take_entry.Goals as goal

pub returns-clause-talk : goal.returns-clause-talk
returns-clause-talk g c address lines =
    let from = Receiving (viewer address c.args.watcher.now lines) (ToSee c.args.at) in
    let v = viewer address c.hear_entry.new.watcher lines in
    let u = viewer address c.stay_alive.new.watcher lines in
    goes_on _ (link_acts_behind _) from (voted_phase v c.args.at c.in_ok-comes.comes) (entry_phase u c.args.at c.in_ok-comes.comes) c.args.link.now c.hear_entry.new.link c.stay_alive.new.link
    (c.in_ok-comes.ensures.talk address lines)
    (goes_to _ (voted_phase v c.args.at c.in_ok-comes.comes) (entry_phase (record v { receives = u.receives }) c.args.at c.in_ok-comes.comes) (entry_phase u c.args.at c.in_ok-comes.comes) c.hear_entry.new.link c.stay_alive.new.link
    (ap (λ (one : Viewer). entry_phase one c.args.at c.in_ok-comes.comes) (viewer_sent address lines c.hear_entry.new.watcher c.stay_alive.new.watcher c.stay_alive.ensures.kept))
    (entry_goes _ v u.receives c.hear_entry.new.link c.stay_alive.new.link c.args.at c.in_ok-comes.comes c.in_ok-stay_alive.ensures.talk))

pub returns-in_err-stay_alive-clause-talk : goal.returns-in_err-stay_alive-clause-talk
returns-in_err-stay_alive-clause-talk g c address lines =
    let from = Receiving (viewer address c.args.watcher.now lines) (ToSee c.args.at) in
    let v = viewer address c.hear_entry.new.watcher lines in
    rw (handed_on c.from_residual-in_err-stay_alive.result c.in_err-stay_alive.field-0.0 c.from_residual-in_err-stay_alive.ensures.1)
    (goes_and_stops _ (link_acts_behind _) from (voted_phase v c.args.at c.in_ok-comes.comes) c.in_err-stay_alive.field-0.0 c.args.link.now c.hear_entry.new.link c.stay_alive.new.link
    (c.in_ok-comes.ensures.talk address lines)
    (entry_stops _ v c.stay_alive.new.watcher.receives c.hear_entry.new.link c.stay_alive.new.link c.args.at c.in_ok-comes.comes c.in_err-stay_alive.field-0.0 c.in_err-stay_alive.ensures.talk))

pub returns-in_err-comes-clause-talk : goal.returns-in_err-comes-clause-talk
returns-in_err-comes-clause-talk g c address lines =
    rw (handed_on c.from_residual.result c.in_err-comes.field-0.0 c.from_residual.ensures.1) (c.in_err-comes.ensures.talk address lines)

pub returns-clause-count : goal.returns-clause-count
returns-clause-count g c =
    let same : c.stay_alive.new.watcher.published ≡ c.hear_entry.new.watcher.published = ap (λ (w : Watcher). w.published) c.stay_alive.ensures.kept in
    let count = c.in_ok-comes.ensures.count in
    omega (arith, same, count)
