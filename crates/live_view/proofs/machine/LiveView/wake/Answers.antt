use Rattle.std.proofs.Common.{[], sym, ap, ◌∙◌}
use Rattle.view_shell.specs.Viewers.{viewer}
use Rattle.live_view.specs.Doing.{after, phase_at}
use Rattle.live_view.specs.Live.{goes_on, wakes}
use Rattle.live_view.specs.View.{left, live_state}
use Rattle.live_view.proofs.Leading.{tells_as}
use Rattle.live_view.proofs.Machines.{not_wakes, rested_ready, rested_wakes}
use Rattle.live_view.proofs.machine.LiveView.wake.Goals as goal

pub advance-requires-clause-ready : goal.advance-requires-clause-ready
advance-requires-clause-ready c =
    let v = viewer [] c.args.self.now.watcher (left c.args.self.now) in
    rested_ready c.args.self.now.place c.args.self.now.watcher v (sym (c.rests.ensures []) ∙ c.if-rests.true) c.requires.live.ready

pub returns-then-rests-clause-told : goal.returns-then-rests-clause-told
returns-then-rests-clause-told c address =
    let s = c.args.self.now in
    let v = viewer address s.watcher (left s) in
    tells_as c.advance.result c.args.out.now c.advance.new.out (wakes s.closed (phase_at s.place v)) (goes_on s.closed v) (live_state address c.advance.new.self).phase
    (rested_wakes s.place v s.closed (sym (c.rests.ensures address) ∙ c.if-rests.true)) (c.advance.ensures.told address)

pub returns-clause-told : goal.returns-clause-told
returns-clause-told c address =
    let s = c.args.self.now in
    record { tells = ap (after c.args.out.now) (not_wakes (phase_at s.place (viewer address s.watcher (left s))) s.closed (sym (c.rests.ensures address) ∙ c.if-rests.false)) }
