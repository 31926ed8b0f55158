use Rattle.std.proofs.Common.{true, refl, ap, ◌∙◌}
use Rattle.view_shell.specs.Viewers.{viewer}
use Rattle.live_view.specs.Doing.{phase_at}
use Rattle.live_view.specs.Live.{wakes}
use Rattle.live_view.specs.View.{left, live_state}
use Rattle.live_view.proofs.Leading.{tells_as}
use Rattle.live_view.specs.declared.machine.LiveView.{LiveView}
use Rattle.live_view.proofs.Queues.{well}
use Rattle.live_view.proofs.machine.LiveView.close.Goals as goal

pub wake-requires-clause-live : goal.wake-requires-clause-live
wake-requires-clause-live c =
    let live = c.requires.live in
    record { knows = live.knows; ready = live.ready; lines = live.lines; lost = live.lost; empty = live.empty }

pub returns-clause-whole : goal.returns-clause-whole
returns-clause-whole c = well c.wake.result (ap (λ (v : LiveView). v.lost) c.wake.ensures.kept ∙ c.if-self.false)

pub returns-clause-told : goal.returns-clause-told
returns-clause-told c address =
    let p = phase_at c.args.self.now.place (viewer address c.args.self.now.watcher (left c.args.self.now)) in
    tells_as c.wake.result c.args.out.now c.wake.new.out (wakes true p) (wakes true p) (live_state address c.wake.new.self).phase refl (c.wake.ensures.told address)
