use Rattle.std.proofs.Common.{sym, ap}
use Rattle.view_shell.specs.Viewers.{viewer}
use Rattle.live_view.specs.declared.input.Place.{Place}
use Rattle.live_view.specs.Doing.{phase_at}
use Rattle.live_view.specs.Live.{wanted}
use Rattle.live_view.specs.View.{left}
use Rattle.live_view.proofs.machine.LiveView.wanted.Goals as goal

pub returns-in-Unlinked : goal.returns-in-Unlinked
returns-in-Unlinked c address =
    let s = c.args.self.now in
    sym (ap (λ (p : Place). wanted (phase_at p (viewer address s.watcher (left s)))) c.in-Unlinked.is)

pub returns-in-Hears : goal.returns-in-Hears
returns-in-Hears c address =
    let s = c.args.self.now in
    sym (ap (λ (p : Place). wanted (phase_at p (viewer address s.watcher (left s)))) c.in-Hears.is)

pub returns-in-Gone : goal.returns-in-Gone
returns-in-Gone c address =
    let s = c.args.self.now in
    sym (ap (λ (p : Place). wanted (phase_at p (viewer address s.watcher (left s)))) c.in-Gone.is)
