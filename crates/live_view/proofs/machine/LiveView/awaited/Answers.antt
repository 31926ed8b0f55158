use Rattle.std.proofs.Common.{false, sym, ap, ◌∙◌}
use Rattle.view_shell.specs.Viewers.{viewer}
use Rattle.live_view.specs.declared.input.Place.{Place}
use Rattle.live_view.specs.Doing.{phase_at}
use Rattle.live_view.specs.Live.{awaited}
use Rattle.live_view.specs.View.{left}
use Rattle.live_view.proofs.machine.LiveView.awaited.Goals as goal

pub returns-in-Unlinked : goal.returns-in-Unlinked
returns-in-Unlinked c address =
    let s = c.args.self.now in
    sym (ap (λ b. awaited b (phase_at s.place (viewer address s.watcher (left s))) s.joined) c.if-arrived.false ∙ ap (λ (p : Place). awaited false (phase_at p (viewer address s.watcher (left s))) s.joined) c.in-Unlinked.is)

pub returns-in-Hears : goal.returns-in-Hears
returns-in-Hears c address =
    let s = c.args.self.now in
    sym (ap (λ b. awaited b (phase_at s.place (viewer address s.watcher (left s))) s.joined) c.if-arrived.false ∙ ap (λ (p : Place). awaited false (phase_at p (viewer address s.watcher (left s))) s.joined) c.in-Hears.is)

pub returns-in-Gone : goal.returns-in-Gone
returns-in-Gone c address =
    let s = c.args.self.now in
    sym (ap (λ b. awaited b (phase_at s.place (viewer address s.watcher (left s))) s.joined) c.if-arrived.false ∙ ap (λ (p : Place). awaited false (phase_at p (viewer address s.watcher (left s))) s.joined) c.in-Gone.is)

pub returns-then-arrived : goal.returns-then-arrived
returns-then-arrived c address =
    let s = c.args.self.now in
    sym (ap (λ b. awaited b (phase_at s.place (viewer address s.watcher (left s))) s.joined) c.if-arrived.true)
