use Rattle.std.proofs.Common.{ℕ, Option, sym, ap, ◌∙◌}
use Rattle.std.specs.Prelude.{nat_le}
use Rattle.view_shell.specs.Phases.{Receiving}
use Rattle.view_shell.specs.Viewers.{viewer}
use Rattle.live_view.specs.declared.input.Place.{Place}
use Rattle.live_view.specs.Doing.{aim_of, phase_at}
use Rattle.live_view.specs.Live.{has_arrived}
use Rattle.live_view.specs.View.{left}
use Rattle.live_view.proofs.machine.LiveView.has_arrived.Goals as goal

pub returns-in-Unlinked : goal.returns-in-Unlinked
returns-in-Unlinked c address =
    let s = c.args.self.now in
    sym (ap (λ (p : Place). has_arrived (phase_at p (viewer address s.watcher (left s))) s.joined) c.in-Unlinked.is)

pub returns-in-Some : goal.returns-in-Some
returns-in-Some c address =
    let s = c.args.self.now in
    let v = viewer address s.watcher (left s) in
    ap (nat_le c.in-Some.joined) c.seen_of.ensures
    ∙ sym (ap (λ (p : Place). has_arrived (phase_at p v) s.joined) c.in-Hears.is ∙ ap (λ (j : Option ℕ). has_arrived (Receiving v (aim_of c.in-Hears.field-0)) j) c.in-Some.is)

pub returns-in-None : goal.returns-in-None
returns-in-None c address =
    let s = c.args.self.now in
    let v = viewer address s.watcher (left s) in
    sym (ap (λ (p : Place). has_arrived (phase_at p v) s.joined) c.in-Hears.is ∙ ap (λ (j : Option ℕ). has_arrived (Receiving v (aim_of c.in-Hears.field-0)) j) c.in-None.is)

pub returns-in-Gone : goal.returns-in-Gone
returns-in-Gone c address =
    let s = c.args.self.now in
    sym (ap (λ (p : Place). has_arrived (phase_at p (viewer address s.watcher (left s))) s.joined) c.in-Gone.is)
