use Rattle.std.proofs.Common.{sym, ap, ◌∙◌}
use Rattle.view_shell.specs.Viewers.{viewer}
use Rattle.live_view.specs.declared.input.Place.{Place}
use Rattle.live_view.specs.declared.input.Goal.{Goal}
use Rattle.live_view.specs.Doing.{aim_of, phase_at}
use Rattle.live_view.specs.Live.{rests}
use Rattle.live_view.specs.View.{left}
use Rattle.view_shell.specs.Phases.{Receiving}
use Rattle.live_view.proofs.machine.LiveView.rests.Goals as goal

pub returns-in-Unlinked : goal.returns-in-Unlinked
returns-in-Unlinked c address =
    let s = c.args.self.now in
    sym (ap (λ (p : Place). rests (phase_at p (viewer address s.watcher (left s)))) c.in-Unlinked.is)

pub returns-in-Gone : goal.returns-in-Gone
returns-in-Gone c address =
    let s = c.args.self.now in
    sym (ap (λ (p : Place). rests (phase_at p (viewer address s.watcher (left s)))) c.in-Gone.is)

pub returns-in-Join : goal.returns-in-Join
returns-in-Join c address =
    let s = c.args.self.now in
    let v = viewer address s.watcher (left s) in
    sym (ap (λ (p : Place). rests (phase_at p v)) c.in-Hears.is ∙ ap (λ (g : Goal). rests (Receiving v (aim_of g))) c.in-Join.is)

pub returns-in-Reach : goal.returns-in-Reach
returns-in-Reach c address =
    let s = c.args.self.now in
    let v = viewer address s.watcher (left s) in
    sym (ap (λ (p : Place). rests (phase_at p v)) c.in-Hears.is ∙ ap (λ (g : Goal). rests (Receiving v (aim_of g))) c.in-Reach.is)

pub returns-in-Settle : goal.returns-in-Settle
returns-in-Settle c address =
    let s = c.args.self.now in
    let v = viewer address s.watcher (left s) in
    sym (ap (λ (p : Place). rests (phase_at p v)) c.in-Hears.is ∙ ap (λ (g : Goal). rests (Receiving v (aim_of g))) c.in-Settle.is)

pub returns-in-Snap : goal.returns-in-Snap
returns-in-Snap c address =
    let s = c.args.self.now in
    let v = viewer address s.watcher (left s) in
    sym (ap (λ (p : Place). rests (phase_at p v)) c.in-Hears.is ∙ ap (λ (g : Goal). rests (Receiving v (aim_of g))) c.in-Snap.is)

pub returns-in-CatchUp : goal.returns-in-CatchUp
returns-in-CatchUp c address =
    let s = c.args.self.now in
    let v = viewer address s.watcher (left s) in
    c.has_caught_up.ensures ∙ sym (ap (λ (p : Place). rests (phase_at p v)) c.in-Hears.is ∙ ap (λ (g : Goal). rests (Receiving v (aim_of g))) c.in-CatchUp.is)
