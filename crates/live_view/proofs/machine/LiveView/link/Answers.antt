use Rattle.std.proofs.Common.{ap, sym, ◌∙◌}
use Rattle.view_shell.specs.Phases.{enter_session}
use Rattle.view_shell.specs.Viewers.{viewer}
use Rattle.live_view.specs.Doing.{after, phase_at}
use Rattle.live_view.specs.Live.{drives, lines_kept, link_step, revived, waits}
use Rattle.live_view.specs.View.{left, live_state}
use Rattle.live_view.specs.declared.input.Place.{Place}
use Rattle.live_view.proofs.Leading.{tells_as}
use Rattle.live_view.proofs.Machines.{ended_stands, heard_stands}
use Rattle.live_view.proofs.machine.LiveView.link.Goals as goal

pub returns-in-Unlinked-clause-told : goal.returns-in-Unlinked-clause-told
returns-in-Unlinked-clause-told c address =
    let s = c.args.self.now in
    let v = viewer address s.watcher (left s) in
    tells_as c.enter.result c.args.out.now c.enter.new.out (link_step s.closed (revived s.lost (phase_at s.place v))) (drives s.closed (enter_session (viewer address s.watcher (lines_kept s.lost (left s))) c.in-Unlinked.how)) (live_state address c.enter.new.self).phase
    (ap (λ (p : Place). link_step s.closed (revived s.lost (phase_at p v))) c.in-Unlinked.is) (c.enter.ensures.told address)

pub returns-in-Hears-clause-whole : goal.returns-in-Hears-clause-whole
returns-in-Hears-clause-whole c = heard_stands c.args.self.now.lost c.args.self.now.place c.in-Hears.field-0 c.in-Hears.is c.requires.live.lost

pub returns-in-Hears-clause-told : goal.returns-in-Hears-clause-told
returns-in-Hears-clause-told c address =
    let s = c.args.self.now in
    let v = viewer address s.watcher (left s) in
    record {
      tells = ap (λ (p : Place). after c.args.out.now (link_step s.closed (revived s.lost (phase_at p v)))) c.in-Hears.is
          ∙ sym (ap (λ (p : Place). after c.args.out.now (waits (phase_at p v))) c.in-Hears.is);
    }

pub returns-in-Gone-clause-whole : goal.returns-in-Gone-clause-whole
returns-in-Gone-clause-whole c = ended_stands c.args.self.now.lost c.args.self.now.place c.in-Gone.field-0 c.in-Gone.is c.requires.live.lost

pub returns-in-Gone-clause-told : goal.returns-in-Gone-clause-told
returns-in-Gone-clause-told c address =
    let s = c.args.self.now in
    let v = viewer address s.watcher (left s) in
    record {
      tells = ap (λ (p : Place). after c.args.out.now (link_step s.closed (revived s.lost (phase_at p v)))) c.in-Gone.is
          ∙ sym (ap (λ (p : Place). after c.args.out.now (waits (phase_at p v))) c.in-Gone.is);
    }
