use Rattle.std.proofs.Common.{◌+◌, ap, ◌∙◌}
use Rattle.view_shell.specs.Viewers.{viewer}
use Rattle.live_view.specs.Doing.{after, aim_of, phase_at, votes_at}
use Rattle.live_view.specs.Live.{heard_by, heard_step, holds_on, is_held, joined_in, one_fewer, waits}
use Rattle.live_view.specs.View.{HasLines, left, live_state}
use Rattle.live_view.specs.declared.input.LiveInput.TheVariants as tells
use Rattle.live_view.specs.declared.input.Place.{Place}
use Rattle.live_view.specs.Doing.{IsReadyAt}
use Rattle.std.proofs.Common.{Some, sym, subst}
use Rattle.live_view.specs.declared.machine.LiveView.{LiveView}
use Rattle.live_view.proofs.Queues.{well}
use Rattle.live_view.proofs.Leading.{held_as, joined_well, tells_as}
use Rattle.live_view.proofs.machine.LiveView.hear.Goals as goal

pub returns-in-Unlinked-clause-joined : goal.returns-in-Unlinked-clause-joined
returns-in-Unlinked-clause-joined c address =
    let s = c.args.self.now in
    sym (ap (λ (p : Place). joined_in (tells.Says c.args.heard.now) (phase_at p (viewer address s.watcher (left s))) s.joined) c.in-Unlinked.is)

pub returns-in-Unlinked-clause-told : goal.returns-in-Unlinked-clause-told
returns-in-Unlinked-clause-told c address =
    let s = c.args.self.now in
    let v = viewer address s.watcher (left s) in
    record {
      tells = ap (λ (p : Place). after c.args.out.now (heard_step s.closed s.holds (phase_at p v) c.args.heard.now)) c.in-Unlinked.is
          ∙ sym (ap (λ (p : Place). after c.args.out.now (waits (phase_at p v))) c.in-Unlinked.is);
    }

pub returns-in-Gone-clause-joined : goal.returns-in-Gone-clause-joined
returns-in-Gone-clause-joined c address =
    let s = c.args.self.now in
    sym (ap (λ (p : Place). joined_in (tells.Says c.args.heard.now) (phase_at p (viewer address s.watcher (left s))) s.joined) c.in-Gone.is)

pub returns-in-Gone-clause-told : goal.returns-in-Gone-clause-told
returns-in-Gone-clause-told c address =
    let s = c.args.self.now in
    let v = viewer address s.watcher (left s) in
    record {
      tells = ap (λ (p : Place). after c.args.out.now (heard_step s.closed s.holds (phase_at p v) c.args.heard.now)) c.in-Gone.is
          ∙ sym (ap (λ (p : Place). after c.args.out.now (waits (phase_at p v))) c.in-Gone.is);
    }

pub hear_link-requires-clause-ready : goal.hear_link-requires-clause-ready
hear_link-requires-clause-ready c = subst (λ (p : Place). IsReadyAt (Some p) c.args.self.now.watcher) c.in-Hears.is c.requires.live.ready

pub hear_link-requires-clause-lines : goal.hear_link-requires-clause-lines
hear_link-requires-clause-lines c =
    subst (λ (p : Place). HasLines (c.args.self.now.watcher.published + votes_at (Some p)) c.args.self.now.queue) c.in-Hears.is c.requires.live.lines

pub returns-in-Hears-clause-joined : goal.returns-in-Hears-clause-joined
returns-in-Hears-clause-joined c address =
    let s = c.args.self.now in
    let v = viewer address s.watcher (left s) in
    joined_well c.hear_link.result _ _ (joined_in (tells.Says c.args.heard.now) (phase_at s.place v) s.joined)
    (sym (ap (λ (p : Place). joined_in (tells.Says c.args.heard.now) (phase_at p v) s.joined) c.in-Hears.is)) c.hear_link.ensures.joined

pub returns-in-Hears-clause-told : goal.returns-in-Hears-clause-told
returns-in-Hears-clause-told c address =
    let s = c.args.self.now in
    let v = viewer address s.watcher (left s) in
    tells_as c.hear_link.result c.args.out.now c.hear_link.new.out (heard_step s.closed s.holds (phase_at s.place v) c.args.heard.now) (heard_by (holds_on s.holds v c.args.heard.now) s.closed v (aim_of c.in-Hears.goal) c.args.heard.now) (live_state address c.hear_link.new.self).phase
    (ap (λ (p : Place). heard_step s.closed s.holds (phase_at p v) c.args.heard.now) c.in-Hears.is) (c.hear_link.ensures.told address)

pub returns-in-Hears-clause-whole : goal.returns-in-Hears-clause-whole
returns-in-Hears-clause-whole c = well c.hear_link.result (ap (λ (v : LiveView). v.lost) c.hear_link.ensures.kept ∙ c.if-self.false)

pub returns-in-Unlinked-clause-holds : goal.returns-in-Unlinked-clause-holds
returns-in-Unlinked-clause-holds c address =
    let s = c.args.self.now in
    sym (ap (λ (p : Place). one_fewer (is_held s.holds (phase_at p (viewer address s.watcher (left s))) (tells.Says c.args.heard.now)) s.holds) c.in-Unlinked.is)

pub returns-in-Gone-clause-holds : goal.returns-in-Gone-clause-holds
returns-in-Gone-clause-holds c address =
    let s = c.args.self.now in
    sym (ap (λ (p : Place). one_fewer (is_held s.holds (phase_at p (viewer address s.watcher (left s))) (tells.Says c.args.heard.now)) s.holds) c.in-Gone.is)

pub returns-in-Hears-clause-holds : goal.returns-in-Hears-clause-holds
returns-in-Hears-clause-holds c address =
    let s = c.args.self.now in
    let v = viewer address s.watcher (left s) in
    held_as c.hear_link.result c.hear_link.new.self.holds _ (one_fewer (is_held s.holds (phase_at s.place v) (tells.Says c.args.heard.now)) s.holds)
    (sym (ap (λ (p : Place). one_fewer (is_held s.holds (phase_at p v) (tells.Says c.args.heard.now)) s.holds) c.in-Hears.is)) (c.hear_link.ensures.holds address)
