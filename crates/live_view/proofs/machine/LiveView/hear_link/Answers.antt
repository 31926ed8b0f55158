use Rattle.std.proofs.Common.{true, [], sym, ap, ◌∙◌}
use Rattle.view_shell.specs.Viewers.{viewer}
use Rattle.live_view.specs.declared.machine.LiveView.{LiveView}
use Rattle.live_view.specs.Doing.{aim_of}
use Rattle.live_view.specs.Live.{drives, heard_by, hears, held_on, holds_on, one_fewer, or_joined, waits}
use Rattle.live_view.specs.View.{left, live_state}
use Rattle.live_view.proofs.Leading.{held_as, tells_as}
use Rattle.live_view.proofs.Machines.{none_joined}
use Rattle.live_view.proofs.Queues.{well}
use Rattle.live_view.proofs.machine.LiveView.hear_link.Goals as goal

pub returns-then-holds_on-clause-knows : goal.returns-then-holds_on-clause-knows
returns-then-holds_on-clause-knows c = rw c.hold_on.ensures.kept c.requires.live.knows

pub returns-then-holds_on-clause-holds : goal.returns-then-holds_on-clause-holds
returns-then-holds_on-clause-holds c address =
    held_as c.hold_on.result c.hold_on.new.self.holds (one_fewer true c.args.self.now.holds) _ (ap (λ b. one_fewer b c.args.self.now.holds) (sym c.if-holds_on.true ∙ c.holds_on.ensures.held address)) c.hold_on.ensures.holds

pub returns-then-holds_on-clause-joined : goal.returns-then-holds_on-clause-joined
returns-then-holds_on-clause-joined c =
    let s = c.args.self.now in
    well c.hold_on.result (ap (λ (v : LiveView). v.joined) c.hold_on.ensures.kept
    ∙ sym (ap (λ j. or_joined j s.joined) (none_joined (aim_of c.args.goal) s.holds (viewer [] s.watcher (left s)) c.args.heard.now (sym (c.holds_on.ensures.held []) ∙ c.if-holds_on.true))))

pub returns-then-holds_on-clause-told : goal.returns-then-holds_on-clause-told
returns-then-holds_on-clause-told c address =
    let s = c.args.self.now in
    let v = viewer address s.watcher (left s) in
    tells_as c.hold_on.result c.args.out.now c.args.out.now (heard_by (holds_on s.holds v c.args.heard.now) s.closed v (aim_of c.args.goal) c.args.heard.now) (waits (held_on v (aim_of c.args.goal))) (live_state address c.hold_on.new.self).phase
    (ap (λ b. heard_by b s.closed v (aim_of c.args.goal) c.args.heard.now) (sym (c.holds_on.ensures.held address) ∙ c.if-holds_on.true))
    (c.hold_on.ensures.told address c.args.out.now)

pub returns-clause-holds : goal.returns-clause-holds
returns-clause-holds c address =
    well c.hear_for.result (ap (λ (v : LiveView). v.holds) c.hear_for.ensures.kept ∙ ap (λ b. one_fewer b c.args.self.now.holds) (sym c.if-holds_on.false ∙ c.holds_on.ensures.held address))

pub returns-clause-told : goal.returns-clause-told
returns-clause-told c address =
    let s = c.args.self.now in
    let v = viewer address s.watcher (left s) in
    tells_as c.hear_for.result c.args.out.now c.hear_for.new.out (heard_by (holds_on s.holds v c.args.heard.now) s.closed v (aim_of c.args.goal) c.args.heard.now) (drives s.closed (hears v (aim_of c.args.goal) c.args.heard.now)) (live_state address c.hear_for.new.self).phase
    (ap (λ b. heard_by b s.closed v (aim_of c.args.goal) c.args.heard.now) (sym (c.holds_on.ensures.held address) ∙ c.if-holds_on.false)) (c.hear_for.ensures.told address)
