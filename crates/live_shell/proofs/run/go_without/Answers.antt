use Rattle.live_view.specs.declared.input.LiveInput.TheVariants as input
use Rattle.live_view.specs.Live.{is_held}
use Rattle.live_view.specs.View.{live_state}
use Rattle.live_shell.proofs.Sendings.{steps_by}
use Rattle.live_shell.proofs.Turns.{held_before, left_missed, missed_wants}
use Rattle.live_shell.proofs.run.go_without.Goals as goal

pub returns-clause-told : goal.returns-clause-told
returns-clause-told g c address = steps_by address c.in_ok-step.field-0 c.args.view.now c.step.new.self input.LinkFailed (c.in_ok-step.ensures.ok address)

pub returns-clause-wants : goal.returns-clause-wants
returns-clause-wants g c address =
    missed_wants (live_state address c.args.view.now) (live_state address c.step.new.self) (steps_by address c.in_ok-step.field-0 c.args.view.now c.step.new.self input.LinkFailed (c.in_ok-step.ensures.ok address)) ((c.requires.wants address).is)

pub returns-clause-paused : goal.returns-clause-paused
returns-clause-paused g c address =
    let s = live_state address c.args.view.now in
    let s' = live_state address c.step.new.self in
    let steps = steps_by address c.in_ok-step.field-0 c.args.view.now c.step.new.self input.LinkFailed (c.in_ok-step.ensures.ok address) in
    c.pause_if.ensures (is_held s.holds s.phase input.LinkFailed) (held_before s input.LinkFailed c.holds-before.result (c.holds-before.ensures address))
    (left_missed s s' c.holds-before.result c.holds.result (c.holds-before.ensures address) (c.holds.ensures address) steps)
