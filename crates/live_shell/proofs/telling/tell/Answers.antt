use Rattle.std.proofs.Common.{ap, inl}
use Rattle.live_view.specs.Live.{LiveTold, live_step}
use Rattle.live_view.specs.View.{live_state}
use Rattle.live_shell.proofs.Sendings.{stepped}
use Rattle.live_shell.proofs.telling.tell.Goals as goal

pub returns-clause-state : goal.returns-clause-state
returns-clause-state g c address = stepped c.answer-answered.result address c.in_ok-outcome.outcome c.args.view.now c.step.new.self c.args.input.now (c.in_ok-outcome.ensures.ok address)

pub returns-clause-told : goal.returns-clause-told
returns-clause-told g c address =
    let is = c.in_ok-outcome.ensures.ok address in
    inl (c.answer-answered.ensures (live_step (live_state address c.args.view.now) c.args.input.now) (ap (λ (t : LiveTold). t.frames) is) (ap (λ (t : LiveTold). t.text) is) (ap (λ (t : LiveTold). t.here) is))
