use Rattle.std.proofs.Common.{◌≡◌, ap, ◌∙◌, sym, subst}
use Rattle.world_plain.specs.Messages.{plain_message}
use Rattle.world_state.specs.Answer.{world_of}
use Rattle.world_plain.specs.Valid.{Valid}
use Rattle.model_solved.specs.Founding.{checked_tree}
use Rattle.world.specs.Worlds.{Scene, after_message, field_counts, at_later_time, scene_with_world}
use Rattle.world.specs.View.{scene}
use Rattle.world.proofs.Moving.{arrived-valid}
use Rattle.world.proofs.Turn.{turned, turn-valid, turn-falls, turn-same, arrived}
use Rattle.world.proofs.simulation.advance.Goals as goal

abbrev Turned : goal.In_ok-handle → Type 0
Turned c = scene c.handle.new.state ≡ after_message (checked_tree c.args.program.now) (plain_message c.in-Some.message) c.in-Some.ensures.0 (scene c.loop-message.state)

turn : (c : goal.In_ok-handle) → Turned c
turn c = turned (checked_tree c.args.program.now) (plain_message c.in-Some.message) c.in-Some.ensures.0 (scene c.loop-message.state) (scene c.take_due.new.state) (scene c.handle.new.state) c.in-Some.ensures.2 c.in_ok-handle.ensures

pub loop-message-smaller : goal.loop-message-smaller
loop-message-smaller c =
    turn-falls (checked_tree c.args.program.now) c.args.time (plain_message c.in-Some.message) c.in-Some.ensures.0 (scene c.loop-message.state) (scene c.handle.new.state) c.requires.program c.loop-message.invariant.0 c.in-Some.ensures.1 (turn c)

pub loop-message-preserved : goal.loop-message-preserved
loop-message-preserved c = (
  turn-valid (checked_tree c.args.program.now) c.args.time (plain_message c.in-Some.message) c.in-Some.ensures.0 (scene c.loop-message.state) (scene c.handle.new.state) c.requires.program c.loop-message.invariant.0 c.in-Some.ensures.1 (turn c),
  turn-same (checked_tree c.args.program.now) c.args.time (plain_message c.in-Some.message) c.in-Some.ensures.0 (scene c.loop-message.state) (scene c.handle.new.state) c.requires.program c.loop-message.invariant.0 c.in-Some.ensures.1 (turn c) ∙ c.loop-message.invariant.1,
)

at_end : (c : goal.After-move_to) → scene c.move_to.new.state ≡ scene_with_world (scene c.loop-message.state) (at_later_time c.args.time (scene c.loop-message.state).world)
at_end c = c.move_to.ensures ∙ ap (λ (s : Scene). scene_with_world s (at_later_time c.args.time s.world)) c.in_default.ensures.1

pub returns-clause-advanced : goal.returns-clause-advanced
returns-clause-advanced c =
    arrived (checked_tree c.args.program.now) c.args.time (scene c.loop-message.state) (scene c.move_to.new.state) c.requires.program c.loop-message.invariant.0 c.in_default.ensures.0 (at_end c) ∙ c.loop-message.invariant.1

pub returns-clause-valid : goal.returns-clause-valid
returns-clause-valid c =
    let counts = field_counts (checked_tree c.args.program.now) in
    subst (λ (s : Scene). Valid counts s.world) (sym (at_end c)) (arrived-valid counts c.args.time (world_of c.loop-message.state) c.requires.time c.in_default.ensures.0 c.loop-message.invariant.0)
