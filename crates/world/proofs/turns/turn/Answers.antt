use Rattle.std.proofs.Common.{◌≡◌}
use Rattle.world_plain.specs.Messages.{plain_message}
use Rattle.model_solved.specs.Founding.{checked_tree}
use Rattle.world_state.specs.Answer.{world_of}
use Rattle.world.specs.Worlds.{field_counts, after_message}
use Rattle.world.specs.View.{scene, plain_ran}
use Rattle.world.proofs.Turn.{turned, turn-valid}
use Rattle.world.proofs.TurnLaws.{taken-held, turned-is, told-is, unturned-is, untold-is}
use Rattle.world.proofs.turns.turn.Goals as goal

pub tell-requires : goal.tell-requires
tell-requires c =
    taken-held (field_counts (checked_tree c.args.program.now)) c.args.until (plain_message c.in-Some.message) c.in-Some.ensures.0 (scene c.args.state.now) (scene c.take_due.new.state) c.requires.valid c.in-Some.ensures.1 c.in-Some.ensures.2

abbrev Turned : goal.In_ok-handle → Type 0
Turned c = scene c.handle.new.state ≡ after_message (checked_tree c.args.program.now) (plain_message c.in-Some.message) c.in-Some.ensures.0 (scene c.args.state.now)

ran : (c : goal.In_ok-handle) → Turned c
ran c = turned (checked_tree c.args.program.now) (plain_message c.in-Some.message) c.in-Some.ensures.0 (scene c.args.state.now) (scene c.take_due.new.state) (scene c.handle.new.state) c.in-Some.ensures.2 c.in_ok-handle.ensures

pub returns-clause-after : goal.returns-clause-after
returns-clause-after c =
    turned-is (checked_tree c.args.program.now) c.args.until (plain_message c.in-Some.message) c.in-Some.ensures.0 (scene c.args.state.now) (scene c.handle.new.state) c.in-Some.ensures.1 (ran c)

pub returns-clause-told : goal.returns-clause-told
returns-clause-told c =
    told-is c.args.until (plain_message c.in-Some.message) c.in-Some.ensures.0 (scene c.args.state.now) (scene c.take_due.new.state) (plain_ran c.in_ok-ran.ran) c.in-Some.ensures.1 c.in-Some.ensures.2 c.in_ok-ran.ensures

pub returns-clause-valid : goal.returns-clause-valid
returns-clause-valid c =
    turn-valid (checked_tree c.args.program.now) c.args.until (plain_message c.in-Some.message) c.in-Some.ensures.0 (scene c.args.state.now) (scene c.handle.new.state) c.requires.program c.requires.valid c.in-Some.ensures.1 (ran c)

pub returns-in_default-clause-after : goal.returns-in_default-clause-after
returns-in_default-clause-after c = unturned-is (checked_tree c.args.program.now) c.args.until (scene c.args.state.now) (scene c.take_due.new.state) c.in_default.ensures.0 c.in_default.ensures.1

pub returns-in_default-clause-told : goal.returns-in_default-clause-told
returns-in_default-clause-told c = untold-is c.args.until (world_of c.args.state.now) c.in_default.ensures.0
