use Rattle.std.proofs.Common.{string_bytes}
use Rattle.model_tree.specs.TreeView.{program_tree}
use Rattle.command_trace.proofs.StepLaws.{no_turns, one_more, fewer, all_told}
use Rattle.command_trace.proofs.tracing.tell_turns.Goals as goal

pub turns-init : goal.turns-init
turns-init c = no_turns (program_tree c.args.classes.now) c.args.from c.args.until c.args.world.now (string_bytes c.args.text.now) c.requires

pub turns-smaller : goal.turns-smaller
turns-smaller c = fewer (program_tree c.args.classes.now) c.args.from c.args.until c.args.world.now c.turns.world (string_bytes c.args.text.now) (string_bytes c.turns.text) c.turns.invariant c.in_ok-tell_turn.ensures.sound c.tell_turn.new.world (string_bytes c.tell_turn.new.text) c.in_ok-tell_turn.field-0 c.in_ok-tell_turn.ensures.turned c.in_ok-tell_turn.ensures.ran c.in_ok-tell_turn.ensures.told c.if-branch.true

pub turns-preserved : goal.turns-preserved
turns-preserved c = one_more (program_tree c.args.classes.now) c.args.from c.args.until c.args.world.now c.turns.world (string_bytes c.args.text.now) (string_bytes c.turns.text) c.turns.invariant c.in_ok-tell_turn.ensures.sound c.tell_turn.new.world (string_bytes c.tell_turn.new.text) c.in_ok-tell_turn.field-0 c.in_ok-tell_turn.ensures.turned c.in_ok-tell_turn.ensures.ran c.in_ok-tell_turn.ensures.told c.if-branch.true

pub returns-clause-told : goal.returns-clause-told
returns-clause-told c = all_told (program_tree c.args.classes.now) c.args.from c.args.until c.args.world.now c.turns.world (string_bytes c.args.text.now) (string_bytes c.turns.text) c.turns.invariant c.in_ok-tell_turn.ensures.sound c.tell_turn.new.world (string_bytes c.tell_turn.new.text) c.in_ok-tell_turn.field-0 c.in_ok-tell_turn.ensures.turned c.in_ok-tell_turn.ensures.ran c.in_ok-tell_turn.ensures.told c.if-branch.false
