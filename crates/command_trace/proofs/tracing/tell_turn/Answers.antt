use Rattle.std.proofs.Common.{ap, sym, ◌∙◌, string_bytes}
use Rattle.std.specs.Option.{option_map}
use Rattle.model_tree.specs.TreeView.{program_tree}
use Rattle.model_solved.specs.Founding.{checked_tree}
use Rattle.world.specs.View.{WorldView, plain_ran}
use Rattle.command_trace.proofs.StepLaws.{turn_told, turn_passed}
use Rattle.command_trace.proofs.tracing.tell_turn.Goals as goal
use Rattle.command_trace.proofs.tracing.tell_turn.Goals.{then-from-ran+in_ok-push_message+in_ok-push_raised, else-from-ran}

pub returns-clause-told : goal.returns-clause-told
returns-clause-told c = elim c.if-from-ran.branch [
  | then-from-ran+in_ok-push_message+in_ok-push_raised w ↦
      rw (w.text-is)
      (turn_told (program_tree c.args.classes.now) (checked_tree c.args.world.now.program) c.args.from c.args.until c.args.world.now.scene (string_bytes c.args.text.now) (plain_ran c.in-Some.ran) (string_bytes w.push_message.new.text) (string_bytes w.push_raised.new.text) c.faults-before.result w.faults.result (ap (option_map plain_ran) (sym c.in-Some.is) ∙ c.in_ok-ran.ensures.told)
      w.if-from-ran.true c.faults-before.ensures.faults (w.faults.ensures.faults ∙ ap (λ (v : WorldView). v.scene.world.faults) c.in_ok-ran.ensures.turned) w.in_ok-push_message.ensures w.in_ok-push_raised.ensures)
  | else-from-ran w ↦
      rw (w.text-is) (turn_passed (program_tree c.args.classes.now) (checked_tree c.args.world.now.program) c.args.from c.args.until c.args.world.now.scene (string_bytes c.args.text.now) (plain_ran c.in-Some.ran) (ap (option_map plain_ran) (sym c.in-Some.is) ∙ c.in_ok-ran.ensures.told) w.if-from-ran.false)
]
