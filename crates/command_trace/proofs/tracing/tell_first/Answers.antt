use Rattle.std.proofs.Common.{ℕ, List, ◌≡◌, ◌++◌, ap, sym, subst, ◌∙◌, string_bytes}
use Rattle.std.specs.Option.{option_map}
use Rattle.model_tree.specs.TreeView.{program_tree}
use Rattle.model_tree.specs.declared.tree.Class.{Class}
use Rattle.model_solved.specs.Founding.{checked_tree, founding_of}
use Rattle.world.specs.View.{plain_ran}
use Rattle.command_trace.specs.TraceText.{message_line}
use Rattle.command_trace.proofs.LogLaws.{first_told, first_passed}
use Rattle.command_trace.proofs.tracing.tell_first.Goals as goal
use Rattle.command_trace.proofs.tracing.tell_first.Goals.{then-from-ran+in_ok-push_message+in_ok-push_raised, else-from-ran}

pub returns : goal.returns
returns c = λ id begins. elim c.if-from-ran.branch [
  | then-from-ran+in_ok-push_message+in_ok-push_raised w ↦
      let classes : w.classes.result.now ≡ c.args.program.now.classes = w.classes.ensures.classes ∙ w.program.ensures.program in
      rw (w.text-is)
      (first_told (founding_of c.args.program.now) id c.args.from (string_bytes c.args.text.now) (plain_ran c.in-Some.ran) c.args.world.now.scene (string_bytes w.push_message.new.text) (string_bytes w.push_raised.new.text) w.faults.result (ap (option_map plain_ran) (sym c.in-Some.is) ∙ c.in_ok-ran.ensures) w.if-from-ran.true begins
      w.faults.ensures.faults (w.in_ok-push_message.ensures ∙ ap (λ (cs : List Class). string_bytes c.args.text.now ++ message_line (program_tree cs) (plain_ran c.in-Some.ran)) classes) w.in_ok-push_raised.ensures)
  | else-from-ran w ↦ rw (w.text-is) (first_passed (founding_of c.args.program.now) id c.args.from (string_bytes c.args.text.now) (plain_ran c.in-Some.ran) (ap (option_map plain_ran) (sym c.in-Some.is) ∙ c.in_ok-ran.ensures) w.if-from-ran.false)
]
