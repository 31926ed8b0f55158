use Rattle.std.proofs.Common.{string_bytes}
use Rattle.model_tree.specs.TreeView.{program_tree}
use Rattle.command_trace.proofs.StepLaws.{entry_told, entry_passed}
use Rattle.command_trace.proofs.tracing.tell_entry.Goals as goal
use Rattle.command_trace.proofs.tracing.tell_entry.Goals.{then-from-entry+in_ok-push_entry+in_ok-push_raised, else-from-entry}

pub returns-clause-told : goal.returns-clause-told
returns-clause-told c = elim c.if-from-entry.branch [
  | then-from-entry+in_ok-push_entry+in_ok-push_raised w ↦
      rw (w.text-is)
      (entry_told (program_tree c.args.classes.now) c.args.from c.args.entry.now c.args.world.now c.tell_turns.new.world c.in_ok-tell_turns.ensures.kept c.requires.whole c.in_ok-tell_turns.ensures.goes_on (string_bytes c.args.text.now) (string_bytes c.tell_turns.new.text) c.in_ok-tell_turns.ensures.told c.enter.new.world c.in_ok-heard.heard (string_bytes w.push_entry.new.text) (string_bytes w.push_raised.new.text) c.faults-before.result w.faults.result c.faults-before.ensures.sound c.in_ok-tell_turns.ensures.rests w.if-from-entry.true
      c.in_ok-heard.ensures.entered c.in_ok-heard.ensures.told c.faults-before.ensures.faults w.faults.ensures.faults w.in_ok-push_entry.ensures w.in_ok-push_raised.ensures)
  | else-from-entry w ↦ rw (w.text-is) (entry_passed (program_tree c.args.classes.now) c.args.from c.args.entry.now c.args.world.now c.tell_turns.new.world c.in_ok-tell_turns.ensures.kept c.requires.whole c.in_ok-tell_turns.ensures.goes_on (string_bytes c.args.text.now) (string_bytes c.tell_turns.new.text) c.in_ok-tell_turns.ensures.told w.if-from-entry.false)
]
