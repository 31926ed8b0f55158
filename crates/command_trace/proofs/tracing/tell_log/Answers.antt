use Rattle.std.proofs.Common.{ℕ, ◌≤◌, List, length, string_bytes, arith}
use Rattle.model_tree.specs.TreeView.{program_tree}
use Rattle.command_trace.proofs.LogLaws.{none_entered, next_later, entry_on, entry_later, log_told_ok}
use Rattle.command_trace.proofs.tracing.tell_log.Goals as goal
use Rattle.command_trace.proofs.tracing.tell_log.Goals.{then-entry-stretch+in_ok-tell_entry, else-entry-stretch}

pub loop-place-init : goal.loop-place-init
loop-place-init c = none_entered (program_tree c.args.classes.now) c.args.stretch.from c.args.stretch.to c.args.log.now.entries c.args.world.now (string_bytes c.args.text.now) c.len-place-end.ensures.legal c.requires.whole c.requires.begins

pub tell_entry-requires-clause-early : goal.tell_entry-requires-clause-early
tell_entry-requires-clause-early c = next_later (program_tree c.args.classes.now) c.args.stretch.from c.args.stretch.to c.loop-place.place c.args.log.now.entries c.args.world.now (string_bytes c.args.text.now) c.loop-place.world (string_bytes c.loop-place.text) c.in_ok-entry.entry c.in_ok-entry.ensures c.loop-place.invariant

pub loop-place-preserved : goal.loop-place-preserved
loop-place-preserved c = elim c.if-entry-stretch.branch [
  | then-entry-stretch+in_ok-tell_entry w ↦
      rw (w.world-is, w.text-is)
      (entry_on (program_tree c.args.classes.now) c.args.stretch.from c.args.stretch.to c.loop-place.place c.args.log.now.entries c.args.world.now (string_bytes c.args.text.now) c.loop-place.world (string_bytes c.loop-place.text) c.in_ok-entry.entry c.in_ok-entry.ensures c.loop-place.invariant w.tell_entry.new.world (string_bytes w.tell_entry.new.text) w.if-entry-stretch.true w.in_ok-tell_entry.ensures.entered w.in_ok-tell_entry.ensures.arrives w.in_ok-tell_entry.ensures.told)
  | else-entry-stretch w ↦ rw (w.world-is, w.text-is) (entry_later (program_tree c.args.classes.now) c.args.stretch.from c.args.stretch.to c.loop-place.place c.args.log.now.entries c.args.world.now (string_bytes c.args.text.now) c.loop-place.world (string_bytes c.loop-place.text) c.in_ok-entry.entry c.in_ok-entry.ensures c.loop-place.invariant w.if-entry-stretch.false)
]

pub returns : goal.returns
returns c =
    let end : length c.args.log.now.entries ≤ c.loop-place.place = let len = c.len-place-end.ensures.len in let over = c.loop-place-test.false in omega (arith, len, over) in
    log_told_ok c.tell_turns.result (program_tree c.args.classes.now) c.args.stretch.from c.args.stretch.to c.loop-place.place c.args.log.now.entries c.args.world.now (string_bytes c.args.text.now) c.loop-place.world (string_bytes c.loop-place.text) (string_bytes c.tell_turns.new.text) end c.loop-place.invariant c.tell_turns.ensures.told
