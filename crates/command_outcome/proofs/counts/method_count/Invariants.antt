use Rattle.std.proofs.Common.{◌≡◌, ◌+◌, drop}
use Rattle.model_tree.specs.TreeView.{program_tree}
use Rattle.command_outcome.specs.ProgramText.{method_count}
use Rattle.command_outcome.proofs.counts.method_count.Given as goal

-- what is counted, and what is left to count, are all
abbrev pub invariant-loop-class : goal.invariant-loop-class
invariant-loop-class l = l.count + method_count (program_tree (drop l.class-index l.classes)) ≡ method_count (program_tree l.classes)
