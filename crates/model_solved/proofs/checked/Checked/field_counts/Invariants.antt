use Rattle.std.proofs.Common.{◌≡◌, take}
use Rattle.model_tree.specs.TreeView.{program_tree}
use Rattle.model_solved.specs.Methods.{field_counts}
use Rattle.model_solved.proofs.checked.Checked.field_counts.Given as goal

abbrev pub invariant-loop-class : goal.invariant-loop-class
invariant-loop-class l = l.counts.items ≡ field_counts (program_tree (take l.class-index l.classes))
