use Rattle.std.proofs.Common.{◌≡◌, drop}
use Rattle.model_tree.specs.TreeView.{program_tree}
use Rattle.model_tree.specs.Bounds.{many_fields}
use Rattle.model_lang.proofs.bounds.many_fields.Given as goal

abbrev pub invariant-loop-class : goal.invariant-loop-class
invariant-loop-class l = many_fields (program_tree (drop l.class-index l.classes)) ≡ many_fields (program_tree l.classes)
