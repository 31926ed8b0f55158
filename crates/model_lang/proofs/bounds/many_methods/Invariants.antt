use Rattle.std.proofs.Common.{◌≡◌, drop}
use Rattle.model_tree.specs.TreeView.{program_tree}
use Rattle.model_tree.specs.Bounds.{many_methods}
use Rattle.model_lang.proofs.bounds.many_methods.Given as goal

abbrev pub invariant-loop-class : goal.invariant-loop-class
invariant-loop-class l = many_methods (program_tree (drop l.class-index l.classes)) ≡ many_methods (program_tree l.classes)
