use Rattle.std.proofs.Common.{◌≡◌, drop, map}
use Rattle.model_tree.specs.TreeView.{method_tree}
use Rattle.model_tree.specs.Bounds.{many_in_methods}
use Rattle.model_lang.proofs.bounds.in_methods.Given as goal

abbrev pub invariant-loop-method : goal.invariant-loop-method
invariant-loop-method l = many_in_methods (map method_tree (drop l.method-index l.methods)) ≡ many_in_methods (map method_tree l.methods)
