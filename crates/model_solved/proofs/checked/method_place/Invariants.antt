use Rattle.std.proofs.Common.{◌≡◌, drop, map}
use Rattle.model_tree.specs.TreeView.{method_tree}
use Rattle.model_solved.specs.Methods.{method_named}
use Rattle.model_solved.proofs.checked.method_place.Given as goal

abbrev pub invariant-loop-i : goal.invariant-loop-i
invariant-loop-i l = method_named l.name (map method_tree (drop l.i l.methods)) ≡ method_named l.name (map method_tree l.methods)
