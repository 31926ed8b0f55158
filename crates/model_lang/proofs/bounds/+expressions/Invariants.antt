use Rattle.std.proofs.Common.{◌≡◌, drop}
use Rattle.model_tree.specs.TreeView.{expression_trees}
use Rattle.model_tree.specs.Bounds.{all_many_arguments}
use Rattle.model_lang.proofs.bounds.+expressions.Given as goal

abbrev pub invariant-in_expressions-loop-expression : goal.invariant-in_expressions-loop-expression
invariant-in_expressions-loop-expression l = all_many_arguments (expression_trees (drop l.expression-index l.expressions)) ≡ all_many_arguments (expression_trees l.expressions)
