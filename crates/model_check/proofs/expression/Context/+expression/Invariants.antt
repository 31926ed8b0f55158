use Rattle.std.proofs.Common.{◌≡◌, drop, take, map}
use Rattle.model_tree.specs.TreeView.{expression_tree, expression_trees}
use Rattle.model_solved.specs.Faults.{first_of, faults_of_expressions}
use Rattle.model_solved.specs.SolvedView.{solved_expression}
use Rattle.model_check.specs.Solving.{solve_expression}
use Rattle.model_check.proofs.expression.Context.+expression.Given as goal

abbrev pub invariant-expressions-loop-expr : goal.invariant-expressions-loop-expr
invariant-expressions-loop-expr l = record {
  faults : first_of (faults_of_expressions (map (λ c. c.name) l.self.classes.now) l.self.fields.now l.self.scope.now.names.items (expression_trees (drop l.expr-index l.exprs))) ≡ first_of (faults_of_expressions (map (λ c. c.name) l.self.classes.now) l.self.fields.now l.self.scope.now.names.items (expression_trees l.exprs));
  solved : map solved_expression l.solved.items ≡ map (λ e. solve_expression (map (λ c. c.name) l.self.classes.now) l.self.fields.now l.self.scope.now.names.items (expression_tree e)) (take l.expr-index l.exprs);
}
