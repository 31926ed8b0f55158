use Rattle.std.proofs.Common.{drop, map}
use Rattle.model_tree.specs.TreeView.{statement_trees}
use Rattle.model_solved.specs.SolvedView.{solved_statement}
use Rattle.model_check.proofs.Blocks.{IsUpTo}
use Rattle.model_check.proofs.statement.+statement.Given as goal

abbrev pub invariant-block-loop-stmt : goal.invariant-block-loop-stmt
invariant-block-loop-stmt l =
    IsUpTo (map (λ c. c.name) l.classes) l.fields l.fn.scope.names.items (statement_trees l.stmts) l.fn.scope.slots l.scope.names.items l.scope.slots (map solved_statement l.solved.items) (statement_trees (drop l.stmt-index l.stmts))
