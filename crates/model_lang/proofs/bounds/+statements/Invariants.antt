use Rattle.std.proofs.Common.{◌≡◌, drop}
use Rattle.model_tree.specs.TreeView.{statement_trees}
use Rattle.model_tree.specs.Bounds.{many_in_block}
use Rattle.model_lang.proofs.bounds.+statements.Given as goal

abbrev pub invariant-in_statements-loop-statement : goal.invariant-in_statements-loop-statement
invariant-in_statements-loop-statement l = many_in_block (statement_trees (drop l.statement-index l.statements)) ≡ many_in_block (statement_trees l.statements)
