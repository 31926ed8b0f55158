use Rattle.std.proofs.Common.{◌≡◌, drop}
use Rattle.model_tree.specs.TreeView.{statement_trees}
use Rattle.model_tree.specs.Grammar.{block_spelling}
use Rattle.model_print.specs.Canonical.{block_of}
use Rattle.model_print.specs.Printing.{with_tokens}
use Rattle.model_print.proofs.printing.Printer.+statements.Given as goal

-- what is printed, and the statements that are left
abbrev pub invariant-statements-loop-statement : goal.invariant-statements-loop-statement
invariant-statements-loop-statement l =
    with_tokens l.self (block_spelling (block_of (statement_trees (drop l.statement-index l.statements)))) ≡ with_tokens l.fn.self (block_spelling (block_of (statement_trees l.statements)))
