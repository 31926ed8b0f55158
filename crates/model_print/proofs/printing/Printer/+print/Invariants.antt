use Rattle.std.proofs.Common.{◌≡◌, drop}
use Rattle.model_tree.specs.TreeView.{expression_trees}
use Rattle.model_tree.specs.Grammar.{args_spelling, more_spelling}
use Rattle.model_print.specs.Canonical.{phrases_of}
use Rattle.model_print.specs.Printing.{with_tokens}
use Rattle.model_print.proofs.printing.Printer.+print.Given as goal

-- what is printed, and the expressions that are left
abbrev pub invariant-phrases-loop-expr : goal.invariant-phrases-loop-expr
invariant-phrases-loop-expr l =
    with_tokens l.self (more_spelling (phrases_of (expression_trees (drop l.expr-index l.further)))) ≡ with_tokens l.fn.self (args_spelling (phrases_of (expression_trees l.exprs)))
