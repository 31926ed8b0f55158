use Rattle.std.proofs.Common.{◌≡◌, drop, map}
use Rattle.model_tree.specs.TreeView.{method_tree}
use Rattle.model_tree.specs.Grammar.{methods_spelling}
use Rattle.model_print.specs.Canonical.{method_form}
use Rattle.model_print.specs.Printing.{with_tokens}
use Rattle.model_print.proofs.printing.Printer.methods.Given as goal

-- what is printed, and the methods that are left
abbrev pub invariant-loop-method : goal.invariant-loop-method
invariant-loop-method l =
    with_tokens l.self (methods_spelling (map method_form (map method_tree (drop l.method-index l.methods)))) ≡ with_tokens l.fn.self (methods_spelling (map method_form (map method_tree l.methods)))
