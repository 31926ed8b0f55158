use Rattle.std.proofs.Common.{◌≡◌, drop}
use Rattle.model_tree.specs.TreeView.{program_tree}
use Rattle.model_print.specs.Canonical.{canonical_tokens}
use Rattle.model_print.specs.Printing.{with_tokens}
use Rattle.model_print.proofs.printing.Printer.program.Given as goal

-- what is printed, and the classes that are left
abbrev pub invariant-loop-class : goal.invariant-loop-class
invariant-loop-class l = with_tokens l.self (canonical_tokens (program_tree (drop l.class-index l.classes))) ≡ with_tokens l.fn.self (canonical_tokens (program_tree l.classes))
