use Rattle.std.proofs.Common.{◌≡◌, drop}
use Rattle.model_tree.specs.Grammar.{further_spelling}
use Rattle.model_print.specs.Printing.{with_tokens}
use Rattle.model_print.proofs.printing.Printer.further.Given as goal

-- what is printed, and the names that are left
abbrev pub invariant-loop-name : goal.invariant-loop-name
invariant-loop-name l = with_tokens l.self (further_spelling (drop l.name-index l.names)) ≡ with_tokens l.fn.self (further_spelling l.names)
