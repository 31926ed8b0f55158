use Rattle.std.proofs.Common.{map, refl}
use Rattle.model_tree.specs.declared.tree.Method.{Method}
use Rattle.model_tree.specs.TreeView.{method_tree}
use Rattle.model_tree.specs.Grammar.{method_spelling, methods_spelling}
use Rattle.model_print.specs.Canonical.{method_form}
use Rattle.model_print.proofs.PrintedForms.{part_printed}
use Rattle.model_print.proofs.printing.Printer.methods.Goals as goal

pub loop-method-preserved : goal.loop-method-preserved
loop-method-preserved c =
    part_printed (λ ms. methods_spelling (map method_form (map method_tree ms))) (λ (x : Method). method_spelling (method_form (method_tree x))) (λ x xs. refl)
    c.args.methods.now c.loop-method.method-index c.method-item.result _ _ _ c.loop-method-test.true c.method-item.is c.loop-method.invariant c.in_ok-method.ensures
