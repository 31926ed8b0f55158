use Rattle.std.proofs.Common.{refl}
use Rattle.model_tree.specs.declared.tree.Class.{Class}
use Rattle.model_tree.specs.TreeView.{class_tree, program_tree}
use Rattle.model_tree.specs.Grammar.{class_spelling}
use Rattle.model_print.specs.Canonical.{class_form, canonical_tokens}
use Rattle.model_print.proofs.PrintedForms.{part_printed}
use Rattle.model_print.proofs.printing.Printer.program.Goals as goal

pub loop-class-preserved : goal.loop-class-preserved
loop-class-preserved c =
    part_printed (λ cs. canonical_tokens (program_tree cs)) (λ (x : Class). class_spelling (class_form (class_tree x))) (λ x xs. refl)
    c.args.classes.now c.loop-class.class-index c.class-item.result _ _ _ c.loop-class-test.true c.class-item.is c.loop-class.invariant c.in_ok-class.ensures
