use Rattle.std.proofs.Common.{◌≡◌, Some, None, sym, ap, ◌∙◌}
use Rattle.model_tree.specs.TreeView.{program_tree}
use Rattle.model_tree.specs.Bounds.{first_excess}
use Rattle.model_lang.proofs.SoundPrograms.{program_sound}
use Rattle.model_lang.proofs.Whole.{are_spelled, are_no_program, many_members}
use Rattle.model_lang.proofs.parsing.whole.Goals as goal

pub returns-in-Err-NoProgram-clause-reading : goal.returns-in-Err-NoProgram-clause-reading
returns-in-Err-NoProgram-clause-reading c =
    let none = rw c.in-Err-NoProgram.field-0-is at c.in-Err-NoProgram.ensures in
    are_no_program c.args.tokens.now (c.stays_low.ensures.0 c.if-not-stays_low.false) (c.stays_low-2.ensures.0 c.if-not-stays_low-2.false) none

pub returns-in-Some-clause-reading : goal.returns-in-Some-clause-reading
returns-in-Some-clause-reading c =
    let ts = c.args.tokens.now in
    let tree = program_tree c.in-Ok.classes.items in
    let over : first_excess tree ≡ Some (c.in-Some.what, c.in-Some.count) = ap (λ cs. first_excess (program_tree cs)) (sym c.deref.ensures.value) ∙ sym c.first_excess.ensures ∙ c.in-Some.is in
    many_members ts tree c.in-Some.what c.in-Some.count (c.stays_low.ensures.0 c.if-not-stays_low.false) (c.stays_low-2.ensures.0 c.if-not-stays_low-2.false) (program_sound ts tree c.in-Ok.ensures) over

pub returns-in-None-clause-reading : goal.returns-in-None-clause-reading
returns-in-None-clause-reading c =
    let tree = program_tree c.in-Ok.classes.items in
    let none : first_excess tree ≡ None = ap (λ cs. first_excess (program_tree cs)) (sym c.deref.ensures.value) ∙ sym c.first_excess.ensures ∙ c.in-None.is in
    are_spelled c.args.tokens.now tree (c.stays_low.ensures.0 c.if-not-stays_low.false) (c.stays_low-2.ensures.0 c.if-not-stays_low-2.false) c.in-Ok.ensures none
