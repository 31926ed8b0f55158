use Rattle.std.proofs.Common.{sym, ◌∙◌, w64}
use Rattle.std.proofs.lemmas.Int.{to_z-of_z}
use Rattle.model_builtin.proofs.Lists.{part_given}
use Rattle.model_builtin.proofs.parts.list_part.Goals as goal

pub returns-in_ok-copy_all-in-Some-Some : goal.returns-in_ok-copy_all-in-Some-Some
returns-in_ok-copy_all-in-Some-Some c =
    let arm = c.in-Some-Some in
    part_given c.args.items.now c.args.from c.args.to arm.i arm.j c.in_ok-copy_all-in-Some-Some.field-0 (sym (to_z-of_z w64 c.args.from c.ranges.from) ∙ arm.ensures) (sym (to_z-of_z w64 c.args.to c.ranges.to) ∙ arm.ensures') c.if-i-j.true c.if-j-items.true c.in_ok-copy_all-in-Some-Some.ensures
