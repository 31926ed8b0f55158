use Rattle.std.proofs.Common.{arith, ◌≡◌, ◌≤◌, Some, length}
use Rattle.std.specs.Prelude.{slice_get}
use Rattle.std.proofs.lemmas.Option.{gets}
use Rattle.std.proofs.lemmas.Grind.{common_steps}
use Rattle.model_tree.specs.Bounds.{most_members}
use Rattle.model_solved.proofs.Resolving.{has_few_fields}
use Rattle.model_solved.proofs.checked.Checked.field_counts.Goals as goal

pub overflow_cast-len : goal.overflow_cast-len
overflow_cast-len c =
    let class = c.class-item.result in
    let here : slice_get c.self.inside.program c.loop-class.class-index ≡ Some class = grind (arith, common_steps, gets, c.class-item.is, c.classes-classes.ensures.classes, c.loop-class-test.true) in
    let few : length class.fields.items ≤ most_members = has_few_fields c.self.inside.program c.loop-class.class-index class c.classes-classes.ensures.fits here in
    let count : c.len.result ≡ length class.fields.items = omega (arith, c.len.ensures, class.fields.ok) in
    omega (arith, few, count)
