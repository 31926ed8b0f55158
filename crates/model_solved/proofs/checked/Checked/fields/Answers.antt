use Rattle.std.proofs.Common.{arith, ◌≡◌, ◌≤◌, Some, length}
use Rattle.std.specs.Prelude.{slice_get}
use Rattle.std.proofs.lemmas.Option.{gets}
use Rattle.std.proofs.lemmas.Grind.{common_steps}
use Rattle.model_tree.specs.Bounds.{most_members}
use Rattle.model_solved.proofs.Resolving.{has_few_fields, field_count_at}
use Rattle.model_solved.proofs.checked.Checked.fields.Goals as goal

pub overflow_cast-result : goal.overflow_cast-result
overflow_cast-result c =
    let class = c.in_ok-class.class.now in
    let here : slice_get c.self.inside.program c.from.result ≡ Some class = grind (arith, common_steps, gets) in
    let few : length class.fields.items ≤ most_members = has_few_fields c.self.inside.program c.from.result class c.classes.ensures.fits here in
    let count : c.len.result ≡ length class.fields.items = omega (arith, c.len.ensures, class.fields.ok) in
    omega (arith, few, count)

pub returns : goal.returns
returns c =
    let class = c.in_ok-class.class.now in
    let here : slice_get c.args.self.now.classes c.args.class ≡ Some class = grind (arith, common_steps, gets) in
    let count : c.len.result ≡ length class.fields.items = omega (arith, c.len.ensures, class.fields.ok) in
    field_count_at c.args.self.now.classes c.args.class class c.len.result here count
