use Rattle.std.proofs.Common.{◌≡◌, subst, rules, to_z, of_z, w64}
use Rattle.model_builtin.specs.Answer.{Applies}
use Rattle.model_builtin.proofs.Lists.{slice_list}
use Rattle.model_builtin.proofs.parts.slice.Goals as goal

pub returns-in-List-Int-Int : goal.returns-in-List-Int-Int
returns-in-List-Int-Int c =
    let arm = c.in-List-Int-Int in
    let from : to_z w64 (of_z w64 arm.i) ≡ arm.i = search rules in
    let to : to_z w64 (of_z w64 arm.j) ≡ arm.j = search rules in
    let same = slice_list c.args.x.now c.args.from.now c.args.to.now arm.items c.deref.result.now arm.i arm.j (to_z w64 (of_z w64 arm.i)) (to_z w64 (of_z w64 arm.j)) arm.is-0 arm.is-1 arm.is-2 c.deref.ensures.value from to in
    subst (Applies c.list_part.result) same c.list_part.ensures
