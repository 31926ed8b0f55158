use Rattle.std.proofs.Common.{◌≡◌, subst, rules, to_z, of_z, w64}
use Rattle.model_builtin.specs.Answer.{Applies}
use Rattle.model_builtin.proofs.Lists.{at_list}
use Rattle.model_builtin.proofs.parts.at.Goals as goal

pub returns-in-List-Int : goal.returns-in-List-Int
returns-in-List-Int c =
    let i = c.in-List-Int.i in
    let number : to_z w64 (of_z w64 i) ≡ i = search rules in
    let same = at_list c.args.x.now c.args.place.now c.in-List-Int.items c.deref.result.now i (to_z w64 (of_z w64 i)) c.in-List-Int.is-0 c.in-List-Int.is-1 c.deref.ensures.value number in
    subst (Applies c.item_at.result) same c.item_at.ensures
