use Rattle.std.proofs.Common.{subst}
use Rattle.model_builtin.specs.Answer.{Applies}
use Rattle.model_builtin.proofs.Lists.{concat_list}
use Rattle.model_builtin.proofs.parts.concat.Goals as goal

pub returns-in-List-List : goal.returns-in-List-List
returns-in-List-List c =
    let arm = c.in-List-List in
    let same = concat_list c.args.x.now c.args.y.now arm.a arm.b c.deref.result.now c.deref-in-List-List.result.now arm.is-0 arm.is-1 c.deref.ensures.value c.deref-in-List-List.ensures.value in
    subst (Applies c.join_lists.result) same c.join_lists.ensures
