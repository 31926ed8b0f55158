use Rattle.std.proofs.Common.{refl, sym, ◌∙◌, w64}
use Rattle.std.proofs.lemmas.Int.{to_z-of_z}
use Rattle.std.specs.Vec.{with_item}
use Rattle.model_value.specs.View.{plain}
use Rattle.model_builtin.proofs.Lists.{put_given}
use Rattle.model_builtin.proofs.parts.put_item.Goals as goal

pub returns-in_ok-new-in-Some-2 : goal.returns-in_ok-new-in-Some-2
returns-in_ok-new-in-Some-2 c =
    let new = c.in_ok-new-in-Some.new in
    let item = c.in_ok-new-in-Some-2.field-0 in
    put_given c.args.items.now c.args.place c.in-Some.i item (plain c.args.item.now) new (with_item new c.in-Some.i item) (sym (to_z-of_z w64 c.args.place c.ranges.place) ∙ c.in-Some.ensures) c.if-i-items.true c.in_ok-new-in-Some.ensures c.in_ok-new-in-Some-2.ensures refl
