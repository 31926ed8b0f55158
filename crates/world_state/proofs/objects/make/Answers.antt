use Rattle.std.proofs.Common.{◌≤◌, sym, ◌∙◌, arith}
use Rattle.std.proofs.lemmas.Bool.{leb-true}
use Rattle.model_value.specs.View.{plain_values}
use Rattle.model_value.specs.Plain.{values_weight}
use Rattle.world_plain.specs.World.{most_world_weight}
use Rattle.object_store.proofs.Objects.{AreFields-light}
use Rattle.world_state.proofs.objects.make.Goals as goal

pub create-requires : goal.create-requires
create-requires c =
    let light : values_weight (plain_values c.in_ok-fields.fields) ≤ most_world_weight = omega (arith, leb-true _ _ (sym c.has_room.ensures ∙ c.if-not-has_room.false)) in
    AreFields-light (plain_values c.in_ok-fields.fields) light
