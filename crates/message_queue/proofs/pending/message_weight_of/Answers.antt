use Rattle.std.proofs.Common.{ap, subst, sym, arith}
use Rattle.model_value.specs.View.{plain_values}
use Rattle.model_value.specs.Plain.{AreWeighable, values_weight}
use Rattle.model_value.proofs.Totals.{AreWeighable-most, light_within}
use Rattle.world_plain.specs.World.{most_world_weight}
use Rattle.message_queue.proofs.pending.message_weight_of.Goals as goal

pub values_weight-requires : goal.values_weight-requires
values_weight-requires c =
    let args = plain_values c.args.message.now.args in
    let light = light_within args most_world_weight most_world_weight (omega (arith, c.requires)) (omega arith) in
    subst (λ vs. AreWeighable (plain_values vs)) (sym c.as_slice.ensures) (AreWeighable-most most_world_weight (omega arith) args light.0 light.1)

pub overflow_add-result-2 : goal.overflow_add-result-2
overflow_add-result-2 c =
    omega (arith, c.requires, c.text_weight.ensures.weight, c.values_weight.ensures, ap (λ vs. values_weight (plain_values vs)) c.as_slice.ensures)
