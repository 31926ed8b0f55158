use Rattle.std.proofs.Common.{◌≡◌, ◌+◌, ◌<◌, ◌^◌, drop}
use Rattle.std.specs.List.{AllByRecursion}
use Rattle.model_value.specs.View.{plain_values}
use Rattle.model_value.specs.Plain.{weight, values_weight}
use Rattle.model_value.proofs.measure.values_weight.Given as goal

abbrev pub invariant-loop-value : goal.invariant-loop-value
invariant-loop-value l =
    let rest = drop l.value-index l.values in
    (l.sum + values_weight (plain_values rest) ≡ values_weight (plain_values l.values)) × AllByRecursion (λ v. weight v < 2 ^ 32) (plain_values rest)
