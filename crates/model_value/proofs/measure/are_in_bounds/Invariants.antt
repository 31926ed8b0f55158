use Rattle.std.proofs.Common.{drop}
use Rattle.std.specs.Prelude.{◌↔◌}
use Rattle.model_value.specs.Plain.{AllInBounds}
use Rattle.model_value.specs.View.{plain_values}
use Rattle.model_value.proofs.measure.are_in_bounds.Given as goal

abbrev pub invariant-loop-value : goal.invariant-loop-value
invariant-loop-value l = AllInBounds (plain_values l.values) ↔ AllInBounds (plain_values (drop l.value-index l.values))
