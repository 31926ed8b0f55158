use Rattle.std.proofs.Common.{◌≡◌, ◌≤◌, ◌++◌, drop}
use Rattle.std.specs.List.{flat_map, AllByRecursion}
use Rattle.model_value.specs.Spelling.{value_spelling, IsValue}
use Rattle.model_value.specs.View.{plain_values}
use Rattle.model_value.specs.Plain.{values_weight}
use Rattle.world_plain.specs.World.{most_world_weight}
use Rattle.snapshot_codec.proofs.writing.put_values.Given as goal

abbrev pub invariant-loop-value : goal.invariant-loop-value
invariant-loop-value l = record {
  light : values_weight (plain_values (drop l.value-index l.value-items)) ≤ most_world_weight;
  held : AllByRecursion IsValue (plain_values (drop l.value-index l.value-items)) → AllByRecursion IsValue (plain_values l.value-items);
  written : l.out ++ flat_map value_spelling (plain_values (drop l.value-index l.value-items)) ≡ l.initial.out ++ flat_map value_spelling (plain_values l.value-items);
}
