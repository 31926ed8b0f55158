use Rattle.std.proofs.Common.{◌≡◌, false, map, take, drop}
use Rattle.serde_json.specs.View.{view, items_view}
use Rattle.model_value.specs.Spelling.{AreValues}
use Rattle.model_value.specs.View.{plains}
use Rattle.saved_value.specs.Saving.{one_has_ref}
use Rattle.persist_json.specs.ReadAs.{have_values}
use Rattle.persist_json.proofs.Items.{data_of_each}
use Rattle.persist_json.proofs.reading.+value_of.Given as goal

abbrev pub invariant-values_of-loop-item : goal.invariant-values_of-loop-item
invariant-values_of-loop-item l = record {
  same : data_of_each l.values.items ≡ map view (take l.item-index l.items);
  are : AreValues (plains l.values.items);
  bare : one_has_ref (plains l.values.items) ≡ false;
  left : have_values (items_view (drop l.item-index l.items)) ≡ false → have_values (items_view l.items) ≡ false;
}
