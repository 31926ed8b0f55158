use Rattle.std.proofs.Common.{◌≡◌, false, map, take, drop}
use Rattle.serde_json.specs.View.{view}
use Rattle.model_value.specs.Spelling.{AreValues}
use Rattle.model_value.specs.View.{plains}
use Rattle.saved_value.specs.Saving.{one_has_ref}
use Rattle.persist_json.proofs.Items.{data_of_each}
use Rattle.persist_json.proofs.writing.+data.Given as goal

abbrev pub invariant-items_made-loop-item : goal.invariant-items_made-loop-item
invariant-items_made-loop-item l = record {
  bare : one_has_ref (plains (drop l.item-index l.items)) ≡ false;
  held : AreValues (plains (drop l.item-index l.items)) → AreValues (plains l.items);
  made : map view l.made.items ≡ data_of_each (take l.item-index l.items);
}
