use Rattle.std.proofs.Common.{◌≡◌, ◌<◌, ◌^◌, ◌++◌, drop}
use Rattle.model_value.specs.Plain.{weight_of_all}
use Rattle.model_value.specs.Spelling.{items_spelling, AreValues}
use Rattle.model_value.specs.View.{plains}
use Rattle.model_value.proofs.writing.+put_value.Given as goal

abbrev pub invariant-put_items-loop-item : goal.invariant-put_items-loop-item
invariant-put_items-loop-item l = record {
  light : weight_of_all (plains (drop l.item-index l.items)) < 2 ^ 28;
  held : AreValues (plains (drop l.item-index l.items)) → AreValues (plains l.items);
  written : l.out ++ items_spelling (plains (drop l.item-index l.items)) ≡ l.initial.out ++ items_spelling (plains l.items);
}
