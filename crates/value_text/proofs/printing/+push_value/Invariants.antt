use Rattle.std.proofs.Common.{◌≡◌, ◌++◌, drop, string_bytes}
use Rattle.model_value.specs.Spelling.{AreValues}
use Rattle.model_value.specs.View.{plains}
use Rattle.value_text.specs.ValueText.{items_text}
use Rattle.value_text.proofs.Printed.{comma_texts}
use Rattle.value_text.proofs.printing.+push_value.Given as goal

-- what is printed so far, and the items that are left
abbrev pub invariant-push_items-loop-item : goal.invariant-push_items-loop-item
invariant-push_items-loop-item l = record {
  held : AreValues (plains (drop l.item-index l.others)) → AreValues (plains l.items);
  printed : string_bytes l.out ++ comma_texts (plains (drop l.item-index l.others)) ≡ string_bytes l.fn.out ++ items_text (plains l.items);
}
