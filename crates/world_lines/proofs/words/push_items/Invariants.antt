use Rattle.std.proofs.Common.{◌≡◌, ◌++◌, drop, string_bytes}
use Rattle.model_value.specs.View.{plains}
use Rattle.value_text.specs.ValueText.{items_text}
use Rattle.value_text.proofs.Printed.{comma_texts}
use Rattle.world_lines.proofs.words.push_items.Given as goal

-- the items so far, and those that are left, a comma before each
abbrev pub invariant-loop-item : goal.invariant-loop-item
invariant-loop-item l = string_bytes l.line ++ comma_texts (plains (drop l.item-index l.others)) ≡ string_bytes l.fn.line ++ items_text (plains l.items)
