-- Printing items one after the other, as a loop does.
use Rattle.std.proofs.Common.{◌≡◌, ℕ, List, [], ◌∷◌, ◌++◌, refl, sym, append-nil}
use Rattle.model_value.specs.Plain.{PlainValue, PlainValues, no_items, item}
use Rattle.value_text.specs.ValueText.{value_text, items_text}

-- a comma before each item
abbrev pub comma_texts : PlainValues → List ℕ
comma_texts no_items = []
comma_texts (item value rest) = 44 ∷ (value_text value ++ comma_texts rest)

pub items_text-commas : (value : PlainValue) (rest : PlainValues) → items_text (item value rest) ≡ value_text value ++ comma_texts rest
items_text-commas value no_items = sym (append-nil (value_text value))
items_text-commas value (item next rest) = rw (items_text-commas next rest) refl
