-- The one text of each value.
use Rattle.std.specs.Prelude.{ℕ, true, false, List, [], ◌∷◌, ◌++◌, codes}
use Rattle.std.specs.Fmt.{decimal, signed_decimal}
use Rattle.model_tokens.specs.Spelling.{spelled_text}
use Rattle.model_value.specs.Plain.{PlainValue, nil, bool, int, text, ref, list, PlainValues, no_items, item}

abbrev mutual
  -- the text of a value
  pub value_text : PlainValue → List ℕ
  value_text nil = codes "nil"
  value_text (bool false) = codes "false"
  value_text (bool true) = codes "true"
  value_text (int number) = signed_decimal number
  value_text (text characters) = spelled_text characters
  value_text (ref object) = 35 ∷ decimal object
  value_text (list items) = 91 ∷ (items_text items ++ 93 ∷ [])

  -- the texts of the items of a list, a comma between two
  pub items_text : PlainValues → List ℕ
  items_text no_items = []
  items_text (item value no_items) = value_text value
  items_text (item value (item next rest)) = value_text value ++ 44 ∷ items_text (item next rest)
