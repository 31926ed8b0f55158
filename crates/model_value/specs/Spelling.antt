-- The one spelling of each value. All numbers are big-endian.
use Rattle.std.specs.Prelude.{◌≡◌, ◌<◌, ◌^◌, ℕ, true, false, List, [], ◌∷◌, ◌++◌, ◌+◌, FitsSigned}
use Rattle.std.specs.Int.{to_be_bytes, cast_unsigned, w32, w64}
use Rattle.std.specs.Str.{all_scalars}
use Rattle.byte_fields.specs.Fields.{text_field}
use Rattle.model_value.specs.Plain.{PlainValue, nil, bool, int, text, ref, list, PlainValues, no_items, item}

-- how many items there are
abbrev pub item_count : PlainValues → ℕ
item_count no_items = 0
item_count (item value rest) = 1 + item_count rest

-- a byte for its kind, and what it holds; the bytes of a negative number are those of its two's complement
abbrev mutual
  pub value_spelling : PlainValue → List ℕ
  value_spelling nil = 0 ∷ []
  value_spelling (bool false) = 1 ∷ []
  value_spelling (bool true) = 2 ∷ []
  value_spelling (int number) = 3 ∷ to_be_bytes w64 (cast_unsigned w64 number)
  value_spelling (text characters) = 4 ∷ text_field characters
  value_spelling (ref object) = 5 ∷ to_be_bytes w32 object
  value_spelling (list items) = 6 ∷ (to_be_bytes w32 (item_count items) ++ items_spelling items)

  pub items_spelling : PlainValues → List ℕ
  items_spelling no_items = []
  items_spelling (item value rest) = value_spelling value ++ items_spelling rest

-- a tree that a value can stand for: its numbers have 64 bits and 32, and its texts are of Unicode scalar values
abbrev mutual
  pub IsValue : PlainValue → Type 0
  IsValue nil = Unit {0}
  IsValue (bool flag) = Unit {0}
  IsValue (int number) = FitsSigned w64 number
  IsValue (text characters) = all_scalars characters ≡ true
  IsValue (ref object) = object < 2 ^ 32
  IsValue (list items) = AreValues items

  pub AreValues : PlainValues → Type 0
  AreValues no_items = Unit {0}
  AreValues (item value rest) = IsValue value × AreValues rest
