-- The JSON (RFC 8259) of a value that can be saved.
use Rattle.std.specs.Prelude.{◌≡◌, ℕ, List, Some, IsUtf8, encode_utf8_all}
use Rattle.serde_json.specs.Data as json
use Rattle.serde_json.specs.Data.{Data, Items}
use Rattle.serde_json.specs.Find.{of_integer}
use Rattle.serde_json.specs.Read.{read}
use Rattle.model_value.specs.Plain.{PlainValue, nil, bool, int, text, ref, list, PlainValues, no_items, item}
use Rattle.model_value.specs.Spelling.{IsValue}
use Rattle.saved_value.specs.Saving.{CanBeSaved}

-- a value as JSON has it; an object, which no value that can be saved has, would be null
abbrev mutual
  pub data_of : PlainValue → Data
  data_of nil = json.null
  data_of (bool flag) = json.boolean flag
  data_of (int number) = json.number (of_integer number)
  data_of (text characters) = json.string (encode_utf8_all characters)
  data_of (ref object) = json.null
  data_of (list items) = json.array (items_data items)

  pub items_data : PlainValues → Items
  items_data no_items = json.no_items
  items_data (item value rest) = json.item (data_of value) (items_data rest)

-- bytes that are JSON of a value that can be saved
pub record IsJsonOf (bytes : List ℕ) (value : PlainValue) : Type 0 where
  pub utf8 : IsUtf8 bytes
  pub reads : read bytes ≡ Some (data_of value)
  pub fit : CanBeSaved value
  pub is : IsValue value

-- the most bytes of a file of JSON
abbrev pub most_json : ℕ
most_json = 1048576
