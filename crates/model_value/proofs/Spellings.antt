-- A weight bounds how many items, and how many bytes, a value has.
use Rattle.std.proofs.Common.{ℕ, ◌+◌, ◌*◌, ◌≤◌, true, false, List, length, length-append, arith}
use Rattle.std.specs.Prelude.{encode_utf8_all}
use Rattle.model_value.specs.Plain.{PlainValue, nil, bool, int, text, ref, list, PlainValues, no_items, item, weight, weight_of_all, text_weight}
use Rattle.model_value.specs.Spelling.{item_count, value_spelling, items_spelling}
use Rattle.model_value.specs.View.{plains}
use Rattle.model_value.specs.declared.value.Value.{Value}
use Rattle.model_value.proofs.Lengths.{count-plains}

-- a value weighs something
pub weight-positive : (v : PlainValue) → 1 ≤ weight v
weight-positive nil = omega arith
weight-positive (bool flag) = omega arith
weight-positive (int number) = omega arith
weight-positive (text characters) = omega arith
weight-positive (ref object) = omega arith
weight-positive (list items) = omega arith

pub count-le_weight : (vs : PlainValues) → item_count vs ≤ weight_of_all vs
count-le_weight no_items = omega arith
count-le_weight (item v rest) = omega (arith, weight-positive v, count-le_weight rest)

pub length-le_weight : (vs : List Value) → length vs ≤ weight_of_all (plains vs)
length-le_weight vs = omega (arith, count-plains vs, count-le_weight (plains vs))

-- a text has at most 16 bytes for each unit of its weight but for the first
pub encode_utf8_all-le_weight : (characters : List ℕ) → length (encode_utf8_all characters) + 16 ≤ 16 * text_weight characters
encode_utf8_all-le_weight characters = omega arith

mutual
  pub value_spelling-le_weight : (v : PlainValue) → length (value_spelling v) ≤ 16 * weight v
  value_spelling-le_weight nil = omega arith
  value_spelling-le_weight (bool false) = omega arith
  value_spelling-le_weight (bool true) = omega arith
  value_spelling-le_weight (int number) = omega arith
  value_spelling-le_weight (text characters) = omega (arith, encode_utf8_all-le_weight characters)
  value_spelling-le_weight (ref object) = omega arith
  value_spelling-le_weight (list items) = omega (arith, items_spelling-le_weight items)

  -- a list's own unit has room for its kind and its count
  items_spelling-le_weight : (vs : PlainValues) → length (items_spelling vs) ≤ 16 * weight_of_all vs
  items_spelling-le_weight no_items = omega arith
  items_spelling-le_weight (item v rest) = omega (arith, length-append (value_spelling v) (items_spelling rest), value_spelling-le_weight v, items_spelling-le_weight rest)

-- for the count of a list
pub ruleset by_weight = (count-plains, length-le_weight)

-- for the length of a spelling
pub ruleset by_spelling = (value_spelling-le_weight)
