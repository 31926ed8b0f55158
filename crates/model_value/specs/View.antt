-- The plain tree that a value in memory stands for.
use Rattle.std.specs.Prelude.{List, [], ◌∷◌, map}
use Rattle.model_value.specs.Plain.{PlainValue, nil, bool, int, text, ref, list, PlainValues, no_items, item}
use Rattle.model_value.specs.declared.value.Value.{Value, fold-Value}
use Rattle.model_value.specs.declared.value.Value.TheOpen.{Value-F}

abbrev pub plains_of : List PlainValue → PlainValues
plains_of [] = no_items
plains_of (value ∷ rest) = item value (plains_of rest)

-- one level, with each item already seen as its plain tree
abbrev pub plain_step : Value-F PlainValue → PlainValue
plain_step Value-F.Nil = nil
plain_step (Value-F.Bool flag) = bool flag
plain_step (Value-F.Int number) = int number
plain_step (Value-F.Text characters) = text characters
plain_step (Value-F.Ref object) = ref object
plain_step (Value-F.List items) = list (plains_of items.items)

abbrev pub plain : Value → PlainValue
plain = fold-Value PlainValue plain_step

abbrev pub plains : List Value → PlainValues
plains values = plains_of (map plain values)

-- a list of values, as a list of their plain trees
abbrev pub plain_values : List Value → List PlainValue
plain_values = map plain
