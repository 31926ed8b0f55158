-- Reading a value, with how deep lists may still nest.
use Rattle.std.specs.Prelude.{ℕ, zero, suc, ◌-◌, true, false, Some, None, ◌==◌, nat_le, if◌then◌else◌}
use Rattle.std.specs.Int.{w32, w64, cast_signed}
use Rattle.byte_fields.specs.Fields.{Decoder, ◌>>=◌, byte_at, number_at, text_at, headed_at, made_at, tested_at, nothing_at, never_at, list_at}
use Rattle.model_value.specs.Plain.{PlainValue, nil, bool, int, text, ref, list, PlainValues, is_in_bounds, most_depth}
use Rattle.model_value.specs.View.{plains_of}

-- what a byte for a kind says of the bytes behind it, by a reader of the items of a list
abbrev pub value_of_kind : Decoder PlainValues → ℕ → Decoder PlainValue
value_of_kind items kind bytes =
    if kind == 0 then nothing_at nil bytes
    else if kind == 1 then nothing_at (bool false) bytes
    else if kind == 2 then nothing_at (bool true) bytes
    else if kind == 3 then made_at (λ n. int (cast_signed w64 n)) (number_at w64) bytes
    else if kind == 4 then made_at text text_at bytes
    else if kind == 5 then made_at ref (number_at w32) bytes
    else if kind == 6 then made_at list items bytes
    else never_at bytes

abbrev pub value_row : Decoder PlainValues → Decoder PlainValue
value_row items = headed_at byte_at (value_of_kind items)

-- values in which lists nest at most so deep
unfoldable pub value_at : ℕ → Decoder PlainValue
value_at zero = value_row never_at
value_at (suc levels) = value_row (made_at plains_of (list_at (λ _. value_at levels)))

-- the items of a list, where lists may nest so deep
abbrev pub items_in : ℕ → Decoder PlainValues
items_in zero = never_at
items_in (suc levels) = made_at plains_of (list_at (λ _. value_at levels))

-- a value in bounds
abbrev pub bounded_at : Decoder PlainValue
bounded_at = tested_at is_in_bounds (value_at most_depth)

-- what is read, if it is no heavier than the room, and what its weight leaves of the room
abbrev pub weighed_at : {A : Type 0} → (A → ℕ) → ℕ → Decoder A → Decoder (A × ℕ)
weighed_at weigh room read bytes =
    read bytes >>= λ x. if nat_le (weigh x.0) room then Some ((x.0, room - weigh x.0), x.1) else None
