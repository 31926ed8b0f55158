-- Reading a value from its text, with how deep lists may still nest.
use Rattle.std.specs.Prelude.{ℕ, zero, suc, ◌-◌, ◌^◌, pos, negsuc, Bool, true, false, not, ◌||◌, ◌==◌, if◌then◌else◌, List, [], ◌∷◌, ◌++◌, length, Option, Some, None, codes}
use Rattle.std.specs.Option.{option_map}
use Rattle.std.specs.Str.{bytes_eq}
use Rattle.byte_fields.specs.Fields.{Decoder, ◌>>=◌, made_at, tested_at, never_at, whole}
use Rattle.model_tokens.specs.Reader.{front, rest_past, literal_text_at}
use Rattle.model_value.specs.Plain.{PlainValue, nil, bool, int, text, ref, list, PlainValues, no_items, is_in_bounds, most_depth}
use Rattle.model_value.specs.View.{plains_of}
use Rattle.text_lines.specs.Lines.{number_of_word}

-- a word goes on up to the next `,` or `]`
abbrev pub goes_on_word : ℕ → Bool
goes_on_word byte = not (byte == 44 || byte == 93)

-- digits behind a `#`
abbrev pub object_of_digits : List ℕ → Option PlainValue
object_of_digits digits = option_map ref (number_of_word 0 (2 ^ 32 - 1) digits)

-- digits behind a `-`
abbrev pub negative_of_digits : List ℕ → Option PlainValue
negative_of_digits digits = option_map (λ magnitude. int (negsuc (magnitude - 1))) (number_of_word 1 (2 ^ 63) digits)

abbrev pub natural_of_digits : List ℕ → Option PlainValue
natural_of_digits digits = option_map (λ number. int (pos number)) (number_of_word 0 (2 ^ 63 - 1) digits)

-- the object or the number that a word names
abbrev pub numeral_of_word : List ℕ → Option PlainValue
numeral_of_word [] = None
numeral_of_word (byte ∷ digits) =
    if byte == 35 then object_of_digits digits
    else (if byte == 45 then negative_of_digits digits
    else natural_of_digits (byte ∷ digits))

abbrev pub value_of_word : List ℕ → Option PlainValue
value_of_word word =
    if bytes_eq word (codes "nil") then Some nil
    else (if bytes_eq word (codes "false") then Some (bool false)
    else (if bytes_eq word (codes "true") then Some (bool true)
    else numeral_of_word word))

-- the value of the word at the front
abbrev pub word_at : Decoder PlainValue
word_at bytes = value_of_word (front goes_on_word bytes) >>= λ value. Some (value, rest_past goes_on_word bytes)

-- what the first byte says, by a reader of what stands behind `[`
abbrev pub value_text_row : Decoder PlainValues → Decoder PlainValue
value_text_row items [] = None
value_text_row items (byte ∷ rest) =
    if byte == 34 then made_at text literal_text_at rest
    else (if byte == 91 then made_at list items rest
    else word_at (byte ∷ rest))

-- behind an item, `]` ends the items and `,` stands before more of them
abbrev pub behind_item : List PlainValue → Decoder (List PlainValue) → Decoder (List PlainValue)
behind_item items more [] = None
behind_item items more (byte ∷ rest) =
    if byte == 93 then Some (items, rest)
    else (if byte == 44 then more rest
    else None)

-- at most so many items behind those that were read, and `]`
unfoldable pub text_items_at : Decoder PlainValue → List PlainValue → ℕ → Decoder (List PlainValue)
text_items_at read before zero bytes = None
text_items_at read before (suc count) bytes =
    read bytes >>= λ x. behind_item (before ++ x.0 ∷ []) (text_items_at read (before ++ x.0 ∷ []) count) x.1

-- what stands behind `[`: each item has a byte or more
abbrev pub bracketed_items : Decoder PlainValue → Decoder PlainValues
bracketed_items read [] = None
bracketed_items read (byte ∷ rest) =
    if byte == 93 then Some (no_items, rest)
    else made_at plains_of (text_items_at read [] (length (byte ∷ rest))) (byte ∷ rest)

-- values in which lists nest at most so deep
unfoldable pub value_text_at : ℕ → Decoder PlainValue
value_text_at zero = value_text_row never_at
value_text_at (suc levels) = value_text_row (bracketed_items (value_text_at levels))

-- what stands behind `[`, where lists may nest so deep
abbrev pub nested_items : ℕ → Decoder PlainValues
nested_items zero = never_at
nested_items (suc levels) = bracketed_items (value_text_at levels)

-- the value in bounds that has this text, if there is one
abbrev pub value_of_text : List ℕ → Option PlainValue
value_of_text = whole (tested_at is_in_bounds (value_text_at most_depth))
