-- The bytes of what an entry records. All numbers are big-endian.
use Rattle.std.specs.Prelude.{ℕ, ◌^◌, ◌<◌, List, [], ◌∷◌, ◌++◌}
use Rattle.std.specs.Int.{to_be_bytes, w32}
use Rattle.byte_fields.specs.Fields.{blob, FitsBlob}
use Rattle.tea_base.specs.declared.entry.What.{What}
use Rattle.tea_base.specs.declared.entry.What.TheVariants.{Join, Exit, Event}

abbrev pub what_kind : What → ℕ
what_kind Join = 1
what_kind Exit = 2
what_kind (Event number payload) = 3

abbrev pub what_body : What → List ℕ
what_body Join = []
what_body Exit = []
what_body (Event number payload) = to_be_bytes w32 number ++ blob payload

-- the number of its kind and, for an Event, its number and its payload
abbrev pub what_spelling : What → List ℕ
what_spelling what = what_kind what ∷ what_body what

-- the payload fits its field
abbrev pub FitsWhat : What → Type 0
FitsWhat Join = Unit {0}
FitsWhat Exit = Unit {0}
FitsWhat (Event number payload) = FitsBlob payload

-- the number is of its type
abbrev pub IsTypedWhat : What → Type 0
IsTypedWhat Join = Unit {0}
IsTypedWhat Exit = Unit {0}
IsTypedWhat (Event number payload) = number < 2 ^ 32
