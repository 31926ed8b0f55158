-- The body of a record. All numbers are big-endian.
use Rattle.std.specs.Prelude.{ℕ, ◌^◌, ◌<◌, List, ◌∷◌, ◌++◌, ◌==◌, if◌then◌else◌}
use Rattle.std.specs.Int.{to_be_bytes, w32, w64}
use Rattle.entry_fields.specs.Spelling.{what_spelling, FitsWhat, IsTypedWhat}
use Rattle.entry_fields.specs.Reading.{what_at}
use Rattle.byte_fields.specs.Fields.{Decoder, byte_at, number_at, blob, blob_at, paired_at, headed_at, made_at, never_at, FitsBlob}
use Rattle.session_journal.specs.declared.change.Change.{Change}
use Rattle.session_journal.specs.declared.change.Change.TheVariants.{Came, Reached, Kept}

abbrev pub change_kind : Change → ℕ
change_kind (Came time view what) = 1
change_kind (Reached time) = 2
change_kind (Kept time bytes) = 3

abbrev pub change_fields : Change → List ℕ
change_fields (Came time view what) = to_be_bytes w64 time ++ (to_be_bytes w32 view ++ what_spelling what)
change_fields (Reached time) = to_be_bytes w64 time
change_fields (Kept time bytes) = to_be_bytes w64 time ++ blob bytes

-- the number of its kind, and its fields
abbrev pub change_spelling : Change → List ℕ
change_spelling change = change_kind change ∷ change_fields change

-- what has a length fits its field
abbrev pub FitsChange : Change → Type 0
FitsChange (Came time view what) = FitsWhat what
FitsChange (Reached time) = Unit {0}
FitsChange (Kept time bytes) = FitsBlob bytes

-- the numbers are of their types, and what has a length fits its field
abbrev pub IsTypedChange : Change → Type 0
IsTypedChange (Came time view what) = (time < 2 ^ 64) × ((view < 2 ^ 32) × (FitsWhat what × IsTypedWhat what))
IsTypedChange (Reached time) = time < 2 ^ 64
IsTypedChange (Kept time bytes) = (time < 2 ^ 64) × FitsBlob bytes

abbrev pub change_of_kind : ℕ → Decoder Change
change_of_kind kind bytes =
    if kind == 1 then
    made_at (λ p. Came p.0 p.1.0 p.1.1) (paired_at (number_at w64) (paired_at (number_at w32) what_at)) bytes
    else if kind == 2 then made_at (λ time. Reached time) (number_at w64) bytes
    else if kind == 3 then made_at (λ p. Kept p.0 p.1) (paired_at (number_at w64) blob_at) bytes
    else never_at bytes

unfoldable pub change_at : Decoder Change
change_at = headed_at byte_at change_of_kind
