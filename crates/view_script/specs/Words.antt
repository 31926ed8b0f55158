-- How a line is divided into words: by a walk that knows whether it stands in a text literal.
use Rattle.std.specs.Prelude.{ℕ, Bool, false, ◌==◌, ◌+◌, not, if◌then◌else◌, List, [], ◌∷◌, filter}
use Rattle.text_lines.specs.Lines.{LineWord, is_empty, ends_in_space}
use Rattle.view_script.specs.declared.words.Place.{Place}
use Rattle.view_script.specs.declared.words.Place.TheVariants.{Outside, Inside, Escaped}

-- where the walk stands behind a byte: a quote begins and ends a literal, and a backslash in it passes over the next byte
abbrev pub next_place : Place → ℕ → Place
next_place Outside byte = if byte == 34 then Inside else Outside
next_place Inside byte = if byte == 34 then Outside else (if byte == 92 then Escaped else Inside)
next_place Escaped byte = Inside

-- a space outside of literals divides
abbrev pub divides : Place → ℕ → Bool
divides Outside byte = byte == 32
divides Inside byte = false
divides Escaped byte = false

abbrev pub with_byte : ℕ → List LineWord → List LineWord
with_byte byte [] = (byte ∷ []) ∷ []
with_byte byte (part ∷ parts) = (byte ∷ part) ∷ parts

-- the parts of a line between the spaces that divide, some of them empty
abbrev pub parts_from : Place → List ℕ → List LineWord
parts_from place [] = [] ∷ []
parts_from place (byte ∷ bytes) =
    if divides place byte then [] ∷ parts_from Outside bytes
    else with_byte byte (parts_from (next_place place byte) bytes)

-- the parts that are not empty
abbrev pub filled_parts : List LineWord → List LineWord
filled_parts = filter (λ part. not (is_empty part))

-- words are divided by one or more spaces outside of literals; a line that begins or ends with a space has none
abbrev pub script_words_of : List ℕ → List LineWord
script_words_of line = if ends_in_space line then [] else filled_parts (parts_from Outside line)

-- how many bytes stand before the first that divides
abbrev pub part_length : Place → List ℕ → ℕ
part_length place [] = 0
part_length place (byte ∷ bytes) = if divides place byte then 0 else 1 + part_length (next_place place byte) bytes
