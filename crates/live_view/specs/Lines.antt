-- What a line that comes says.
use Rattle.std.specs.Prelude.{ℕ, nat_le, if◌then◌else◌, List, [], ◌∷◌, length, Option, Some, None, codes}
use Rattle.std.specs.Str.{bytes_eq, is_utf8}
use Rattle.text_lines.specs.Lines.{LineWord, number_of_word, words_of}
use Rattle.view_script.specs.PlainLine.{PlainLine}
use Rattle.view_script.specs.ViewScript.{view_script_of}

-- the lines of a script that it is, or how often the view makes a link again; or it is no line
pub data LineRead : Type 0 where
  NoLine : LineRead
  Lines : List PlainLine → LineRead
  Holds : ℕ → LineRead

-- the most bytes of a line
abbrev pub most_line : ℕ
most_line = 65536

-- the most links that a view makes again
abbrev pub most_holds : ℕ
most_holds = 4294967295

-- `hold N`
abbrev pub hold_of_words : List LineWord → Option ℕ
hold_of_words (name ∷ count ∷ []) = if bytes_eq name (codes "hold") then number_of_word 0 most_holds count else None
hold_of_words words = None

abbrev pub hold_of : List ℕ → Option ℕ
hold_of bytes = if is_utf8 bytes then hold_of_words (words_of bytes) else None

abbrev pub read_as : Option ℕ → Option (List PlainLine) → LineRead
read_as (Some holds) script = Holds holds
read_as None (Some lines) = Lines lines
read_as None None = NoLine

-- what these bytes say, which came as one line; an empty line and one that begins with `#` are no lines of a script
abbrev pub read_line : List ℕ → LineRead
read_line bytes = if nat_le (length bytes) most_line then read_as (hold_of bytes) (view_script_of bytes) else NoLine

-- the lines of a script that it is
abbrev pub lines_in : LineRead → Option (List PlainLine)
lines_in (Lines lines) = Some lines
lines_in read = None
