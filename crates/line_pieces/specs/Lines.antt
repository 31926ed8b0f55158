-- Lines of bytes that come in pieces.
use Rattle.std.specs.Prelude.{◌≡◌, ℕ, ◌+◌, ◌-◌, ◌==◌, Bool, false, if◌then◌else◌, List, [], ◌++◌, length, take, slice_get, Option, Some, None}
use Rattle.memchr.specs.Find.{IsFirstByte, is_byte}
use Rattle.line_pieces.specs.declared.pieces.LineTaken.{LineTaken}

-- the byte is a CR
abbrev pub is_return : Option ℕ → Bool
is_return None = false
is_return (Some byte) = byte == 13

-- a line without the CR at its end, if it has one there
abbrev pub without_return : List ℕ → List ℕ
without_return line = if is_return (slice_get line (length line - 1)) then take (length line - 1) line else line

-- what is told of a line: it without the CR at its end, or the first bytes of that
abbrev pub told_line : List ℕ → List ℕ
told_line line = take 65537 (without_return line)

-- what is kept of a line that has come in part
abbrev pub front : List ℕ → List ℕ
front line = take 65538 line

-- where the first LF of bytes is, if one is among them
abbrev pub IsLineEnd : List ℕ → Option ℕ → Type 0
IsLineEnd bytes at = IsFirstByte (is_byte 10) bytes at

-- Of bytes behind those of a line that are held: the line ends at the first LF among them, and what is told of it is handed out; no byte of the next
-- one has come.
pub record EndsLine (held bytes told : List ℕ) (count : ℕ) (left : List ℕ) : Type 0 where
  pub at : ℕ
  pub ends : IsLineEnd bytes (Some at)
  pub counted : count ≡ at + 1
  pub is : told ≡ told_line (front (held ++ take at bytes))
  pub none_left : left ≡ []

-- no LF is among them: all are of the line, which has not ended
pub record EndsNoLine (held bytes : List ℕ) (count : ℕ) (left : List ℕ) : Type 0 where
  pub none : IsLineEnd bytes None
  pub counted : count ≡ length bytes
  pub is : left ≡ front (held ++ bytes)

abbrev pub EndsOrNot : List ℕ → List ℕ → Option (List ℕ) → ℕ → List ℕ → Type 0
EndsOrNot held bytes (Some told) count left = EndsLine held bytes told count left
EndsOrNot held bytes None count left = EndsNoLine held bytes count left

abbrev pub TakesPiece : List ℕ → List ℕ → LineTaken → List ℕ → Type 0
TakesPiece held bytes taken left = EndsOrNot held bytes taken.line taken.count left
