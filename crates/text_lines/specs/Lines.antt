-- The words of lines, and the numbers that words spell. Texts are seen as their bytes.
use Rattle.std.specs.Prelude.{ℕ, Bool, true, ◌==◌, ◌&&◌, ◌||◌, nat_le, nat_lt, ◌^◌, ◌-◌, not, if◌then◌else◌, ◌<◌, ◌≡◌, ◌≢◌, slice_index, List, [], ◌∷◌, ◌++◌, length, filter, Option, Some, None, option_and_then}
use Rattle.std.specs.List.{slice_split}
use Rattle.std.specs.Str.{bytes_eq}
use Rattle.std.specs.Str.Parse.{digits_value}
use Rattle.std.specs.Fmt.{decimal}
use Rattle.tea_base.specs.Limits.{time_limit}

abbrev pub LineWord : Type 0
LineWord = List ℕ

abbrev pub is_empty : List ℕ → Bool
is_empty bytes = length bytes == 0

-- the line begins or ends with a space
abbrev pub ends_in_space : List ℕ → Bool
ends_in_space line = slice_index line 0 == 32 || slice_index line (length line - 1) == 32

-- the parts of a line between spaces that are not empty
abbrev pub nonempty_parts : List ℕ → List LineWord
nonempty_parts line = filter (λ word. not (is_empty word)) (slice_split (λ byte. byte == 32) line)

-- words are divided by one or more spaces; a line that begins or ends with a space has none
abbrev pub words_of : List ℕ → List LineWord
words_of line = if ends_in_space line then [] else nonempty_parts line

-- the number below 2 ^ 64 that a word spells: the word is its text in decimal
abbrev pub spelled_by : LineWord → Option ℕ
spelled_by word = let number = digits_value 10 word in
    if bytes_eq (decimal number) word && nat_lt number (2 ^ 64) then Some number else None

abbrev pub in_range : ℕ → ℕ → ℕ → Option ℕ
in_range low high number = if nat_le low number && nat_le number high then Some number else None

-- the number from low to high that a word spells
abbrev pub number_of_word : ℕ → ℕ → LineWord → Option ℕ
number_of_word low high word = option_and_then (in_range low high) (spelled_by word)

-- the TeaTime that a word spells
abbrev pub time_of_word : LineWord → Option ℕ
time_of_word word = number_of_word 0 (time_limit - 1) word

-- an empty line or one that begins with `#`
abbrev pub is_skipped : List ℕ → Bool
is_skipped [] = true
is_skipped (first ∷ rest) = first == 35

-- the word is not empty, has no plus, and no zero before its last digit
pub record IsPlain (word : LineWord) : Type 0 where
  pub nonempty : 0 < length word
  pub no_plus : slice_index word 0 ≢ 43
  pub no_zero : slice_index word 0 ≡ 48 → length word ≡ 1

-- numbers in decimal, a space before each
abbrev pub spaced_numbers : List ℕ → List ℕ
spaced_numbers [] = []
spaced_numbers (number ∷ numbers) = 32 ∷ (decimal number ++ spaced_numbers numbers)

-- a word, and numbers
abbrev pub spell_numbers : LineWord → List ℕ → List ℕ
spell_numbers word numbers = word ++ spaced_numbers numbers
