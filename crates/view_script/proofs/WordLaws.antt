-- Words compared and read, and how a line is divided into them.
use Rattle.std.proofs.Common.{◌≡◌, ℕ, suc, ◌+◌, ◌<◌, ◌^◌, ◌-◌, Bool, true, false, cond, not, List, [], ◌∷◌, ◌++◌, append_assoc, take, drop, Some, None, refl, sym, ap, ◌∙◌, subst, arith}
use Rattle.std.specs.Prelude.{◌&&◌, nat_lt}
use Rattle.std.specs.Option.{option_and_then}
use Rattle.std.specs.Fmt.{decimal}
use Rattle.std.specs.Str.{bytes_eq, IsUtf8}
use Rattle.std.specs.Str.Parse.{digits_value}
use Rattle.std.proofs.lemmas.Bool.{false≢true}
use Rattle.std.proofs.lemmas.Bool.Decides.{nat_tests}
use Rattle.std.proofs.lemmas.Fmt.{IsAscii-decimal}
use Rattle.std.proofs.lemmas.Slice.Eq.{bytes_eq-Decides}
use Rattle.std.proofs.lemmas.Str.{IsUtf8-from_ascii}
use Rattle.text_lines.specs.Lines.{LineWord, is_empty, in_range, number_of_word, time_of_word}
use Rattle.view_script.specs.declared.words.Place.{Place}
use Rattle.view_script.specs.declared.words.Place.TheVariants.{Outside}
use Rattle.tea_base.specs.Limits.{time_limit}
use Rattle.view_script.specs.Words.{next_place, divides, with_byte, parts_from, filled_parts, part_length}

pub ruleset by_bytes = (bytes_eq-Decides)

-- ---- numbers

both : (a b : Bool) → (a && b) ≡ true → (a ≡ true) × (b ≡ true)
both true b e = (refl, e)
both false b e = absurd (false≢true e)

none_where : (low high n : ℕ) (b : Bool) → (b ≡ true → ⊥) → option_and_then (in_range low high) (cond b (Some n) None) ≡ None
none_where low high n true never = absurd (never refl)
none_where low high n false never = refl

small_where : (n : ℕ) → nat_lt n (2 ^ 64) ≡ true → n < 2 ^ 64
small_where n e = grind (arith, nat_tests)

spelled-IsUtf8 : (word : LineWord) → (bytes_eq (decimal (digits_value 10 word)) word && nat_lt (digits_value 10 word) (2 ^ 64)) ≡ true → IsUtf8 word
spelled-IsUtf8 word e =
    let parts = both (bytes_eq (decimal (digits_value 10 word)) word) (nat_lt (digits_value 10 word) (2 ^ 64)) e in
    let same : decimal (digits_value 10 word) ≡ word = (bytes_eq-Decides (decimal (digits_value 10 word)) word).0 parts.0 in
    subst IsUtf8 same (IsUtf8-from_ascii (decimal (digits_value 10 word)) (IsAscii-decimal (digits_value 10 word) (small_where (digits_value 10 word) parts.1)))

-- what is not UTF-8 spells no number
pub number-not_text : (low high : ℕ) (word : LineWord) → (IsUtf8 word → ⊥) → None ≡ number_of_word low high word
number-not_text low high word never =
    sym (none_where low high (digits_value 10 word) (bytes_eq (decimal (digits_value 10 word)) word && nat_lt (digits_value 10 word) (2 ^ 64)) (λ e. never (spelled-IsUtf8 word e)))

pub time-not_text : (word : LineWord) → (IsUtf8 word → ⊥) → None ≡ time_of_word word
time-not_text = number-not_text 0 (time_limit - 1)

-- ---- parts of a line

-- the parts behind the first
abbrev parts_behind : List ℕ → List LineWord
parts_behind [] = []
parts_behind (space ∷ bytes) = parts_from Outside bytes

divide_step : (b : Bool) (byte : ℕ) (bytes : List ℕ) (n : ℕ) (parts : List LineWord)
    → parts ≡ take n bytes ∷ parts_behind (drop n bytes)
    → cond b ([] ∷ parts_from Outside bytes) (with_byte byte parts) ≡ take (cond b 0 (1 + n)) (byte ∷ bytes) ∷ parts_behind (drop (cond b 0 (1 + n)) (byte ∷ bytes))
divide_step true byte bytes n parts e = refl
divide_step false byte bytes n parts e =
    let next : 1 + n ≡ suc n = omega arith in
    rw next (ap (with_byte byte) e)

-- the first part, and those behind it
divided : (place : Place) (line : List ℕ) → parts_from place line ≡ take (part_length place line) line ∷ parts_behind (drop (part_length place line) line)
divided place [] = refl
divided place (byte ∷ bytes) = divide_step (divides place byte) byte bytes (part_length (next_place place byte) bytes) (parts_from (next_place place byte) bytes) (divided (next_place place byte) bytes)

filled-behind : (behind : List ℕ) → filled_parts (parts_behind behind) ≡ filled_parts (parts_from Outside (drop 1 behind))
filled-behind [] = refl
filled-behind (space ∷ bytes) = refl

front_either : (b : Bool) (part : LineWord) (words : List LineWord) → cond b (part ∷ words) words ≡ cond b (part ∷ []) [] ++ words
front_either true part words = refl
front_either false part words = refl

filled-front : (part : LineWord) (parts : List LineWord) → filled_parts (part ∷ parts) ≡ filled_parts (part ∷ []) ++ filled_parts parts
filled-front part parts = front_either (not (is_empty part)) part (filled_parts parts)

-- the first part, if it is a word, and the words behind it
filled-divided : (line part behind : List ℕ) → part ≡ take (part_length Outside line) line → behind ≡ drop (part_length Outside line) line
    → filled_parts (parts_from Outside line) ≡ filled_parts (part ∷ []) ++ filled_parts (parts_from Outside (drop 1 behind))
filled-divided line part behind at rest =
    ap filled_parts (divided Outside line)
    ∙ sym (ap (λ (p : List ℕ). filled_parts (p ∷ parts_behind (drop (part_length Outside line) line))) at)
    ∙ sym (ap (λ (bs : List ℕ). filled_parts (part ∷ parts_behind bs)) rest)
    ∙ filled-front part (parts_behind behind)
    ∙ ap (λ (words : List LineWord). filled_parts (part ∷ []) ++ words) (filled-behind behind)

-- a part more: the words so far, and those behind it, are those of all
pub words_more : (old new : List LineWord) (all line part behind next : List ℕ) (n : ℕ)
    → n ≡ part_length Outside line
    → part ≡ take n line
    → behind ≡ drop n line
    → new ≡ old ++ filled_parts (part ∷ [])
    → next ≡ drop 1 behind
    → old ++ filled_parts (parts_from Outside line) ≡ filled_parts (parts_from Outside all)
    → new ++ filled_parts (parts_from Outside next) ≡ filled_parts (parts_from Outside all)
words_more old new all line part behind next n count at rest more follows before =
    let divides_line = filled-divided line part behind (at ∙ ap (λ (k : ℕ). take k line) count) (rest ∙ ap (λ (k : ℕ). drop k line) count) in
    ap (λ (words : List LineWord). words ++ filled_parts (parts_from Outside next)) more
    ∙ ap (λ (bs : List ℕ). (old ++ filled_parts (part ∷ [])) ++ filled_parts (parts_from Outside bs)) follows
    ∙ append_assoc old (filled_parts (part ∷ [])) (filled_parts (parts_from Outside (drop 1 behind)))
    ∙ sym (ap (λ (words : List LineWord). old ++ words) divides_line)
    ∙ before
