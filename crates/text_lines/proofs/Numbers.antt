-- Words that spell numbers.
use Rattle.std.proofs.Common.{◌≡◌, ℕ, ◌<◌, ◌^◌, zero, suc, get_or, arith, sym, ◌∙◌, ap, refl, true, Some, None, Ok, Result, lit<}
use Rattle.std.proofs.lemmas.Str.Parse.{IsNumeralModel, numerals_by_value, tells_digits, parse_plain}
use Rattle.std.proofs.lemmas.Fmt.{decimal-digits_value, decimal_nonempty, first_decimal, digits_value-decimal}
use Rattle.std.proofs.lemmas.Slice.Eq.{bytes_eq-Decides}
use Rattle.std.proofs.lemmas.Bool.Decides.{nat_tests}
use Rattle.std.specs.Str.{bytes_eq}
use Rattle.std.specs.Str.Parse.{AllDigits, digits_value, ParsesUnsigned}
use Rattle.std.specs.Fmt.{decimal, digits}
use Rattle.text_lines.specs.Lines.{LineWord, spelled_by, IsPlain}

own : IsNumeralModel (AllDigits 10) (digits_value 10)
own = numerals_by_value (AllDigits 10) tells_digits

-- the text of a number is plain
IsPlain-decimal-positive : (n : ℕ) → 0 < n → n < 2 ^ 64 → IsPlain (decimal n)
IsPlain-decimal-positive n positive small =
    let first : 48 < get_or (decimal n) 0 0 = first_decimal n positive small in
    record { nonempty = decimal_nonempty n small; no_plus = λ e. omega arith; no_zero = λ e. absurd (omega arith) }

pub IsPlain-decimal : (n : ℕ) → n < 2 ^ 64 → IsPlain (decimal n)
unfolding digits
IsPlain-decimal zero small = record { nonempty = lit< tt; no_plus = λ e. omega (arith, e); no_zero = λ e. refl }
IsPlain-decimal (suc n) small = IsPlain-decimal-positive (suc n) (omega arith) small

-- what `parse` reads of a plain word is what the word spells
pub spelled_by-parsed : {E : Type 0} (word : LineWord) (n : ℕ) (result : Result ℕ E) → ParsesUnsigned 64 10 word result → IsPlain word → result ≡ Ok n → (word ≡ decimal n) × (n < 2 ^ 64)
spelled_by-parsed word n result parses plain ok =
    let read = rw ok at (parse_plain own 64 word result parses plain.no_plus) in
    let same : n ≡ digits_value 10 word = read.1 in
    let text : decimal (digits_value 10 word) ≡ word = decimal-digits_value own word read.0.0 plain.nonempty plain.no_zero read.0.2 in
    (rw same (sym text), rw same read.0.2)

-- a word that spells a number reads as it
pub spelled_by-decimal : (n : ℕ) (word : LineWord) → word ≡ decimal n → n < 2 ^ 64 → spelled_by word ≡ Some n
spelled_by-decimal n word spells small =
    let value : digits_value 10 word ≡ n = ap (digits_value 10) spells ∙ digits_value-decimal own n small in
    let same : bytes_eq (decimal n) word ≡ true = (bytes_eq-Decides (decimal n) word).1 (sym spells) in
    rw (value, same) (grind (arith, nat_tests))

-- and another word as none
pub spelled_by-none : (word : LineWord) → ((n : ℕ) → n < 2 ^ 64 → word ≡ decimal n → ⊥) → spelled_by word ≡ None
spelled_by-none word none = grind (arith, nat_tests, bytes_eq-Decides (decimal (digits_value 10 word)) word, none (digits_value 10 word))
