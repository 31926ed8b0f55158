-- Numbers in decimal: what is read of them, and what their text is made of.
use Rattle.std.proofs.Common.{◌≡◌, ℕ, ◌<◌, ◌≤◌, ◌^◌, Bool, true, false, ◌&&◌, List, [], ◌∷◌, length, Option, Some, None, refl, sym, ap, ◌∙◌, subst, arith}
use Rattle.std.specs.Prelude.{nat_le, nat_lt, if◌then◌else◌}
use Rattle.std.specs.Char.{digit_value}
use Rattle.std.specs.Fmt.{decimal}
use Rattle.std.specs.List.{list_all}
use Rattle.std.specs.Option.{option_and_then}
use Rattle.std.specs.Str.{IsUtf8, bytes_eq}
use Rattle.std.specs.Str.Parse.{AllDigits, digits_value}
use Rattle.std.proofs.lemmas.Bool.Decides.{nat_tests}
use Rattle.std.proofs.lemmas.Fmt.{decimal_is_IsNumeral, decimal_nonempty, IsAscii-decimal}
use Rattle.std.proofs.lemmas.Option.{none-some, same_Some}
use Rattle.std.proofs.lemmas.Slice.Eq.{bytes_eq-Decides}
use Rattle.std.proofs.lemmas.Str.{IsUtf8-from_ascii}
use Rattle.model_tokens.proofs.Lists.{both, from_both}
use Rattle.text_lines.specs.Lines.{spelled_by, in_range, number_of_word}
use Rattle.text_lines.proofs.Numbers.{spelled_by-decimal, spelled_by-none}
use Rattle.value_text.specs.Reading.{goes_on_word}

-- what passes a test, if it does
pub passed : {A : Type 0} (test : Bool) (x y : A) → (if test then Some x else None) ≡ Some y → (test ≡ true) × (x ≡ y)
passed true x y e = (refl, same_Some x y e)
passed false x y e = absurd (none-some y e)

-- ---- what is read

pub number_again : (low high n : ℕ) → low ≤ n → n ≤ high → n < 2 ^ 64 → number_of_word low high (decimal n) ≡ Some n
number_again low high n above below small =
    let read = spelled_by-decimal n (decimal n) refl small in
    let test : (nat_le low n && nat_le n high) ≡ true = grind (arith, nat_tests) in
    ap (option_and_then (in_range low high)) read ∙ rw test refl

spelled_only : (word : List ℕ) (n : ℕ) → spelled_by word ≡ Some n → (word ≡ decimal n) × (n < 2 ^ 64)
spelled_only word n e =
    let number : ℕ = digits_value 10 word in
    let p = passed (bytes_eq (decimal number) word && nat_lt number (2 ^ 64)) number n e in
    let each = both (bytes_eq (decimal number) word) (nat_lt number (2 ^ 64)) p.0 in
    let same : decimal number ≡ word = (bytes_eq-Decides (decimal number) word).0 each.0 in
    let small : number < 2 ^ 64 = let test = each.1 in grind (arith, nat_tests) in
    (sym same ∙ ap decimal p.1, subst (λ m. m < 2 ^ 64) p.1 small)

-- what a number that was read says
pub record NumberRead (low high : ℕ) (word : List ℕ) (n : ℕ) : Type 0 where
  pub whole : word ≡ decimal n
  pub above : low ≤ n
  pub below : n ≤ high

in_range_only : (low high m n : ℕ) → in_range low high m ≡ Some n → (m ≡ n) × (low ≤ m) × (m ≤ high)
in_range_only low high m n e =
    let p = passed (nat_le low m && nat_le m high) m n e in
    let each = both (nat_le low m) (nat_le m high) p.0 in
    let l = each.0 in
    let h = each.1 in
    (p.1, grind (arith, nat_tests), grind (arith, nat_tests))

number_only_from : (low high : ℕ) (word : List ℕ) (n : ℕ) (spelled : Option ℕ) → spelled_by word ≡ spelled → option_and_then (in_range low high) spelled ≡ Some n → NumberRead low high word n
number_only_from low high word n None is e = absurd (none-some n e)
number_only_from low high word n (Some m) is e =
    let found = in_range_only low high m n e in
    let spelled = spelled_only word m is in
    record { whole = spelled.0 ∙ ap decimal found.0; above = subst (λ k. low ≤ k) found.0 found.1; below = subst (λ k. k ≤ high) found.0 found.2 }

pub number_only : (low high : ℕ) (word : List ℕ) (n : ℕ) → number_of_word low high word ≡ Some n → NumberRead low high word n
number_only low high word n e = number_only_from low high word n (spelled_by word) refl e

-- no number is spelled by bytes that are not UTF-8
pub number_none : (low high : ℕ) (word : List ℕ) → ¬ IsUtf8 word → number_of_word low high word ≡ None
number_none low high word bad =
    ap (option_and_then (in_range low high)) (spelled_by-none word (λ n small spells. bad (subst IsUtf8 (sym spells) (IsUtf8-from_ascii (decimal n) (IsAscii-decimal n small)))))

-- ---- what its text is made of

digit_goes_on : (c : ℕ) → digit_value c < 10 → (48 ≤ c) × (c ≤ 57) × (goes_on_word c ≡ true)
digit_goes_on c h =
    let range : (48 ≤ c) × (c ≤ 57) = (grind (arith, nat_tests), grind (arith, nat_tests)) in
    (range.0, range.1, grind (arith, nat_tests))

digits_go_on : (ds : List ℕ) → AllDigits 10 ds → list_all goes_on_word ds ≡ true
digits_go_on [] all = refl
digits_go_on (d ∷ ds) all = from_both (goes_on_word d) (list_all goes_on_word ds) (digit_goes_on d all.0).2 (digits_go_on ds all.1)

-- digits, of which there is a first one
pub record AreDigits (ds : List ℕ) : Type 0 where
  pub first : ℕ
  pub more : List ℕ
  pub whole : ds ≡ first ∷ more
  pub low : 48 ≤ first
  pub high : first ≤ 57
  pub go_on : list_all goes_on_word (first ∷ more) ≡ true

digits_are : (n : ℕ) (ds : List ℕ) → n < 2 ^ 64 → ds ≡ decimal n → AreDigits ds
digits_are n [] small e =
    let some : 0 < length (decimal n) = decimal_nonempty n small in
    let none : length (decimal n) ≡ 0 = ap length (sym e) in
    absurd (omega arith)
digits_are n (d ∷ ds) small e =
    let all : AllDigits 10 (d ∷ ds) = subst (AllDigits 10) (sym e) (decimal_is_IsNumeral n small).0.1 in
    let digit = digit_goes_on d all.0 in
    record { first = d; more = ds; whole = refl; low = digit.0; high = digit.1; go_on = digits_go_on (d ∷ ds) all }

pub decimal_digits : (n : ℕ) → n < 2 ^ 64 → AreDigits (decimal n)
decimal_digits n small = digits_are n (decimal n) small refl
