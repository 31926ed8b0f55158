-- Numbers: what is read of them.
use Rattle.std.proofs.Common.{◌≡◌, ◌≢◌, ℕ, zero, suc, pos, ◌+◌, ◌*◌, ◌<◌, ◌≤◌, ◌^◌, true, false, cond, List, [], ◌∷◌, ◌++◌, length, drop, get_or, Some, None, refl, sym, ap, ◌∙◌, subst, arith, add-one, drop-cons, ◌-◌}
use Rattle.std.specs.Prelude.{nat_le, ◌==◌}
use Rattle.std.specs.Char.{digit_value}
use Rattle.std.specs.List.{list_all}
use Rattle.std.specs.Str.Parse.{AllDigits, digits_value, digits_value_after}
use Rattle.std.specs.Fmt.{decimal}
use Rattle.std.proofs.lemmas.Bool.Decides.{nat_tests}
use Rattle.std.proofs.lemmas.Str.Parse.{IsNumeralModel, numerals_by_value, tells_digits}
use Rattle.std.proofs.lemmas.Fmt.{decimal-digits_value, digits_value-decimal, decimal_is_IsNumeral, decimal_nonempty, first_decimal, decimal_digit}
use Rattle.model_tokens.specs.Bytes.{is_digit}
use Rattle.model_tokens.specs.Division.{a_token, EndsBefore, number_goes_on}
use Rattle.model_tokens.specs.Reader.{front, rest_past, kind_of, number_in_bounds, row, next_piece}
use Rattle.model_tokens.specs.declared.token.Token.TheVariants as token
use Rattle.model_tokens.specs.declared.bytes.ByteKind.TheVariants as kind
use Rattle.model_tokens.proofs.Lists.{both, from_both, front_is, behind_is, front_all, ends_behind, whole_is}

own : IsNumeralModel (AllDigits 10) (digits_value 10)
own = numerals_by_value (AllDigits 10) tells_digits

value_of_digit : (c : ℕ) → is_digit c ≡ true → digit_value c < 10
value_of_digit c h = grind (arith, nat_tests)

digit_from_value : (c : ℕ) → digit_value c < 10 → is_digit c ≡ true
digit_from_value c h = grind (arith, nat_tests)

-- as std says it of lists
pub digits_from_all : (ds : List ℕ) → list_all is_digit ds ≡ true → AllDigits 10 ds
digits_from_all [] h = tt
digits_from_all (d ∷ ds) h =
    let each = both (is_digit d) (list_all is_digit ds) h in
    (value_of_digit d each.0, digits_from_all ds each.1)

all_from_digits : (ds : List ℕ) → AllDigits 10 ds → list_all is_digit ds ≡ true
all_from_digits [] h = refl
all_from_digits (d ∷ ds) h = from_both (is_digit d) (list_all is_digit ds) (digit_from_value d h.0) (all_from_digits ds h.1)

digit_kind : (b : ℕ) → is_digit b ≡ true → kind_of b ≡ kind.Digit
digit_kind b h = grind (arith, nat_tests)

pub kind_digit : (b : ℕ) → kind_of b ≡ kind.Digit → is_digit b ≡ true
kind_digit b h = grind (arith, nat_tests)

valued_small : (n : ℕ) (rest : List ℕ) → n ≤ 9_223_372_036_854_775_807 → number_in_bounds n rest ≡ Some (a_token (token.Number (pos n)), rest)
valued_small n rest small =
    let test : nat_le n 9_223_372_036_854_775_807 ≡ true = grind (arith, nat_tests) in
    rw test refl

-- a number that is not 0
positive_next : (n : ℕ) (ds rest : List ℕ) → ds ≡ decimal n → 0 < n → n ≤ 9_223_372_036_854_775_807 → EndsBefore is_digit rest → next_piece (ds ++ rest) ≡ Some (a_token (token.Number (pos n)), rest)
positive_next n [] rest e positive small ends =
    let some : 0 < length (decimal n) = decimal_nonempty n (omega arith) in
    let none : length (decimal n) ≡ 0 = ap length (sym e) in
    absurd (omega arith)
positive_next n (d ∷ ds) rest e positive small ends =
    let fits : n < 2 ^ 64 = omega arith in
    let all : list_all is_digit (d ∷ ds) ≡ true = all_from_digits (d ∷ ds) (subst (AllDigits 10) (sym e) (decimal_is_IsNumeral n fits).0.1) in
    let value : digits_value 10 (d ∷ ds) ≡ n = ap (digits_value 10) e ∙ digits_value-decimal own n fits in
    let first : 48 < d = subst (λ xs. 48 < get_or xs 0 0) (sym e) (first_decimal n positive fits) in
    let zero_test : (d == 48) ≡ false = grind (arith, nat_tests) in
    let here : front is_digit ((d ∷ ds) ++ rest) ≡ d ∷ ds = front_is is_digit (d ∷ ds) rest all ends in
    let there : rest_past is_digit ((d ∷ ds) ++ rest) ≡ rest = behind_is is_digit (d ∷ ds) rest all ends in
    let digit : kind_of d ≡ kind.Digit = digit_kind d (both (is_digit d) (list_all is_digit ds) all).0 in
    ap (λ k. row k d (ds ++ rest)) digit
    ∙ ap (λ b. cond b (Some (a_token (token.Number (pos zero)), ds ++ rest)) (number_in_bounds (digits_value 10 (front is_digit ((d ∷ ds) ++ rest))) (rest_past is_digit ((d ∷ ds) ++ rest)))) zero_test
    ∙ ap (λ xs. number_in_bounds (digits_value 10 xs) (rest_past is_digit ((d ∷ ds) ++ rest))) here
    ∙ ap (λ xs. number_in_bounds (digits_value 10 (d ∷ ds)) xs) there
    ∙ ap (λ m. number_in_bounds m rest) value
    ∙ valued_small n rest small

ends_digits : (n : ℕ) (rest : List ℕ) → EndsBefore (number_goes_on (pos (suc n))) rest → EndsBefore is_digit rest
ends_digits n [] ends = tt
ends_digits n (b ∷ rest) ends = ends

pub number_next : (n : ℕ) (rest : List ℕ) → n ≤ 9_223_372_036_854_775_807 → EndsBefore (number_goes_on (pos n)) rest → next_piece (decimal n ++ rest) ≡ Some (a_token (token.Number (pos n)), rest)
number_next zero rest small ends =
    let e : decimal 0 ≡ 48 ∷ [] = decimal_digit 0 (omega arith) in
    ap (λ ds. next_piece (ds ++ rest)) e
number_next (suc n) rest small ends = positive_next (suc n) (decimal (suc n)) rest refl (omega arith) small (ends_digits n rest ends)

-- what a reading of a number says
pub record NumberRead (text : List ℕ) (n : ℕ) (rest : List ℕ) : Type 0 where
  pub small : n ≤ 9_223_372_036_854_775_807
  pub whole : decimal n ++ rest ≡ text
  pub ends : EndsBefore (number_goes_on (pos n)) rest

goes_positive : (n : ℕ) (rest : List ℕ) → 0 < n → EndsBefore is_digit rest → EndsBefore (number_goes_on (pos n)) rest
goes_positive n [] positive ends = tt
goes_positive zero (b ∷ rest) positive ends = absurd (omega arith)
goes_positive (suc n) (b ∷ rest) positive ends = ends

not_zero : (n d : ℕ) (ds : List ℕ) → decimal n ≡ d ∷ ds → d ≢ 48 → 0 < n
not_zero zero d ds e first =
    let zero_is : decimal 0 ≡ 48 ∷ [] = decimal_digit 0 (omega arith) in
    let same : d ≡ 48 = cc in
    absurd (first same)
not_zero (suc n) d ds e first = omega arith

-- the digits of a number that begins with no 0
pub digits_read : (text : List ℕ) (d : ℕ) (ds : List ℕ) → front is_digit text ≡ d ∷ ds → (d == 48) ≡ false → digits_value 10 (d ∷ ds) ≤ 9_223_372_036_854_775_807 → NumberRead text (digits_value 10 (d ∷ ds)) (rest_past is_digit text)
digits_read text d ds e nonzero small =
    let all : AllDigits 10 (d ∷ ds) = digits_from_all (d ∷ ds) (subst (λ xs. list_all is_digit xs ≡ true) e (front_all is_digit text)) in
    let first : d ≢ 48 = λ is. (let t : (d == 48) ≡ true = grind (arith, nat_tests) in cc) in
    let same : decimal (digits_value 10 (d ∷ ds)) ≡ d ∷ ds = decimal-digits_value own (d ∷ ds) all (omega arith) (λ is. absurd (first is)) (omega arith) in
    record {
      small = small;
      whole = ap (λ xs. xs ++ rest_past is_digit text) (same ∙ sym e) ∙ whole_is is_digit text;
      ends = goes_positive (digits_value 10 (d ∷ ds)) (rest_past is_digit text) (not_zero (digits_value 10 (d ∷ ds)) d ds same first) (ends_behind is_digit text);
    }

-- ---- for the loop over the digits

digit_at : (ds : List ℕ) (i : ℕ) → AllDigits 10 ds → i < length ds → (48 ≤ get_or ds i 0) × (digit_value (get_or ds i 0) ≡ get_or ds i 0 - 48)
digit_at [] i all h = absurd (omega arith)
digit_at (d ∷ ds) zero all h =
    let digit : is_digit d ≡ true = digit_from_value d all.0 in
    (grind (arith, nat_tests), grind (arith, nat_tests))
digit_at (d ∷ ds) (suc i) all h = digit_at ds i all.1 (omega arith)

pub digit_high : (ds : List ℕ) (i : ℕ) → AllDigits 10 ds → i < length ds → 48 ≤ get_or ds i 0
digit_high ds i all h = (digit_at ds i all h).0

after_le : (n : ℕ) (ds : List ℕ) → n ≤ digits_value_after 10 n ds
after_le n [] = omega arith
after_le n (d ∷ ds) = let more = after_le (n * 10 + digit_value d) ds in omega arith

-- one digit more
pub value_step : (ds : List ℕ) (i n total : ℕ) → AllDigits 10 ds → i < length ds → digits_value_after 10 n (drop i ds) ≡ total → digits_value_after 10 (n * 10 + (get_or ds i 0 - 48)) (drop (i + 1) ds) ≡ total
value_step ds i n total all h e =
    let next_digit : drop i ds ≡ get_or ds i 0 ∷ drop (i + 1) ds = rw (add-one) (drop-cons ds i 0 h) in
    ap (λ d. digits_value_after 10 (n * 10 + d) (drop (i + 1) ds)) (sym (digit_at ds i all h).1) ∙ ap (digits_value_after 10 n) (sym next_digit) ∙ e

pub value_grows : (n total : ℕ) (ds : List ℕ) → digits_value_after 10 n ds ≡ total → n ≤ total
value_grows n total ds e = let more = after_le n ds in omega arith

too_large : (total : ℕ) → 2 ^ 64 ≤ total → None ≡ cond (nat_le total 9_223_372_036_854_775_807) (Some (pos total)) None
too_large total large =
    let test : nat_le total 9_223_372_036_854_775_807 ≡ false = grind (arith, nat_tests) in
    rw test refl

-- where the number so far and one more digit is too large, the whole is
pub value_too_large : (ds : List ℕ) (i n total : ℕ) → AllDigits 10 ds → i < length ds → digits_value_after 10 n (drop i ds) ≡ total → 2 ^ 64 ≤ n * 10 + (get_or ds i 0 - 48) → None ≡ cond (nat_le total 9_223_372_036_854_775_807) (Some (pos total)) None
value_too_large ds i n total all h e large =
    let grown = value_grows (n * 10 + (get_or ds i 0 - 48)) total (drop (i + 1) ds) (value_step ds i n total all h e) in
    too_large total (omega arith)
