-- Values whose text is a word: what is read of them.
use Rattle.std.proofs.Common.{◌≡◌, ℕ, suc, pos, negsuc, ◌-◌, ◌<◌, ◌≤◌, ◌^◌, Bool, true, false, List, [], ◌∷◌, ◌++◌, Option, Some, None, refl, sym, ap, ◌∙◌, subst, arith}
use Rattle.std.specs.Prelude.{ℤ, FitsSigned, ◌==◌, if◌then◌else◌, codes}
use Rattle.std.specs.Fmt.{decimal}
use Rattle.std.specs.Int.{w64}
use Rattle.std.specs.List.{list_all}
use Rattle.std.specs.Option.{option_map}
use Rattle.std.specs.Str.{bytes_eq}
use Rattle.std.proofs.lemmas.Bool.Decides.{nat_tests}
use Rattle.std.proofs.lemmas.Option.{none-some, same_Some}
use Rattle.std.proofs.lemmas.Slice.Eq.{bytes_eq-Decides}
use Rattle.byte_fields.specs.Fields.{Decoder}
use Rattle.model_tokens.specs.Division.{EndsBefore}
use Rattle.model_tokens.specs.Reader.{front, rest_past}
use Rattle.model_tokens.proofs.Lists.{front_is, behind_is}
use Rattle.model_value.specs.Plain.{PlainValue, nil, bool, int, text, ref, list, PlainValues, depth}
use Rattle.model_value.specs.Spelling.{IsValue}
use Rattle.text_lines.specs.Lines.{number_of_word}
use Rattle.value_text.specs.Reading.{goes_on_word, object_of_digits, negative_of_digits, natural_of_digits, numeral_of_word, value_of_word, word_at, value_text_row}
use Rattle.value_text.specs.ValueText.{value_text}
use Rattle.value_text.proofs.Numerals.{decimal_digits, number_again, number_only}

-- ---- what has a word is read

-- a value is read from this word
pub record HasWord (value : PlainValue) : Type 0 where
  pub first : ℕ
  pub more : List ℕ
  pub whole : value_text value ≡ first ∷ more
  pub no_quote : (first == 34) ≡ false
  pub no_bracket : (first == 91) ≡ false
  pub no_end : (first == 93) ≡ false
  pub go_on : list_all goes_on_word (first ∷ more) ≡ true
  pub means : value_of_word (first ∷ more) ≡ Some value

nil_word : HasWord nil
nil_word = record { first = 110; more = 105 ∷ 108 ∷ []; whole = refl; no_quote = refl; no_bracket = refl; no_end = refl; go_on = refl; means = refl }

bool_word : (flag : Bool) → HasWord (bool flag)
bool_word false = record { first = 102; more = 97 ∷ 108 ∷ 115 ∷ 101 ∷ []; whole = refl; no_quote = refl; no_bracket = refl; no_end = refl; go_on = refl; means = refl }
bool_word true = record { first = 116; more = 114 ∷ 117 ∷ 101 ∷ []; whole = refl; no_quote = refl; no_bracket = refl; no_end = refl; go_on = refl; means = refl }

-- digits are no other word
digits_mean : (d : ℕ) (ds : List ℕ) → 48 ≤ d → d ≤ 57 → value_of_word (d ∷ ds) ≡ natural_of_digits (d ∷ ds)
digits_mean d ds low high =
    let n : (d == 110) ≡ false = grind (arith, nat_tests) in
    let f : (d == 102) ≡ false = grind (arith, nat_tests) in
    let t : (d == 116) ≡ false = grind (arith, nat_tests) in
    let o : (d == 35) ≡ false = grind (arith, nat_tests) in
    let m : (d == 45) ≡ false = grind (arith, nat_tests) in
    rw (n, f, t, o, m) refl

natural_word : (n : ℕ) → n < 2 ^ 63 → HasWord (int (pos n))
natural_word n small =
    let digits = decimal_digits n (omega arith) in
    let low = digits.low in
    let high = digits.high in
    let read : natural_of_digits (decimal n) ≡ Some (int (pos n)) = ap (option_map (λ m. int (pos m))) (number_again 0 (2 ^ 63 - 1) n (omega arith) (omega arith) (omega arith)) in
    record {
      first = digits.first;
      more = digits.more;
      whole = digits.whole;
      no_quote = grind (arith, nat_tests);
      no_bracket = grind (arith, nat_tests);
      no_end = grind (arith, nat_tests);
      go_on = digits.go_on;
      means = digits_mean digits.first digits.more low high ∙ ap natural_of_digits (sym digits.whole) ∙ read;
    }

negative_word : (n : ℕ) → n < 2 ^ 63 → HasWord (int (negsuc n))
negative_word n small =
    let digits = decimal_digits (suc n) (omega arith) in
    let less : suc n - 1 ≡ n = omega arith in
    let read : negative_of_digits (decimal (suc n)) ≡ Some (int (negsuc (suc n - 1))) = ap (option_map (λ m. int (negsuc (m - 1)))) (number_again 1 (2 ^ 63) (suc n) (omega arith) (omega arith) (omega arith)) in
    record {
      first = 45;
      more = decimal (suc n);
      whole = refl;
      no_quote = refl;
      no_bracket = refl;
      no_end = refl;
      go_on = subst (λ ds. list_all goes_on_word ds ≡ true) (sym digits.whole) digits.go_on;
      means = read ∙ ap (λ m. Some (int (negsuc m))) less;
    }

object_word : (n : ℕ) → n < 2 ^ 32 → HasWord (ref n)
object_word n small =
    let digits = decimal_digits n (omega arith) in
    record {
      first = 35;
      more = decimal n;
      whole = refl;
      no_quote = refl;
      no_bracket = refl;
      no_end = refl;
      go_on = subst (λ ds. list_all goes_on_word ds ≡ true) (sym digits.whole) digits.go_on;
      means = ap (option_map ref) (number_again 0 (2 ^ 32 - 1) n (omega arith) (omega arith) (omega arith));
    }

int_word : (number : ℤ) → FitsSigned w64 number → HasWord (int number)
int_word (pos n) fits = natural_word n (omega (arith, fits))
int_word (negsuc n) fits = negative_word n (omega (arith, fits))

-- its text is a word
abbrev pub IsWord : PlainValue → Type 0
IsWord nil = Unit {0}
IsWord (bool flag) = Unit {0}
IsWord (int number) = Unit {0}
IsWord (text characters) = ⊥
IsWord (ref object) = Unit {0}
IsWord (list items) = ⊥

pub has_word : (value : PlainValue) → IsWord value → IsValue value → HasWord value
has_word nil word is = nil_word
has_word (bool flag) word is = bool_word flag
has_word (int number) word is = int_word number is
has_word (text characters) word is = absurd word
has_word (ref object) word is = object_word object is
has_word (list items) word is = absurd word

pub word_again : (value : PlainValue) → HasWord value → (items : Decoder PlainValues) (rest : List ℕ) → EndsBefore goes_on_word rest → value_text_row items (value_text value ++ rest) ≡ Some (value, rest)
word_again value word items rest ends =
    let bytes : List ℕ = word.first ∷ word.more in
    let here : front goes_on_word (bytes ++ rest) ≡ bytes = front_is goes_on_word bytes rest word.go_on ends in
    let there : rest_past goes_on_word (bytes ++ rest) ≡ rest = behind_is goes_on_word bytes rest word.go_on ends in
    let found : word_at (bytes ++ rest) ≡ Some (value, rest) = rw (here, word.means) (ap (λ r. Some (value, r)) there) in
    ap (λ xs. value_text_row items (xs ++ rest)) word.whole ∙ rw (word.no_quote, word.no_bracket) found

-- ---- what is read has the word

pub record WordRead (word : List ℕ) (value : PlainValue) : Type 0 where
  pub is : IsValue value
  pub flat : depth value ≡ 0
  pub whole : word ≡ value_text value

-- what is made of a number
made : {B : Type 0} (make : ℕ → B) (found : Option ℕ) (y : B) → option_map make found ≡ Some y → (n : ℕ) × (found ≡ Some n) × (make n ≡ y)
made make None y e = absurd (none-some y e)
made make (Some n) y e = (n, refl, same_Some (make n) y e)

natural_only : (word : List ℕ) (value : PlainValue) → natural_of_digits word ≡ Some value → WordRead word value
natural_only word value e =
    let m = made (λ n. int (pos n)) (number_of_word 0 (2 ^ 63 - 1) word) value e in
    let n = number_only 0 (2 ^ 63 - 1) word m.0 m.1 in
    let below = n.below in
    let fits : FitsSigned w64 (pos m.0) = omega arith in
    subst (WordRead word) m.2 (record { is = fits; flat = refl; whole = n.whole })

negative_only : (digits : List ℕ) (value : PlainValue) → negative_of_digits digits ≡ Some value → WordRead (45 ∷ digits) value
negative_only digits value e =
    let m = made (λ n. int (negsuc (n - 1))) (number_of_word 1 (2 ^ 63) digits) value e in
    let n = number_only 1 (2 ^ 63) digits m.0 m.1 in
    let above = n.above in
    let below = n.below in
    let fits : FitsSigned w64 (negsuc (m.0 - 1)) = omega arith in
    let same : m.0 ≡ suc (m.0 - 1) = omega arith in
    subst (WordRead (45 ∷ digits)) m.2 (record { is = fits; flat = refl; whole = ap (λ ds. 45 ∷ ds) (n.whole ∙ ap decimal same) })

object_only : (digits : List ℕ) (value : PlainValue) → object_of_digits digits ≡ Some value → WordRead (35 ∷ digits) value
object_only digits value e =
    let m = made ref (number_of_word 0 (2 ^ 32 - 1) digits) value e in
    let n = number_only 0 (2 ^ 32 - 1) digits m.0 m.1 in
    let below = n.below in
    let fits : m.0 < 2 ^ 32 = omega arith in
    subst (WordRead (35 ∷ digits)) m.2 (record { is = fits; flat = refl; whole = ap (λ ds. 35 ∷ ds) n.whole })

is_number : (a b : ℕ) → (a == b) ≡ true → a ≡ b
is_number a b h = grind (arith, nat_tests)

numeral_if : (byte : ℕ) (digits : List ℕ) (value : PlainValue) (o m : Bool) → (byte == 35) ≡ o → (byte == 45) ≡ m
    → (if o then object_of_digits digits else (if m then negative_of_digits digits else natural_of_digits (byte ∷ digits))) ≡ Some value → WordRead (byte ∷ digits) value
numeral_if byte digits value true m ho hm e = rw (is_number byte 35 ho) (object_only digits value e)
numeral_if byte digits value false true ho hm e = rw (is_number byte 45 hm) (negative_only digits value e)
numeral_if byte digits value false false ho hm e = natural_only (byte ∷ digits) value e

numeral_only : (word : List ℕ) (value : PlainValue) → numeral_of_word word ≡ Some value → WordRead word value
numeral_only [] value e = absurd (none-some value e)
numeral_only (byte ∷ digits) value e = numeral_if byte digits value (byte == 35) (byte == 45) refl refl e

said : (word : List ℕ) (found value : PlainValue) → word ≡ value_text found → IsValue found → depth found ≡ 0 → Some found ≡ Some value → WordRead word value
said word found value whole is flat e = subst (WordRead word) (same_Some found value e) (record { is = is; flat = flat; whole = whole })

is_bytes : (word bytes : List ℕ) → bytes_eq word bytes ≡ true → word ≡ bytes
is_bytes word bytes h = (bytes_eq-Decides word bytes).0 h

word_if : (word : List ℕ) (value : PlainValue) (n f t : Bool) → bytes_eq word (codes "nil") ≡ n → bytes_eq word (codes "false") ≡ f → bytes_eq word (codes "true") ≡ t
    → (if n then Some nil else (if f then Some (bool false) else (if t then Some (bool true) else numeral_of_word word))) ≡ Some value → WordRead word value
word_if word value true f t hn hf ht e = said word nil value (is_bytes word (codes "nil") hn) tt refl e
word_if word value false true t hn hf ht e = said word (bool false) value (is_bytes word (codes "false") hf) tt refl e
word_if word value false false true hn hf ht e = said word (bool true) value (is_bytes word (codes "true") ht) tt refl e
word_if word value false false false hn hf ht e = numeral_only word value e

pub word_only : (word : List ℕ) (value : PlainValue) → value_of_word word ≡ Some value → WordRead word value
word_only word value e = word_if word value (bytes_eq word (codes "nil")) (bytes_eq word (codes "false")) (bytes_eq word (codes "true")) refl refl refl e
