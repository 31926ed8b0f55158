-- A number is read from its decimal spelling, and from nothing else.
use Rattle.std.proofs.Common.{◌≡◌, ℕ, suc, ◌^◌, Bool, true, false, cond, ◌&&◌, eqb, List, get_or, refl, sym, ap, subst, ◌∙◌, arith}
use Rattle.std.specs.Prelude.{ℤ, pos, negsuc, neg_ℤ, Option, Some, None, Result, Ok, Err, IfOk, bytes_eq, IsTrue, FitsSigned, encode_utf8_all}
use Rattle.std.specs.Fmt.{decimal, signed_decimal}
use Rattle.std.specs.Int.{w64, IsInRange}
use Rattle.std.specs.Str.{IsUtf8, chars}
use Rattle.std.specs.Str.Parse.{signed_digits_value, digits_value, ParsesSigned}
use Rattle.std.proofs.lemmas.Fmt.{parse-signed_decimal, decimal_is_IsNumeral, IsAscii-signed}
use Rattle.std.proofs.lemmas.Str.{encodes-IsAscii, encodes-chars, chars-IsAscii}
use Rattle.std.proofs.lemmas.Str.Parse.{digit_at}
use Rattle.std.proofs.lemmas.Bool.{ltb-true, lt-ltb}
use Rattle.std.proofs.lemmas.Bool.Decides.{nat_tests}
use Rattle.std.proofs.lemmas.Slice.Eq.{bytes_eq-Decides}
use Rattle.model_builtin.specs.Builtins.{in_64_bits, if_spelled, read_decimal}

-- ---- numbers of 64 bits

pub FitsSigned-in_64_bits : (n : ℤ) → IsTrue (in_64_bits n) → FitsSigned w64 n
FitsSigned-in_64_bits (pos n) e = record { sfits = ltb-true n (2 ^ 63) e }
FitsSigned-in_64_bits (negsuc n) e = record { sfits = ltb-true n (2 ^ 63) e }

pub in_64_bits-FitsSigned : (n : ℤ) → FitsSigned w64 n → IsTrue (in_64_bits n)
in_64_bits-FitsSigned (pos n) fits = lt-ltb n (2 ^ 63) fits.sfits
in_64_bits-FitsSigned (negsuc n) fits = lt-ltb n (2 ^ 63) fits.sfits

-- ---- what is read

both : (a b : Bool) → (a && b) ≡ true → (a ≡ true) × (b ≡ true)
both true true e = (refl, refl)
both true false e = absurd cc
both false b e = absurd cc

if_some : (b : Bool) (m n : ℤ) → ◌≡◌ {A = Option ℤ} (cond b (Some m) None) (Some n) → (b ≡ true) × (m ≡ n)
if_some true m n e = (refl, cc)
if_some false m n e = absurd cc

spelled_only : (m n : ℤ) (characters : List ℕ) → if_spelled m characters ≡ Some n → IsTrue (in_64_bits n) × (signed_decimal n ≡ characters)
spelled_only m n characters e =
    let found = if_some (in_64_bits m && bytes_eq (signed_decimal m) characters) m n e in
    let parts = both (in_64_bits m) (bytes_eq (signed_decimal m) characters) found.0 in
    let spelled = (bytes_eq-Decides (signed_decimal m) characters).0 parts.1 in
    (ap in_64_bits (sym found.1) ∙ parts.0, ap signed_decimal (sym found.1) ∙ spelled)

-- what is read is spelled so
pub number_of-spelled : (characters : List ℕ) (n : ℤ) → read_decimal characters ≡ Some n → IsTrue (in_64_bits n) × (signed_decimal n ≡ characters)
number_of-spelled characters n e = spelled_only (signed_digits_value 10 characters) n characters e

-- digits that no sign stands before
plain_digits : (ds : List ℕ) (n : ℕ) → IsInRange 48 57 (get_or ds 0 0) → digits_value 10 ds ≡ n → signed_digits_value 10 ds ≡ pos n
plain_digits ds n range e =
    let minus : eqb (get_or ds 0 0) 45 ≡ false = grind (arith, nat_tests) in
    let plus : eqb (get_or ds 0 0) 43 ≡ false = grind (arith, nat_tests) in
    rw (minus, plus) (ap pos e)

-- a number's own spelling writes it
signed_digits_value-signed_decimal : (n : ℤ) → IsTrue (in_64_bits n) → signed_digits_value 10 (signed_decimal n) ≡ n
signed_digits_value-signed_decimal (pos n) fits =
    let small = ltb-true n (2 ^ 63) fits in
    let digits = decimal_is_IsNumeral n (omega arith) in
    plain_digits (decimal n) n (digit_at (decimal n) 0 digits.0.1 digits.0.0) digits.1
signed_digits_value-signed_decimal (negsuc n) fits =
    let small = ltb-true n (2 ^ 63) fits in
    let digits = decimal_is_IsNumeral (suc n) (omega arith) in
    ap (λ (m : ℕ). neg_ℤ (pos m)) digits.1

passed : (a b : Bool) (n : ℤ) → a ≡ true → b ≡ true → ◌≡◌ {A = Option ℤ} (cond (a && b) (Some n) None) (Some n)
passed true true n e f = refl
passed true false n e f = absurd cc
passed false b n e f = absurd cc

-- each number is read from its spelling
pub number_of-again : (n : ℤ) → IsTrue (in_64_bits n) → read_decimal (signed_decimal n) ≡ Some n
number_of-again n fits =
    ap (λ (m : ℤ). if_spelled m (signed_decimal n)) (signed_digits_value-signed_decimal n fits)
    ∙ passed (in_64_bits n) (bytes_eq (signed_decimal n) (signed_decimal n)) n fits ((bytes_eq-Decides (signed_decimal n) (signed_decimal n)).1 refl)

pub number_of-is : (characters : List ℕ) (n : ℤ) → IsTrue (in_64_bits n) → signed_decimal n ≡ characters → read_decimal characters ≡ Some n
number_of-is characters n fits e = ap read_decimal (sym e) ∙ number_of-again n fits

none_of : (characters : List ℕ) (found : Option ℤ) → read_decimal characters ≡ found → ((n : ℤ) → IsTrue (in_64_bits n) → signed_decimal n ≡ characters → ⊥) → found ≡ None
none_of characters None e never = refl
none_of characters (Some n) e never = let is = number_of-spelled characters n e in absurd (never n is.0 is.1)

-- where no number is spelled so, none is read
pub number_of-none : (characters : List ℕ) → ((n : ℤ) → IsTrue (in_64_bits n) → signed_decimal n ≡ characters → ⊥) → read_decimal characters ≡ None
number_of-none characters never = none_of characters (read_decimal characters) refl never

-- ---- what `parse` reads

-- it reads each number from its spelling
pub parsed : {E : Type 0} (bytes characters : List ℕ) (r : Result ℤ E) → IsUtf8 bytes → chars bytes ≡ characters → ParsesSigned w64 10 bytes r → (n : ℤ) → IsTrue (in_64_bits n) → signed_decimal n ≡ characters → r ≡ Ok n
parsed bytes characters r u e parses n in_64 is =
    let fits = FitsSigned-in_64_bits n in_64 in
    let same : bytes ≡ signed_decimal n =
    sym (encodes-chars bytes u) ∙ ap encode_utf8_all (e ∙ sym is) ∙ encodes-IsAscii (signed_decimal n) (IsAscii-signed n fits.sfits) in
    parse-signed_decimal w64 n bytes r fits fits.sfits same parses

-- the characters of a number's spelling
pub chars-signed_decimal : (n : ℤ) (bytes : List ℕ) → FitsSigned w64 n → bytes ≡ signed_decimal n → chars bytes ≡ signed_decimal n
chars-signed_decimal n bytes fits e = ap chars e ∙ chars-IsAscii (signed_decimal n) (IsAscii-signed n fits.sfits)

-- what has the characters of some bytes
pub has_characters : {E : Type 0} (r : Result (List ℕ) E) (bytes characters : List ℕ) → IfOk r (λ copy. copy ≡ chars bytes) → chars bytes ≡ characters → IfOk r (λ copy. copy ≡ characters)
has_characters (Ok copy) bytes characters is e = is ∙ e
has_characters (Err fault) bytes characters is e = tt

-- what was parsed has 64 bits
pub parsed_fits : {E : Type 0} (bytes : List ℕ) (n : ℤ) (r : Result ℤ E) → r ≡ Ok n → ParsesSigned w64 10 bytes r → FitsSigned w64 n
parsed_fits bytes n (Ok m) e parses = subst (FitsSigned w64) (sym parses.1 ∙ cc) parses.0.1
parsed_fits bytes n (Err fault) e parses = absurd cc
