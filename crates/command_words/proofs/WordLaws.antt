-- Words as characters and as their UTF-8.
use Rattle.std.proofs.Common.{◌≡◌, ℕ, ◌<◌, ◌≤◌, ◌==◌, zero, suc, nat_lt, true, List, [], ◌∷◌, ◌++◌, length, get_or, encode_utf8_all, refl, sym, ap, ◌∙◌, arith}
use Rattle.std.proofs.lemmas.Bool.Decides.{nat_tests}
use Rattle.std.proofs.lemmas.Slice.Eq.{bytes_eq-Decides}
use Rattle.std.proofs.lemmas.Str.{length-le-encodes, byte_from_char, char_from_byte, encodes_same, encodes-IsAscii}
use Rattle.std.specs.List.{list_all}
use Rattle.std.specs.Prelude.{encode_utf8}
use Rattle.std.specs.Str.{bytes_eq, IsAscii}
use Rattle.text_lines.specs.Lines.{is_empty}
use Rattle.command_words.specs.Parts.{is_option}

-- a word has a byte where it has a character
pub length-encode_is_empty : (word : List ℕ) → (length (encode_utf8_all word) == 0) ≡ is_empty word
length-encode_is_empty [] = refl
length-encode_is_empty (first ∷ rest) =
    let some : length (first ∷ rest) ≤ length (encode_utf8_all (first ∷ rest)) = length-le-encodes (first ∷ rest) in
    grind (arith, nat_tests)

is_option-byte : (bytes : List ℕ) → 0 < length bytes → is_option bytes ≡ (get_or bytes 0 0 == 45)
is_option-byte [] some = absurd (omega arith)
is_option-byte (first ∷ rest) some = refl

same_dash : (byte char : ℕ) → (char < 128 → byte ≡ char) → (byte < 128 → char ≡ byte) → (byte == 45) ≡ (char == 45)
same_dash byte char from_char from_byte = grind (arith, nat_tests)

first_dash : (bytes rest : List ℕ) (char : ℕ) → bytes ≡ encode_utf8 char ++ rest → 0 < length bytes → is_option bytes ≡ (char == 45)
first_dash bytes rest char splits some =
    is_option-byte bytes some ∙ same_dash (get_or bytes 0 0) char (byte_from_char bytes rest char splits) (λ small. char_from_byte bytes rest char splits small some)

-- its first byte is a dash where its first character is
pub is_option-encode : (word : List ℕ) → is_option (encode_utf8_all word) ≡ is_option word
is_option-encode [] = refl
is_option-encode (first ∷ rest) =
    let some : length (first ∷ rest) ≤ length (encode_utf8_all (first ∷ rest)) = length-le-encodes (first ∷ rest) in
    first_dash (encode_utf8_all (first ∷ rest)) (encode_utf8_all rest) first refl (omega arith)

IsAscii-list_all : (name : List ℕ) → list_all (λ byte. nat_lt byte 128) name ≡ true → IsAscii name
IsAscii-list_all [] all i = omega arith
IsAscii-list_all (first ∷ rest) all zero = grind (arith, nat_tests)
IsAscii-list_all (first ∷ rest) all (suc i) = IsAscii-list_all rest (grind (arith, nat_tests)) i

-- a word is spelled as a name of ASCII where its characters are the name's
pub spelled_as : (word name : List ℕ) → list_all (λ byte. nat_lt byte 128) name ≡ true → bytes_eq (encode_utf8_all word) name ≡ bytes_eq word name
spelled_as word name ascii =
    let same = encodes-IsAscii name (IsAscii-list_all name ascii) in
    grind (arith, bytes_eq-Decides (encode_utf8_all word) name, bytes_eq-Decides word name, λ (e : encode_utf8_all word ≡ name). encodes_same word name (e ∙ sym same), λ (e : word ≡ name). ap encode_utf8_all e ∙ same)
