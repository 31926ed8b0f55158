-- Texts as lists of characters.
use Rattle.std.proofs.Common.{◌≡◌, ℕ, zero, suc, ◌<◌, List, [], ◌∷◌, ◌∙◌, arith}
use Rattle.std.specs.Prelude.{Result, Ok, Err, IfOk}
use Rattle.std.specs.Str.{chars, IsAscii}
use Rattle.std.proofs.lemmas.Str.{chars-IsAscii}
use Rattle.std.proofs.lemmas.Str.Ascii.{IsAscii-nil}
use Rattle.hex.specs.Hex.{encode_lower, lower_digits}
use Rattle.hex.proofs.HexLemmas.{IsAscii-encode_with}
use Rattle.model_eval.specs.Meaning.{init}

pub has_characters : {E : Type 0} (r : Result (List ℕ) E) (bytes characters : List ℕ) → IfOk r (λ copy. copy ≡ chars bytes) → chars bytes ≡ characters → IfOk r (λ copy. copy ≡ characters)
has_characters (Ok copy) bytes characters is e = is ∙ e
has_characters (Err fault) bytes characters is e = tt

ascii : (b : ℕ) (bs : List ℕ) → b < 128 → IsAscii bs → IsAscii (b ∷ bs)
ascii b bs h all zero = h
ascii b bs h all (suc i) = all i

lower-ascii : IsAscii lower_digits
lower-ascii = ascii 48 (49 ∷ 50 ∷ 51 ∷ 52 ∷ 53 ∷ 54 ∷ 55 ∷ 56 ∷ 57 ∷ 97 ∷ 98 ∷ 99 ∷ 100 ∷ 101 ∷ 102 ∷ []) (omega arith) (ascii 49 (50 ∷ 51 ∷ 52 ∷ 53 ∷ 54 ∷ 55 ∷ 56 ∷ 57 ∷ 97 ∷ 98 ∷ 99 ∷ 100 ∷ 101 ∷ 102 ∷ []) (omega arith) (ascii 50 (51 ∷ 52 ∷ 53 ∷ 54 ∷ 55 ∷ 56 ∷ 57 ∷ 97 ∷ 98 ∷ 99 ∷ 100 ∷ 101 ∷ 102 ∷ []) (omega arith) (ascii 51 (52 ∷ 53 ∷ 54 ∷ 55 ∷ 56 ∷ 57 ∷ 97 ∷ 98 ∷ 99 ∷ 100 ∷ 101 ∷ 102 ∷ []) (omega arith) (ascii 52 (53 ∷ 54 ∷ 55 ∷ 56 ∷ 57 ∷ 97 ∷ 98 ∷ 99 ∷ 100 ∷ 101 ∷ 102 ∷ []) (omega arith) (ascii 53 (54 ∷ 55 ∷ 56 ∷ 57 ∷ 97 ∷ 98 ∷ 99 ∷ 100 ∷ 101 ∷ 102 ∷ []) (omega arith) (ascii 54 (55 ∷ 56 ∷ 57 ∷ 97 ∷ 98 ∷ 99 ∷ 100 ∷ 101 ∷ 102 ∷ []) (omega arith) (ascii 55 (56 ∷ 57 ∷ 97 ∷ 98 ∷ 99 ∷ 100 ∷ 101 ∷ 102 ∷ []) (omega arith) (ascii 56 (57 ∷ 97 ∷ 98 ∷ 99 ∷ 100 ∷ 101 ∷ 102 ∷ []) (omega arith) (ascii 57 (97 ∷ 98 ∷ 99 ∷ 100 ∷ 101 ∷ 102 ∷ []) (omega arith) (ascii 97 (98 ∷ 99 ∷ 100 ∷ 101 ∷ 102 ∷ []) (omega arith) (ascii 98 (99 ∷ 100 ∷ 101 ∷ 102 ∷ []) (omega arith) (ascii 99 (100 ∷ 101 ∷ 102 ∷ []) (omega arith) (ascii 100 (101 ∷ 102 ∷ []) (omega arith) (ascii 101 (102 ∷ []) (omega arith) (ascii 102 ([]) (omega arith) IsAscii-nil)))))))))))))))

pub digits-characters : (bytes : List ℕ) → chars (encode_lower bytes) ≡ encode_lower bytes
digits-characters bytes = chars-IsAscii (encode_lower bytes) (IsAscii-encode_with lower_digits bytes lower-ascii)

pub init-chars : chars init ≡ init
init-chars = chars-IsAscii init (ascii 105 (110 ∷ 105 ∷ 116 ∷ []) (omega arith) (ascii 110 (105 ∷ 116 ∷ []) (omega arith) (ascii 105 (116 ∷ []) (omega arith) (ascii 116 ([]) (omega arith) IsAscii-nil))))
