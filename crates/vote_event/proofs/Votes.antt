-- The digits of a digest, and how long a vote is.
use Rattle.std.proofs.Common.{subst, Vec, Global, ℕ, zero, suc, ℤ, pos, ◌+◌, ◌*◌, ◌<◌, ◌≤◌, ◌≡◌, Bool, true, false, ◌&&◌, ltb, List, [], ◌∷◌, ◌++◌, codes, length, refl, sym, ap, ◌∙◌, arith}
use Rattle.std.specs.Int.{to_be_bytes, w32}
use Rattle.std.specs.List.{list_all}
use Rattle.std.specs.Str.{IsAscii, chars, encode_utf8_all}
use Rattle.std.proofs.lemmas.Bool.{ltb-true}
use Rattle.std.proofs.lemmas.List.{append-nil}
use Rattle.std.proofs.lemmas.Str.{chars-IsAscii, encodes-chars, IsUtf8-from_ascii}
use Rattle.hex.specs.Hex.{encode_lower, lower_digits}
use Rattle.hex.proofs.HexLemmas.{IsAscii-encode_with, length-encode_with}
use Rattle.byte_fields.specs.Fields.{blob, text_field}
use Rattle.model_value.specs.Payload.{PlainPayload, payload_spelling}
use Rattle.model_value.specs.Plain.{PlainValue, InBounds, int, text, list, no_items, item}
use Rattle.model_value.specs.Spelling.{value_spelling}
use Rattle.model_value.specs.View.{plain, plains}
use Rattle.model_value.specs.declared.value.Value.{Value}
use Rattle.model_value.specs.declared.value.Value.TheVariants.{Int, Text, List as Items}
use Rattle.model_value.proofs.Plains.{plain-Int, plain-List, plain-Text}
use Rattle.vote_event.specs.VotePayload.{vote_value, vote_payload}

first_of_both : (a b : Bool) → (a && b) ≡ true → a ≡ true
first_of_both true b is = refl
first_of_both false b is = cc

second_of_both : (a b : Bool) → (a && b) ≡ true → b ≡ true
second_of_both true b is = is
second_of_both false b is = cc

ascii_first : (b : ℕ) (bytes : List ℕ) → b < 128 → IsAscii bytes → IsAscii (b ∷ bytes)
ascii_first b bytes lt rest zero = lt
ascii_first b bytes lt rest (suc i) = rest i

ascii_by_test : (bytes : List ℕ) → list_all (λ (b : ℕ). ltb b 128) bytes ≡ true → IsAscii bytes
ascii_by_test [] h = λ i. omega arith
ascii_by_test (b ∷ bytes) h = ascii_first b bytes (ltb-true b 128 (first_of_both (ltb b 128) _ h)) (ascii_by_test bytes (second_of_both (ltb b 128) _ h))

pub digits-ascii : (digest : List ℕ) → IsAscii (encode_lower digest)
digits-ascii digest = IsAscii-encode_with lower_digits digest (ascii_by_test lower_digits refl)

-- digits are their own characters
pub digits-characters : (digest : List ℕ) → chars (encode_lower digest) ≡ encode_lower digest
digits-characters digest = chars-IsAscii (encode_lower digest) (digits-ascii digest)

digits-utf8 : (digest : List ℕ) → encode_utf8_all (encode_lower digest) ≡ encode_lower digest
digits-utf8 digest =
    sym (ap encode_utf8_all (digits-characters digest)) ∙ encodes-chars (encode_lower digest) (IsUtf8-from_ascii (encode_lower digest) (digits-ascii digest))

digits-length : (digest : List ℕ) → length digest ≡ 32 → length (encode_utf8_all (encode_lower digest)) ≡ 64
digits-length digest wide = ap length (digits-utf8 digest) ∙ length-encode_with lower_digits digest ∙ ap (λ (n : ℕ). 2 * n) wide

-- a vote is a small value
pub vote-bounds : (at : ℕ) (digest : List ℕ) → length digest ≡ 32 → InBounds (vote_value at digest)
vote-bounds at digest wide = let many = digits-length digest wide in (omega (arith, many), omega arith)

scope-utf8 : encode_utf8_all (codes "#vote") ≡ codes "#vote"
unfolding lib.Utf8.encode
scope-utf8 = refl

event-utf8 : encode_utf8_all (codes "digest") ≡ codes "digest"
unfolding lib.Utf8.encode
event-utf8 = refl

-- the spelling of a list of a number and a text, by the text's bytes
abbrev pair_spelling : ℕ → List ℕ → List ℕ
pair_spelling at bytes = 6 ∷ (to_be_bytes w32 2 ++ (value_spelling (int (pos at)) ++ ((4 ∷ blob bytes) ++ [])))

payload_by_digits : (at : ℕ) (digest : List ℕ) → payload_spelling (vote_payload at digest) ≡ blob (codes "#vote") ++ (blob (codes "digest") ++ pair_spelling at (encode_lower digest))
payload_by_digits at digest =
    ap (λ (bytes : List ℕ). blob bytes ++ (text_field (codes "digest") ++ value_spelling (vote_value at digest))) scope-utf8
    ∙ ap (λ (bytes : List ℕ). blob (codes "#vote") ++ (blob bytes ++ value_spelling (vote_value at digest))) event-utf8
    ∙ ap (λ (bytes : List ℕ). blob (codes "#vote") ++ (blob (codes "digest") ++ pair_spelling at bytes)) (digits-utf8 digest)

-- a vote is as long as each other
pub vote-length : (at : ℕ) (digest : List ℕ) → length digest ≡ 32 → length (payload_spelling (vote_payload at digest)) ≡ 102
vote-length at digest wide =
    let many : length (encode_lower digest) ≡ 64 = length-encode_with lower_digits digest ∙ ap (λ (n : ℕ). 2 * n) wide in
    let shape = blob (codes "#vote") ++ (blob (codes "digest") ++ pair_spelling at (encode_lower digest)) in
    let same : length (payload_spelling (vote_payload at digest)) ≡ length shape = ap length (payload_by_digits at digest) in
    let all : length shape ≡ 38 + length (encode_lower digest ++ []) = omega arith in
    let end : length (encode_lower digest ++ []) ≡ length (encode_lower digest) = ap length (append-nil (encode_lower digest)) in
    same ∙ omega (arith, all, end, many)

abbrev pub payload_with : List ℕ → List ℕ → PlainValue → PlainPayload
payload_with scope event value = record { scope = scope; event = event; value = value }

-- the parts of a vote
pub is_vote : (at : ℕ) (digest scope event : List ℕ) (value : PlainValue) → scope ≡ chars (codes "#vote") → event ≡ chars (codes "digest") → value ≡ vote_value at digest
    → payload_with scope event value ≡ vote_payload at digest
is_vote at digest scope event value is_scope is_event is_value =
    ap (λ (s : List ℕ). payload_with s event value) (is_scope ∙ chars-IsAscii (codes "#vote") (ascii_by_test (codes "#vote") refl))
    ∙ ap (λ (e : List ℕ). payload_with (codes "#vote") e value) (is_event ∙ chars-IsAscii (codes "digest") (ascii_by_test (codes "digest") refl))
    ∙ ap (λ (v : PlainValue). payload_with (codes "#vote") (codes "digest") v) is_value

pub is_small : (at : ℕ) (digest scope event : List ℕ) (value : PlainValue) → length digest ≡ 32 → payload_with scope event value ≡ vote_payload at digest
    → InBounds value × (length (payload_spelling (payload_with scope event value)) ≡ 102)
is_small at digest scope event value wide is =
    let bounds = subst (λ (p : PlainPayload). InBounds p.value) (sym is) (vote-bounds at digest wide) in
    (bounds, ap (λ (p : PlainPayload). length (payload_spelling p)) is ∙ vote-length at digest wide)

-- the value of a vote, once its items were pushed
pub value_of : (at : ℕ) (digest digits : List ℕ) (n : ℤ) (none one : List Value) (both : Vec Value Global) → none ≡ [] → one ≡ none ++ Int n ∷ [] → both.items ≡ one ++ Text digits ∷ []
    → n ≡ pos at → digits ≡ chars (encode_lower digest) → plain (Items both) ≡ vote_value at digest
value_of at digest digits n none one both empty first second number spelled =
    let all : both.items ≡ Int n ∷ Text digits ∷ [] = second ∙ ap (λ (xs : List Value). xs ++ Text digits ∷ []) (first ∙ ap (λ (xs : List Value). xs ++ Int n ∷ []) empty) in
    plain-List both ∙ ap (λ (xs : List Value). list (plains xs)) all
    ∙ ap (λ (v : PlainValue). list (item v (item (plain (Text digits)) no_items))) (plain-Int n)
    ∙ ap (λ (v : PlainValue). list (item (int n) (item v no_items))) (plain-Text digits)
    ∙ ap (λ (k : ℤ). list (item (int k) (item (text digits) no_items))) number
    ∙ ap (λ (cs : List ℕ). list (item (int (pos at)) (item (text cs) no_items))) (spelled ∙ digits-characters digest)
