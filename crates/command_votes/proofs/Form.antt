-- An entry is read as a vote exactly where it is one.
use Rattle.std.proofs.Common.{ℕ, zero, suc, ◌*◌, ◌^◌, ◌<◌, ◌≤◌, ◌≡◌, ℤ, pos, negsuc, Bool, true, false, cond, ◌&&◌, leb, ltb, List, [], ◌∷◌, ◌++◌, codes, Option, Some, None, length, Result, Ok, Err, refl, sym, ap, subst, ◌∙◌, arith, lit<}
use Rattle.std.specs.Int.{to_be_bytes, w32}
use Rattle.std.specs.List.{list_all}
use Rattle.std.specs.Option.{option_map}
use Rattle.std.specs.Result.{result_ok}
use Rattle.std.specs.Str.{IsAscii, bytes_eq, all_scalars, encode_utf8_all}
use Rattle.std.proofs.lemmas.Bool.{leb-true, ltb-true, le-leb, lt-ltb}
use Rattle.std.proofs.lemmas.Option.{none-some}
use Rattle.std.proofs.lemmas.Slice.Eq.{bytes_eq-Decides}
use Rattle.std.proofs.lemmas.Str.{chars-IsAscii, encodes-chars, scalars-chars, IsUtf8-from_ascii}
use Rattle.hex.specs.Hex.{encode_lower, lower_digits, decode_sized, IsBytes}
use Rattle.hex.specs.declared.error.FromHexError.{FromHexError}
use Rattle.hex.proofs.HexLemmas.{IsAscii-encode_with, length-encode_with, decode_sized-encode_lower, decode_sized-ok, decode_sized-twice, decode_of-ok}
use Rattle.byte_fields.specs.Fields.{blob, text_field}
use Rattle.byte_fields.proofs.Codecs.{whole_takes, whole_again}
use Rattle.tea_base.specs.declared.entry.Entry.{Entry}
use Rattle.tea_base.specs.declared.entry.What.{What}
use Rattle.tea_base.specs.declared.entry.What.TheVariants.{Join, Exit, Event}
use Rattle.model_value.specs.Payload.{PlainPayload, IsPayload, payload_spelling, whole_payload}
use Rattle.model_value.specs.Plain.{PlainValue, int, text, list, PlainValues, no_items, item}
use Rattle.model_value.specs.Spelling.{value_spelling}
use Rattle.model_value.proofs.PayloadCodec.{payload_codec, is_payload}
use Rattle.vote_book.specs.VoteBook.{Ballot, ballot}
use Rattle.command_votes.specs.declared.reading.Named.{Named}
use Rattle.command_votes.specs.VoteRead.{digest_of, if_spelled, entry_before, if_named, named_by_pair, named_by_items, named_by, is_of_votes, named_by_event, named_in, vote_in, vote_of}
use Rattle.command_votes.specs.VoteForm.{IsEventWith, HasBytes, IsVote}
use Rattle.vote_event.specs.VotePayload.{vote_payload}

first_of_both : (a b : Bool) → (a && b) ≡ true → a ≡ true
first_of_both true b is = refl
first_of_both false b is = cc

second_of_both : (a b : Bool) → (a && b) ≡ true → b ≡ true
second_of_both true b is = is
second_of_both false b is = cc

both : (a b : Bool) → a ≡ true → b ≡ true → (a && b) ≡ true
both true b p q = q
both false b p q = cc

passed : {A : Type 0} (b : Bool) (x y : A) → cond b (Some x) None ≡ Some y → (b ≡ true) × (x ≡ y)
passed true x y is = (refl, cc)
passed false x y is = cc

kept : {A : Type 0} (b : Bool) (found : Option A) (y : A) → cond b found None ≡ Some y → (b ≡ true) × (found ≡ Some y)
kept true found y is = (refl, is)
kept false found y is = cc

-- ---- digits

ascii_first : (b : ℕ) (bytes : List ℕ) → b < 128 → IsAscii bytes → IsAscii (b ∷ bytes)
ascii_first b bytes lt rest zero = lt
ascii_first b bytes lt rest (suc i) = rest i

ascii_by_test : (bytes : List ℕ) → list_all (λ (b : ℕ). ltb b 128) bytes ≡ true → IsAscii bytes
ascii_by_test [] h = λ i. omega arith
ascii_by_test (b ∷ bytes) h = ascii_first b bytes (ltb-true b 128 (first_of_both (ltb b 128) _ h)) (ascii_by_test bytes (second_of_both (ltb b 128) _ h))

digits-ascii : (digest : List ℕ) → IsAscii (encode_lower digest)
digits-ascii digest = IsAscii-encode_with lower_digits digest (ascii_by_test lower_digits refl)

digits-utf8 : (digest : List ℕ) → encode_utf8_all (encode_lower digest) ≡ encode_lower digest
digits-utf8 digest =
    sym (ap encode_utf8_all (chars-IsAscii (encode_lower digest) (digits-ascii digest))) ∙ encodes-chars (encode_lower digest) (IsUtf8-from_ascii (encode_lower digest) (digits-ascii digest))

digits-scalars : (digest : List ℕ) → all_scalars (encode_lower digest) ≡ true
digits-scalars digest =
    sym (ap all_scalars (chars-IsAscii (encode_lower digest) (digits-ascii digest))) ∙ scalars-chars (encode_lower digest) (IsUtf8-from_ascii (encode_lower digest) (digits-ascii digest))

scope-utf8 : encode_utf8_all (codes "#vote") ≡ codes "#vote"
unfolding lib.Utf8.encode
scope-utf8 = refl

event-utf8 : encode_utf8_all (codes "digest") ≡ codes "digest"
unfolding lib.Utf8.encode
event-utf8 = refl

scope-scalars : all_scalars (codes "#vote") ≡ true
scope-scalars = refl

event-scalars : all_scalars (codes "digest") ≡ true
event-scalars = refl

read_digest_if : (digits digest : List ℕ) (read : Result (List ℕ) FromHexError) → decode_sized digits 32 ≡ read → if_spelled digits (result_ok read) ≡ Some digest
    → (encode_lower digest ≡ digits) × (length digest ≡ 32) × IsBytes digest
read_digest_if digits digest (Err fault) is found = cc
read_digest_if digits digest (Ok bytes) is found =
    let parts = passed (bytes_eq (encode_lower bytes) digits) bytes digest found in
    let many = decode_sized-ok digits 32 bytes is in
    let whole = decode_of-ok digits bytes (sym (decode_sized-twice digits 32 many) ∙ is) in
    subst (λ (d : List ℕ). (encode_lower d ≡ digits) × (length d ≡ 32) × IsBytes d) parts.1
    ((bytes_eq-Decides (encode_lower bytes) digits).0 parts.0, omega (arith, many, whole.2), whole.3)

-- a digest that is read is spelled so
read_digest : (digits digest : List ℕ) → digest_of digits ≡ Some digest → (encode_lower digest ≡ digits) × (length digest ≡ 32) × IsBytes digest
read_digest digits digest is = read_digest_if digits digest (decode_sized digits 32) refl is

-- a digest is read from its digits
digest_again : (digest : List ℕ) → length digest ≡ 32 → IsBytes digest → digest_of (encode_lower digest) ≡ Some digest
digest_again digest wide bytes =
    ap (λ (read : Result (List ℕ) FromHexError). if_spelled (encode_lower digest) (result_ok read)) (decode_sized-encode_lower digest 32 wide bytes)
    ∙ ap (λ (b : Bool). cond b (Some digest) None) ((bytes_eq-Decides (encode_lower digest) (encode_lower digest)).1 refl)

-- ---- numbers

read_before : (seq : ℕ) (number : ℤ) (at : ℕ) → entry_before seq number ≡ Some at → (number ≡ pos at) × (1 ≤ at) × (at < seq)
read_before seq (negsuc n) at is = cc
read_before seq (pos n) at is =
    let parts = passed (leb 1 n && ltb n seq) n at is in (
      ap pos parts.1,
      subst (λ (k : ℕ). 1 ≤ k) parts.1 (leb-true 1 n (first_of_both (leb 1 n) (ltb n seq) parts.0)),
      subst (λ (k : ℕ). k < seq) parts.1 (ltb-true n seq (second_of_both (leb 1 n) (ltb n seq) parts.0)),
    )

before_again : (seq at : ℕ) → 1 ≤ at → at < seq → entry_before seq (pos at) ≡ Some at
before_again seq at low high = ap (λ (b : Bool). cond b (Some at) None) (both (leb 1 at) (ltb at seq) (le-leb 1 at low) (lt-ltb at seq high))

-- ---- values

-- a list of the number of an entry before this one, and the digits of a digest
record Names (seq : ℕ) (value : PlainValue) (at : ℕ) (digest : List ℕ) : Type 0 where
  digits : List ℕ
  is_list : value ≡ list (item (int (pos at)) (item (text digits) no_items))
  spelled : encode_lower digest ≡ encode_utf8_all digits
  from_one : 1 ≤ at
  before : at < seq
  wide : length digest ≡ 32
  bytes : IsBytes digest

if_both_named : (at : Option ℕ) (digest : Option (List ℕ)) (named : Named) → if_named at digest ≡ Some named → (at ≡ Some named.at) × (digest ≡ Some named.digest)
if_both_named None digest named is = cc
if_both_named (Some at) None named is = cc
if_both_named (Some at) (Some digest) named is =
    let one : record { at = at; digest = digest } ≡ named = cc in
    (ap (λ (n : Named). Some n.at) one, ap (λ (n : Named). Some n.digest) one)

read_pair : (seq : ℕ) (first second : PlainValue) (named : Named) → named_by_pair seq first second ≡ Some named → Names seq (list (item first (item second no_items))) named.at named.digest
read_pair seq (int number) (text digits) named is =
    let parts = if_both_named (entry_before seq number) (digest_of (encode_utf8_all digits)) named is in
    let at = read_before seq number named.at parts.0 in
    let digest = read_digest (encode_utf8_all digits) named.digest parts.1 in
    record {
      digits = digits;
      is_list = ap (λ (n : ℤ). list (item (int n) (item (text digits) no_items))) at.0;
      spelled = digest.0;
      from_one = at.1;
      before = at.2;
      wide = digest.1;
      bytes = digest.2;
    }
read_pair seq first second named is = absurd (none-some named is)

read_items : (seq : ℕ) (items : PlainValues) (named : Named) → named_by_items seq items ≡ Some named → Names seq (list items) named.at named.digest
read_items seq no_items named is = absurd (none-some named is)
read_items seq (item first no_items) named is = absurd (none-some named is)
read_items seq (item first (item second no_items)) named is = read_pair seq first second named is
read_items seq (item first (item second (item third rest))) named is = absurd (none-some named is)

read_value : (seq : ℕ) (value : PlainValue) (named : Named) → named_by seq value ≡ Some named → Names seq value named.at named.digest
read_value seq (list items) named is = read_items seq items named is
read_value seq value named is = absurd (none-some named is)

-- ---- payloads

mapped : {A B : Type 0} (f : A → B) (found : Option A) (y : B) → option_map f found ≡ Some y → (x : A) × (found ≡ Some x) × (f x ≡ y)
mapped f None y is = cc
mapped f (Some x) y is = (x, refl, cc)

read_payload : (seq : ℕ) (found : Option PlainPayload) (named : Named) → named_in seq found ≡ Some named
    → (payload : PlainPayload) × (found ≡ Some payload) × (encode_utf8_all payload.scope ≡ codes "#vote") × (encode_utf8_all payload.event ≡ codes "digest") × Names seq payload.value named.at named.digest
read_payload seq None named is = absurd (none-some named is)
read_payload seq (Some payload) named is =
    let parts = kept (is_of_votes payload) (named_by seq payload.value) named is in
    let scope = first_of_both (bytes_eq (encode_utf8_all payload.scope) (codes "#vote")) (bytes_eq (encode_utf8_all payload.event) (codes "digest")) parts.0 in
    let event = second_of_both (bytes_eq (encode_utf8_all payload.scope) (codes "#vote")) (bytes_eq (encode_utf8_all payload.event) (codes "digest")) parts.0 in (
      payload,
      refl,
      (bytes_eq-Decides (encode_utf8_all payload.scope) (codes "#vote")).0 scope,
      (bytes_eq-Decides (encode_utf8_all payload.event) (codes "digest")).0 event,
      read_value seq payload.value named parts.1,
    )

-- the spelling of a list of a number and a text, by the text's bytes
abbrev pair_spelling : ℕ → List ℕ → List ℕ
pair_spelling at bytes = 6 ∷ (to_be_bytes w32 2 ++ (value_spelling (int (pos at)) ++ ((4 ∷ blob bytes) ++ [])))

one_spelling : (seq : ℕ) (payload : PlainPayload) (at : ℕ) (digest : List ℕ) → encode_utf8_all payload.scope ≡ codes "#vote" → encode_utf8_all payload.event ≡ codes "digest" → Names seq payload.value at digest
    → payload_spelling payload ≡ payload_spelling (vote_payload at digest)
one_spelling seq payload at digest scope event names =
    ap (λ (bytes : List ℕ). blob bytes ++ (text_field payload.event ++ value_spelling payload.value)) (scope ∙ sym scope-utf8)
    ∙ ap (λ (bytes : List ℕ). text_field (codes "#vote") ++ (blob bytes ++ value_spelling payload.value)) (event ∙ sym event-utf8)
    ∙ ap (λ (value : PlainValue). text_field (codes "#vote") ++ (text_field (codes "digest") ++ value_spelling value)) names.is_list
    ∙ ap (λ (bytes : List ℕ). text_field (codes "#vote") ++ (text_field (codes "digest") ++ pair_spelling at bytes)) (sym names.spelled ∙ sym (digits-utf8 digest))

-- ---- votes

only_if : (entry : Entry) (vote : Ballot) (what : What) → entry.what ≡ what → HasBytes what → vote_in entry.seq entry.view what ≡ Some vote → IsVote entry vote
only_if entry vote Join is bytes found = absurd (none-some vote found)
only_if entry vote Exit is bytes found = absurd (none-some vote found)
only_if entry vote (Event number payload) is bytes found =
    let named = mapped (λ (n : Named). ballot entry.seq entry.view n.at n.digest) (named_in entry.seq (whole_payload payload)) vote found in
    let read = read_payload entry.seq (whole_payload payload) named.0 named.1 in
    let names = read.4 in
    let spelled : payload ≡ payload_spelling (vote_payload named.0.at named.0.digest) =
    (whole_takes payload_codec payload read.0 bytes read.1).0 ∙ one_spelling entry.seq read.0 named.0.at named.0.digest read.2 read.3 names in
    subst (IsVote entry) named.2
    (record {
      seq = refl;
      view = refl;
      from_one = names.from_one;
      before = names.before;
      wide = names.wide;
      bytes = names.bytes;
      spelled = subst (IsEventWith (payload_spelling (vote_payload named.0.at named.0.digest))) (sym is) spelled;
    })

pub read_only : (entry : Entry) (vote : Ballot) → HasBytes entry.what → vote_of entry ≡ Some vote → IsVote entry vote
read_only entry vote bytes found = only_if entry vote entry.what refl bytes found

is_payload_of : (at : ℕ) (digest : List ℕ) → at < 2 ^ 32 → length digest ≡ 32 → IsPayload (vote_payload at digest)
is_payload_of at digest bound wide = record {
  scope = (scope-scalars, rw scope-utf8 (lit< tt));
  event = (event-scalars, rw event-utf8 (lit< tt));
  value = (omega arith, (digits-scalars digest, tt));
  bounds = let many : length (encode_utf8_all (encode_lower digest)) ≡ 64 = ap length (digits-utf8 digest) ∙ length-encode_with lower_digits digest ∙ ap (λ (n : ℕ). 2 * n) wide in (omega (arith, many), omega arith);
}

named_again : (seq at : ℕ) (digest : List ℕ) → 1 ≤ at → at < seq → length digest ≡ 32 → IsBytes digest → named_by_event seq (vote_payload at digest) ≡ Some (record { at = at; digest = digest })
named_again seq at digest low high wide bytes =
    let scope = (bytes_eq-Decides (encode_utf8_all (codes "#vote")) (codes "#vote")).1 scope-utf8 in
    let event = (bytes_eq-Decides (encode_utf8_all (codes "digest")) (codes "digest")).1 event-utf8 in
    ap (λ (b : Bool). cond b (named_by seq (vote_payload at digest).value) None)
    (both (bytes_eq (encode_utf8_all (codes "#vote")) (codes "#vote")) (bytes_eq (encode_utf8_all (codes "digest")) (codes "digest")) scope event)
    ∙ ap (λ (digits : List ℕ). if_named (entry_before seq (pos at)) (digest_of digits)) (digits-utf8 digest)
    ∙ ap (if_named (entry_before seq (pos at))) (digest_again digest wide bytes)
    ∙ ap (λ (n : Option ℕ). if_named n (Some digest)) (before_again seq at low high)

read_if : (entry : Entry) (vote : Ballot) (what : What) → entry.seq < 2 ^ 32 → IsVote entry vote → IsEventWith (payload_spelling (vote_payload vote.at vote.digest)) what → vote_in entry.seq entry.view what ≡ Some vote
read_if entry vote Join bound is spelled = absurd spelled
read_if entry vote Exit bound is spelled = absurd spelled
read_if entry vote (Event number payload) bound is spelled =
    let found : whole_payload payload ≡ Some (vote_payload vote.at vote.digest) =
    ap whole_payload spelled ∙ whole_again payload_codec (vote_payload vote.at vote.digest) (is_payload (vote_payload vote.at vote.digest) (is_payload_of vote.at vote.digest (omega (arith, bound, is.before)) is.wide)) in
    ap (λ (p : Option PlainPayload). option_map (λ (n : Named). ballot entry.seq entry.view n.at n.digest) (named_in entry.seq p)) found
    ∙ ap (option_map (λ (n : Named). ballot entry.seq entry.view n.at n.digest)) (named_again entry.seq vote.at vote.digest is.from_one is.before is.wide is.bytes)
    ∙ ap (λ (n : ℕ). Some (ballot n entry.view vote.at vote.digest)) (sym is.seq)
    ∙ ap (λ (n : ℕ). Some (ballot vote.entry n vote.at vote.digest)) (sym is.view)

pub read_vote : (entry : Entry) (vote : Ballot) → entry.seq < 2 ^ 32 → IsVote entry vote → vote_of entry ≡ Some vote
read_vote entry vote bound is = read_if entry vote entry.what bound is is.spelled
