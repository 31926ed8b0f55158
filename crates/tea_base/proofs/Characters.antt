-- The characters of texts that are cut.
use Rattle.std.proofs.Common.{◌≡◌, ℕ, ◌+◌, ◌-◌, ◌<◌, inl, inr, List, [], ◌∷◌, ◌++◌, length, take, drop, refl, sym, ap, subst, ◌∙◌, arith}
use Rattle.std.specs.Prelude.{Option, Some, None, encode_utf8_all}
use Rattle.std.specs.Char.{encode_utf8}
use Rattle.std.specs.Cmp.Lexicographic.{slice_cmp}
use Rattle.std.specs.Ordering.{nat_cmp}
use Rattle.std.specs.declared.cmp.Ordering.TheVariants.{Less, Equal, Greater}
use Rattle.std.specs.Str.{IsUtf8, IsCharBoundary, chars}
use Rattle.std.specs.Str.Iter.{chars_rest, chars_steps}
use Rattle.std.specs.declared.str.Chars.{Chars}
use Rattle.std.proofs.lemmas.Str.{chars-nil, chars_from_encodes, encodes-append, encodes-chars, chars_past_char, IsUtf8-past_char, length-encode, len_utf8_bounds, IsCharBoundary-at_seam}
use Rattle.std.proofs.lemmas.List.{take-append-drop, nil_from_length, take_at, drop-drop, length-append, append_cancel_left}
use Rattle.std.proofs.lemmas.Bool.{cases_order}
use Rattle.std.proofs.lemmas.Bool.Decides.{nat_tests}

-- what stands behind the first i characters
pub record Behind (i : ℕ) (rest text : List ℕ) : Type 0 where
  pub is_text : IsUtf8 rest
  pub characters : chars rest ≡ drop i (chars text)

one_off : (xs : List ℕ) (x : ℕ) (more : List ℕ) → xs ≡ x ∷ more → drop 1 xs ≡ more
one_off xs x more e = ap (drop 1) e

-- one character further
pub further : (i c : ℕ) (rest next text : List ℕ) → Behind i rest text → rest ≡ encode_utf8 c ++ next → Behind (i + 1) next text
further i c rest next text b e =
    let first = chars_past_char rest next c b.is_text e in
    record {
      is_text = IsUtf8-past_char rest next c b.is_text e;
      characters = sym (sym (drop-drop 1 i (chars text)) ∙ one_off (drop i (chars text)) c (chars next) (sym b.characters ∙ first));
    }

-- there is no further one
pub no_further : (i : ℕ) (rest text : List ℕ) → Behind i rest text → length rest ≡ 0 → Behind (i + 1) rest text
no_further i rest text b e =
    let none : rest ≡ [] = nil_from_length rest e in
    let empty : chars rest ≡ [] = ap chars none ∙ chars-nil in
    record {
      is_text = b.is_text;
      characters = empty ∙ sym (sym (drop-drop 1 i (chars text)) ∙ ap (drop 1) (sym b.characters ∙ empty));
    }

pub is_parted : (i : ℕ) (rest text : List ℕ) → IsUtf8 text → Behind i rest text → encode_utf8_all (take i (chars text)) ++ rest ≡ text
is_parted i rest text u b =
    let whole : rest ≡ encode_utf8_all (drop i (chars text)) = sym (encodes-chars rest b.is_text) ∙ ap encode_utf8_all b.characters in
    ap (λ (r : List ℕ). encode_utf8_all (take i (chars text)) ++ r) whole
    ∙ sym (encodes-append (take i (chars text)) (drop i (chars text)))
    ∙ ap encode_utf8_all (take-append-drop i (chars text))
    ∙ encodes-chars text u

-- after a call of `next`, whether it gave a character or none
pub stepped : (i : ℕ) (s t : Chars) (r : Option ℕ) (text : List ℕ) → Behind i (chars_rest s) text → chars_steps s r t → Behind (i + 1) (chars_rest t) text
stepped i s t None text b e = subst (λ (u : Chars). Behind (i + 1) (chars_rest u) text) (sym e.0.1) (no_further i (chars_rest s) text b e.0.0)
stepped i s t (Some c) text b e = further i c (chars_rest s) (chars_rest t) text b e.0

pub is_parted_at : (i count : ℕ) (rest text : List ℕ) → i ≡ count → IsUtf8 text → Behind i rest text → encode_utf8_all (take count (chars text)) ++ rest ≡ text
is_parted_at i count rest text same u b = subst (λ (n : ℕ). encode_utf8_all (take n (chars text)) ++ rest ≡ text) same (is_parted i rest text u b)

-- what a call of `next` says of the characters that were left
pub ended : (s t : Chars) (r : Option ℕ) → r ≡ None → chars_steps s r t → chars (chars_rest s) ≡ []
ended s t None is e = ap chars (nil_from_length (chars_rest s) e.0.0) ∙ chars-nil
ended s t (Some c) is e = absurd cc

pub record Went (c : ℕ) (rest next : List ℕ) : Type 0 where
  pub characters : chars rest ≡ c ∷ chars next
  pub is_text : IsUtf8 next
  pub shorter : length next < length rest

pub went : (s t : Chars) (r : Option ℕ) (c : ℕ) → IsUtf8 (chars_rest s) → r ≡ Some c → chars_steps s r t → Went c (chars_rest s) (chars_rest t)
went s t None c u is e = absurd cc
went s t (Some d) c u is e =
    let same : d ≡ c = cc in
    let first : chars_rest s ≡ encode_utf8 c ++ chars_rest t = e.0 ∙ ap (λ (x : ℕ). encode_utf8 x ++ chars_rest t) same in
    record {
      characters = chars_past_char (chars_rest s) (chars_rest t) c u first;
      is_text = IsUtf8-past_char (chars_rest s) (chars_rest t) c u first;
      shorter = omega (arith, ap length first, length-append (encode_utf8 c) (chars_rest t), length-encode c, len_utf8_bounds c);
    }

-- two texts compare as the rest of them does, behind characters that are the same
pub same_front : (a b : ℕ) (xs ys : List ℕ) → a ≡ b → slice_cmp nat_cmp (a ∷ xs) (b ∷ ys) ≡ slice_cmp nat_cmp xs ys
same_front a b xs ys e =
    let equal : nat_cmp a b ≡ Equal = grind (arith, nat_tests) in
    rw equal refl

-- and as the characters do that are not the same
pub other_front : (a b : ℕ) (xs ys : List ℕ) → (a ≡ b → ⊥) → slice_cmp nat_cmp (a ∷ xs) (b ∷ ys) ≡ nat_cmp a b
other_front a b xs ys ne = elim (cases_order a b) [
  | inl same ↦ absurd (ne same)
  | inr (inl less) ↦ let is : nat_cmp a b ≡ Less = grind (arith, nat_tests) in rw is refl
  | inr (inr more) ↦ let is : nat_cmp a b ≡ Greater = grind (arith, nat_tests) in rw is refl
]

-- a text may be cut before what stands behind a part
pub cut_before : (bs xs rest : List ℕ) → xs ++ rest ≡ bs → IsUtf8 rest → IsCharBoundary bs (length bs - length rest)
cut_before bs xs rest parted u =
    let seam = IsCharBoundary-at_seam bs xs rest (sym parted) u in
    let at : length xs ≡ length bs - length rest = omega (arith, ap length parted, length-append xs rest) in
    subst (λ (n : ℕ). IsCharBoundary bs n) at seam

-- and what is cut off is that part
pub front_is : (bs xs rest : List ℕ) → xs ++ rest ≡ bs → take (length bs - length rest) bs ≡ xs
front_is bs xs rest parted =
    let at : length xs ≡ length bs - length rest = omega (arith, ap length parted, length-append xs rest) in
    ap (take (length bs - length rest)) (sym parted) ∙ take_at xs rest (length bs - length rest) at

-- the characters of what stands behind a part
pub behind_is : (bs rest : List ℕ) (i : ℕ) → IsUtf8 bs → IsUtf8 rest → encode_utf8_all (take i (chars bs)) ++ rest ≡ bs → chars rest ≡ drop i (chars bs)
behind_is bs rest i u v parted =
    let whole : encode_utf8_all (take i (chars bs)) ++ rest ≡ encode_utf8_all (take i (chars bs)) ++ encode_utf8_all (drop i (chars bs)) =
    parted ∙ sym (encodes-chars bs u) ∙ ap encode_utf8_all (sym (take-append-drop i (chars bs))) ∙ encodes-append (take i (chars bs)) (drop i (chars bs)) in
    let same = append_cancel_left (encode_utf8_all (take i (chars bs))) rest (encode_utf8_all (drop i (chars bs))) whole in
    sym (chars_from_encodes (drop i (chars bs)) rest v (sym same))
