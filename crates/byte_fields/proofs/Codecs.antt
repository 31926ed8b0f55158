-- A reader and a spelling are exact in both directions: what is read is spelled so, and what is spelled so is read.
use Rattle.std.proofs.Common.{◌≡◌, ℕ, zero, suc, ◌+◌, ◌^◌, ◌<◌, ◌≤◌, Bool, true, false, cond, ltb, eqb, List, [], ◌∷◌, ◌++◌, length, get_or, take, drop, Option, Some, None, refl, sym, ap, subst, ◌∙◌, append_assoc, append-nil, arith, inl, inr}
use Rattle.std.specs.Int.{Width, w16, w32, w64, byte_len, from_be_bytes, to_be_bytes}
use Rattle.std.specs.List.{flat_map}
use Rattle.std.specs.Str.{bytes_eq, chars, is_utf8, all_scalars, encode_utf8_all}
use Rattle.std.proofs.lemmas.Bool.{cases_lt, ltb-false, le-ltb, eqb-true, eq-eqb}
use Rattle.std.proofs.lemmas.List.{nil_from_length, take_at, drop_at, take-append-drop, length-append, length-take, get_or-drop, get_or-take, get_or_past}
use Rattle.std.proofs.lemmas.List.Concat.{flat_map-cons}
use Rattle.std.proofs.lemmas.Nat.{be_bytes_2, be_bytes_4, be_bytes_8, from_be_bytes-to_be_bytes_2, from_be_bytes-to_be_bytes_4, from_be_bytes-to_be_bytes_8}
use Rattle.std.proofs.lemmas.Slice.Eq.{bytes_eq-Decides}
use Rattle.std.proofs.lemmas.Str.{chars-encodes, encodes-chars, scalars-chars, is_utf8-from_IsUtf8, IsUtf8-from_is_utf8}
use Rattle.byte_fields.specs.Fields.{Decoder, ◌>>=◌, byte_at, bytes_at, number_at, paired_at, headed_at, mark_at, marked_at, made_at, tested_at, nothing_at, never_at, FitsBlob, blob, blob_at, text_field, text_at, list_of, items_at, list_at, whole}

abbrev pub IsBytes : List ℕ → Type 0
IsBytes bytes = (i : ℕ) → get_or bytes i 0 < 256

-- what was read is spelled so, and has a spelling; what has a spelling is read from it, whatever follows
pub record Codec (A : Type 0) (spell : A → List ℕ) (Fits : A → Type 0) (read : Decoder A) : Type 0 where
  pub takes : (bytes : List ℕ) (x : A) (rest : List ℕ) → IsBytes bytes → read bytes ≡ Some (x, rest) → (bytes ≡ spell x ++ rest) × Fits x
  pub again : (x : A) (rest : List ℕ) → Fits x → read (spell x ++ rest) ≡ Some (x, rest)

-- ---- bytes

IsBytes-drop : (n : ℕ) (bytes : List ℕ) → IsBytes bytes → IsBytes (drop n bytes)
IsBytes-drop n bytes h i = rw get_or-drop (h (n + i))

IsBytes-take : (n : ℕ) (bytes : List ℕ) → IsBytes bytes → IsBytes (take n bytes)
IsBytes-take n bytes h i =
    elim (cases_lt i n) [
      | inl lt ↦ rw (get_or-take n bytes i 0 lt) (h i)
      | inr le ↦ rw (get_or_past (take n bytes) i 0 (omega (arith, length-take n bytes))) (omega arith)
    ]

-- what stands behind a part
IsBytes-rest : (bytes front rest : List ℕ) → bytes ≡ front ++ rest → IsBytes bytes → IsBytes rest
IsBytes-rest bytes front rest e h = subst IsBytes (ap (drop (length front)) e ∙ drop_at front rest (length front) refl) (IsBytes-drop (length front) bytes h)

-- ---- steps

bind_some : {A B : Type 0} (found : Option A) (next : A → Option B) (y : B) → (found >>= next) ≡ Some y → (x : A) × (found ≡ Some x) × (next x ≡ Some y)
bind_some None next y e = absurd cc
bind_some (Some x) next y e = (x, refl, e)

pub some_is : {A : Type 0} (x y : A) → ◌≡◌ {A = Option A} (Some x) (Some y) → x ≡ y
some_is x y e = cc

-- where nothing stands on one side of a test, what was found stands on the other
refused_some : {A : Type 0} (b : Bool) (x y : A) → cond b None (Some x) ≡ Some y → (b ≡ false) × (x ≡ y)
refused_some true x y e = absurd cc
refused_some false x y e = (refl, cc)

passed_some : {A : Type 0} (b : Bool) (x y : A) → cond b (Some x) None ≡ Some y → (b ≡ true) × (x ≡ y)
passed_some true x y e = (refl, cc)
passed_some false x y e = absurd cc

-- two parts that are spelled one behind the other, and what follows
joined : (bytes first second between rest : List ℕ) → bytes ≡ first ++ between → between ≡ second ++ rest → bytes ≡ (first ++ second) ++ rest
joined bytes first second between rest e f = e ∙ ap (λ (more : List ℕ). first ++ more) f ∙ sym (append_assoc first second rest)

-- ---- numbers

-- a width has a spelling for each number below the limit, and all bytes of that width are one
pub record IsWide (w : Width) (limit : ℕ) : Type 0 where
  pub len : (n : ℕ) → length (to_be_bytes w n) ≡ byte_len w
  pub back : (bytes : List ℕ) → length bytes ≡ byte_len w → IsBytes bytes → to_be_bytes w (from_be_bytes w bytes) ≡ bytes
  pub again : (n : ℕ) → n < limit → from_be_bytes w (to_be_bytes w n) ≡ n
  pub below : (bytes : List ℕ) → IsBytes bytes → from_be_bytes w bytes < limit

pub wide16 : IsWide w16 (2 ^ 16)
wide16 = record {
  len = λ n. refl;
  back = λ bytes len fits. be_bytes_2 bytes _ len fits refl;
  again = λ n lt. from_be_bytes-to_be_bytes_2 n lt;
  below = λ bytes fits. omega (arith, fits 0, fits 1);
}

pub wide32 : IsWide w32 (2 ^ 32)
wide32 = record {
  len = λ n. refl;
  back = λ bytes len fits. be_bytes_4 bytes _ len fits refl;
  again = λ n lt. from_be_bytes-to_be_bytes_4 n lt;
  below = λ bytes fits. omega (arith, fits 0, fits 1, fits 2, fits 3);
}

pub wide64 : IsWide w64 (2 ^ 64)
wide64 = record {
  len = λ n. refl;
  back = λ bytes len fits. be_bytes_8 bytes _ len fits refl;
  again = λ n lt. from_be_bytes-to_be_bytes_8 n lt;
  below = λ bytes fits. omega (arith, fits 0, fits 1, fits 2, fits 3, fits 4, fits 5, fits 6, fits 7);
}

-- what is taken off is the front of the bytes, and what is left follows it
bytes_taken : (count : ℕ) (bytes x rest : List ℕ) → bytes_at count bytes ≡ Some (x, rest) → (bytes ≡ x ++ rest) × (length x ≡ count) × (x ≡ take count bytes)
bytes_taken count bytes x rest e =
    let g = refused_some (ltb (length bytes) count) (take count bytes, drop count bytes) (x, rest) e in
    let long : count ≤ length bytes = ltb-false _ _ g.0 in
    subst (λ (p : List ℕ × List ℕ). (bytes ≡ p.0 ++ p.1) × (length p.0 ≡ count) × (p.0 ≡ take count bytes)) g.1 (sym (take-append-drop count bytes), omega (arith, length-take count bytes), refl)

bytes_again : (count : ℕ) (x rest : List ℕ) → length x ≡ count → bytes_at count (x ++ rest) ≡ Some (x, rest)
bytes_again count x rest len =
    let long : ltb (length (x ++ rest)) count ≡ false = le-ltb _ _ (omega (arith, length-append x rest)) in
    rw (long, take_at x rest count len, drop_at x rest count len) refl

pub bytes_codec : (count : ℕ) → Codec (List ℕ) (λ x. x) (λ x. length x ≡ count) (bytes_at count)
bytes_codec count = record {
  takes = λ bytes x rest fits e. let t = bytes_taken count bytes x rest e in (t.0, t.1);
  again = λ x rest len. bytes_again count x rest len;
}

pub number_codec : (w : Width) (limit : ℕ) → IsWide w limit → Codec ℕ (to_be_bytes w) (λ n. n < limit) (number_at w)
number_codec w limit wide = record {
  takes = λ bytes n rest fits e.
      let a = bind_some (bytes_at (byte_len w) bytes) (λ x. Some (from_be_bytes w x.0, x.1)) (n, rest) e in
      let t = bytes_taken (byte_len w) bytes a.0.0 a.0.1 a.1 in
      let few : IsBytes a.0.0 = subst IsBytes (sym t.2) (IsBytes-take (byte_len w) bytes fits) in
      let made : ℕ × List ℕ = (from_be_bytes w a.0.0, a.0.1) in
      let family : ℕ × List ℕ → Type 0 = λ q. (bytes ≡ to_be_bytes w q.0 ++ q.1) × (q.0 < limit) in
      subst family (some_is made (n, rest) a.2) (rw (wide.back a.0.0 t.1 few) (t.0), wide.below a.0.0 few);
  again = λ n rest lt. rw (bytes_again (byte_len w) (to_be_bytes w n) rest (wide.len n), wide.again n lt) refl;
}

pub u32_codec : Codec ℕ (to_be_bytes w32) (λ n. n < 2 ^ 32) (number_at w32)
u32_codec = number_codec w32 (2 ^ 32) wide32

byte_takes : (bytes : List ℕ) (x : ℕ) (rest : List ℕ) → IsBytes bytes → byte_at bytes ≡ Some (x, rest) → (bytes ≡ (x ∷ []) ++ rest) × (x < 256)
byte_takes [] x rest fits e = absurd cc
byte_takes (byte ∷ bytes) x rest fits e =
    subst (λ (p : ℕ × List ℕ). (byte ∷ bytes ≡ (p.0 ∷ []) ++ p.1) × (p.0 < 256)) (some_is (byte, bytes) (x, rest) e) (refl, fits 0)

pub byte_codec : Codec ℕ (λ x. x ∷ []) (λ x. x < 256) byte_at
byte_codec = record { takes = byte_takes; again = λ x rest lt. refl }

-- ---- codecs from codecs

-- the same spelling and the same values, said otherwise
pub said_codec : {A : Type 0} {s : A → List ℕ} {F : A → Type 0} {r : Decoder A} (t : A → List ℕ) (G : A → Type 0) → ((x : A) → F x → t x ≡ s x) → ((x : A) → F x → G x) → ((x : A) → G x → F x) → Codec A s F r → Codec A t G r
said_codec t G same to from codec = record {
  takes = λ bytes x rest fits e. let u = codec.takes bytes x rest fits e in (rw (same x u.1) (u.0), to x u.1);
  again = λ x rest fits. rw (same x (from x fits)) (codec.again x rest (from x fits));
}

-- one, and behind it another
pub paired_codec : {A B : Type 0} {sa : A → List ℕ} {Fa : A → Type 0} {ra : Decoder A} {sb : B → List ℕ} {Fb : B → Type 0} {rb : Decoder B}
    → Codec A sa Fa ra → Codec B sb Fb rb → Codec (A × B) (λ p. sa p.0 ++ sb p.1) (λ p. Fa p.0 × Fb p.1) (paired_at ra rb)
paired_codec {A = A} {B = B} {sa = sa} {Fa = Fa} {ra = ra} {sb = sb} {Fb = Fb} {rb = rb} first second = record {
  takes = λ bytes p rest fits e.
      let a = bind_some (ra bytes) (λ x. rb x.1 >>= λ y. Some ((x.0, y.0), y.1)) (p, rest) e in
      let b = bind_some (rb a.0.1) (λ y. Some ((a.0.0, y.0), y.1)) (p, rest) a.2 in
      let t = first.takes bytes a.0.0 a.0.1 fits a.1 in
      let u = second.takes a.0.1 b.0.0 b.0.1 (IsBytes-rest bytes (sa a.0.0) a.0.1 t.0 fits) b.1 in
      let made : (A × B) × List ℕ = ((a.0.0, b.0.0), b.0.1) in
      let family : (A × B) × List ℕ → Type 0 = λ q. (bytes ≡ (sa q.0.0 ++ sb q.0.1) ++ q.1) × (Fa q.0.0 × Fb q.0.1) in
      subst family (some_is made (p, rest) b.2) (joined bytes (sa a.0.0) (sb b.0.0) a.0.1 b.0.1 t.0 u.0, (t.1, u.1));
  again = λ p rest fits.
      let one : paired_at ra rb (sa p.0 ++ (sb p.1 ++ rest)) ≡ Some (p, rest) = rw (first.again p.0 (sb p.1 ++ rest) fits.0, second.again p.1 rest fits.1) refl in
      ap (paired_at ra rb) (append_assoc (sa p.0) (sb p.1) rest) ∙ one;
}

-- the value made of what is read: a record of its parts, or a variant with them
pub made_codec : {A B : Type 0} {sa : A → List ℕ} {Fa : A → Type 0} {ra : Decoder A} (make : A → B) (s : B → List ℕ) (G : B → Type 0)
    → Codec A sa Fa ra → ((y : B) → G y → (x : A) × (y ≡ make x) × Fa x) → ((x : A) → Fa x → G (make x)) → ((x : A) → Fa x → s (make x) ≡ sa x) → Codec B s G (made_at make ra)
made_codec {A = A} {B = B} {sa = sa} {Fa = Fa} {ra = ra} make s G codec out into same = record {
  takes = λ bytes y rest fits e.
      let a = bind_some (ra bytes) (λ x. Some (make x.0, x.1)) (y, rest) e in
      let t = codec.takes bytes a.0.0 a.0.1 fits a.1 in
      let made : B × List ℕ = (make a.0.0, a.0.1) in
      let family : B × List ℕ → Type 0 = λ q. (bytes ≡ s q.0 ++ q.1) × G q.0 in
      subst family (some_is made (y, rest) a.2) (rw (same a.0.0 t.1) (t.0), into a.0.0 t.1);
  again = λ y rest fits.
      let o = out y fits in
      let family : B → Type 0 = λ z. made_at make ra (s z ++ rest) ≡ Some (z, rest) in
      subst family (sym o.1) (rw (same o.0 o.2, codec.again o.0 rest o.2) refl);
}

-- only what passes a test
pub tested_codec : {A : Type 0} {s : A → List ℕ} {F : A → Type 0} {r : Decoder A} (test : A → Bool) → Codec A s F r → Codec A s (λ x. F x × (test x ≡ true)) (tested_at test r)
tested_codec {A = A} {s = s} {F = F} {r = r} test codec = record {
  takes = λ bytes x rest fits e.
      let a = bind_some (r bytes) (λ y. cond (test y.0) (Some y) None) (x, rest) e in
      let g = passed_some (test a.0.0) a.0 (x, rest) a.2 in
      let t = codec.takes bytes a.0.0 a.0.1 fits a.1 in
      let family : A × List ℕ → Type 0 = λ q. (bytes ≡ s q.0 ++ q.1) × (F q.0 × (test q.0 ≡ true)) in
      subst family g.1 (t.0, (t.1, g.0));
  again = λ x rest fits. rw (codec.again x rest fits.0, fits.1) refl;
}

-- a value that takes no bytes
pub nothing_codec : {A : Type 0} (value : A) → Codec A (λ _. []) (λ x. x ≡ value) (nothing_at value)
nothing_codec {A = A} value = record {
  takes = λ bytes x rest fits e.
      let made : A × List ℕ = (value, bytes) in
      let family : A × List ℕ → Type 0 = λ q. (bytes ≡ q.1) × (q.0 ≡ value) in
      subst family (some_is made (x, rest) e) (refl, refl);
  again = λ x rest fits. rw fits refl;
}

-- no value, where none has a spelling
pub never_codec : {A : Type 0} (s : A → List ℕ) (F : A → Type 0) → ((x : A) → F x → ⊥) → Codec A s F never_at
never_codec s F none = record { takes = λ bytes x rest fits e. absurd cc; again = λ x rest fits. absurd (none x fits) }

-- one reader where a test holds, another where it does not
pub chosen_codec : {A : Type 0} {s : A → List ℕ} {F : A → Type 0} {there here : Decoder A} (b : Bool) → (b ≡ true → Codec A s F there) → (b ≡ false → Codec A s F here) → Codec A s F (λ bytes. cond b (there bytes) (here bytes))
chosen_codec true there here = there refl
chosen_codec false there here = here refl

-- a field that says how the rest is read
pub headed_codec : {H A : Type 0} {sh : H → List ℕ} {Fh : H → Type 0} {rh : Decoder H} (head : A → H) (s : A → List ℕ) (F : A → Type 0) (r : H → Decoder A)
    → Codec H sh Fh rh → ((h : H) → Fh h → Codec A s (λ x. (head x ≡ h) × F x) (r h))
    → Codec A (λ x. sh (head x) ++ s x) (λ x. Fh (head x) × F x) (headed_at rh r)
headed_codec {H = H} {A = A} {sh = sh} {Fh = Fh} {rh = rh} head s F r first codec = record {
  takes = λ bytes x rest fits e.
      let a = bind_some (rh bytes) (λ h. r h.0 h.1) (x, rest) e in
      let t = first.takes bytes a.0.0 a.0.1 fits a.1 in
      let u = (codec a.0.0 t.1).takes a.0.1 x rest (IsBytes-rest bytes (sh a.0.0) a.0.1 t.0 fits) a.2 in
      let family : H → Type 0 = λ h. (bytes ≡ (sh h ++ s x) ++ rest) × (Fh h × F x) in
      subst family (sym u.1.0) (joined bytes (sh a.0.0) (s x) a.0.1 rest t.0 u.0, (t.1, u.1.1));
  again = λ x rest fits.
      let one : headed_at rh r (sh (head x) ++ (s x ++ rest)) ≡ Some (x, rest) = rw (first.again (head x) (s x ++ rest) fits.0, (codec (head x) fits.0).again x rest (refl, fits.1)) refl in
      ap (headed_at rh r) (append_assoc (sh (head x)) (s x) rest) ∙ one;
}

-- ---- a field whose first byte says how the rest is read

-- a variant without fields
pub bare_codec : {A : Type 0} (head : A → ℕ) (body : A → List ℕ) (F : A → Type 0) (tag : ℕ) (value : A) → head value ≡ tag → body value ≡ [] → F value → ((x : A) → head x ≡ tag → F x → x ≡ value)
    → Codec A body (λ x. (head x ≡ tag) × F x) (nothing_at value)
bare_codec {A = A} head body F tag value is none fits only =
    said_codec body (λ x. (head x ≡ tag) × F x)
    (λ x e. subst (λ (y : A). body y ≡ []) (sym e) none)
    (λ x e. subst (λ (y : A). (head y ≡ tag) × F y) (sym e) (is, fits))
    (λ x f. only x f.0 f.1)
    (nothing_codec value)

-- one more tag, and else those after it
pub tagged_codec : {A : Type 0} {there here : Decoder A} (head : A → ℕ) (s : A → List ℕ) (F : A → Type 0) (tag n : ℕ) → Codec A s (λ x. (head x ≡ n) × F x) there → (eqb tag n ≡ false → Codec A s (λ x. (head x ≡ tag) × F x) here)
    → Codec A s (λ x. (head x ≡ tag) × F x) (λ bytes. cond (eqb tag n) (there bytes) (here bytes))
tagged_codec {A = A} {there = there} head s F tag n this others =
    chosen_codec (eqb tag n) (λ h. subst (λ (t : ℕ). Codec A s (λ x. (head x ≡ t) × F x) there) (sym (eqb-true tag n h)) this) others

-- a tag is none that it was tested against
pub not_tag : (tag n : ℕ) → eqb tag n ≡ false → n ≡ tag → ⊥
not_tag tag n other is = let same : eqb tag n ≡ true = rw is (eq-eqb tag tag refl) in absurd cc

mark_taken : (mark bytes rest : List ℕ) → mark_at mark bytes ≡ Some rest → bytes ≡ mark ++ rest
mark_taken mark bytes rest e =
    let a = bind_some (bytes_at (length mark) bytes) (λ x. cond (bytes_eq x.0 mark) (Some x.1) None) rest e in
    let t = bytes_taken (length mark) bytes a.0.0 a.0.1 a.1 in
    let g = passed_some (bytes_eq a.0.0 mark) a.0.1 rest a.2 in
    let is : a.0.0 ≡ mark = (bytes_eq-Decides a.0.0 mark).0 g.0 in
    t.0 ∙ ap (λ (front : List ℕ). front ++ a.0.1) is ∙ ap (λ (more : List ℕ). mark ++ more) g.1

mark_again : (mark rest : List ℕ) → mark_at mark (mark ++ rest) ≡ Some rest
mark_again mark rest =
    let is : bytes_eq mark mark ≡ true = (bytes_eq-Decides mark mark).1 refl in
    rw (bytes_again (length mark) mark rest refl, is) refl

-- behind a mark that is always the same
pub marked_codec : {A : Type 0} {s : A → List ℕ} {F : A → Type 0} {r : Decoder A} (mark : List ℕ) → Codec A s F r → Codec A (λ x. mark ++ s x) F (marked_at mark r)
marked_codec {s = s} {r = r} mark codec = record {
  takes = λ bytes x rest fits e.
      let a = bind_some (mark_at mark bytes) r (x, rest) e in
      let t = mark_taken mark bytes a.0 a.1 in
      let u = codec.takes a.0 x rest (IsBytes-rest bytes mark a.0 t fits) a.2 in
      (joined bytes mark (s x) a.0 rest t u.0, u.1);
  again = λ x rest fits.
      let one : marked_at mark r (mark ++ (s x ++ rest)) ≡ Some (x, rest) = rw (mark_again mark (s x ++ rest), codec.again x rest fits) refl in
      ap (marked_at mark r) (append_assoc mark (s x) rest) ∙ one;
}

-- ---- fields with a length

pub blob_codec : Codec (List ℕ) blob FitsBlob blob_at
blob_codec = said_codec blob FitsBlob (λ x _. refl) (λ x h. h.0) (λ x h. (h, tt))
    (headed_codec length (λ x. x) (λ x. Unit {0}) bytes_at (number_codec w32 (2 ^ 32) wide32)
    (λ n _. said_codec (λ x. x) (λ x. (length x ≡ n) × Unit {0}) (λ x _. refl) (λ x h. (h, tt)) (λ x h. h.0) (bytes_codec n)))

-- ---- texts

-- it is of Unicode scalar values, and not too long for its length field
abbrev pub FitsText : List ℕ → Type 0
FitsText characters = (all_scalars characters ≡ true) × FitsBlob (encode_utf8_all characters)

text_again : (characters : List ℕ) → FitsText characters
    → (bytes : List ℕ) × (characters ≡ chars bytes) × ((length bytes < 2 ^ 32) × (is_utf8 bytes ≡ true))
text_again characters fits =
    let bytes = encode_utf8_all characters in
    (bytes, sym (chars-encodes characters fits.0), (fits.1, is_utf8-from_IsUtf8 bytes (characters, (fits.0, refl))))

text_taken : (bytes : List ℕ) → (length bytes < 2 ^ 32) × (is_utf8 bytes ≡ true) → FitsText (chars bytes)
text_taken bytes fits =
    let u = IsUtf8-from_is_utf8 bytes fits.1 in
    (scalars-chars bytes u, rw (encodes-chars bytes u) (fits.0))

pub text_codec : Codec (List ℕ) text_field FitsText text_at
text_codec =
    made_codec chars text_field FitsText (tested_codec is_utf8 blob_codec)
    text_again text_taken
    (λ bytes fits. ap blob (encodes-chars bytes (IsUtf8-from_is_utf8 bytes fits.1)))

-- ---- lists

-- each item has a spelling behind those before it
abbrev pub EachFits : {A : Type 0} → (List A → A → Type 0) → List A → List A → Type 0
EachFits F before [] = Unit {0}
EachFits F before (x ∷ xs) = F before x × EachFits F (before ++ x ∷ []) xs

-- what was read behind some items
record Follows {A : Type 0} (s : A → List ℕ) (F : List A → A → Type 0) (before : List A) (count : ℕ) (bytes : List ℕ) (all : List A) (rest : List ℕ) (more : List A) : Type 0 where
  pub behind : all ≡ before ++ more
  pub counted : length more ≡ count
  pub spelled : bytes ≡ flat_map s more ++ rest
  pub fits : EachFits F before more

items_takes : {A : Type 0} (s : A → List ℕ) (F : List A → A → Type 0) (r : List A → Decoder A) → ((before : List A) → Codec A s (F before) (r before)) → (before : List A) (count : ℕ) (bytes : List ℕ) (p : List A × List ℕ) → IsBytes bytes → items_at r before count bytes ≡ Some p
    → (more : List A) × Follows s F before count bytes p.0 p.1 more
unfolding items_at
items_takes {A = A} s F r codec before zero bytes p fits e =
    let family : List A × List ℕ → Type 0 = λ q. (more : List A) × Follows s F before 0 bytes q.0 q.1 more in
    subst family (some_is (before, bytes) p e) ([], record { behind = sym (append-nil before); counted = refl; spelled = refl; fits = tt })
items_takes {A = A} s F r codec before (suc count) bytes p fits e =
    let a = bind_some (r before bytes) (λ x. items_at r (before ++ x.0 ∷ []) count x.1) p e in
    let t = (codec before).takes bytes a.0.0 a.0.1 fits a.1 in
    let u = items_takes s F r codec (before ++ a.0.0 ∷ []) count a.0.1 p (IsBytes-rest bytes (s a.0.0) a.0.1 t.0 fits) a.2 in
    let parts = joined bytes (s a.0.0) (flat_map s u.0) a.0.1 p.1 t.0 u.1.spelled in (
      a.0.0 ∷ u.0,
      record {
        behind = u.1.behind ∙ append_assoc before (a.0.0 ∷ []) u.0;
        counted = ap suc u.1.counted;
        spelled = parts ∙ ap (λ (x : List ℕ). x ++ p.1) (sym (flat_map-cons s a.0.0 u.0));
        fits = (t.1, u.1.fits);
      },
    )

items_again : {A : Type 0} (s : A → List ℕ) (F : List A → A → Type 0) (r : List A → Decoder A) → ((before : List A) → Codec A s (F before) (r before)) → (before more : List A) (rest : List ℕ) → EachFits F before more
    → items_at r before (length more) (flat_map s more ++ rest) ≡ Some (before ++ more, rest)
unfolding items_at
items_again {A = A} s F r codec before [] rest fits = ap (λ (xs : List A). Some (xs, rest)) (sym (append-nil before))
items_again {A = A} s F r codec before (x ∷ more) rest fits =
    let regrouped : flat_map s (x ∷ more) ++ rest ≡ s x ++ (flat_map s more ++ rest) = ap (λ (y : List ℕ). y ++ rest) (flat_map-cons s x more) ∙ append_assoc (s x) (flat_map s more) rest in
    let others : items_at r (before ++ x ∷ []) (length more) (flat_map s more ++ rest) ≡ Some (before ++ x ∷ more, rest) =
    items_again s F r codec (before ++ x ∷ []) more rest fits.1 ∙ ap (λ (xs : List A). Some (xs, rest)) (append_assoc before (x ∷ []) more) in
    ap (items_at r before (suc (length more))) regrouped ∙ rw ((codec before).again x (flat_map s more ++ rest) fits.0, others) refl

-- so many items, each read by all before it
pub items_codec : {A : Type 0} (s : A → List ℕ) (F : List A → A → Type 0) (r : List A → Decoder A) → ((before : List A) → Codec A s (F before) (r before)) → (count : ℕ)
    → Codec (List A) (flat_map s) (λ xs. (length xs ≡ count) × EachFits F [] xs) (items_at r [] count)
items_codec {A = A} s F r codec count = record {
  takes = λ bytes xs rest fits e.
      let t = items_takes s F r codec [] count bytes (xs, rest) fits e in
      let family : List A → Type 0 = λ ys. (bytes ≡ flat_map s ys ++ rest) × ((length ys ≡ count) × EachFits F [] ys) in
      subst family (sym t.1.behind) (t.1.spelled, (t.1.counted, t.1.fits));
  again = λ xs rest fits. rw (← (fits.0)) (items_again s F r codec [] xs rest fits.1);
}

pub list_codec : {A : Type 0} (s : A → List ℕ) (F : List A → A → Type 0) (r : List A → Decoder A) → ((before : List A) → Codec A s (F before) (r before))
    → Codec (List A) (list_of s) (λ xs. (length xs < 2 ^ 32) × EachFits F [] xs) (list_at r)
list_codec s F r codec = headed_codec length (flat_map s) (EachFits F []) (items_at r []) (number_codec w32 (2 ^ 32) wide32) (λ n _. items_codec s F r codec n)

-- ---- all of the bytes

-- what was read is spelled so
pub whole_takes : {A : Type 0} {s : A → List ℕ} {F : A → Type 0} {r : Decoder A} → Codec A s F r → (bytes : List ℕ) (x : A) → IsBytes bytes → whole r bytes ≡ Some x → (bytes ≡ s x) × F x
whole_takes {A = A} {s = s} {F = F} {r = r} codec bytes x fits e =
    let a = bind_some (r bytes) (λ p. cond (eqb (length p.1) 0) (Some p.0) None) x e in
    let g = passed_some (eqb (length a.0.1) 0) a.0.0 x a.2 in
    let end : a.0.1 ≡ [] = nil_from_length a.0.1 (eqb-true _ _ g.0) in
    let t = codec.takes bytes a.0.0 a.0.1 fits a.1 in
    let family : A → Type 0 = λ y. (bytes ≡ s y) × F y in
    subst family g.1 (t.0 ∙ ap (λ (rest : List ℕ). s a.0.0 ++ rest) end ∙ append-nil (s a.0.0), t.1)

-- what is spelled so is read
pub whole_again : {A : Type 0} {s : A → List ℕ} {F : A → Type 0} {r : Decoder A} → Codec A s F r → (x : A) → F x → whole r (s x) ≡ Some x
whole_again {s = s} {r = r} codec x fits =
    let read : r (s x) ≡ Some (x, []) = ap r (sym (append-nil (s x))) ∙ codec.again x [] fits in
    rw read refl

-- where nothing was read, no value has this spelling
pub whole_none : {A : Type 0} {s : A → List ℕ} {F : A → Type 0} {r : Decoder A} → Codec A s F r → (bytes : List ℕ) → whole r bytes ≡ None → (x : A) → F x → bytes ≡ s x → ⊥
whole_none {s = s} {r = r} codec bytes none x fits e =
    let read = whole_again codec x fits in
    let other : whole r (s x) ≡ None = ap (whole r) (sym e) ∙ none in
    absurd cc
