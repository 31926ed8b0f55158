-- Readers that read from more bytes what they read from a front of them, and so nothing from a front that is too short.
use Rattle.std.proofs.Common.{◌≡◌, ℕ, ◌+◌, ◌-◌, ◌<◌, ◌≤◌, Bool, true, false, cond, ltb, List, ◌++◌, length, take, drop, Option, Some, None, refl, sym, ap, subst, ◌∙◌, arith}
use Rattle.std.specs.Int.{Width, byte_len, from_be_bytes}
use Rattle.std.specs.Str.{bytes_eq}
use Rattle.std.proofs.lemmas.Bool.{ltb-false, le-ltb}
use Rattle.std.proofs.lemmas.List.{take-append-drop, take-append-le, drop-append-le, length-append, length-drop}
use Rattle.byte_fields.specs.Fields.{Decoder, ◌>>=◌, bytes_at, number_at, headed_at, made_at, tested_at, mark_at, marked_at, nothing_at}
use Rattle.byte_fields.proofs.Codecs.{Codec, some_is}

abbrev pub Grows : {A : Type 0} → Decoder A → Type 0
Grows {A} r = (bytes more : List ℕ) (p : A × List ℕ) → r bytes ≡ Some p → r (bytes ++ more) ≡ Some (p.0, p.1 ++ more)

pub bind_some : {A B : Type 0} (found : Option A) (next : A → Option B) (y : B) → (found >>= next) ≡ Some y → (x : A) × (found ≡ Some x) × (next x ≡ Some y)
bind_some None next y e = absurd cc
bind_some (Some x) next y e = (x, refl, e)

pub refused_some : {A : Type 0} (b : Bool) (x y : A) → cond b None (Some x) ≡ Some y → (b ≡ false) × (x ≡ y)
refused_some true x y e = absurd cc
refused_some false x y e = (refl, cc)

pub passed_some : {A : Type 0} (b : Bool) (x y : A) → cond b (Some x) None ≡ Some y → (b ≡ true) × (x ≡ y)
passed_some true x y e = (refl, cc)
passed_some false x y e = absurd cc

pub bytes_grow : (count : ℕ) → Grows (bytes_at count)
bytes_grow count bytes more p e =
    let g = refused_some (ltb (length bytes) count) (take count bytes, drop count bytes) p e in
    let long : count ≤ length bytes = ltb-false _ _ g.0 in
    let still : ltb (length (bytes ++ more)) count ≡ false = le-ltb _ _ (omega (arith, length-append bytes more)) in
    let family : List ℕ × List ℕ → Type 0 = λ q. bytes_at count (bytes ++ more) ≡ Some (q.0, q.1 ++ more) in
    subst family g.1 (rw (still, take-append-le count bytes more long, drop-append-le count bytes more long) refl)

pub made_grow : {A B : Type 0} (make : A → B) (r : Decoder A) → Grows r → Grows (made_at make r)
made_grow {A = A} {B = B} make r grow bytes more p e =
    let a = bind_some (r bytes) (λ x. Some (make x.0, x.1)) p e in
    let family : B × List ℕ → Type 0 = λ q. made_at make r (bytes ++ more) ≡ Some (q.0, q.1 ++ more) in
    subst family (some_is (make a.0.0, a.0.1) p a.2) (rw (grow bytes more a.0 a.1) refl)

pub tested_grow : {A : Type 0} (test : A → Bool) (r : Decoder A) → Grows r → Grows (tested_at test r)
tested_grow {A = A} test r grow bytes more p e =
    let a = bind_some (r bytes) (λ x. cond (test x.0) (Some x) None) p e in
    let g = passed_some (test a.0.0) a.0 p a.2 in
    let family : A × List ℕ → Type 0 = λ q. tested_at test r (bytes ++ more) ≡ Some (q.0, q.1 ++ more) in
    subst family g.1 (rw (grow bytes more a.0 a.1, g.0) refl)

pub headed_grow : {H A : Type 0} (first : Decoder H) (next : H → Decoder A) → Grows first → ((h : H) → Grows (next h)) → Grows (headed_at first next)
headed_grow first next grow each bytes more p e =
    let a = bind_some (first bytes) (λ x. next x.0 x.1) p e in
    rw (grow bytes more a.0 a.1) (each a.0.0 a.0.1 more p a.2)

mark_grow : (mark bytes more rest : List ℕ) → mark_at mark bytes ≡ Some rest → mark_at mark (bytes ++ more) ≡ Some (rest ++ more)
mark_grow mark bytes more rest e =
    let a = bind_some (bytes_at (length mark) bytes) (λ x. cond (bytes_eq x.0 mark) (Some x.1) None) rest e in
    let g = passed_some (bytes_eq a.0.0 mark) a.0.1 rest a.2 in
    let family : List ℕ → Type 0 = λ q. mark_at mark (bytes ++ more) ≡ Some (q ++ more) in
    subst family g.1 (rw (bytes_grow (length mark) bytes more a.0 a.1, g.0) refl)

pub marked_grow : {A : Type 0} (mark : List ℕ) (r : Decoder A) → Grows r → Grows (marked_at mark r)
marked_grow mark r grow bytes more p e =
    let a = bind_some (mark_at mark bytes) r p e in
    rw (mark_grow mark bytes more a.0 a.1) (grow a.0 more p a.2)

pub nothing_grow : {A : Type 0} (value : A) → Grows (nothing_at value)
nothing_grow {A = A} value bytes more p e =
    let family : A × List ℕ → Type 0 = λ q. nothing_at value (bytes ++ more) ≡ Some (q.0, q.1 ++ more) in
    subst family (some_is (value, bytes) p e) refl

pub number_grow : (w : Width) → Grows (number_at w)
number_grow w = made_grow (from_be_bytes w) (bytes_at (byte_len w)) (bytes_grow (byte_len w))

-- ---- fronts that are too short

pub none_if : {A : Type 0} (found : Option A) → ((x : A) → found ≡ Some x → ⊥) → found ≡ None
none_if None never = refl
none_if (Some x) never = absurd (never x refl)

longer : (n all one more front : ℕ) → all ≡ one + more → front + (all - n) ≡ more → n < one → ⊥
longer n all one more front a b c = omega arith

pub short_none : {A : Type 0} {s : A → List ℕ} {F : A → Type 0} {r : Decoder A} → Codec A s F r → Grows r → (x : A) (more : List ℕ) (n : ℕ) → F x → n < length (s x) → r (take n (s x ++ more)) ≡ None
short_none {A = A} {s = s} {r = r} codec grow x more n fits few =
    let all : List ℕ = s x ++ more in
    none_if (r (take n all)) (λ p e.
    let read : r all ≡ Some (p.0, p.1 ++ drop n all) = ap r (sym (take-append-drop n all)) ∙ grow (take n all) (drop n all) p e in
    let same = some_is (p.0, p.1 ++ drop n all) (x, more) (sym read ∙ codec.again x more fits) in
    let rest : p.1 ++ drop n all ≡ more = ap (λ (q : A × List ℕ). q.1) same in
    longer n (length all) (length (s x)) (length more) (length p.1) (length-append (s x) more)
    (ap (λ (k : ℕ). length p.1 + k) (sym (length-drop n all)) ∙ sym (length-append p.1 (drop n all)) ∙ ap length rest) few)
