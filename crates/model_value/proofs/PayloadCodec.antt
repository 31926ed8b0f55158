-- A payload is read exactly where one has its spelling.
use Rattle.std.proofs.Common.{◌≡◌, ℕ, Bool, true, false, List, length, Option, Some, None, refl, ap, ◌∙◌, subst, ◌==◌, if◌then◌else◌}
use Rattle.std.specs.Prelude.{Result, Ok, Err, IfErr}
use Rattle.std.proofs.lemmas.Option.{none-some, same_Some}
use Rattle.byte_fields.specs.Fields.{Decoder, ◌>>=◌, text_at, paired_at}
use Rattle.byte_fields.proofs.Codecs.{Codec, FitsText, text_codec, paired_codec, made_codec}
use Rattle.model_value.specs.declared.fault.ValueFault.{ValueFault}
use Rattle.model_value.specs.declared.fault.ValueFault.TheVariants.{BadValue, WantOfMemory}
use Rattle.model_value.specs.Plain.{PlainValue, InBounds, is_in_bounds, most_depth}
use Rattle.model_value.specs.Reading.{value_at, bounded_at}
use Rattle.model_value.specs.Payload.{PlainPayload, payload_spelling, payload_at, whole_payload, IsPayload}
use Rattle.model_value.proofs.ValueCodec.{FitsBounds, bounded_codec, is_bounded, InBounds-is_in_bounds}

-- its texts and its value have a spelling
abbrev pub FitsPayload : PlainPayload → Type 0
FitsPayload p = FitsText p.scope × (FitsText p.event × FitsBounds p.value)

pub payload_codec : Codec PlainPayload payload_spelling FitsPayload payload_at
unfolding payload_at
payload_codec =
    made_codec (λ p. record { scope = p.0; event = p.1.0; value = p.1.1 }) payload_spelling FitsPayload
    (paired_codec text_codec (paired_codec text_codec bounded_codec))
    (λ p fits. ((p.scope, (p.event, p.value)), refl, fits))
    (λ p fits. fits)
    (λ p _. refl)

pub is_payload : (p : PlainPayload) → IsPayload p → FitsPayload p
is_payload p is = (is.scope, (is.event, is_bounded p.value is.value is.bounds))

pub payload-in_bounds : (p : PlainPayload) → FitsPayload p → InBounds p.value
payload-in_bounds p fits = InBounds-is_in_bounds p.value fits.1.1.1

-- ---- what is read is in bounds

stepped : {A B : Type 0} (found : Option A) (next : A → Option B) (y : B) → (found >>= next) ≡ Some y → (x : A) × (found ≡ Some x) × (next x ≡ Some y)
stepped None next y e = absurd (none-some y e)
stepped (Some x) next y e = (x, refl, e)

-- what passes a test, if it does
passed : {A : Type 0} (test : Bool) (x y : A) → (if test then Some x else None) ≡ Some y → (test ≡ true) × (x ≡ y)
passed true x y e = (refl, same_Some x y e)
passed false x y e = absurd (none-some y e)

bounded-in_bounds : (bytes rest : List ℕ) (v : PlainValue) → bounded_at bytes ≡ Some (v, rest) → InBounds v
bounded-in_bounds bytes rest v e =
    let x = stepped (value_at most_depth bytes) (λ x. if is_in_bounds x.0 then Some x else None) (v, rest) e in
    let p = passed (is_in_bounds x.0.0) x.0 (v, rest) x.2 in
    InBounds-is_in_bounds v (subst (λ (y : PlainValue × List ℕ). is_in_bounds y.0 ≡ true) p.1 p.0)

paired-second : {A B : Type 0} (first : Decoder A) (second : Decoder B) (bytes rest : List ℕ) (a : A) (b : B) → paired_at first second bytes ≡ Some ((a, b), rest) → (between : List ℕ) × (second between ≡ Some (b, rest))
paired-second {A = A} {B = B} first second bytes rest a b e =
    let x = stepped (first bytes) (λ x. second x.1 >>= λ y. Some ((x.0, y.0), y.1)) ((a, b), rest) e in
    let y = stepped (second x.0.1) (λ y. Some ((x.0.0, y.0), y.1)) ((a, b), rest) x.2 in
    let both = same_Some ((x.0.0, y.0.0), y.0.1) ((a, b), rest) y.2 in
    (x.0.1, y.1 ∙ ap (λ (z : (A × B) × List ℕ). Some (z.0.1, z.1)) both)

pub payload_of-in_bounds : (bytes : List ℕ) (p : PlainPayload) → whole_payload bytes ≡ Some p → InBounds p.value
unfolding payload_at
payload_of-in_bounds bytes p e =
    let x = stepped (payload_at bytes) (λ x. if length x.1 == 0 then Some x.0 else None) p e in
    let is_p = (passed (length x.0.1 == 0) x.0.0 p x.2).1 in
    let y = stepped (paired_at text_at (paired_at text_at bounded_at) bytes) (λ y. Some (record { scope = y.0.0; event = y.0.1.0; value = y.0.1.1 }, y.1)) x.0 x.1 in
    let made = same_Some (record { scope = y.0.0.0; event = y.0.0.1.0; value = y.0.0.1.1 }, y.0.1) x.0 y.2 in
    let behind = paired-second text_at (paired_at text_at bounded_at) bytes y.0.1 y.0.0.0 y.0.0.1 y.1 in
    let last = paired-second text_at bounded_at behind.0 y.0.1 y.0.0.1.0 y.0.0.1.1 behind.1 in
    let bound : InBounds y.0.0.1.1 = bounded-in_bounds last.0 y.0.1 y.0.0.1.1 last.1 in
    subst (λ (q : PlainPayload). InBounds q.value) (ap (λ (z : PlainPayload × List ℕ). z.0) made ∙ is_p) bound

-- ---- what is written

-- where no spelling is refused, there was no memory
pub only_want : {X : Type 0} (result : Result X ValueFault) → (result ≡ Err BadValue → ⊥) → IfErr result (λ fault. fault ≡ WantOfMemory)
only_want (Ok x) is_read = tt
only_want (Err BadValue) is_read = absurd (is_read refl)
only_want (Err WantOfMemory) is_read = refl
