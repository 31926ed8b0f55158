-- What an entry records is read exactly where it is spelled so.
use Rattle.std.proofs.Common.{◌≡◌, ℕ, ◌^◌, ◌<◌, false, eqb, List, refl, arith}
use Rattle.std.specs.Int.{w32}
use Rattle.tea_base.specs.declared.entry.What.{What}
use Rattle.tea_base.specs.declared.entry.What.TheVariants.{Join, Exit, Event}
use Rattle.byte_fields.specs.Fields.{number_at, blob_at, paired_at, made_at, FitsBlob}
use Rattle.byte_fields.proofs.Codecs.{Codec, u32_codec, byte_codec, blob_codec, paired_codec, headed_codec, made_codec, said_codec, never_codec, bare_codec, tagged_codec, not_tag}
use Rattle.entry_fields.specs.Spelling.{what_kind, what_body, what_spelling, FitsWhat, IsTypedWhat}
use Rattle.entry_fields.specs.Reading.{what_of_kind, what_at}

-- it has a spelling
abbrev pub HasWhatSpelling : What → Type 0
HasWhatSpelling what = FitsWhat what × IsTypedWhat what

abbrev OfKind : ℕ → What → Type 0
OfKind kind what = (what_kind what ≡ kind) × HasWhatSpelling what

join_is : (w : What) → what_kind w ≡ 1 → HasWhatSpelling w → w ≡ Join
join_is Join e fits = refl
join_is w e fits = absurd (omega arith)

exit_is : (w : What) → what_kind w ≡ 2 → HasWhatSpelling w → w ≡ Exit
exit_is Exit e fits = refl
exit_is w e fits = absurd (omega arith)

event_is : (w : What) → what_kind w ≡ 3 → HasWhatSpelling w → (p : ℕ × List ℕ) × (w ≡ Event p.0 p.1) × ((p.0 < 2 ^ 32) × FitsBlob p.1)
event_is (Event number payload) e fits = ((number, payload), refl, (fits.1, fits.0))
event_is w e fits = absurd (omega arith)

event_codec : Codec What what_body (OfKind 3) (made_at (λ p. Event p.0 p.1) (paired_at (number_at w32) blob_at))
event_codec =
    made_codec (λ p. Event p.0 p.1) what_body (OfKind 3) (paired_codec u32_codec blob_codec)
    (λ w f. event_is w f.0 f.1) (λ p fits. (refl, (fits.1, fits.0))) (λ p _. refl)

no_kind : (kind : ℕ) (w : What) → eqb kind 1 ≡ false → eqb kind 2 ≡ false → eqb kind 3 ≡ false → what_kind w ≡ kind → ⊥
no_kind kind Join a b c e = not_tag kind 1 a e
no_kind kind Exit a b c e = not_tag kind 2 b e
no_kind kind (Event number payload) a b c e = not_tag kind 3 c e

kind_codec : (kind : ℕ) → Codec What what_body (OfKind kind) (what_of_kind kind)
kind_codec kind =
    tagged_codec what_kind what_body HasWhatSpelling kind 1 (bare_codec what_kind what_body HasWhatSpelling 1 Join refl refl (tt, tt) join_is)
    (λ a. tagged_codec what_kind what_body HasWhatSpelling kind 2 (bare_codec what_kind what_body HasWhatSpelling 2 Exit refl refl (tt, tt) exit_is)
    (λ b. tagged_codec what_kind what_body HasWhatSpelling kind 3 event_codec
    (λ c. never_codec what_body (OfKind kind) (λ w f. no_kind kind w a b c f.0))))

kind_below : (w : What) → what_kind w < 256
kind_below Join = omega arith
kind_below w = omega arith

pub what_codec : Codec What what_spelling HasWhatSpelling what_at
unfolding what_at
what_codec =
    said_codec what_spelling HasWhatSpelling (λ w _. refl) (λ w f. f.1) (λ w f. (kind_below w, f))
    (headed_codec what_kind what_body HasWhatSpelling what_of_kind byte_codec (λ kind _. kind_codec kind))
