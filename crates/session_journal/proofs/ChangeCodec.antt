-- What a record says is read exactly where it is spelled so.
use Rattle.std.proofs.Common.{◌≡◌, ℕ, ◌^◌, ◌<◌, false, eqb, List, refl, arith}
use Rattle.std.specs.Int.{to_be_bytes, w32, w64}
use Rattle.byte_fields.specs.Fields.{number_at, blob_at, paired_at, made_at, FitsBlob}
use Rattle.byte_fields.proofs.Codecs.{Codec, number_codec, wide64, u32_codec, byte_codec, blob_codec, paired_codec, headed_codec, made_codec, said_codec, never_codec, tagged_codec, not_tag}
use Rattle.entry_fields.specs.Reading.{what_at}
use Rattle.entry_fields.proofs.WhatCodec.{HasWhatSpelling, what_codec}
use Rattle.tea_base.specs.declared.entry.What.{What}
use Rattle.session_journal.specs.declared.change.Change.{Change}
use Rattle.session_journal.specs.declared.change.Change.TheVariants.{Came, Reached, Kept}
use Rattle.session_journal.specs.Changes.{change_kind, change_fields, change_spelling, IsTypedChange, change_of_kind, change_at}

abbrev OfKind : ℕ → Change → Type 0
OfKind kind change = (change_kind change ≡ kind) × IsTypedChange change

came_is : (c : Change) → change_kind c ≡ 1 → IsTypedChange c
    → (p : ℕ × (ℕ × What)) × (c ≡ Came p.0 p.1.0 p.1.1) × ((p.0 < 2 ^ 64) × ((p.1.0 < 2 ^ 32) × HasWhatSpelling p.1.1))
came_is (Came time view what) e fits = ((time, (view, what)), refl, fits)
came_is (Reached time) e fits = absurd (omega arith)
came_is (Kept time bytes) e fits = absurd (omega arith)

reached_is : (c : Change) → change_kind c ≡ 2 → IsTypedChange c → (time : ℕ) × (c ≡ Reached time) × (time < 2 ^ 64)
reached_is (Came time view what) e fits = absurd (omega arith)
reached_is (Reached time) e fits = (time, refl, fits)
reached_is (Kept time bytes) e fits = absurd (omega arith)

kept_is : (c : Change) → change_kind c ≡ 3 → IsTypedChange c → (p : ℕ × List ℕ) × (c ≡ Kept p.0 p.1) × ((p.0 < 2 ^ 64) × FitsBlob p.1)
kept_is (Came time view what) e fits = absurd (omega arith)
kept_is (Reached time) e fits = absurd (omega arith)
kept_is (Kept time bytes) e fits = ((time, bytes), refl, fits)

time_codec : Codec ℕ (to_be_bytes w64) (λ n. n < 2 ^ 64) (number_at w64)
time_codec = number_codec w64 (2 ^ 64) wide64

came_codec : Codec Change change_fields (OfKind 1) (made_at (λ p. Came p.0 p.1.0 p.1.1) (paired_at (number_at w64) (paired_at (number_at w32) what_at)))
came_codec =
    made_codec (λ p. Came p.0 p.1.0 p.1.1) change_fields (OfKind 1) (paired_codec time_codec (paired_codec u32_codec what_codec))
    (λ c f. came_is c f.0 f.1) (λ p fits. (refl, fits)) (λ p _. refl)

reached_codec : Codec Change change_fields (OfKind 2) (made_at (λ time. Reached time) (number_at w64))
reached_codec =
    made_codec (λ time. Reached time) change_fields (OfKind 2) time_codec
    (λ c f. reached_is c f.0 f.1) (λ p fits. (refl, fits)) (λ p _. refl)

kept_codec : Codec Change change_fields (OfKind 3) (made_at (λ p. Kept p.0 p.1) (paired_at (number_at w64) blob_at))
kept_codec =
    made_codec (λ p. Kept p.0 p.1) change_fields (OfKind 3) (paired_codec time_codec blob_codec)
    (λ c f. kept_is c f.0 f.1) (λ p fits. (refl, fits)) (λ p _. refl)

no_kind : (kind : ℕ) (c : Change) → eqb kind 1 ≡ false → eqb kind 2 ≡ false → eqb kind 3 ≡ false → change_kind c ≡ kind → ⊥
no_kind kind (Came time view what) a b c e = not_tag kind 1 a e
no_kind kind (Reached time) a b c e = not_tag kind 2 b e
no_kind kind (Kept time bytes) a b c e = not_tag kind 3 c e

kind_codec : (kind : ℕ) → Codec Change change_fields (OfKind kind) (change_of_kind kind)
kind_codec kind =
    tagged_codec change_kind change_fields IsTypedChange kind 1 came_codec
    (λ a. tagged_codec change_kind change_fields IsTypedChange kind 2 reached_codec
    (λ b. tagged_codec change_kind change_fields IsTypedChange kind 3 kept_codec
    (λ c. never_codec change_fields (OfKind kind) (λ w f. no_kind kind w a b c f.0))))

kind_below : (c : Change) → change_kind c < 256
kind_below (Came time view what) = omega arith
kind_below (Reached time) = omega arith
kind_below (Kept time bytes) = omega arith

pub change_codec : Codec Change change_spelling IsTypedChange change_at
unfolding change_at
change_codec =
    said_codec change_spelling IsTypedChange (λ c _. refl) (λ c f. f.1) (λ c f. (kind_below c, f))
    (headed_codec change_kind change_fields IsTypedChange change_of_kind byte_codec (λ kind _. kind_codec kind))
