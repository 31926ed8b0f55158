-- What known names weigh.
use Rattle.std.proofs.Common.{◌≡◌, ℕ, zero, suc, ◌+◌, ◌<◌, ◌≤◌, Bool, List, [], ◌∷◌, length, take, drop, set, get_or, refl, sym, ap, ◌∙◌, arith}
use Rattle.std.specs.Prelude.{insert, slice_get, Some, Ok, Err}
use Rattle.std.specs.List.{filter}
use Rattle.std.proofs.lemmas.List.{take-append-drop}
use Rattle.model_value.specs.Plain.{text_weight}
use Rattle.world_plain.specs.World.{known_weight, total_weight}
use Rattle.world_plain.specs.declared.world.Known.{Known}
use Rattle.world_plain.proofs.Totals.{total-append}
use Rattle.known_names.specs.Names.{with_known}
use Rattle.known_names.specs.Places.{IsPlaceOf}
use Rattle.known_names.proofs.KnownOrder.{if_either}

-- a known name that is handed over weighs as before
weight-set : (ks : List Known) (i : ℕ) (k new : Known) → slice_get ks i ≡ Some k → k.name ≡ new.name → total_weight known_weight (set ks i new) ≡ total_weight known_weight ks
weight-set [] i k new e same = refl
weight-set (l ∷ ls) zero k new e same =
    let is : l ≡ k = cc in
    ap (λ (name : List ℕ). 1 + text_weight name + total_weight known_weight ls) (sym same ∙ ap (λ (j : Known). j.name) (sym is))
weight-set (l ∷ ls) (suc i) k new e same = ap (λ (n : ℕ). known_weight l + n) (weight-set ls i k new e same)

weight-insert : (ks : List Known) (i : ℕ) (new : Known) → total_weight known_weight (insert ks i new) ≡ total_weight known_weight ks + known_weight new
weight-insert ks i new =
    let parts = total-append known_weight (take i ks) (drop i ks) in
    let whole = ap (total_weight known_weight) (take-append-drop i ks) in
    let with_new = total-append known_weight (take i ks) (new ∷ drop i ks) in
    omega arith

-- a name that is known adds nothing
pub weight-known : (x : List ℕ) (object : ℕ) (ks : List Known) (place : ℕ) → IsPlaceOf (Ok place) x ks → total_weight known_weight (with_known x object ks) ≡ total_weight known_weight ks
weight-known x object ks place at =
    let new : Known = record { name = x; object = object } in
    ap (total_weight known_weight) (at.1 object) ∙ weight-set ks place at.0.0 new at.0.1 at.0.2

-- another adds its own weight
pub weight-new : (x : List ℕ) (object : ℕ) (ks : List Known) (place : ℕ) → IsPlaceOf (Err place) x ks → total_weight known_weight (with_known x object ks) ≡ total_weight known_weight ks + (1 + text_weight x)
weight-new x object ks place at =
    let new : Known = record { name = x; object = object } in
    ap (total_weight known_weight) (at.2 object) ∙ weight-insert ks place new

pub total-filtered : (keeps : Known → Bool) (ks : List Known) → total_weight known_weight (filter keeps ks) ≤ total_weight known_weight ks
total-filtered keeps [] = omega arith
total-filtered keeps (k ∷ ks) =
    let fewer = total-filtered keeps ks in
    if_either (λ l. total_weight known_weight l ≤ total_weight known_weight (k ∷ ks)) (keeps k) (k ∷ filter keeps ks) (filter keeps ks) (λ _. omega (arith, fewer)) (λ _. omega (arith, fewer))

pub weight_at : (ks : List Known) (i : ℕ) (d : Known) → i < length ks → known_weight (get_or ks i d) ≤ total_weight known_weight (drop i ks)
weight_at [] i d inside = absurd (omega arith)
weight_at (k ∷ ks) zero d inside = omega arith
weight_at (k ∷ ks) (suc i) d inside = weight_at ks i d (omega arith)
