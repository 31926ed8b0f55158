-- Names that rise still rise with one more, and with fewer.
use Rattle.std.proofs.Common.{◌≡◌, ℕ, Bool, true, false, List, [], ◌∷◌, refl, sym, subst, if◌then◌else◌, bytes_eq}
use Rattle.std.specs.List.{filter}
use Rattle.std.proofs.lemmas.Bool.{both_ways}
use Rattle.std.proofs.lemmas.Slice.Eq.{bytes_eq-Decides}
use Rattle.tea_base.proofs.Order.{comes_before-false}
use Rattle.tea_base.specs.Order.{IsBefore, comes_before}
use Rattle.world_plain.proofs.Order.{IsBeforeAll-trans}
use Rattle.world_plain.specs.Valid.{IsBeforeAll, KnownRise}
use Rattle.world_plain.specs.declared.world.Known.{Known}
use Rattle.known_names.specs.Names.{with_known}

pub if_either : {A : Type 0} (P : A → Type 0) (b : Bool) (x y : A) → (b ≡ true → P x) → (b ≡ false → P y) → P (if b then x else y)
if_either P true x y h g = h refl
if_either P false x y h g = g refl

-- what is there with a name: where it was known, before the one that it precedes, or further behind
pub with_known-cases : (P : List Known → Type 0) (x : List ℕ) (object : ℕ) (k : Known) (ks : List Known)
    → (k.name ≡ x → P (record { name = x; object = object } ∷ ks)) → (IsBefore x k.name → P (record { name = x; object = object } ∷ k ∷ ks))
    → (IsBefore k.name x → P (k ∷ with_known x object ks)) → P (with_known x object (k ∷ ks))
with_known-cases P x object k ks here before behind =
    if_either P (bytes_eq x k.name) (record { name = x; object = object } ∷ ks) (if comes_before x k.name then record { name = x; object = object } ∷ k ∷ ks else k ∷ with_known x object ks)
    (λ e. here (sym ((bytes_eq-Decides x k.name).0 e)))
    (λ e. if_either P (comes_before x k.name) (record { name = x; object = object } ∷ k ∷ ks) (k ∷ with_known x object ks) before
    (λ later. behind (comes_before-false x k.name (λ same. both_ways (bytes_eq x k.name) e ((bytes_eq-Decides x k.name).1 same)) later)))

IsBeforeAll-with_known : (y x : List ℕ) (object : ℕ) (ks : List Known) → IsBefore y x → IsBeforeAll y ks → IsBeforeAll y (with_known x object ks)
IsBeforeAll-with_known y x object [] h g = (h, tt)
IsBeforeAll-with_known y x object (k ∷ ks) h g =
    with_known-cases (IsBeforeAll y) x object k ks (λ _. (h, g.1)) (λ _. (h, g)) (λ _. (g.0, IsBeforeAll-with_known y x object ks h g.1))

pub KnownRise-with_known : (x : List ℕ) (object : ℕ) (ks : List Known) → KnownRise ks → KnownRise (with_known x object ks)
KnownRise-with_known x object [] h = (tt, tt)
KnownRise-with_known x object (k ∷ ks) h =
    with_known-cases KnownRise x object k ks (λ same. (subst (λ y. IsBeforeAll y ks) same h.0, h.1)) (λ first. ((first, IsBeforeAll-trans x k.name ks first h.0), h))
    (λ later. (IsBeforeAll-with_known k.name x object ks later h.0, KnownRise-with_known x object ks h.1))

IsBeforeAll-filtered : (y : List ℕ) (keeps : Known → Bool) (ks : List Known) → IsBeforeAll y ks → IsBeforeAll y (filter keeps ks)
IsBeforeAll-filtered y keeps [] h = tt
IsBeforeAll-filtered y keeps (k ∷ ks) h =
    let left = IsBeforeAll-filtered y keeps ks h.1 in
    if_either (IsBeforeAll y) (keeps k) (k ∷ filter keeps ks) (filter keeps ks) (λ _. (h.0, left)) (λ _. left)

pub KnownRise-filtered : (keeps : Known → Bool) (ks : List Known) → KnownRise ks → KnownRise (filter keeps ks)
KnownRise-filtered keeps [] h = tt
KnownRise-filtered keeps (k ∷ ks) h =
    let left = KnownRise-filtered keeps ks h.1 in
    if_either KnownRise (keeps k) (k ∷ filter keeps ks) (filter keeps ks) (λ _. (IsBeforeAll-filtered k.name keeps ks h.0, left)) (λ _. left)
