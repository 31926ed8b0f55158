-- What a changed field keeps of the objects.
use Rattle.std.proofs.Common.{◌≡◌, ℕ, suc, Bool, true, false, List, [], ◌∷◌, length, map, Option, Some, nat_eq, refl, sym, ap, ap₂, ◌∙◌, subst, arith, if◌then◌else◌, bytes_eq}
use Rattle.model_value.specs.Plain.{PlainValue, InBounds, nil, AllInBounds}
use Rattle.world_plain.specs.World.{ObjectRecord}
use Rattle.world_plain.specs.Valid.{object_at, if_same, IsHeld, ObjectFits, ObjectsFit, KnownFit, SubscriptionsFit}
use Rattle.world_plain.specs.declared.message.Subscription.{Subscription}
use Rattle.world_plain.specs.declared.world.Known.{Known}
use Rattle.model_tree.specs.Tree.{Name}
use Rattle.world_state.specs.Objects.{value_named, with_named, with_fields}

-- what holds in either branch holds of a test
pub if_both : {A : Type 0} (P : A → Type 0) (b : Bool) (x y : A) → P x → P y → P (if b then x else y)
if_both P true x y h g = h
if_both P false x y h g = g

-- ---- values beside names

pub nil-in_bounds : InBounds nil
nil-in_bounds = (omega arith, omega arith)

pub value_named-in_bounds : (x : Name) (names : List Name) (vs : List PlainValue) → AllInBounds vs → InBounds (value_named x names vs)
value_named-in_bounds x [] vs h = nil-in_bounds
value_named-in_bounds x (y ∷ ys) [] h = nil-in_bounds
value_named-in_bounds x (y ∷ ys) (v ∷ vs) h = if_both InBounds (bytes_eq x y) v (value_named x ys vs) h.0 (value_named-in_bounds x ys vs h.1)

pub with_named-in_bounds : (x : Name) (new : PlainValue) (names : List Name) (vs : List PlainValue) → InBounds new → AllInBounds vs → AllInBounds (with_named x new names vs)
with_named-in_bounds x new [] vs n h = h
with_named-in_bounds x new (y ∷ ys) [] n h = tt
with_named-in_bounds x new (y ∷ ys) (v ∷ vs) n h = if_both AllInBounds (bytes_eq x y) (new ∷ vs) (v ∷ with_named x new ys vs) (n, h.1) (h.0, with_named-in_bounds x new ys vs n h.1)

pub length-with_named : (x : Name) (new : PlainValue) (names : List Name) (vs : List PlainValue) → length (with_named x new names vs) ≡ length vs
length-with_named x new [] vs = refl
length-with_named x new (y ∷ ys) [] = refl
length-with_named x new (y ∷ ys) (v ∷ vs) =
    if_both (λ l. length l ≡ length (v ∷ vs)) (bytes_eq x y) (new ∷ vs) (v ∷ with_named x new ys vs) refl (ap suc (length-with_named x new ys vs))

-- ---- objects alike, one by one: of one number and one class, with as many fields

abbrev pub Alike : List ObjectRecord → List ObjectRecord → Type 0
Alike [] [] = Unit {0}
Alike [] (p ∷ ps) = ⊥
Alike (o ∷ os) [] = ⊥
Alike (o ∷ os) (p ∷ ps) = (p.id ≡ o.id) × (p.class ≡ o.class) × (length p.fields ≡ length o.fields) × Alike os ps

Alike-refl : (os : List ObjectRecord) → Alike os os
Alike-refl [] = tt
Alike-refl (o ∷ os) = (refl, refl, refl, Alike-refl os)

pub with_fields-alike : (id : ℕ) (change : List PlainValue → List PlainValue) (os : List ObjectRecord) → ((vs : List PlainValue) → length (change vs) ≡ length vs) → Alike os (with_fields id change os)
with_fields-alike id change [] long = tt
with_fields-alike id change (o ∷ os) long =
    if_both (Alike (o ∷ os)) (nat_eq o.id id) (record o { fields = change o.fields } ∷ os) (o ∷ with_fields id change os) (refl, refl, long o.fields, Alike-refl os) (refl, refl, refl, with_fields-alike id change os long)

pub Alike-ids : (os ps : List ObjectRecord) → Alike os ps → map (λ o. o.id) ps ≡ map (λ o. o.id) os
Alike-ids [] [] h = refl
Alike-ids [] (p ∷ ps) h = absurd h
Alike-ids (o ∷ os) [] h = absurd h
Alike-ids (o ∷ os) (p ∷ ps) h = ap₂ (λ x xs. x ∷ xs) h.0 (Alike-ids os ps h.3)

pub Alike-length : (os ps : List ObjectRecord) → Alike os ps → length ps ≡ length os
Alike-length [] [] h = refl
Alike-length [] (p ∷ ps) h = absurd h
Alike-length (o ∷ os) [] h = absurd h
Alike-length (o ∷ os) (p ∷ ps) h = ap suc (Alike-length os ps h.3)

-- an object of this class is found
abbrev pub FindsClass : Option ObjectRecord → ObjectRecord → Type 0
FindsClass found o = (p : ObjectRecord) × (found ≡ Some p) × (p.class ≡ o.class)

same_found : (b : Bool) (o p : ObjectRecord) (x y : Option ObjectRecord) → p.class ≡ o.class → ((q : ObjectRecord) → x ≡ Some q → FindsClass y q) → (q : ObjectRecord) → if_same b o x ≡ Some q → FindsClass (if_same b p y) q
same_found true o p x y e h q g = let same : o ≡ q = cc in (p, refl, e ∙ ap (λ o. o.class) same)
same_found false o p x y e h q g = h q g

pub Alike-classes : (os ps : List ObjectRecord) → Alike os ps → (id : ℕ) (o : ObjectRecord) → object_at os id ≡ Some o → FindsClass (object_at ps id) o
Alike-classes [] [] h id q g = absurd cc
Alike-classes [] (p ∷ ps) h id q g = absurd h
Alike-classes (o ∷ os) [] h id q g = absurd h
Alike-classes (o ∷ os) (p ∷ ps) h id q g =
    subst (λ n. FindsClass (if_same (nat_eq n id) p (object_at ps id)) q) (sym h.0)
    (same_found (nat_eq o.id id) o p (object_at os id) (object_at ps id) h.1 (Alike-classes os ps h.3 id) q g)

-- ---- objects that fit

-- the fields of one that is found are in bounds
found_fits : (counts : List ℕ) (next : ℕ) (b : Bool) (o q : ObjectRecord) (x : Option ObjectRecord) → ObjectFits counts next o → (x ≡ Some q → ObjectFits counts next q) → if_same b o x ≡ Some q → ObjectFits counts next q
found_fits counts next true o q x h g e = let same : o ≡ q = cc in subst (ObjectFits counts next) same h
found_fits counts next false o q x h g e = g e

pub object_at-fits : (counts : List ℕ) (next : ℕ) (os : List ObjectRecord) (id : ℕ) (o : ObjectRecord) → ObjectsFit counts next os → object_at os id ≡ Some o → ObjectFits counts next o
object_at-fits counts next [] id q h e = absurd cc
object_at-fits counts next (o ∷ os) id q h e = found_fits counts next (nat_eq o.id id) o q (object_at os id) h.0 (object_at-fits counts next os id q h.1) e

pub with_fields-fit : (counts : List ℕ) (next id : ℕ) (change : List PlainValue → List PlainValue) (os : List ObjectRecord)
    → ((vs : List PlainValue) → length (change vs) ≡ length vs) → ((vs : List PlainValue) → AllInBounds vs → AllInBounds (change vs))
    → ObjectsFit counts next os → ObjectsFit counts next (with_fields id change os)
with_fields-fit counts next id change [] long bound h = tt
with_fields-fit counts next id change (o ∷ os) long bound h =
    if_both (ObjectsFit counts next) (nat_eq o.id id) (record o { fields = change o.fields } ∷ os) (o ∷ with_fields id change os)
    ((h.0.0, h.0.1 ∙ ap Some (sym (long o.fields)), bound o.fields h.0.2), h.1)
    (h.0, with_fields-fit counts next id change os long bound h.1)

-- ---- what speaks of objects by their numbers

abbrev pub StillHeld : List ObjectRecord → List ObjectRecord → Type 0
StillHeld os ps = (id : ℕ) → IsHeld os id → IsHeld ps id

pub Alike-held : (os ps : List ObjectRecord) → Alike os ps → StillHeld os ps
Alike-held os ps h id held = let found = Alike-classes os ps h id held.0 held.1 in (found.0, found.1)

pub KnownFit-held : (os ps : List ObjectRecord) (ks : List Known) → StillHeld os ps → KnownFit os ks → KnownFit ps ks
KnownFit-held os ps [] held h = tt
KnownFit-held os ps (k ∷ ks) held h = ((h.0.0, held k.object h.0.1), KnownFit-held os ps ks held h.1)

pub SubscriptionsFit-held : (os ps : List ObjectRecord) (ss : List Subscription) → StillHeld os ps → SubscriptionsFit os ss → SubscriptionsFit ps ss
SubscriptionsFit-held os ps [] held h = tt
SubscriptionsFit-held os ps (s ∷ ss) held h = ((h.0.0, h.0.1, h.0.2, held s.object h.0.3), SubscriptionsFit-held os ps ss held h.1)
