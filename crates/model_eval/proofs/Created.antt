-- What a new object keeps of the objects.
use Rattle.std.proofs.Common.{◌≡◌, ℕ, zero, suc, ◌+◌, ◌<◌, Bool, true, false, List, [], ◌∷◌, ◌++◌, map, Option, Some, nat_eq, ap, arith, slice_get}
use Rattle.std.specs.Prelude.{replicate}
use Rattle.model_value.specs.Plain.{PlainValue, InBounds}
use Rattle.world_plain.specs.World.{ObjectRecord, total_weight}
use Rattle.world_plain.specs.Valid.{RiseFrom, object_at, if_same, ObjectFits, ObjectsFit, SubscriptionFits, SubscriptionsFit}
use Rattle.model_value.specs.Plain.{AllInBounds}
use Rattle.world_plain.specs.declared.message.Subscription.{Subscription}
use Rattle.model_eval.proofs.FieldBounds.{StillHeld}

-- the ids rise, where the new one is above all others
pub ids-appended : (counts : List ℕ) (low : ℕ) (os : List ObjectRecord) (o : ObjectRecord)
    → ObjectsFit counts o.id os → low < o.id → RiseFrom low (map (λ o. o.id) os) → RiseFrom low (map (λ o. o.id) (os ++ o ∷ []))
ids-appended counts low [] o fit above h = (above, tt)
ids-appended counts low (p ∷ ps) o fit above h = (h.0, ids-appended counts p.id ps o fit.1 fit.0.0 h.1)

pub ObjectsFit-appended : (counts : List ℕ) (next : ℕ) (os : List ObjectRecord) (o : ObjectRecord)
    → ObjectsFit counts next os → ObjectFits counts (next + 1) o → ObjectsFit counts (next + 1) (os ++ o ∷ [])
ObjectsFit-appended counts next [] o fit new = (new, tt)
ObjectsFit-appended counts next (p ∷ ps) o fit new = let below : p.id < next = fit.0.0 in ((omega arith, fit.0.1, fit.0.2), ObjectsFit-appended counts next ps o fit.1 new)

-- what is found in one way is found in another
pub found-still : (same : Bool) (o q : ObjectRecord) (x y : Option ObjectRecord) → (x ≡ Some q → y ≡ Some q) → if_same same o x ≡ Some q → if_same same o y ≡ Some q
found-still true o q x y h e = e
found-still false o q x y h e = h e

object_at-appended : (os ps : List ObjectRecord) (id : ℕ) (q : ObjectRecord) → object_at os id ≡ Some q → object_at (os ++ ps) id ≡ Some q
object_at-appended [] ps id q e = absurd cc
object_at-appended (o ∷ os) ps id q e = found-still (nat_eq o.id id) o q (object_at os id) (object_at (os ++ ps) id) (object_at-appended os ps id q) e

pub appended-held : (os ps : List ObjectRecord) → StillHeld os (os ++ ps)
appended-held os ps id held = (held.0, object_at-appended os ps id held.0 held.1)

pub replicate-in_bounds : (n : ℕ) (v : PlainValue) → InBounds v → AllInBounds (replicate n v)
replicate-in_bounds zero v h = tt
replicate-in_bounds (suc n) v h = (h, replicate-in_bounds n v h)

pub total-appended : {A : Type 0} (weighs : A → ℕ) (xs : List A) (x : A) → total_weight weighs (xs ++ x ∷ []) ≡ total_weight weighs xs + weighs x
total-appended weighs [] x = omega arith
total-appended weighs (y ∷ ys) x = omega (arith, total-appended weighs ys x)

pub get-mapped : {A B : Type 0} (f : A → B) (xs : List A) (i : ℕ) (x : A) → slice_get xs i ≡ Some x → slice_get (map f xs) i ≡ Some (f x)
get-mapped f [] i x e = absurd cc
get-mapped f (y ∷ ys) zero x e = let same : y ≡ x = cc in ap (λ y. Some (f y)) same
get-mapped f (y ∷ ys) (suc i) x e = get-mapped f ys i x e

pub SubscriptionsFit-appended : (os : List ObjectRecord) (ss : List Subscription) (s : Subscription) → SubscriptionsFit os ss → SubscriptionFits os s → SubscriptionsFit os (ss ++ s ∷ [])
SubscriptionsFit-appended os [] s h fits = (fits, tt)
SubscriptionsFit-appended os (t ∷ ts) s h fits = (h.0, SubscriptionsFit-appended os ts s h.1 fits)
