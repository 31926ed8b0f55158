-- The object of a number is one of the objects, and has that number.
use Rattle.std.proofs.Common.{◌≡◌, ℕ, Bool, true, false, List, [], ◌∷◌, Option, Some, subst}
use Rattle.std.specs.Prelude.{nat_eq}
use Rattle.world_plain.specs.World.{ObjectRecord}
use Rattle.world_plain.specs.Valid.{object_at, if_same, ObjectFits, ObjectsFit}

fits-if_same :
    (counts : List ℕ) (next : ℕ) (same : Bool) (first : ObjectRecord) (other : Option ObjectRecord) (o : ObjectRecord)
    → ObjectFits counts next first
    → (other ≡ Some o → ObjectFits counts next o)
    → if_same same first other ≡ Some o
    → ObjectFits counts next o
fits-if_same counts next true first other o fit later e = let found : first ≡ o = cc in subst (ObjectFits counts next) found fit
fits-if_same counts next false first other o fit later e = later e

pub ObjectsFit-at : (counts : List ℕ) (next : ℕ) (os : List ObjectRecord) (id : ℕ) (o : ObjectRecord) → ObjectsFit counts next os → object_at os id ≡ Some o → ObjectFits counts next o
ObjectsFit-at counts next [] id o fit e = cc
ObjectsFit-at counts next (first ∷ os) id o fit e =
    fits-if_same counts next (nat_eq first.id id) first (object_at os id) o fit.0 (ObjectsFit-at counts next os id o fit.1) e
