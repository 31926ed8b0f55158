-- Known names beside the objects, with one more, and which object one tells.
use Rattle.std.proofs.Common.{◌≡◌, ℕ, Bool, true, false, List, [], ◌∷◌, refl, ap, ◌∙◌, if◌then◌else◌, bytes_eq}
use Rattle.std.specs.Prelude.{Option, Some, None}
use Rattle.model_value.specs.Plain.{PlainValue, TextFits, nil, ref}
use Rattle.world_plain.specs.World.{ObjectRecord}
use Rattle.world_plain.specs.Valid.{IsHeld, KnownFit}
use Rattle.world_plain.specs.declared.world.Known.{Known}
use Rattle.known_names.specs.Names.{object_known, with_known}
use Rattle.known_names.proofs.KnownOrder.{with_known-cases}
use Rattle.model_tree.specs.Tree.{Name}
use Rattle.world_state.specs.Objects.{known_by}

pub KnownFit-with_known : (os : List ObjectRecord) (x : Name) (object : ℕ) (ks : List Known) → TextFits x → IsHeld os object → KnownFit os ks → KnownFit os (with_known x object ks)
KnownFit-with_known os x object [] fits held h = ((fits, held), tt)
KnownFit-with_known os x object (k ∷ ks) fits held h =
    with_known-cases (KnownFit os) x object k ks (λ _. ((fits, held), h.1)) (λ _. ((fits, held), h)) (λ _. (h.0, KnownFit-with_known os x object ks fits held h.1))

-- the object that was found, or nil
abbrev told : Option ℕ → PlainValue
told None = nil
told (Some object) = ref object

told-first : (same : Bool) (object : ℕ) (v : PlainValue) (found : Option ℕ) → v ≡ told found → (if same then ref object else v) ≡ told (if same then Some object else found)
told-first true object v found later = refl
told-first false object v found later = later

known_by-told : (x : Name) (ks : List Known) → known_by x ks ≡ told (object_known x ks)
known_by-told x [] = refl
known_by-told x (k ∷ ks) = told-first (bytes_eq x k.name) k.object (known_by x ks) (object_known x ks) (known_by-told x ks)

pub known_by-none : (x : Name) (ks : List Known) → object_known x ks ≡ None → known_by x ks ≡ nil
known_by-none x ks none = known_by-told x ks ∙ ap told none

pub known_by-some : (x : Name) (object : ℕ) (ks : List Known) → object_known x ks ≡ Some object → known_by x ks ≡ ref object
known_by-some x object ks some = known_by-told x ks ∙ ap told some
