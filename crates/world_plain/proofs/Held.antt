-- What a binary search among objects by rising number tells of the object of a number.
use Rattle.std.proofs.Common.{◌≡◌, ℕ, zero, suc, ◌<◌, ◌≤◌, inl, inr, List, [], ◌∷◌, length, get_or, map, Bool, true, false, Option, Some, Result, Ok, Err, nat_eq, refl, sym, IsTrue, arith}
use Rattle.std.specs.Prelude.{◌↔◌, is_ok}
use Rattle.std.specs.List.Sorted.{IsSearchInRange, IsBinarySearchResult, IsNonDecreasingBy}
use Rattle.std.specs.Ordering.{nat_cmp, ordering_index}
use Rattle.std.proofs.lemmas.Cmp.{ranked}
use Rattle.std.proofs.lemmas.Bool.Decides.{nat_tests}
use Rattle.std.proofs.lemmas.Bool.{cases_lt, both_ways, eq-eqb, eqb-true}
use Rattle.std.proofs.lemmas.Option.{none-some}
use Rattle.world_plain.specs.World.{ObjectRecord, object_record}
use Rattle.world_plain.specs.Valid.{RiseFrom, IsHeld, object_at, if_same}
use Rattle.world_plain.specs.declared.world.PlainObject.{PlainObject}

-- ---- numbers that rise

-- objects by rising number, each above this one
abbrev pub IdsRiseFrom : ℕ → List PlainObject → Type 0
IdsRiseFrom low os = RiseFrom low (map (λ o. o.id) (map object_record os))

above : (low : ℕ) (os : List PlainObject) → IdsRiseFrom low os → (i : ℕ) (d : PlainObject) → i < length os → low < (get_or os i d).id
above low [] rise i d h = absurd (omega arith)
above low (o ∷ os) rise zero d h = rise.0
above low (o ∷ os) rise (suc i) d h = let first = rise.0 in omega (arith, above o.id os rise.1 i d (omega arith))

ids_rise : (low : ℕ) (os : List PlainObject) → IdsRiseFrom low os → (i j : ℕ) (d : PlainObject) → i ≤ j → j < length os → (get_or os i d).id ≤ (get_or os j d).id
ids_rise low [] rise i j d le h = absurd (omega arith)
ids_rise low (o ∷ os) rise zero zero d le h = omega arith
ids_rise low (o ∷ os) rise zero (suc j) d le h = omega (arith, above o.id os rise.1 j d (omega arith))
ids_rise low (o ∷ os) rise (suc i) zero d le h = absurd (omega arith)
ids_rise low (o ∷ os) rise (suc i) (suc j) d le h = ids_rise o.id os rise.1 i j d (omega arith) (omega arith)

-- ---- which object is found

held-if_same : (same : Bool) (o : ObjectRecord) (other : Option ObjectRecord) → (same ≡ false → (x : ObjectRecord) × (other ≡ Some x)) → (x : ObjectRecord) × (if_same same o other ≡ Some x)
held-if_same true o other later = (o, refl)
held-if_same false o other later = later refl

-- where an object has the number, it is held
at_place : (os : List PlainObject) (id i : ℕ) → i < length os → ((d : PlainObject) → (get_or os i d).id ≡ id) → IsHeld (map object_record os) id
at_place [] id i h same = absurd (omega arith)
at_place (o ∷ os) id zero h same = held-if_same (nat_eq o.id id) (object_record o) (object_at (map object_record os) id) (λ differ. absurd (both_ways (nat_eq o.id id) differ (eq-eqb o.id id (same o))))
at_place (o ∷ os) id (suc i) h same = held-if_same (nat_eq o.id id) (object_record o) (object_at (map object_record os) id) (λ _. at_place os id i (omega arith) same)

missing-if_same : (same : Bool) (o : ObjectRecord) (other : Option ObjectRecord) (x : ObjectRecord) → (same ≡ true → ⊥) → (other ≡ Some x → ⊥) → if_same same o other ≡ Some x → ⊥
missing-if_same true o other x here later e = here refl
missing-if_same false o other x here later e = later e

-- and where none has, none is
nowhere : (os : List PlainObject) (id : ℕ) → ((i : ℕ) (d : PlainObject) → i < length os → (get_or os i d).id ≡ id → ⊥) → IsHeld (map object_record os) id → ⊥
nowhere [] id none held = none-some held.0 held.1
nowhere (o ∷ os) id none held =
    missing-if_same (nat_eq o.id id) (object_record o) (object_at (map object_record os) id) held.0 (λ same. none 0 o (omega arith) (eqb-true o.id id same))
    (λ found. nowhere os id (λ i d h. none (suc i) d (omega arith)) (held.0, found)) held.1

-- ---- the search

module _ (os : List PlainObject) (rise : IdsRiseFrom 0 os) (id : ℕ) where
  comparisons_rise : IsNonDecreasingBy (λ (o : PlainObject). ordering_index (nat_cmp o.id id)) os
  comparisons_rise i j d le h = let ids = ids_rise 0 os rise i j d le h in grind (arith, nat_tests, ids)

  -- a binary search ends at an object of the number exactly where one is held
  pub searched : (r : Result ℕ ℕ) → IsSearchInRange r (length os) → IsBinarySearchResult (λ (o : PlainObject). nat_cmp o.id id) os r → (b : Bool) → b ≡ is_ok r → (IsTrue b ↔ IsHeld (map object_record os) id)
  searched (Ok at) in_range equal b e = (λ _. at_place os id at in_range (λ d. ranked _ id _ (sym (equal d))), λ _. e)
  searched (Err at) in_range parted b e = (
    λ is. absurd (both_ways b e is),
    λ held. absurd (nowhere os id (λ i d h same. elim (cases_lt i at) [
      | inl below ↦ let less : (get_or os i d).id < id = ranked _ id _ (sym ((parted comparisons_rise).0 i d (omega arith) below)) in omega arith
      | inr behind ↦ let greater : id < (get_or os i d).id = ranked _ id _ (sym ((parted comparisons_rise).1 i d behind h)) in omega arith
    ]) held),
  )
