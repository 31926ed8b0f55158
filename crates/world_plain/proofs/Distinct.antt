-- Items differ exactly where their keys, once sorted, rise from neighbour to neighbour.
use Rattle.std.proofs.Common.{◌≡◌, ℕ, zero, suc, ◌+◌, ◌<◌, Bool, true, false, List, [], ◌∷◌, length, get_or, map, Some, None, refl, sym, ap, subst, ◌∙◌, arith}
use Rattle.std.specs.Prelude.{slice_get}
use Rattle.std.specs.Option.{option_map}
use Rattle.std.specs.Cmp.{IsTotalOrder}
use Rattle.std.specs.List.{AllByRecursion, IsAllAdjacentAnswer, IsDistinct, range_with_len}
use Rattle.std.specs.List.Sorted.{IsPermutation, IsSortedBy}
use Rattle.std.specs.declared.cmp.Ordering.{Ordering}
use Rattle.std.specs.Ordering.{is_eq, is_lt, eq_by_cmp, ordering_reverse}
use Rattle.std.specs.declared.cmp.Ordering.TheVariants.{Less, Equal, Greater}
use Rattle.std.proofs.lemmas.Bool.{false≢true}
use Rattle.std.proofs.lemmas.Cmp.{eq_by_cmp_equiv}
use Rattle.std.proofs.lemmas.List.{length-map}
use Rattle.std.proofs.lemmas.List.FromFn.{fill_by_all}
use Rattle.std.proofs.lemmas.List.Sorted.{IsPermutation-map, IsPermutation-sym}
use Rattle.std.proofs.lemmas.Map.Keys.{IsDistinct-IsPermutation}
use native.Mathlib.Numerals.{add-one}
use Rattle.world_plain.specs.Valid.{EachBefore}

less : (r : Ordering) → true ≡ is_lt r → r ≡ Less
less Less e = refl
less Equal e = absurd (false≢true (sym e))
less Greater e = absurd (false≢true (sym e))

neither : (r : Ordering) → false ≡ is_lt r → is_lt (ordering_reverse r) ≡ false → is_eq r ≡ true
neither Less e h = absurd (false≢true e)
neither Equal e h = refl
neither Greater e h = absurd (false≢true (sym h))

module _ {K : Type 0} {R : K → K → Ordering} (o : IsTotalOrder R) where
  -- each key is less than that of the next place
  abbrev Rise : (ℕ → K) → List ℕ → Type 0
  Rise key places = (k d : ℕ) → suc k < length places → R (key (get_or places k d)) (key (get_or places (suc k) d)) ≡ Less

  above : (key : ℕ → K) (x : K) (p : ℕ) (ps : List ℕ) → R x (key p) ≡ Less → Rise key (p ∷ ps) → AllByRecursion (λ y. eq_by_cmp R x y ≡ false) (map key (p ∷ ps))
  above key x p [] first up = (ap is_eq first, tt)
  above key x p (q ∷ ps) first up =
      (ap is_eq first, above key x q ps (o.trans x (key p) (key q) first (up 0 p (omega arith))) (λ k d h. up (suc k) d (omega arith)))

  rising_differ : (key : ℕ → K) (ps : List ℕ) → Rise key ps → IsDistinct (eq_by_cmp R) (map key ps)
  unfolding IsDistinct
  rising_differ key [] up = tt
  rising_differ key (p ∷ []) up = (tt, tt)
  rising_differ key (p ∷ q ∷ ps) up =
      (above key (key p) q ps (up 0 p (omega arith)) (λ k d h. up (suc k) d (omega arith)), rising_differ key (q ∷ ps) (λ k d h. up (suc k) d (omega arith)))

  neighbours_differ : (key : ℕ → K) (ps : List ℕ) (k d : ℕ) → suc k < length ps → IsDistinct (eq_by_cmp R) (map key ps) → is_eq (R (key (get_or ps k d)) (key (get_or ps (suc k) d))) ≡ false
  unfolding IsDistinct
  neighbours_differ key [] k d h all = absurd (omega arith)
  neighbours_differ key (p ∷ []) k d h all = absurd (omega arith)
  neighbours_differ key (p ∷ q ∷ ps) zero d h all = all.0.0
  neighbours_differ key (p ∷ q ∷ ps) (suc k) d h all = neighbours_differ key (q ∷ ps) k d (omega arith) all.1

  sorted_tell : (key : ℕ → K) (ps : List ℕ)
      → IsSortedBy (λ p q. is_lt (R (key p) (key q))) ps
      → (r : Bool)
      → IsAllAdjacentAnswer (λ p q b. b ≡ is_lt (R (key p) (key q))) ps r
      → (r ≡ true → IsDistinct (eq_by_cmp R) (map key ps)) × (IsDistinct (eq_by_cmp R) (map key ps) → r ≡ true)
  sorted_tell key ps sorted true up =
      let rise : Rise key ps = λ k d h. less _ (subst (λ (j : ℕ). true ≡ is_lt (R (key (get_or ps k d)) (key (get_or ps j d)))) (add-one k) (up k d (omega arith))) in
      (λ _. rising_differ key ps rise, λ _. refl)
  sorted_tell key ps sorted false found =
      let k : ℕ = found.0 in
      let a : K = key (get_or ps k 0) in
      let b : K = key (get_or ps (k + 1) 0) in
      let back : is_lt (ordering_reverse (R a b)) ≡ false = sym (ap is_lt (o.antisymm b a)) ∙ sorted k 0 (omega arith) found.1 in
      let tied : is_eq (R a b) ≡ true = neither (R a b) (found.2 0) back in (
        λ e. absurd (false≢true e),
        λ all. absurd (false≢true (sym (subst (λ (j : ℕ). is_eq (R a (key (get_or ps j 0))) ≡ false) (sym (add-one k)) (neighbours_differ key ps k 0 (omega (arith, found.1)) all)) ∙ tied)),
      )

  module _ {A : Type 0} (Differ : A → A → Type 0) (of : A → K) (tells : (x y : A) → (Differ x y → eq_by_cmp R (of x) (of y) ≡ false) × (eq_by_cmp R (of x) (of y) ≡ false → Differ x y)) where
    all_tell : (x : A) (xs : List A) → (AllByRecursion (Differ x) xs → AllByRecursion (λ k. eq_by_cmp R (of x) k ≡ false) (map of xs)) × (AllByRecursion (λ k. eq_by_cmp R (of x) k ≡ false) (map of xs) → AllByRecursion (Differ x) xs)
    all_tell x [] = (λ _. tt, λ _. tt)
    all_tell x (y ∷ ys) = (λ h. ((tells x y).0 h.0, (all_tell x ys).0 h.1), λ h. ((tells x y).1 h.0, (all_tell x ys).1 h.1))

    each_tells : (xs : List A) → (EachBefore Differ xs → IsDistinct (eq_by_cmp R) (map of xs)) × (IsDistinct (eq_by_cmp R) (map of xs) → EachBefore Differ xs)
    unfolding IsDistinct
    each_tells [] = (λ _. tt, λ _. tt)
    each_tells (x ∷ xs) = (λ h. ((all_tell x xs).0 h.0, (each_tells xs).0 h.1), λ h. ((all_tell x xs).1 h.0, (each_tells xs).1 h.1))

    -- places that are sorted by their keys rise by them exactly where the items at the places differ
    pub differ_where_sorted : (xs : List A) (key : ℕ → K) (n : ℕ) (ps : List ℕ)
        → map of xs ≡ map key (range_with_len 0 n)
        → IsPermutation (range_with_len 0 n) ps
        → IsSortedBy (λ p q. is_lt (R (key p) (key q))) ps
        → (r : Bool)
        → IsAllAdjacentAnswer (λ p q b. b ≡ is_lt (R (key p) (key q))) ps r
        → (r ≡ true → EachBefore Differ xs) × (EachBefore Differ xs → r ≡ true)
    differ_where_sorted xs key n ps same moved sorted r answer =
        let tell = sorted_tell key ps sorted r answer in
        let flips = (eq_by_cmp_equiv o).symm in
        let keys : IsPermutation (map of xs) (map key ps) = rw same (IsPermutation-map key (range_with_len 0 n) ps moved) in (
          λ e. (each_tells xs).1 (IsDistinct-IsPermutation (eq_by_cmp R) flips (map key ps) (map of xs) (IsPermutation-sym (map of xs) (map key ps) keys) (tell.0 e)),
          λ h. tell.1 (IsDistinct-IsPermutation (eq_by_cmp R) flips (map of xs) (map key ps) keys ((each_tells xs).0 h)),
        )

-- ---- the keys of all places

found_at : {A B : Type 0} (f : A → B) (xs : List A) (k : ℕ) → get_or (map (λ (x : A). Some (f x)) xs) k None ≡ option_map f (slice_get xs k)
found_at f [] k = refl
found_at f (x ∷ xs) zero = refl
found_at f (x ∷ xs) (suc k) = found_at f xs k

-- what f gives of each item is what it gives of the item at each place
pub all_places : {A B : Type 0} (f : A → B) (xs : List A) → map (λ (x : A). Some (f x)) xs ≡ map (λ (k : ℕ). option_map f (slice_get xs k)) (range_with_len 0 (length xs))
all_places {A} f xs =
    fill_by_all (λ (k : ℕ). option_map f (slice_get xs k)) (map (λ (x : A). Some (f x)) xs) (length xs) None (length-map xs (λ (x : A). Some (f x))) (λ k h. found_at f xs k)

item_at : {A : Type 0} (xs : List A) (k : ℕ) → get_or (map (λ (x : A). Some x) xs) k None ≡ slice_get xs k
item_at [] k = refl
item_at (x ∷ xs) zero = refl
item_at (x ∷ xs) (suc k) = item_at xs k

-- the items are those at each place
pub all_items : {A : Type 0} (xs : List A) → map (λ (x : A). Some x) xs ≡ map (slice_get xs) (range_with_len 0 (length xs))
all_items {A} xs =
    fill_by_all (slice_get xs) (map (λ (x : A). Some x) xs) (length xs) None (length-map xs (λ (x : A). Some x)) (λ k h. item_at xs k)
