-- Where a name stands among names that rise.
use Rattle.std.proofs.Common.{◌≡◌, ℕ, zero, suc, ◌<◌, ◌≤◌, true, false, List, [], ◌∷◌, length, get_or, refl, sym, ap, ◌∙◌, arith}
use Rattle.std.specs.Prelude.{bytes_eq, None, Result, Ok, Err}
use Rattle.std.specs.List.Sorted.{IsSearchInRange, IsBinarySearchResult, IsNonDecreasingBy}
use Rattle.std.specs.Cmp.{IsTotalOrder}
use Rattle.std.specs.Cmp.Lexicographic.{slice_cmp}
use Rattle.std.specs.Ordering.{nat_cmp, ordering_index, ordering_reverse, is_lt, is_eq}
use Rattle.std.specs.declared.cmp.Ordering.{Ordering}
use Rattle.std.specs.declared.cmp.Ordering.TheVariants.{Less, Equal, Greater}
use Rattle.std.proofs.lemmas.Cmp.{nat_list_cmp_total}
use Rattle.std.proofs.lemmas.Map.Text.{is_eq-slice_cmp}
use Rattle.std.proofs.lemmas.Slice.Eq.{bytes_eq-Decides}
use Rattle.tea_base.specs.Order.{IsBefore, comes_before}
use Rattle.tea_base.proofs.Order.{comes_before-is_lt}
use Rattle.world_plain.specs.Valid.{IsBeforeAll, KnownRise}
use Rattle.world_plain.specs.declared.world.Known.{Known}
use Rattle.known_names.specs.Names.{object_known}
use Rattle.known_names.specs.Places.{IsPlaceOf}

-- ---- the order of two names

abbrev order : List ℕ → List ℕ → Ordering
order = slice_cmp nat_cmp

total : IsTotalOrder order
total = nat_list_cmp_total

-- what the order of a known name beside a name says of the name beside the known one
pub record IsSmaller (x y : List ℕ) : Type 0 where
  pub apart : bytes_eq x y ≡ false
  pub behind : comes_before x y ≡ false

pub record IsGreater (x y : List ℕ) : Type 0 where
  pub apart : bytes_eq x y ≡ false
  pub before : comes_before x y ≡ true

turned : (x y : List ℕ) (r : Ordering) → order y x ≡ r → order x y ≡ ordering_reverse r
turned x y r e = total.antisymm x y ∙ ap ordering_reverse e

smaller : (x y : List ℕ) → order y x ≡ Less → IsSmaller x y
smaller x y e =
    let other : order x y ≡ Greater = turned x y Less e in
    record { apart = sym (is_eq-slice_cmp x y) ∙ ap is_eq other; behind = comes_before-is_lt x y ∙ ap is_lt other }

greater : (x y : List ℕ) → order y x ≡ Greater → IsGreater x y
greater x y e =
    let other : order x y ≡ Less = turned x y Greater e in
    record { apart = sym (is_eq-slice_cmp x y) ∙ ap is_eq other; before = comes_before-is_lt x y ∙ ap is_lt other }

same : (x y : List ℕ) → order y x ≡ Equal → x ≡ y
same x y e = sym ((bytes_eq-Decides y x).0 (sym (is_eq-slice_cmp y x) ∙ ap is_eq e))

is_less : (r : Ordering) → is_lt r ≡ true → r ≡ Less
is_less Less e = refl
is_less Equal e = absurd cc
is_less Greater e = absurd cc

before-less : (x y : List ℕ) → IsBefore x y → order x y ≡ Less
before-less x y h = is_less (order x y) (sym (comes_before-is_lt x y) ∙ h)

-- ---- names that rise, as a search asks

before_at : (y : List ℕ) (ks : List Known) (i : ℕ) (d : Known) → IsBeforeAll y ks → i < length ks → IsBefore y (get_or ks i d).name
before_at y [] i d h inside = absurd (omega arith)
before_at y (k ∷ ks) zero d h inside = h.0
before_at y (k ∷ ks) (suc i) d h inside = before_at y ks i d h.1 (omega arith)

ranks_rise : (x a b : List ℕ) (r : Ordering) → order a x ≡ r → order a b ≡ Less → ordering_index r ≤ ordering_index (order b x)
ranks_rise x a b Less e less = omega arith
ranks_rise x a b Equal e less =
    let above : order b x ≡ Greater = turned b x Less (sym (total.congr a x b e) ∙ less) in
    rw above (omega arith)
ranks_rise x a b Greater e less =
    let above : order b x ≡ Greater = turned b x Less (total.trans x a b (turned x a Greater e) less) in
    rw above (omega arith)

rise_at : (x : List ℕ) (ks : List Known) (i j : ℕ) (d : Known) → KnownRise ks → i ≤ j → j < length ks → ordering_index (order (get_or ks i d).name x) ≤ ordering_index (order (get_or ks j d).name x)
rise_at x [] i j d h le inside = absurd (omega arith)
rise_at x (k ∷ ks) zero zero d h le inside = omega arith
rise_at x (k ∷ ks) zero (suc j) d h le inside =
    ranks_rise x k.name (get_or ks j d).name (order k.name x) refl (before-less k.name (get_or ks j d).name (before_at k.name ks j d h.0 (omega arith)))
rise_at x (k ∷ ks) (suc i) zero d h le inside = absurd (omega arith)
rise_at x (k ∷ ks) (suc i) (suc j) d h le inside = rise_at x ks i j d h.1 (omega arith) (omega arith)

-- ---- where a name stands

known_at : (x : List ℕ) (ks : List Known) (i : ℕ) → KnownRise ks → i < length ks → ((d : Known) → order (get_or ks i d).name x ≡ Equal) → IsPlaceOf (Ok i) x ks
known_at x [] i rise inside at = absurd (omega arith)
known_at x (k ∷ ks) zero rise inside at =
    let is : x ≡ k.name = same x k.name (at k) in
    let test : bytes_eq x k.name ≡ true = (bytes_eq-Decides x k.name).1 is in
    ((k, refl, sym is, rw test refl), λ object. rw test refl)
known_at x (k ∷ ks) (suc i) rise inside at =
    let is : x ≡ (get_or ks i k).name = same x (get_or ks i k).name (at k) in
    let first : order k.name x ≡ Less = ap (order k.name) is ∙ before-less k.name (get_or ks i k).name (before_at k.name ks i k rise.0 (omega arith)) in
    let passed : IsSmaller x k.name = smaller x k.name first in
    let apart = passed.apart in
    let behind = passed.behind in
    let later : IsPlaceOf (Ok i) x ks = known_at x ks i rise.1 (omega arith) at in (
      (later.0.0, later.0.1, later.0.2, rw apart later.0.3),
      λ object. rw (apart, behind) (ap (λ (rest : List Known). k ∷ rest) (later.1 object)),
    )

-- ---- where a name would stand

unknown : (x : List ℕ) (ks : List Known) → ((i : ℕ) (d : Known) → i < length ks → order (get_or ks i d).name x ≡ Greater) → object_known x ks ≡ None
unknown x [] above = refl
unknown x (k ∷ ks) above =
    let passed : IsGreater x k.name = greater x k.name (above 0 k (omega arith)) in
    let apart = passed.apart in
    rw apart (unknown x ks (λ i d inside. above (suc i) d (omega arith)))

gap_at : (x : List ℕ) (ks : List Known) (i : ℕ) → i ≤ length ks → ((j : ℕ) (d : Known) → j < i → order (get_or ks j d).name x ≡ Less) → ((j : ℕ) (d : Known) → i ≤ j → j < length ks → order (get_or ks j d).name x ≡ Greater)
    → IsPlaceOf (Err i) x ks
gap_at x [] zero inside below above = (omega arith, refl, λ object. refl)
gap_at x [] (suc i) inside below above = absurd (omega arith)
gap_at x (k ∷ ks) zero inside below above =
    let passed : IsGreater x k.name = greater x k.name (above 0 k (omega arith) (omega arith)) in
    let apart = passed.apart in
    let before = passed.before in
    (omega arith, unknown x (k ∷ ks) (λ j d within. above j d (omega arith) within), λ object. rw (apart, before) refl)
gap_at x (k ∷ ks) (suc i) inside below above =
    let passed : IsSmaller x k.name = smaller x k.name (below 0 k (omega arith)) in
    let apart = passed.apart in
    let behind = passed.behind in
    let later : IsPlaceOf (Err i) x ks = gap_at x ks i (omega arith) (λ j d lt. below (suc j) d (omega arith)) (λ j d le lt. above (suc j) d (omega arith) (omega arith)) in
    (omega arith, rw apart later.1, λ object. rw (apart, behind) (ap (λ (rest : List Known). k ∷ rest) (later.2 object)))

-- what a binary search by name ends at is the place of the name
pub searched : (x : List ℕ) (ks : List Known) → KnownRise ks → (r : Result ℕ ℕ) → IsSearchInRange r (length ks) → IsBinarySearchResult (λ (k : Known). slice_cmp nat_cmp k.name x) ks r → IsPlaceOf r x ks
searched x ks rise (Ok place) inside equal = known_at x ks place rise inside equal
searched x ks rise (Err place) inside parted =
    let up : IsNonDecreasingBy (λ (k : Known). ordering_index (slice_cmp nat_cmp k.name x)) ks = λ i j d le lt. rise_at x ks i j d rise le lt in
    let sides = parted up in
    gap_at x ks place inside (λ j d lt. sides.0 j d (omega arith) lt) (λ j d le lt. sides.1 j d le lt)
