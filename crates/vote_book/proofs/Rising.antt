-- Two lists of rising numbers with the same members are one list.
use Rattle.std.proofs.Common.{ℕ, suc, ◌<◌, ◌≡◌, Bool, true, false, cond, ◌||◌, eqb, ltb, List, [], ◌∷◌, refl, sym, ap, ◌∙◌, arith}
use Rattle.std.specs.List.{AllByRecursion, AllPairs, list_any}
use Rattle.std.proofs.lemmas.Bool.{eqb-true, false≢true}
use Rattle.std.proofs.lemmas.Bool.Decides.{nat_tests}
use Rattle.std.proofs.lemmas.List.Elements.{recursion_from_All}
use Rattle.vote_book.specs.VoteBook.{put_rising}

-- each is below those after it
abbrev pub AllRise : List ℕ → Type 0
AllRise [] = Unit {0}
AllRise (n ∷ ns) = AllByRecursion (λ (m : ℕ). n < m) ns × AllRise ns

abbrev pub has : List ℕ → ℕ → Bool
has ns n = list_any (eqb n) ns

same : (n : ℕ) → eqb n n ≡ true
same n = grind (arith, nat_tests)

apart : (n m : ℕ) → n < m → eqb n m ≡ false
apart n m lt = grind (arith, nat_tests)

or-false : (a b : Bool) → a ≡ false → b ≡ false → (a || b) ≡ false
or-false a b p q = ap (λ (c : Bool). c || b) p ∙ q

absent : (n : ℕ) (ns : List ℕ) → AllByRecursion (λ (m : ℕ). n < m) ns → has ns n ≡ false
absent n [] up = refl
absent n (m ∷ ns) up = or-false (eqb n m) (has ns n) (apart n m up.0) (absent n ns up.1)

further : (n m : ℕ) → n < m → (ns : List ℕ) → AllByRecursion (λ (k : ℕ). m < k) ns → AllByRecursion (λ (k : ℕ). n < k) ns
further n m lt [] up = tt
further n m lt (k ∷ ns) up = (omega (arith, lt, up.0), further n m lt ns up.1)

-- what is below the first is no member
low : (n m : ℕ) (ns : List ℕ) → n < m → AllRise (m ∷ ns) → has (m ∷ ns) n ≡ false
low n m ns lt up = absent n (m ∷ ns) (lt, further n m lt ns up.0)

first_is : (n : ℕ) (ns : List ℕ) → has (n ∷ ns) n ≡ true
first_is n ns = ap (λ (b : Bool). b || has ns n) (same n)

-- ---- one more number in its place

below_put : (n k : ℕ) (ns : List ℕ) → n < k → AllByRecursion (λ (m : ℕ). n < m) ns → AllByRecursion (λ (m : ℕ). n < m) (put_rising k ns)
below_put n k [] lt up = (lt, tt)
below_put n k (m ∷ ns) lt up = by (ltb k m) (eqb k m) (below_put n k ns lt up.1)
  where
    by : (below equal : Bool) → AllByRecursion (λ (m : ℕ). n < m) (put_rising k ns)
        → AllByRecursion (λ (m : ℕ). n < m) (cond below (k ∷ m ∷ ns) (cond equal (m ∷ ns) (m ∷ put_rising k ns)))
    by true equal rest = (lt, up)
    by false true rest = up
    by false false rest = (up.0, rest)

pub rise-put : (k : ℕ) (ns : List ℕ) → AllRise ns → AllRise (put_rising k ns)
rise-put k [] up = (tt, tt)
rise-put k (m ∷ ns) up = by (ltb k m) refl (eqb k m) refl (rise-put k ns up.1)
  where
    by : (below : Bool) → ltb k m ≡ below → (equal : Bool) → eqb k m ≡ equal → AllRise (put_rising k ns)
        → AllRise (cond below (k ∷ m ∷ ns) (cond equal (m ∷ ns) (m ∷ put_rising k ns)))
    by true is equal other rest = let lt : k < m = grind (arith, nat_tests) in ((lt, further k m lt ns up.0), up)
    by false is true other rest = up
    by false is false other rest = let lt : m < k = grind (arith, nat_tests) in (below_put m k ns lt up.0, rest)

or_swap : (a b c : Bool) → (a || (b || c)) ≡ (b || (a || c))
or_swap true true c = refl
or_swap true false c = refl
or_swap false b c = refl

or_twice : (a b : Bool) → (a || b) ≡ (a || (a || b))
or_twice true b = refl
or_twice false b = refl

pub has-put : (k : ℕ) (ns : List ℕ) (n : ℕ) → has (put_rising k ns) n ≡ (eqb n k || has ns n)
has-put k [] n = refl
has-put k (m ∷ ns) n = by (ltb k m) (eqb k m) refl (has-put k ns n)
  where
    by : (below equal : Bool) → eqb k m ≡ equal → has (put_rising k ns) n ≡ (eqb n k || has ns n)
        → has (cond below (k ∷ m ∷ ns) (cond equal (m ∷ ns) (m ∷ put_rising k ns))) n ≡ (eqb n k || (eqb n m || has ns n))
    by true equal is rest = refl
    by false true is rest =
        let one : k ≡ m = eqb-true k m is in
        or_twice (eqb n m) (has ns n) ∙ ap (λ (j : ℕ). eqb n j || (eqb n m || has ns n)) (sym one)
    by false false is rest = ap (λ (b : Bool). eqb n m || b) rest ∙ or_swap (eqb n m) (eqb n k) (has ns n)

-- ---- the same members

heads : (x y : ℕ) (xs ys : List ℕ) → AllRise (x ∷ xs) → AllRise (y ∷ ys) → ((n : ℕ) → has (x ∷ xs) n ≡ has (y ∷ ys) n) → x ≡ y
heads x y xs ys upx upy alike = by (ltb x y) refl (ltb y x) refl
  where
    by : (less : Bool) → ltb x y ≡ less → (more : Bool) → ltb y x ≡ more → x ≡ y
    by true is more other = let lt : x < y = grind (arith, nat_tests) in absurd (false≢true (sym (low x y ys lt upy) ∙ sym (alike x) ∙ first_is x xs))
    by false is true other = let lt : y < x = grind (arith, nat_tests) in absurd (false≢true (sym (low y x xs lt upx) ∙ alike y ∙ first_is y ys))
    by false is false other = grind (arith, nat_tests)

rest_same : (x y : ℕ) (xs ys : List ℕ) → AllRise (x ∷ xs) → AllRise (y ∷ ys) → x ≡ y → ((n : ℕ) → has (x ∷ xs) n ≡ has (y ∷ ys) n) → (n : ℕ) → has xs n ≡ has ys n
rest_same x y xs ys upx upy one alike n = by (eqb n x) refl
  where
    by : (b : Bool) → eqb n x ≡ b → has xs n ≡ has ys n
    by true is =
        let at : n ≡ x = eqb-true n x is in
        ap (has xs) at ∙ absent x xs upx.0 ∙ sym (absent y ys upy.0) ∙ sym (ap (has ys) (at ∙ one))
    by false is =
        sym (ap (λ (b : Bool). b || has xs n) is) ∙ alike n ∙ ap (λ (b : Bool). b || has ys n) (sym (ap (eqb n) one) ∙ is)

pub same_members : (xs ys : List ℕ) → AllRise xs → AllRise ys → ((n : ℕ) → has xs n ≡ has ys n) → xs ≡ ys
same_members [] [] upx upy alike = refl
same_members [] (y ∷ ys) upx upy alike = absurd (false≢true (alike y ∙ first_is y ys))
same_members (x ∷ xs) [] upx upy alike = absurd (false≢true (sym (alike x) ∙ first_is x xs))
same_members (x ∷ xs) (y ∷ ys) upx upy alike =
    let one : x ≡ y = heads x y xs ys upx upy alike in
    ap (λ (n : ℕ). n ∷ xs) one ∙ ap (λ (l : List ℕ). y ∷ l) (same_members xs ys upx.1 upy.1 (rest_same x y xs ys upx upy one alike))

-- numbers of which each is below each later one
pub rise_from_pairs : (ns : List ℕ) → AllPairs (λ n m. n < m) ns → AllRise ns
rise_from_pairs [] pairs = tt
rise_from_pairs (n ∷ ns) pairs = (
  recursion_from_All (λ (m : ℕ). n < m) ns (λ k d lt. pairs 0 (suc k) d (omega arith) (omega arith)),
  rise_from_pairs ns (λ i j d lt within. pairs (suc i) (suc j) d (omega arith) (omega arith)),
)
