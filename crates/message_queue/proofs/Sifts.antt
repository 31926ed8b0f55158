-- A message that rises or sinks in a heap, the first of a heap, and how many comparisons are few.
use Rattle.std.proofs.Common.{◌≡◌, ℕ, zero, suc, ◌+◌, ◌-◌, ◌*◌, ◌/◌, ◌^◌, ◌≤◌, ◌<◌, ◌⊎◌, inl, inr, Bool, true, false, List, ◌++◌, length, take, drop, get_or, refl, ap, ◌∙◌, arith}
use Rattle.std.proofs.lemmas.Bool.{cases_eq}
use Rattle.std.proofs.lemmas.List.{take-append-le, take_all}
use Rattle.std.proofs.Math.Nat.{pow-suc, pow-le-pow_right}
use Rattle.std.proofs.lemmas.List.Elements.{pair_read}
use Rattle.std.specs.List.{SwappedAt}
use Rattle.std.specs.Cmp.{IsStrictWeakOrder}
use Rattle.std.specs.Slice.Heapsort.{IsHeapWithin}
use Rattle.message_queue.specs.Heap.{CountsFew}

chosen : {A B P : Type 0} → A ⊎ B → (A → P) → (B → P) → P
chosen (inl a) f g = f a
chosen (inr b) f g = g b

either : {P : Type 0} (m n : ℕ) → (m ≡ n → P) → ((m ≡ n → ⊥) → P) → P
either m n = chosen (cases_eq m n)

module _ {X : Type 0} (lt : X → X → Bool) where
  by : (a b x y : X) → a ≡ x → b ≡ y → lt x y ≡ false → lt a b ≡ false
  by a b x y p q h = (λ k. lt (p k) (q k)) ∙ h

  -- what a test of items that were read at two places says of those places
  pub read_both : (xs : List X) (i j : ℕ) (x y : X) (b : Bool) → i < length xs → j < length xs → x ≡ get_or xs i x → y ≡ get_or xs j y → lt x y ≡ b → (d : X) → lt (get_or xs i d) (get_or xs j d) ≡ b
  read_both xs i j x y b p q e f h d = pair_read xs (λ u v. lt u v ≡ b) i j x y p q e f h d

  -- of the first n only the item at j may be less than its parent, and that parent is no less than the children of j
  pub record Rises (xs : List X) (j n : ℕ) : Type 0 where
    pub pairs : (p k : ℕ) (d : X) → p * 2 + 1 ≤ k → k ≤ p * 2 + 2 → k < n → (k ≡ j → ⊥) → lt (get_or xs p d) (get_or xs k d) ≡ false
    pub over : (p k : ℕ) (d : X) → p * 2 + 1 ≤ j → j ≤ p * 2 + 2 → j * 2 + 1 ≤ k → k ≤ j * 2 + 2 → k < n → lt (get_or xs p d) (get_or xs k d) ≡ false

  pub rise_begins : (xs : List X) (j n : ℕ) → n ≤ j + 1 → IsHeapWithin lt xs 0 j → Rises xs j n
  rise_begins xs j n le h = record {
    pairs = λ p k d a b f u. h p k d (omega arith) a b (omega (arith, u));
    over = λ p k d a b f g i. absurd (omega arith);
  }

  pub rise_tops : (xs : List X) (j n : ℕ) → j ≤ 0 → Rises xs j n → IsHeapWithin lt xs 0 n
  rise_tops xs j n z h = λ p k d lo a b f. h.pairs p k d a b f (λ e. absurd (omega arith))

  pub rise_rests : (xs : List X) (p j n : ℕ) → p * 2 + 1 ≤ j → j ≤ p * 2 + 2 → ((d : X) → lt (get_or xs p d) (get_or xs j d) ≡ false) → Rises xs j n → IsHeapWithin lt xs 0 n
  rise_rests xs p j n from to t h = λ q k d lo a b f. either k j
      (λ e. let same : q ≡ p = omega arith in by _ _ _ _ (ap (λ m. get_or xs m d) same) (ap (λ m. get_or xs m d) e) (t d))
      (λ u. h.pairs q k d a b f u)

  module _ (o : IsStrictWeakOrder lt) where
    pub rise_steps : (xs ys : List X) (p j n : ℕ) → p * 2 + 1 ≤ j → j ≤ p * 2 + 2 → j < n → SwappedAt xs ys j p → ((d : X) → lt (get_or xs p d) (get_or xs j d) ≡ true) → Rises xs j n → Rises ys p n
    rise_steps xs ys p j n from to in' s t h = record {
      pairs = λ q k d a b f u. either q p
          (λ e. either k j
          (λ v. by _ _ _ _ (ap (λ m. get_or ys m d) e ∙ s.1 d) (ap (λ m. get_or ys m d) v ∙ s.0 d) (o.one_way _ _ (t d)))
          (λ v. by _ _ _ _ (ap (λ m. get_or ys m d) e ∙ s.1 d) (s.2 k d v u) (o.chain _ _ _ (o.one_way _ _ (t d)) (h.pairs p k d (omega arith) (omega arith) f v))))
          (λ w. either q j
          (λ e. by _ _ _ _ (ap (λ m. get_or ys m d) e ∙ s.0 d) (s.2 k d (omega arith) u) (h.over p k d from to (omega arith) (omega arith) f))
          (λ z. let v : k ≡ j → ⊥ = λ e. absurd (w (omega arith)) in by _ _ _ _ (s.2 q d z w) (s.2 k d v u) (h.pairs q k d a b f v)));
      over = λ q k d a b f g i.
          let above = h.pairs q p d a b (omega arith) (omega arith) in
          let same = s.2 q d (omega arith) (omega arith) in
          either k j
          (λ e. by _ _ _ _ same (ap (λ m. get_or ys m d) e ∙ s.0 d) above)
          (λ v. by _ _ _ _ same (s.2 k d v (omega arith)) (o.chain _ _ _ above (h.pairs p k d f g i v)));
    }

    itself : (xs : List X) (j k : ℕ) (d : X) → k ≡ j → lt (get_or xs j d) (get_or xs k d) ≡ false
    itself xs j k d e = by _ _ _ _ refl (ap (λ m. get_or xs m d) e) (never _ refl)
      where
        never : (b : Bool) → lt (get_or xs j d) (get_or xs j d) ≡ b → lt (get_or xs j d) (get_or xs j d) ≡ false
        never true e = o.one_way _ _ e
        never false e = e

    -- the first of a heap is less than none
    pub first_of_heap : (xs : List X) (n : ℕ) (d : X) → IsHeapWithin lt xs 0 n → (fuel k : ℕ) → k ≤ fuel → k < n → lt (get_or xs 0 d) (get_or xs k d) ≡ false
    first_of_heap xs n d h zero k a b = itself xs 0 k d (omega arith)
    first_of_heap xs n d h (suc fuel) k a b = either k 0 (itself xs 0 k d)
        (λ u. o.chain _ _ _ (first_of_heap xs n d h fuel ((k - 1) / 2) (omega arith) (omega arith)) (h ((k - 1) / 2) k d (omega arith) (omega arith) (omega arith) b))

-- what a slice of all items leaves in their vector
pub written_back : {X : Type 0} (xs ys : List X) (n : ℕ) → length xs ≡ n → take n (xs ++ drop (length xs) ys) ≡ xs
written_back xs ys n e = let le : n ≤ length xs = omega arith in rw take-append-le (take_all n xs (omega arith))

-- ---- how many comparisons are few

-- at a place in a heap that is at least so many levels down, two comparisons a level were counted
pub record Counted (place old new : ℕ) : Type 0 where
  pub levels : ℕ
  pub deep : 2 ^ levels ≤ place + 1
  pub more : old ≤ new
  pub few : new ≤ old + 2 * levels

pub none_counted : (place old : ℕ) → Counted place old old
none_counted place old = record { levels = 0; deep = omega arith; more = omega arith; few = omega arith }

pub two_counted : (place child old new more : ℕ) → place * 2 + 1 ≤ child → new ≤ more → more ≤ new + 2 → Counted place old new → Counted child old more
two_counted place child old new more below up few c = record {
  levels = suc c.levels;
  deep = omega (arith, pow-suc 2 c.levels, c.deep);
  more = omega (arith, c.more);
  few = omega (arith, c.few);
}

few_levels : (levels digits : ℕ) → (digits < levels → ⊥) → levels ≤ digits
few_levels levels digits h = omega (arith, h)

pub few_counted : (place n old new more : ℕ) → place ≤ n → new ≤ more → more ≤ new + 2 → Counted place old new → CountsFew n old more
few_counted place n old new more within up few c = (
  omega (arith, c.more),
  λ digits short.
      let low : c.levels ≤ digits = few_levels c.levels digits (λ far. absurd (
      let grown : 2 ^ suc digits ≤ 2 ^ c.levels = pow-le-pow_right (omega arith) (omega arith) in
      omega (arith, grown, pow-suc 2 digits, c.deep))) in
      omega (arith, c.few, low),
)
