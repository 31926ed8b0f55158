-- Sums over views, and facts of them, where one view is replaced.
use Rattle.std.proofs.Common.{◌≡◌, ℕ, zero, suc, ◌+◌, ◌<◌, ◌≤◌, ◌≢◌, List, [], ◌∷◌, ◌++◌, length, get_or, set, sym, refl, ap, ◌∙◌, subst, arith, ⊎_elim}
use Rattle.std.specs.Prelude.{sum_by}
use Rattle.std.proofs.lemmas.List.Sums.{sum_by-cons, sum_by-set, sum_by_push}
use mathlib.Core.Logic.{dite}
use mathlib.Core.Option.{some, some-injective, some-ne-none}
use native.Mathlib.Decide.{ℕ_discrete}
use lib.ListN.{get_elem?}
use Rattle.atomic_table.proofs.Lists.{at_longer, at_set, at_snoc, set_else, set_here}
use Rattle.id_claims.specs.declared.knowledge.Knowledge.{Knowledge}
use Rattle.id_claims.specs.Rules.{Every, SomeView}

-- what stands at a place stands within the list
pub at_within : {A : Type 0} (l : List A) (i : ℕ) (a : A) → get_elem? l i ≡ some a → i < length l
at_within [] i a e = absurd (some-ne-none a (sym e))
at_within (x ∷ xs) zero a e = omega arith
at_within (x ∷ xs) (suc i) a e = let r = at_within xs i a e in omega arith

at_read : {A : Type 0} (l : List A) (i : ℕ) (a d : A) → get_elem? l i ≡ some a → get_or l i d ≡ a
at_read [] i a d e = absurd (some-ne-none a (sym e))
at_read (x ∷ xs) zero a d e = some-injective x a e
at_read (x ∷ xs) (suc i) a d e = at_read xs i a d e

-- one place has one view
pub one_at : (views : List Knowledge) (i j : ℕ) (u v : Knowledge) → get_elem? views j ≡ some u → get_elem? views i ≡ some v → j ≡ i → u ≡ v
one_at views i j u v atj at is = some-injective u v (sym atj ∙ (ap (λ (n : ℕ). get_elem? views n) is ∙ at))

module _ (f : Knowledge → ℕ) where
  pub total_set : (views : List Knowledge) (i : ℕ) (v w : Knowledge) → get_elem? views i ≡ some v → sum_by f (set views i w) + f v ≡ sum_by f views + f w
  total_set views i v w at = ap (λ (u : Knowledge). sum_by f (set views i w) + f u) (sym (at_read views i v v at)) ∙ sum_by-set f views i w v (at_within views i v at)

  pub total_same : (views : List Knowledge) (i : ℕ) (v w : Knowledge) → get_elem? views i ≡ some v → f w ≡ f v → sum_by f (set views i w) ≡ sum_by f views
  total_same views i v w at same = let r = total_set views i v w at in omega (arith, r, same)

  pub total_has : (views : List Knowledge) (i : ℕ) (v : Knowledge) → get_elem? views i ≡ some v → f v ≤ sum_by f views
  total_has [] i v e = absurd (some-ne-none v (sym e))
  total_has (x ∷ xs) zero v e = let is : f x ≡ f v = ap f (some-injective x v e) in let c = sum_by-cons f x xs in omega (arith, is, c)
  total_has (x ∷ xs) (suc i) v e = let r = total_has xs i v e in let c = sum_by-cons f x xs in omega (arith, r, c)

  -- two views have no more than all
  pub total_two : (views : List Knowledge) (i j : ℕ) (v w : Knowledge) → get_elem? views i ≡ some v → get_elem? views j ≡ some w → i ≢ j → f v + f w ≤ sum_by f views
  total_two [] i j v w e d ne = absurd (some-ne-none v (sym e))
  total_two (x ∷ xs) zero zero v w e d ne = absurd (ne refl)
  total_two (x ∷ xs) zero (suc j) v w e d ne = let is : f x ≡ f v = ap f (some-injective x v e) in let r = total_has xs j w d in let c = sum_by-cons f x xs in omega (arith, is, r, c)
  total_two (x ∷ xs) (suc i) zero v w e d ne = let is : f x ≡ f w = ap f (some-injective x w d) in let r = total_has xs i v e in let c = sum_by-cons f x xs in omega (arith, is, r, c)
  total_two (x ∷ xs) (suc i) (suc j) v w e d ne = let r = total_two xs i j v w e d (λ p. ne (ap suc p)) in let c = sum_by-cons f x xs in omega (arith, r, c)

  pub total_none : (views : List Knowledge) → Every (λ v. f v ≡ 0) views → sum_by f views ≡ 0
  total_none [] h = refl
  total_none (x ∷ xs) h = let first = h 0 x refl in let others = total_none xs (λ i v e. h (suc i) v e) in let c = sum_by-cons f x xs in omega (arith, first, others, c)

  -- a view is cut in two
  pub total_cut : (views : List Knowledge) (i : ℕ) (v l r : Knowledge) → get_elem? views i ≡ some v → f l + f r ≡ f v → sum_by f (set views i l ++ r ∷ []) ≡ sum_by f views
  total_cut views i v l r at same = let a = total_set views i v l at in let b = sum_by_push f (set views i l) r in omega (arith, a, b, same)

  -- a view takes in another
  pub total_join : (views : List Knowledge) (i j : ℕ) (v w both gone : Knowledge) → get_elem? views i ≡ some v → get_elem? (set views i both) j ≡ some w → f both + f gone ≡ f v + f w → sum_by f (set (set views i both) j gone) ≡ sum_by f views
  total_join views i j v w both gone at also same = let a = total_set views i v both at in let b = total_set (set views i both) j w gone also in omega (arith, a, b, same)

module _ (P : Knowledge → Type 0) where
  pub every_set : (views : List Knowledge) (i : ℕ) (w : Knowledge) → Every P views → P w → Every P (set views i w)
  every_set views i w h p j u e = ⊎_elim (λ (t : (j ≡ i) × (w ≡ u)). subst P t.1 p) (λ (t : (j ≢ i) × (get_elem? views j ≡ some u)). h j u t.1) (at_set views i j w u e)

  pub every_snoc : (views : List Knowledge) (w : Knowledge) → Every P views → P w → Every P (views ++ w ∷ [])
  every_snoc views w h p j u e = ⊎_elim (λ (old : get_elem? views j ≡ some u). h j u old) (λ (new : w ≡ u). subst P new p) (at_snoc views w u j e)

  pub every_one : (v : Knowledge) → P v → Every P (v ∷ [])
  every_one v p zero u e = subst P (some-injective v u e) p
  every_one v p (suc j) u e = absurd (some-ne-none u (sym e))

  -- what holds of some view holds of one still, where it goes on to hold of the one that is replaced
  pub some_set : (views : List Knowledge) (i : ℕ) (v w : Knowledge) → get_elem? views i ≡ some v → (P v → P w) → SomeView P views → SomeView P (set views i w)
  some_set views i v w at go (j, u, atj, p) = dite (ℕ_discrete j i)
      (λ is. (i, w, set_here views i w (at_within views i v at), go (subst P (one_at views i j u v atj at is) p)))
      (λ ne. (j, u, set_else views i j w ne ∙ atj, p))

  pub some_snoc : (views : List Knowledge) (w : Knowledge) → SomeView P views → SomeView P (views ++ w ∷ [])
  some_snoc views w (j, u, atj, p) = (j, u, at_longer views (w ∷ []) j u atj, p)

  pub some_join : (views : List Knowledge) (i j : ℕ) (v w both gone : Knowledge) → get_elem? views i ≡ some v → get_elem? views j ≡ some w → ¬ (j ≡ i) → (P v → P both) → (P w → P both) → SomeView P views → SomeView P (set (set views i both) j gone)
  some_join views i j v w both gone at atj ne one other (k, u, atk, p) =
      let here : get_elem? (set (set views i both) j gone) i ≡ some both = set_else (set views i both) j i gone (λ e. ne (sym e)) ∙ set_here views i both (at_within views i v at) in
      dite (ℕ_discrete k i)
      (λ is. (i, both, here, one (subst P (one_at views i k u v atk at is) p)))
      (λ not_one. dite (ℕ_discrete k j)
      (λ is. (i, both, here, other (subst P (one_at views j k u w atk atj is) p)))
      (λ not_other. (k, u, set_else (set views i both) j k gone not_other ∙ (set_else views i k both not_one ∙ atk), p)))

-- the others keep what holds of them, where that may depend on their not being the one that is replaced
pub every_set_else : (P Q : Knowledge → Type 0) (views : List Knowledge) (i : ℕ) (w : Knowledge) → ((j : ℕ) (u : Knowledge) → j ≢ i → get_elem? views j ≡ some u → P u → Q u) → Every P views → Q w → Every Q (set views i w)
every_set_else P Q views i w go h q j u e =
    ⊎_elim (λ (t : (j ≡ i) × (w ≡ u)). subst Q t.1 q) (λ (t : (j ≢ i) × (get_elem? views j ≡ some u)). go j u t.0 t.1 (h j u t.1)) (at_set views i j w u e)
