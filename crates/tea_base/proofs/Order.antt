-- The order of texts is an order, and it is that of their characters.
use Rattle.std.proofs.Common.{◌≡◌, ◌⊎◌, ℕ, ◌<◌, inl, inr, Bool, true, false, ◌&&◌, ◌||◌, List, [], ◌∷◌, nat_eq, nat_lt, refl, sym, ap₂, ◌∙◌, arith, if◌then◌else◌}
use Rattle.std.specs.Ordering.{nat_cmp, ordering_then, is_lt}
use Rattle.std.specs.Cmp.Lexicographic.{slice_cmp}
use Rattle.std.specs.declared.cmp.Ordering.{Ordering}
use Rattle.std.specs.declared.cmp.Ordering.TheVariants.{Less, Equal, Greater}
use Rattle.std.proofs.lemmas.Bool.{lt-ltb, ltb-true, ltb-false, eq-eqb, eqb-true, eqb-false}
use Rattle.tea_base.specs.Order.{comes_before, IsBefore}

-- the front characters tell, or what stands behind them
front_tells : (b c d : Bool) (x y : ℕ) → (b ≡ true → x < y) → (c ≡ true → x ≡ y) → (b || (c && d)) ≡ true → (x < y) ⊎ ((x ≡ y) × (d ≡ true))
front_tells true c d x y f g e = inl (f refl)
front_tells false true true x y f g e = inr (g refl, refl)
front_tells false true false x y f g e = absurd cc
front_tells false false d x y f g e = absurd cc

front_is : (b c d : Bool) (x y : ℕ) → (x < y → b ≡ true) → (x ≡ y → c ≡ true) → (x < y) ⊎ ((x ≡ y) × (d ≡ true)) → (b || (c && d)) ≡ true
front_is true c d x y f g h = refl
front_is false c d x y f g (inl h) = let no = f h in absurd cc
front_is false c d x y f g (inr h) = ap₂ (λ p q. p && q) (g h.0) h.1

before_cons : (c d : ℕ) (cs ds : List ℕ) → IsBefore (c ∷ cs) (d ∷ ds) → (c < d) ⊎ ((c ≡ d) × IsBefore cs ds)
before_cons c d cs ds = front_tells (nat_lt c d) (nat_eq c d) (comes_before cs ds) c d (ltb-true c d) (eqb-true c d)

cons_before : (c d : ℕ) (cs ds : List ℕ) → (c < d) ⊎ ((c ≡ d) × IsBefore cs ds) → IsBefore (c ∷ cs) (d ∷ ds)
cons_before c d cs ds = front_is (nat_lt c d) (nat_eq c d) (comes_before cs ds) c d (lt-ltb c d) (eq-eqb c d)

before_both : {P Q : Type 0} (c d e : ℕ) → (c < d) ⊎ ((c ≡ d) × P) → (d < e) ⊎ ((d ≡ e) × Q) → (c < e) ⊎ ((c ≡ e) × (P × Q))
before_both c d e (inl h) (inl g) = inl (omega arith)
before_both c d e (inl h) (inr g) = inl (omega (arith, g.0))
before_both c d e (inr h) (inl g) = inl (omega (arith, h.0))
before_both c d e (inr h) (inr g) = inr (h.0 ∙ g.0, (h.1, g.1))

behind_front : {P Q R : Type 0} → (Q → R) → P ⊎ Q → P ⊎ R
behind_front f (inl p) = inl p
behind_front f (inr q) = inr (f q)

pub IsBefore-trans : (x y z : List ℕ) → IsBefore x y → IsBefore y z → IsBefore x z
IsBefore-trans x [] z h g = absurd cc
IsBefore-trans x (d ∷ ds) [] h g = absurd cc
IsBefore-trans [] (d ∷ ds) (e ∷ es) h g = refl
IsBefore-trans (c ∷ cs) (d ∷ ds) (e ∷ es) h g =
    cons_before c e cs es (behind_front (λ both. (both.0, IsBefore-trans cs ds es both.1.0 both.1.1)) (before_both c d e (before_cons c d cs ds h) (before_cons d e ds es g)))

-- of two texts that differ one comes before the other
after_tells : (b c d : Bool) (x y : ℕ) (P : Type 0)
    → (b ≡ false → ¬ (x < y)) → (c ≡ true → x ≡ y) → (c ≡ false → ¬ (x ≡ y)) → (d ≡ false → x ≡ y → P) → (b || (c && d)) ≡ false → (y < x) ⊎ ((y ≡ x) × P)
after_tells true c d x y P f g k h e = absurd cc
after_tells false true true x y P f g k h e = absurd cc
after_tells false true false x y P f g k h e = inr (sym (g refl), h refl (g refl))
after_tells false false d x y P f g k h e = let above : ¬ (x < y) = f refl in let apart : ¬ (x ≡ y) = k refl in inl (omega (arith, above, apart))

pub comes_before-false : (x y : List ℕ) → ¬ (x ≡ y) → comes_before x y ≡ false → IsBefore y x
comes_before-false [] [] apart e = absurd (apart refl)
comes_before-false (c ∷ cs) [] apart e = refl
comes_before-false [] (d ∷ ds) apart e = absurd cc
comes_before-false (c ∷ cs) (d ∷ ds) apart e =
    cons_before d c ds cs (after_tells (nat_lt c d) (nat_eq c d) (comes_before cs ds) c d (IsBefore ds cs) (λ b below. let least = ltb-false c d b in omega (arith, least)) (eqb-true c d) (eqb-false c d)
    (λ b same. comes_before-false cs ds (λ rest. apart (ap₂ (λ x xs. x ∷ xs) same rest)) b) e)

-- the front characters decide, or what stands behind them
front_decides : (less same b : Bool) (o : Ordering) → b ≡ is_lt o → (less || (same && b)) ≡ is_lt (ordering_then (if less then Less else (if same then Equal else Greater)) o)
front_decides true same b o e = refl
front_decides false true b o e = e
front_decides false false b o e = refl

pub comes_before-is_lt : (x y : List ℕ) → comes_before x y ≡ is_lt (slice_cmp nat_cmp x y)
comes_before-is_lt [] [] = refl
comes_before-is_lt (c ∷ cs) [] = refl
comes_before-is_lt [] (d ∷ ds) = refl
comes_before-is_lt (c ∷ cs) (d ∷ ds) = front_decides (nat_lt c d) (nat_eq c d) (comes_before cs ds) (slice_cmp nat_cmp cs ds) (comes_before-is_lt cs ds)

pub ruleset by_order = (comes_before-is_lt)
