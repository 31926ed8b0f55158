-- Places in a rising list: what stands before one and behind it.
use Rattle.std.proofs.Common.{◌≡◌, ℕ, zero, suc, ◌<◌, ◌≤◌, List, [], ◌∷◌, ◌++◌, length, get_or, take, drop, refl, ap, arith}
use Rattle.std.specs.Prelude.{insert}
use Rattle.std.proofs.lemmas.Bool.{lt-ltb, le-ltb, eq-eqb, ne_eqb}
use Rattle.world.specs.Worlds.{with_view, without_view}

-- where a greater one stands
pub with-here : (view : ℕ) (xs : List ℕ) (i other : ℕ) → i < length xs → view < get_or xs i other → with_view view (drop i xs) ≡ view ∷ drop i xs
with-here view [] i other h less = absurd (omega (arith, h))
with-here view (x ∷ xs) zero other h less = rw (lt-ltb view x less) refl
with-here view (x ∷ xs) (suc i) other h less = with-here view xs i other (omega (arith, h)) less

-- where another one stands
pub with-behind : (view : ℕ) (xs : List ℕ) (i other : ℕ) → i < length xs → get_or xs i other ≤ view → take i xs ++ with_view view (drop i xs) ≡ take (suc i) xs ++ with_view view (drop (suc i) xs)
with-behind view [] i other h le = absurd (omega (arith, h))
with-behind view (x ∷ xs) zero other h le = rw (le-ltb view x le) refl
with-behind view (x ∷ xs) (suc i) other h le = ap (λ rest. x ∷ rest) (with-behind view xs i other (omega (arith, h)) le)

pub without-here : (view : ℕ) (xs : List ℕ) (i other : ℕ) → i < length xs → view ≡ get_or xs i other → without_view view (drop i xs) ≡ drop (suc i) xs
without-here view [] i other h same = absurd (omega (arith, h))
without-here view (x ∷ xs) zero other h same = rw (eq-eqb view x same) refl
without-here view (x ∷ xs) (suc i) other h same = without-here view xs i other (omega (arith, h)) same

pub without-behind : (view : ℕ) (xs : List ℕ) (i other : ℕ) → i < length xs → ¬ (view ≡ get_or xs i other) → take i xs ++ without_view view (drop i xs) ≡ take (suc i) xs ++ without_view view (drop (suc i) xs)
without-behind view [] i other h differ = absurd (omega (arith, h))
without-behind view (x ∷ xs) zero other h differ = rw (ne_eqb view x differ) refl
without-behind view (x ∷ xs) (suc i) other h differ = ap (λ rest. x ∷ rest) (without-behind view xs i other (omega (arith, h)) differ)

-- at the end
pub with-end : (view : ℕ) (xs : List ℕ) (i : ℕ) → length xs ≤ i → take i xs ++ with_view view (drop i xs) ≡ insert xs (length xs) view
with-end view [] zero h = refl
with-end view [] (suc i) h = refl
with-end view (x ∷ xs) zero h = absurd (omega (arith, h))
with-end view (x ∷ xs) (suc i) h = ap (λ rest. x ∷ rest) (with-end view xs i (omega (arith, h)))

pub without-end : (view : ℕ) (xs : List ℕ) (i : ℕ) → length xs ≤ i → take i xs ++ without_view view (drop i xs) ≡ xs
without-end view [] zero h = refl
without-end view [] (suc i) h = refl
without-end view (x ∷ xs) zero h = absurd (omega (arith, h))
without-end view (x ∷ xs) (suc i) h = ap (λ rest. x ∷ rest) (without-end view xs i (omega (arith, h)))
