-- Lists of one element.
use Rattle.std.proofs.Common.{◌≡◌, ℕ, zero, suc, All, List, [], ◌∷◌, ◌++◌, length, Some, refl, sym, ap, subst, arith}
use Rattle.std.specs.List.{slice_get}
use Rattle.std.proofs.lemmas.List.{length_push}
use Rattle.std.proofs.lemmas.Option.{same_Some}
use Rattle.host_server.specs.Rows.{AtEach}
use Rattle.host_server.proofs.ClosingLaws.{both_more}
use Rattle.host_server.proofs.Places.{at_all}
use Rattle.host_posts.proofs.RoundLaws.{each_none}

pub one_in : {A : Type 0} (xs : List A) → length xs ≡ 1 → (x : A) × (xs ≡ x ∷ [])
one_in [] long = absurd (omega (arith, long))
one_in (x ∷ []) long = (x, refl)
one_in (x ∷ y ∷ xs) long = absurd (omega (arith, long))

-- the last element is the only one
pub only_one : {A : Type 0} (xs rest : List A) (x : A) → xs ≡ rest ++ x ∷ [] → length xs ≡ 1 → xs ≡ x ∷ []
only_one xs [] x is long = is
only_one xs (y ∷ rest) x is long = absurd (let all = ap length is in let more = length_push rest x in omega (arith, all, more, long))

pub at_first : {A : Type 0} (xs : List A) (x : A) → xs ≡ x ∷ [] → slice_get xs 0 ≡ Some x
at_first {A} xs x is = ap (λ (l : List A). slice_get l 0) is

pub all_one : {A : Type 0} (P : A → Type 0) (xs : List A) (x : A) → xs ≡ x ∷ [] → P x → All P xs
all_one P xs x is one = subst (All P) (sym is) (at_all P (x ∷ []) at)
  where
    at : (place : ℕ) (y : _) → slice_get (x ∷ []) place ≡ Some y → P y
    at zero y in_xs = subst P (same_Some x y in_xs) one
    at (suc place) y in_xs = absurd (cc (in_xs))

pub each_one : {A B : Type 0} (P : A → B → Type 0) (x : A) (y : B) (ys : List B) → ys ≡ y ∷ [] → P x y → AtEach P (x ∷ []) ys
each_one P x y ys is one = subst (AtEach P (x ∷ [])) (sym is) (both_more P x y [] [] one (each_none P [] [] refl refl))

pub first_of : {A B : Type 0} (P : A → B → Type 0) (x : A) (y : B) (ys : List B) → AtEach P (x ∷ []) ys → ys ≡ y ∷ [] → P x y
first_of P x y ys all is = all.each 0 x y refl (at_first ys y is)
