-- Elements of lists by their places.
use Rattle.std.proofs.Common.{◌≡◌, ◌≢◌, ℕ, ◌<◌, ◌≤◌, zero, suc, List, [], ◌∷◌, ◌++◌, All, length, set, take, get_or, Some, refl, sym, ap, ◌∙◌, subst, arith}
use Rattle.std.specs.List.{slice_get}
use Rattle.std.proofs.lemmas.Option.{get_or_from_slice_get, same_Some, slice_get-get_or, slice_get_within}

-- there is an element at each place within a list
pub element_at : {A : Type 0} (xs : List A) (place : ℕ) → place < length xs → (x : A) × (slice_get xs place ≡ Some x)
element_at [] place within = absurd (omega (arith, within))
element_at (x ∷ xs) zero within = (x, refl)
element_at (x ∷ xs) (suc place) within = element_at xs place (omega (arith, within))

pub same_element : {A : Type 0} (xs : List A) (place : ℕ) (x y : A) → slice_get xs place ≡ Some x → slice_get xs place ≡ Some y → x ≡ y
same_element xs place x y one other = same_Some x y (sym one ∙ other)

pub set_here : {A : Type 0} (xs : List A) (place : ℕ) (x : A) → place < length xs → slice_get (set xs place x) place ≡ Some x
set_here [] place x within = absurd (omega (arith, within))
set_here (y ∷ xs) zero x within = refl
set_here (y ∷ xs) (suc place) x within = set_here xs place x (omega (arith, within))

pub set_there : {A : Type 0} (xs : List A) (place other : ℕ) (x : A) → other ≢ place → slice_get (set xs place x) other ≡ slice_get xs other
set_there [] place other x apart = refl
set_there (y ∷ xs) zero zero x apart = absurd (apart refl)
set_there (y ∷ xs) zero (suc other) x apart = refl
set_there (y ∷ xs) (suc place) zero x apart = refl
set_there (y ∷ xs) (suc place) (suc other) x apart = set_there xs place other x (λ same. apart (ap suc same))

pub push_before : {A : Type 0} (xs : List A) (y : A) (place : ℕ) → place < length xs → slice_get (xs ++ y ∷ []) place ≡ slice_get xs place
push_before [] y place within = absurd (omega (arith, within))
push_before (x ∷ xs) y zero within = refl
push_before (x ∷ xs) y (suc place) within = push_before xs y place (omega (arith, within))

pub push_last : {A : Type 0} (xs : List A) (y : A) → slice_get (xs ++ y ∷ []) (length xs) ≡ Some y
push_last [] y = refl
push_last (x ∷ xs) y = push_last xs y

-- what is so of each element is so of this one
pub all_at : {A : Type 0} (P : A → Type 0) (xs : List A) (place : ℕ) (x : A) → All P xs → slice_get xs place ≡ Some x → P x
all_at P xs place x all at = subst P (get_or_from_slice_get xs place x x at) (all place x (slice_get_within xs place x at))

pub at_all : {A : Type 0} (P : A → Type 0) (xs : List A) → ((place : ℕ) (x : A) → slice_get xs place ≡ Some x → P x) → All P xs
at_all P xs each place d within = each place (get_or xs place d) (slice_get-get_or xs place d within)

-- ---- the first elements

-- the elements of the first ones are those of all
pub take_get : {A : Type 0} (n : ℕ) (xs : List A) (place : ℕ) (x : A) → slice_get (take n xs) place ≡ Some x → slice_get xs place ≡ Some x
take_get zero xs place x is = absurd (cc (is))
take_get (suc n) [] place x is = absurd (cc (is))
take_get (suc n) (y ∷ xs) zero x is = is
take_get (suc n) (y ∷ xs) (suc place) x is = take_get n xs place x is

pub get_take : {A : Type 0} (n : ℕ) (xs : List A) (place : ℕ) (x : A) → place < n → slice_get xs place ≡ Some x → slice_get (take n xs) place ≡ Some x
get_take zero xs place x below is = absurd (omega (arith, below))
get_take (suc n) [] place x below is = absurd (cc (is))
get_take (suc n) (y ∷ xs) zero x below is = is
get_take (suc n) (y ∷ xs) (suc place) x below is = get_take n xs place x (omega (arith, below)) is

pub take_long : {A : Type 0} (n : ℕ) (xs : List A) → n ≤ length xs → length (take n xs) ≡ n
take_long zero xs few = refl
take_long (suc n) [] few = absurd (omega (arith, few))
take_long (suc n) (y ∷ xs) few = ap suc (take_long n xs (omega (arith, few)))
