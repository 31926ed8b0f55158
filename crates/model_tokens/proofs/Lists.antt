-- The front of a list that passes a test, and what stands behind it.
use Rattle.std.proofs.Common.{arith, ◌≤◌, Option, Some, None, ◌≡◌, ℕ, suc, ◌+◌, Bool, true, false, ◌&&◌, cond, List, [], ◌∷◌, ◌++◌, length, take, drop, refl, ap, ◌∙◌, one-add}
use Rattle.std.proofs.lemmas.List.{take-append-drop}
use Rattle.std.proofs.lemmas.List.Sums.{prefix_len-le-length}
use Rattle.std.proofs.lemmas.Bool.Decides.{nat_tests}
use Rattle.std.specs.Prelude.{not, nat_lt, unwrap_or}
use Rattle.std.specs.List.{prefix_len, list_all}
use Rattle.model_tokens.specs.Division.{EndsBefore}
use Rattle.model_tokens.specs.Reader.{front, rest_past}

pub both : (a b : Bool) → (a && b) ≡ true → (a ≡ true) × (b ≡ true)
both true b h = (refl, h)
both false b h = cc

pub from_both : (a b : Bool) → a ≡ true → b ≡ true → (a && b) ≡ true
from_both a b h k = rw (h, k) refl

-- a list that passes, before what does not go on
pub length_front : (test : ℕ → Bool) (xs ys : List ℕ) → list_all test xs ≡ true → EndsBefore test ys → prefix_len test (xs ++ ys) ≡ length xs
length_front test [] [] all ends = refl
length_front test [] (y ∷ ys) all ends = rw ends refl
length_front test (x ∷ xs) ys all ends =
    let each = both (test x) (list_all test xs) all in
    let here : test x ≡ true = each.0 in
    rw here (one-add (prefix_len test (xs ++ ys)) ∙ ap suc (length_front test xs ys each.1 ends))

pub take_front : (xs ys : List ℕ) → take (length xs) (xs ++ ys) ≡ xs
take_front [] ys = refl
take_front (x ∷ xs) ys = ap (λ zs. x ∷ zs) (take_front xs ys)

pub drop_front : (xs ys : List ℕ) → drop (length xs) (xs ++ ys) ≡ ys
drop_front [] ys = refl
drop_front (x ∷ xs) ys = drop_front xs ys

pub front_is : (test : ℕ → Bool) (xs ys : List ℕ) → list_all test xs ≡ true → EndsBefore test ys → front test (xs ++ ys) ≡ xs
front_is test xs ys all ends = ap (λ n. take n (xs ++ ys)) (length_front test xs ys all ends) ∙ take_front xs ys

pub behind_is : (test : ℕ → Bool) (xs ys : List ℕ) → list_all test xs ≡ true → EndsBefore test ys → rest_past test (xs ++ ys) ≡ ys
behind_is test xs ys all ends = ap (λ n. drop n (xs ++ ys)) (length_front test xs ys all ends) ∙ drop_front xs ys

-- what the front and the rest are, whatever the list
pub whole_is : (test : ℕ → Bool) (xs : List ℕ) → front test xs ++ rest_past test xs ≡ xs
whole_is test xs = take-append-drop (prefix_len test xs) xs

front_all_if : (test : ℕ → Bool) (x : ℕ) (xs : List ℕ) → list_all test (front test xs) ≡ true → (b : Bool) → test x ≡ b → list_all test (take (cond b (1 + prefix_len test xs) 0) (x ∷ xs)) ≡ true
front_all_if test x xs all true h = rw (one-add (prefix_len test xs)) (from_both (test x) (list_all test (front test xs)) h all)
front_all_if test x xs all false h = refl

pub front_all : (test : ℕ → Bool) (xs : List ℕ) → list_all test (front test xs) ≡ true
front_all test [] = refl
front_all test (x ∷ xs) = front_all_if test x xs (front_all test xs) (test x) refl

ends_behind_if : (test : ℕ → Bool) (x : ℕ) (xs : List ℕ) → EndsBefore test (rest_past test xs) → (b : Bool) → test x ≡ b → EndsBefore test (drop (cond b (1 + prefix_len test xs) 0) (x ∷ xs))
ends_behind_if test x xs ends true h = rw (one-add (prefix_len test xs)) ends
ends_behind_if test x xs ends false h = h

pub ends_behind : (test : ℕ → Bool) (xs : List ℕ) → EndsBefore test (rest_past test xs)
ends_behind test [] = tt
ends_behind test (x ∷ xs) = ends_behind_if test x xs (ends_behind test xs) (test x) refl

length_of_front_if : (test : ℕ → Bool) (x : ℕ) (xs : List ℕ) → length (front test xs) ≡ prefix_len test xs → (b : Bool) → length (take (cond b (1 + prefix_len test xs) 0) (x ∷ xs)) ≡ cond b (1 + prefix_len test xs) 0
length_of_front_if test x xs e true = rw (one-add (prefix_len test xs)) (ap suc e)
length_of_front_if test x xs e false = refl

pub length_of_front : (test : ℕ → Bool) (xs : List ℕ) → length (front test xs) ≡ prefix_len test xs
length_of_front test [] = refl
length_of_front test (x ∷ xs) = length_of_front_if test x xs (length_of_front test xs) (test x)

-- ---- what `position` finds

not_not : (b : Bool) → not (not b) ≡ b
not_not true = refl
not_not false = refl

pub prefix_not_not : (test : ℕ → Bool) (xs : List ℕ) → prefix_len (λ x. not (not (test x))) xs ≡ prefix_len test xs
prefix_not_not test [] = refl
prefix_not_not test (x ∷ xs) = ap (λ b. cond b (1 + prefix_len (λ y. not (not (test y))) xs) 0) (not_not (test x)) ∙ ap (λ n. cond (test x) (1 + n) 0) (prefix_not_not test xs)

within_if : (n len : ℕ) (b : Bool) → nat_lt n len ≡ b → n ≤ len → unwrap_or (cond b (Some n) None) len ≡ n
within_if n len true h le = refl
within_if n len false h le = grind (arith, nat_tests)

-- the place found, or the length
pub place_or_length : (test : ℕ → Bool) (xs : List ℕ) (found : Option ℕ) → found ≡ cond (nat_lt (prefix_len test xs) (length xs)) (Some (prefix_len test xs)) None → unwrap_or found (length xs) ≡ prefix_len test xs
place_or_length test xs found e = ap (λ o. unwrap_or o (length xs)) e ∙ within_if (prefix_len test xs) (length xs) (nat_lt (prefix_len test xs) (length xs)) refl (prefix_len-le-length test xs)
