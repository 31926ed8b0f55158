-- What is found in lists that were changed at one place.
use Rattle.std.proofs.Common.{ℕ, ◌≡◌, ◌≢◌, ◌⊎◌, inl, inr, Bool, true, false, cond, eqb, List, [], ◌∷◌, ◌++◌, Option, Some, None, zero, suc, length, set, slice_get, refl, arith}
use Rattle.std.proofs.lemmas.Bool.Decides.{nat_tests}
use Rattle.system_plain.specs.Steps.{found}
use Rattle.system_plain.specs.System.{Client, view_client, with_client}

pub get_set : {A : Type 0} (xs : List A) (k j : ℕ) (new found : A) → slice_get (set xs k new) j ≡ Some found → ((j ≡ k) × (found ≡ new)) ⊎ ((j ≢ k) × (slice_get xs j ≡ Some found))
get_set [] k j new found at = inr (λ same. absurd cc, at)
get_set (x ∷ xs) zero zero new found at = inl (refl, cc)
get_set (x ∷ xs) zero (suc j) new found at = inr (λ same. absurd (omega arith), at)
get_set (x ∷ xs) (suc k) zero new found at = inr (λ same. absurd (omega arith), at)
get_set (x ∷ xs) (suc k) (suc j) new found at =
    elim (get_set xs k j new found at) [ inl hit ↦ inl (omega (arith, hit.0), hit.1) | inr miss ↦ inr (λ same. miss.0 (omega arith), miss.1) ]

pub get_push : {A : Type 0} (xs : List A) (j : ℕ) (new found : A) → slice_get (xs ++ new ∷ []) j ≡ Some found → (slice_get xs j ≡ Some found) ⊎ ((j ≡ length xs) × (found ≡ new))
get_push [] zero new found at = inr (refl, cc)
get_push [] (suc j) new found at = absurd cc
get_push (x ∷ xs) zero new found at = inl at
get_push (x ∷ xs) (suc j) new found at =
    elim (get_push xs j new found at) [ inl hit ↦ inl hit | inr miss ↦ inr (omega (arith, miss.0), miss.1) ]

client_if : {W O : Type 0} (test : Bool) (first client : Client W O) (view : ℕ) (other : Option (Client W O)) → eqb first.replica.view view ≡ test → (other ≡ Some client → client.replica.view ≡ view) → cond test (Some first) other ≡ Some client → client.replica.view ≡ view
client_if true first client view other is rest found = let same : first ≡ client = cc in let v : first.replica.view ≡ view = grind (arith, nat_tests) in cc
client_if false first client view other is rest found = rest found

-- the client of a view has this view
pub client_view : {W O : Type 0} (clients : List (Client W O)) (view : ℕ) (client : Client W O) → view_client clients view ≡ Some client → client.replica.view ≡ view
client_view [] view client found = absurd cc
client_view (first ∷ rest) view client found = client_if (eqb first.replica.view view) first client view (view_client rest view) refl (client_view rest view client) found

abbrev FindsClient : {W O : Type 0} → Option (Client W O) → Client W O → ℕ → Client W O → Type 0
FindsClient before new view found = ((view ≡ new.replica.view) × (found ≡ new)) ⊎ ((view ≢ new.replica.view) × (before ≡ Some found))

with_client_if : {W O : Type 0} (changed hit : Bool) (first new found : Client W O) (view : ℕ) (before after : Option (Client W O)) → eqb first.replica.view new.replica.view ≡ changed → eqb first.replica.view view ≡ hit
    → (after ≡ Some found → FindsClient before new view found) → cond (eqb (cond changed new first).replica.view view) (Some (cond changed new first)) after ≡ Some found → FindsClient (cond hit (Some first) before) new view found
with_client_if true true first new found view before after changed hit rest at =
    let same : view ≡ new.replica.view = grind (arith, nat_tests) in
    let test : eqb new.replica.view view ≡ true = grind (arith, nat_tests) in
    let is = rw test at at in
    inl (same, cc)
with_client_if true false first new found view before after changed hit rest at =
    let test : eqb new.replica.view view ≡ false = grind (arith, nat_tests) in
    rest (rw test at at)
with_client_if false true first new found view before after changed hit rest at =
    inr (λ same. absurd (grind (arith, nat_tests)), rw hit at at)
with_client_if false false first new found view before after changed hit rest at = rest (rw hit at at)

pub client_of-with : {W O : Type 0} (clients : List (Client W O)) (new found : Client W O) (view : ℕ) → view_client (with_client clients new) view ≡ Some found → FindsClient (view_client clients view) new view found
client_of-with [] new found view at = absurd cc
client_of-with (first ∷ rest) new found view at =
    with_client_if (eqb first.replica.view new.replica.view) (eqb first.replica.view view) first new found view (view_client rest view) (view_client (with_client rest new) view) refl refl (client_of-with rest new found view) at

push_client_if : {W O : Type 0} (hit : Bool) (first new found : Client W O) (view : ℕ) (before after : Option (Client W O)) → (after ≡ Some found → (before ≡ Some found) ⊎ ((view ≡ new.replica.view) × (found ≡ new))) → cond hit (Some first) after ≡ Some found → (cond hit (Some first) before ≡ Some found) ⊎ ((view ≡ new.replica.view) × (found ≡ new))
push_client_if true first new found view before after rest at = inl at
push_client_if false first new found view before after rest at = rest at

last_client_if : {W O : Type 0} (hit : Bool) (new found : Client W O) (view : ℕ) → eqb new.replica.view view ≡ hit → cond hit (Some new) None ≡ Some found → (view ≡ new.replica.view) × (found ≡ new)
last_client_if true new found view is at = (grind (arith, nat_tests), cc)
last_client_if false new found view is at = absurd cc

pub client_of-push : {W O : Type 0} (clients : List (Client W O)) (new found : Client W O) (view : ℕ) → view_client (clients ++ new ∷ []) view ≡ Some found → (view_client clients view ≡ Some found) ⊎ ((view ≡ new.replica.view) × (found ≡ new))
client_of-push [] new found view at = inr (last_client_if (eqb new.replica.view view) new found view refl at)
client_of-push (first ∷ rest) new found view at =
    push_client_if (eqb first.replica.view view) first new found view (view_client rest view) (view_client (rest ++ new ∷ []) view) (client_of-push rest new found view) at
