-- The clients of a system, where one is put in place of the one of its view.
use Rattle.std.proofs.lemmas.Bool.Decides.{nat_tests}
use Rattle.std.proofs.Common.{ℕ, ◌≡◌, ◌≢◌, Bool, true, false, cond, eqb, List, [], ◌∷◌, Option, Some, refl, sym, ap, ◌∙◌, arith}
use Rattle.system_plain.specs.System.{Client, view_client, with_client}
use Rattle.system_plain.proofs.StepRows.{false_chosen, true_chosen}

replaced_if : {W O : Type 0} (changed hit : Bool) (first new old : Client W O) (view : ℕ) (before after : Option (Client W O)) → eqb first.replica.view new.replica.view ≡ changed → eqb first.replica.view view ≡ hit → new.replica.view ≡ view
    → cond hit (Some first) before ≡ Some old → (before ≡ Some old → after ≡ Some new) → cond (eqb (cond changed new first).replica.view view) (Some (cond changed new first)) after ≡ Some new
replaced_if true hit first new old view before after changed is same found rest =
    let test : eqb new.replica.view view ≡ true = grind (arith, nat_tests) in true_chosen (eqb new.replica.view view) (Some new) after test
replaced_if false true first new old view before after changed is same found rest = absurd (grind (arith, nat_tests))
replaced_if false false first new old view before after changed is same found rest = false_chosen (eqb first.replica.view view) (Some first) after is ∙ rest found

pub replaced_client : {W O : Type 0} (clients : List (Client W O)) (new old : Client W O) (view : ℕ) → view_client clients view ≡ Some old → new.replica.view ≡ view → view_client (with_client clients new) view ≡ Some new
replaced_client [] new old view found same = absurd cc
replaced_client (first ∷ rest) new old view found same =
    replaced_if (eqb first.replica.view new.replica.view) (eqb first.replica.view view) first new old view (view_client rest view) (view_client (with_client rest new) view) refl refl same found (λ h. replaced_client rest new old view h same)

other_if : {W O : Type 0} (changed : Bool) (first new : Client W O) (other : ℕ) (before after : Option (Client W O)) → eqb first.replica.view new.replica.view ≡ changed → other ≢ new.replica.view → after ≡ before
    → cond (eqb (cond changed new first).replica.view other) (Some (cond changed new first)) after ≡ cond (eqb first.replica.view other) (Some first) before
other_if true first new other before after changed far same =
    let mine : eqb new.replica.view other ≡ false = grind (arith, nat_tests) in
    let its : eqb first.replica.view other ≡ false = grind (arith, nat_tests) in
    false_chosen (eqb new.replica.view other) (Some new) after mine ∙ same ∙ sym (false_chosen (eqb first.replica.view other) (Some first) before its)
other_if false first new other before after changed far same = ap (λ (found : Option (Client _ _)). cond (eqb first.replica.view other) (Some first) found) same

pub replaced_other : {W O : Type 0} (clients : List (Client W O)) (new : Client W O) (other : ℕ) → other ≢ new.replica.view → view_client (with_client clients new) other ≡ view_client clients other
replaced_other [] new other far = refl
replaced_other (first ∷ rest) new other far =
    other_if (eqb first.replica.view new.replica.view) first new other (view_client rest other) (view_client (with_client rest new) other) refl far (replaced_other rest new other far)
