-- Whether a class has a method, by what a checked program answers.
use Rattle.std.proofs.Common.{◌≡◌, ◌∙◌, ℕ, true, false, Option, Some, None, [], ◌∷◌, sym, ap}
use Rattle.std.specs.Prelude.{is_some, slice_get, option_and_then}
use Rattle.std.specs.Borrow.{Bor}
use Rattle.model_tree.specs.Tree.{Name, MethodTree, ClassTree, ProgramTree}
use Rattle.model_solved.specs.declared.solved.Solved.{Solved}
use Rattle.model_solved.specs.Methods.{FindsMethod, method_of, method_named}
use Rattle.model_value.specs.Plain.{PlainValue, ref}
use Rattle.model_value.specs.View.{plain}
use Rattle.model_value.specs.declared.value.Value.TheVariants.{Ref}
use Rattle.world_state.proofs.PlainLaws.{plain-Ref}
use Rattle.world_state.specs.Running.{Running, Gives, and_then, Start}
use Rattle.model_eval.specs.Meaning.{init, run_init}

of_class : (tree : ProgramTree) (n : ℕ) (x : Name) (c : ClassTree) → slice_get tree n ≡ Some c → method_of tree n x ≡ method_named x c.methods
of_class tree n x c e = ap (λ o. option_and_then (λ (d : ClassTree). method_named x d.methods) o) e

pub has-method : (found : Option (Bor Solved)) (tree : ProgramTree) (n : ℕ) (x : Name) (c : ClassTree) → FindsMethod found tree n x → slice_get tree n ≡ Some c → is_some (method_named x c.methods) ≡ is_some found
has-method None tree n x c h e = ap (λ (o : Option MethodTree). is_some o) (sym (of_class tree n x c e) ∙ h)
has-method (Some s) tree n x c h e = ap (λ (o : Option MethodTree). is_some o) (sym (of_class tree n x c e) ∙ h.3)

pub init-known : (found : Option (Bor Solved)) (tree : ProgramTree) (n : ℕ) (x : Name) (c : ClassTree) → x ≡ init → FindsMethod found tree n x → slice_get tree n ≡ Some c → is_some (method_named init c.methods) ≡ is_some found
init-known found tree n x c is h e = ap (λ (y : Name). is_some (method_named y c.methods)) (sym is) ∙ has-method found tree n x c h e

pub without-init : (start : Start) (c : ClassTree) (v : PlainValue) (id : ℕ) (r : Running) → is_some (method_named init c.methods) ≡ false → run_init start c v id r ≡ Gives (plain (Ref id)) r
without-init start c v id r none = rw none (ap (λ (w : PlainValue). Gives w r) (sym (plain-Ref id)))

pub with-init : (start : Start) (c : ClassTree) (v : PlainValue) (id : ℕ) (r : Running) (x : Name) → x ≡ init → is_some (method_named init c.methods) ≡ true → run_init start c v id r ≡ and_then (start id x (v ∷ []) r) (λ _. Gives (ref id))
with-init start c v id r x is some = rw some (ap (λ (y : Name). and_then (start id y (v ∷ []) r) (λ _. Gives (ref id))) (sym is))
