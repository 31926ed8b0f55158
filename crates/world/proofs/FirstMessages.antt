-- The message with which a session begins.
use Rattle.std.proofs.Common.{◌≡◌, ◌∙◌, ℕ, List, Bool, true, false, if◌then◌else◌, Option, Some, None, refl, sym, ap}
use Rattle.std.specs.Prelude.{is_some, nat_eq}
use Rattle.std.specs.Borrow.{Bor}
use Rattle.model_value.specs.Plain.{PlainValue, nil}
use Rattle.model_tree.specs.Tree.{Name, root_name}
use Rattle.model_solved.specs.declared.solved.Solved.{Solved}
use Rattle.model_solved.specs.Faults.{first_fault}
use Rattle.model_solved.specs.Methods.{FindsMethod, IsClass, method_named}
use Rattle.model_eval.specs.Arguments.{takes_two, one_or_both}
use Rattle.world.specs.Worlds.{Founding, init, init_arguments}
use Rattle.world.specs.Turns.{PlainRan, first_ran, first_ran_of, init_ran}
use Rattle.world.proofs.Initial.{has-method, takes_as}
use Rattle.world.proofs.Roots.{first_root}

none_if : (has : Bool) (ran : PlainRan) → has ≡ false → None ≡ (if has then Some ran else None)
none_if true ran h = cc
none_if false ran h = refl

some_if : (has : Bool) (ran : PlainRan) → has ≡ true → Some ran ≡ (if has then Some ran else None)
some_if true ran h = refl
some_if false ran h = cc

module _ (founding : Founding) (n : ℕ) (is : IsClass founding.tree n root_name) (none : first_fault founding.tree ≡ None) (x : Name) (named : x ≡ init) where
  -- of the class Root it says whether it has `init`
  at_root : first_ran_of founding.persisted (Some (n, is.0)) ≡ first_ran founding
  at_root = sym (ap (first_ran_of founding.persisted) (first_root founding.tree n is none))

  has_init : (found : Option (Bor Solved)) → FindsMethod found founding.tree n x → is_some (method_named init is.0.methods) ≡ is_some found
  has_init found h = ap (λ (y : Name). is_some (method_named y is.0.methods)) (sym named) ∙ has-method found founding.tree n x is.0 h is.1

  pub first-none : (found : Option (Bor Solved)) → FindsMethod found founding.tree n x → is_some found ≡ false → None ≡ first_ran founding
  first-none found h gone = none_if (is_some (method_named init is.0.methods)) (init_ran founding.persisted (n, is.0)) (has_init found h ∙ gone) ∙ at_root

  pub first-some : (s : Bor Solved) (args : List PlainValue) → FindsMethod (Some s) founding.tree n x → args ≡ one_or_both (nat_eq s.now.params 2) nil founding.persisted
      → Some (record { time = 0; object = 1; class = Some n; method = x; args = args }) ≡ first_ran founding
  first-some s args h given =
      let two : nat_eq s.now.params 2 ≡ takes_two (method_named init is.0.methods) = takes_as s founding.tree n x is.0 h is.1 ∙ ap (λ (y : Name). takes_two (method_named y is.0.methods)) named in
      let whole : args ≡ init_arguments founding.persisted is.0 = given ∙ ap (λ (both : Bool). one_or_both both nil founding.persisted) two in
      let told : ◌≡◌ {A = Option PlainRan} (Some (record { time = 0; object = 1; class = Some n; method = x; args = args })) (Some (init_ran founding.persisted (n, is.0))) =
      ap (λ (y : Name). Some (record { time = 0; object = 1; class = Some n; method = y; args = args })) named
      ∙ ap (λ (vs : List PlainValue). Some (record { time = 0; object = 1; class = Some n; method = init; args = vs })) whole in
      told ∙ some_if (is_some (method_named init is.0.methods)) (init_ran founding.persisted (n, is.0)) (has_init (Some s) h) ∙ at_root
