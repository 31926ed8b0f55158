-- Whether the class Root has `init`, and what its start makes.
use Rattle.std.proofs.Common.{◌≡◌, ◌∙◌, ℕ, List, [], ◌∷◌, Bool, true, false, if◌then◌else◌, Option, Some, None, Result, Ok, Err, OnOk, refl, sym, ap}
use Rattle.std.specs.Prelude.{is_some, nat_eq, slice_get, option_and_then, ⊤}
use Rattle.std.specs.Borrow.{Bor}
use Rattle.tea_base.specs.declared.want.WantOfMemory.{WantOfMemory}
use Rattle.model_value.specs.Plain.{PlainValue, nil}
use Rattle.model_tree.specs.Tree.{Name, MethodTree, ClassTree, ProgramTree}
use Rattle.model_solved.specs.declared.solved.Solved.{Solved}
use Rattle.model_solved.specs.Methods.{FindsMethod, method_of, method_named}
use Rattle.model_eval.specs.Arguments.{takes_two, one_or_both}
use Rattle.world.specs.Worlds.{Scene, Founding, after_method, init, init_arguments, with_root_init}

of_class : (tree : ProgramTree) (n : ℕ) (x : Name) (root : ClassTree) → slice_get tree n ≡ Some root → method_of tree n x ≡ method_named x root.methods
of_class tree n x root e = ap (λ o. option_and_then (λ (c : ClassTree). method_named x c.methods) o) e

pub has-method : (found : Option (Bor Solved)) (tree : ProgramTree) (n : ℕ) (x : Name) (root : ClassTree) → FindsMethod found tree n x → slice_get tree n ≡ Some root → is_some (method_named x root.methods) ≡ is_some found
has-method None tree n x root h e = ap (λ (o : Option MethodTree). is_some o) (sym (of_class tree n x root e) ∙ h)
has-method (Some s) tree n x root h e = ap (λ (o : Option MethodTree). is_some o) (sym (of_class tree n x root e) ∙ h.3)

not_started : (has : Bool) (program : ProgramTree) (args : List PlainValue) (s : Scene) → has ≡ false → s ≡ (if has then after_method program 1 init args s else s)
not_started true program args s h = cc
not_started false program args s h = refl

pub without-init : (found : Option (Bor Solved)) (founding : Founding) (n : ℕ) (x : Name) (root : ClassTree) (s : Scene)
    → FindsMethod found founding.tree n x → slice_get founding.tree n ≡ Some root → is_some found ≡ false → x ≡ init → s ≡ with_root_init founding root s
without-init found founding n x root s h e none is =
    not_started (is_some (method_named init root.methods)) founding.tree (init_arguments founding.persisted root) s
    (ap (λ (y : Name). is_some (method_named y root.methods)) (sym is) ∙ has-method found founding.tree n x root h e ∙ none)

started : (has : Bool) (program : ProgramTree) (args : List PlainValue) (s : Scene) → has ≡ true → after_method program 1 init args s ≡ (if has then after_method program 1 init args s else s)
started true program args s h = refl
started false program args s h = cc

on_ok : (r : Result ⊤ WantOfMemory) (P Q : Type 0) → (P → Q) → OnOk r P → OnOk r Q
on_ok (Ok x) P Q f h = f h
on_ok (Err e) P Q f h = tt

-- the method that is found has as many parameters as it resolves to
pub takes_as : (s : Bor Solved) (tree : ProgramTree) (n : ℕ) (x : Name) (root : ClassTree) → FindsMethod (Some s) tree n x → slice_get tree n ≡ Some root → nat_eq s.now.params 2 ≡ takes_two (method_named x root.methods)
takes_as s tree n x root h e =
    ap (λ (count : ℕ). nat_eq count 2) h.4.0 ∙ ap takes_two (sym h.3 ∙ of_class tree n x root e)

pub with-init : (r : Result ⊤ WantOfMemory) (s : Bor Solved) (founding : Founding) (n : ℕ) (x : Name) (root : ClassTree) (args : List PlainValue) (before after : Scene)
    → FindsMethod (Some s) founding.tree n x → slice_get founding.tree n ≡ Some root → x ≡ init → args ≡ one_or_both (nat_eq s.now.params 2) nil founding.persisted
    → OnOk r (after ≡ after_method founding.tree 1 x args before) → OnOk r (after ≡ with_root_init founding root before)
with-init r s founding n x root args before after h e is given =
    let program = founding.tree in
    let named : method_named x root.methods ≡ method_named init root.methods = ap (λ (y : Name). method_named y root.methods) is in
    let has : is_some (method_named init root.methods) ≡ true = ap (λ (o : Option MethodTree). is_some o) (sym named) ∙ has-method (Some s) program n x root h e in
    let two : nat_eq s.now.params 2 ≡ takes_two (method_named init root.methods) = takes_as s program n x root h e ∙ ap takes_two named in
    let whole : args ≡ init_arguments founding.persisted root = given ∙ ap (λ (both : Bool). one_or_both both nil founding.persisted) two in
    let last : after_method program 1 init (init_arguments founding.persisted root) before ≡ with_root_init founding root before =
    started (is_some (method_named init root.methods)) program (init_arguments founding.persisted root) before has in
    let run : after_method program 1 x args before ≡ with_root_init founding root before =
    ap (λ (y : Name). after_method program 1 y args before) is ∙ ap (λ (vs : List PlainValue). after_method program 1 init vs before) whole ∙ last in
    on_ok r (after ≡ after_method program 1 x args before) (after ≡ with_root_init founding root before) (λ ran. ran ∙ run)
