use Rattle.std.proofs.Common.{arith, ◌≡◌, List, map, Some, None, refl, sym, ap, ◌∙◌, subst}
use Rattle.std.specs.Prelude.{slice_get, option_map, option_copied}
use Rattle.std.proofs.lemmas.Option.{gets, slice_get-map}
use Rattle.std.proofs.lemmas.Grind.{common_steps}
use Rattle.model_tree.specs.TreeView.{class_tree, program_tree}
use Rattle.model_solved.specs.Founding.{CheckedView, checked_tree}
use Rattle.model_solved.specs.Methods.{method_named}
use Rattle.model_solved.specs.SolvedView.{solved_method}
use Rattle.model_solved.specs.Resolution.{ResolvesProgram}
use Rattle.model_solved.proofs.Resolving.{class_is_solved, finds_no_method, finds_at}
use Rattle.model_solved.proofs.checked.Checked.method.Goals as goal

pub returns-in_err-solved : goal.returns-in_err-solved
returns-in_err-solved c =
    let cs = c.args.self.now.classes in
    let n = c.args.class in
    let class = c.in_ok-declared.declared.now in
    let held = c.self.inside.classes.items in
    let here : slice_get cs n ≡ Some class = grind (arith, common_steps, gets) in
    let none : slice_get held n ≡ None = grind (arith, common_steps, gets) in
    let at : slice_get (program_tree cs) n ≡ Some (class_tree class) = slice_get-map class_tree cs n ∙ ap (option_map class_tree) here in
    let stands = subst (λ (checked : CheckedView). ResolvesProgram (checked_tree checked) (map (λ methods. map solved_method methods.items) held)) c.self.view_is c.self.invariant.stands in
    absurd (class_is_solved (program_tree cs) (map (λ methods. map solved_method methods.items) held) n (class_tree class) stands at (slice_get-map (λ methods. map solved_method methods.items) held n ∙ ap (option_map (λ methods. map solved_method methods.items)) none))

pub returns-in_err-place : goal.returns-in_err-place
returns-in_err-place c =
    let cs = c.args.self.now.classes in
    let n = c.args.class in
    let class = c.in_ok-declared.declared.now in
    let here : slice_get cs n ≡ Some class = grind (arith, common_steps, gets) in
    let at : slice_get (program_tree cs) n ≡ Some (class_tree class) = slice_get-map class_tree cs n ∙ ap (option_map class_tree) here in
    rw c.from_residual-in_err-place.ensures (finds_no_method (program_tree cs) n c.args.name.now (class_tree class) at (sym (rw c.deref-2.ensures.value at c.in_err-place.ensures)))

pub returns : goal.returns
returns c =
    let cs = c.args.self.now.classes in
    let n = c.args.class in
    let x = c.args.name.now in
    let class = c.in_ok-declared.declared.now in
    let held = c.self.inside.classes.items in
    let methods = c.in_ok-solved.solved.now in
    let place = c.in_ok-place.place in
    let here : slice_get cs n ≡ Some class = grind (arith, common_steps, gets) in
    let beside : slice_get held n ≡ Some methods = grind (arith, common_steps, gets) in
    let at : slice_get (program_tree cs) n ≡ Some (class_tree class) = slice_get-map class_tree cs n ∙ ap (option_map class_tree) here in
    let own : slice_get (map (λ methods. map solved_method methods.items) held) n ≡ Some (map solved_method methods.items) =
    slice_get-map (λ methods. map solved_method methods.items) held n ∙ ap (option_map (λ methods. map solved_method methods.items)) beside in
    let stands = subst (λ (checked : CheckedView). ResolvesProgram (checked_tree checked) (map (λ methods. map solved_method methods.items) held)) c.self.view_is c.self.invariant.stands in
    let named = rw c.deref-2.ensures.value at c.in_ok-place.ensures in
    let got : option_copied c.get-3.result ≡ slice_get methods.items place = grind (arith, common_steps, gets) in
    finds_at c.get-3.result (program_tree cs) (map (λ methods. map solved_method methods.items) held) n x (class_tree class) methods.items place (method_named x (class_tree class).methods) stands at own refl named got
