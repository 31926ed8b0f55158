-- A program within its bounds is solvable, and is checked where it has no faults.
use Rattle.std.proofs.Common.{◌≡◌, ◌≤◌, ℕ, zero, suc, Bool, true, false, length, map, ap, ◌∙◌, List, [], ◌∷◌, Some, None, refl, sym, subst}
use Rattle.std.specs.Prelude.{◌||◌, slice_get, bytes_eq, option_map}
use Rattle.std.proofs.lemmas.List.{length-map}
use Rattle.std.proofs.lemmas.Option.{none-some, same_Some, slice_get-map}
use Rattle.std.proofs.lemmas.Slice.Eq.{bytes_eq-Decides}
use Rattle.model_tree.specs.Tree.{Name, MethodTree, ClassTree, ProgramTree, root_name}
use Rattle.model_tree.specs.TreeView.{class_tree}
use Rattle.model_tree.specs.Bounds.{most_members, MethodsFit, ClassesFit, ProgramFits}
use Rattle.model_tree.specs.declared.tree.Class.{Class}
use Rattle.model_solved.specs.declared.fault.CheckFault.{CheckFault}
use Rattle.model_solved.specs.declared.fault.CheckFault.TheVariants.{NoRoot}
use Rattle.model_check.specs.Answer.{IsFirstFault}
use Rattle.model_solved.specs.Faults.{class_names, is_among, missing_from, first_of, faults_of_classes, faults_of_program}
use Rattle.model_solved.specs.Methods.{IsChecked, IsClass}
use Rattle.model_solved.specs.SolvedTree.{SolvedMethod}
use Rattle.model_check.specs.Solving.{solve_methods, solve_program, HaveFewParameters, AreSolvable}
use Rattle.model_solved.specs.Resolution.{ResolvesProgram}
use Rattle.model_check.proofs.Faultless.{solved-classes}
use Rattle.model_check.proofs.First.{first_behind, refuses_before, refuses_behind}
use Rattle.model_check.proofs.Trees.{map-names}

few-parameters : (ms : List MethodTree) → MethodsFit ms → HaveFewParameters ms
few-parameters [] b = tt
few-parameters (m ∷ ms) b = (b.0.0, few-parameters ms b.1)

solvable-classes : (cs : List ClassTree) → ClassesFit cs → AreSolvable cs
solvable-classes [] b = tt
solvable-classes (c ∷ cs) b = ((b.0.0, few-parameters c.methods b.0.2), solvable-classes cs b.1)

pub solvable-program : (tree : ProgramTree) → ProgramFits tree → AreSolvable tree
solvable-program tree fits = solvable-classes tree fits.1

pub few-classes : (cs : List Class) → ProgramFits (map class_tree cs) → length cs ≤ most_members
few-classes cs fits = subst (λ (n : ℕ). n ≤ most_members) (length-map cs class_tree) fits.0

-- no fault in the classes, and a class named Root
pub checked-program : (cs : List Class) (root : ℕ) (solved : List (List SolvedMethod)) → first_of (faults_of_classes (map (λ c. c.name) cs) [] (map class_tree cs)) ≡ None → solved ≡ map (solve_methods (map (λ c. c.name) cs)) (map class_tree cs) → first_of (missing_from (map (λ c. c.name) cs) root_name NoRoot) ≡ None → IsClass (map class_tree cs) root root_name → IsChecked (map class_tree cs) root solved
checked-program cs root solved h e none is =
    let tree = map class_tree cs in
    let names : map (λ (c : Class). c.name) cs ≡ class_names tree = sym (map-names cs) in
    let own : first_of (faults_of_classes (class_names tree) [] tree) ≡ None = subst (λ (ns : List Name). first_of (faults_of_classes ns [] tree) ≡ None) names h in
    let rooted : first_of (missing_from (class_names tree) root_name NoRoot) ≡ None = subst (λ (ns : List Name). first_of (missing_from ns root_name NoRoot) ≡ None) names none in
    let made : solved ≡ solve_program tree = subst (λ (ns : List Name). solved ≡ map (solve_methods ns) tree) names e in
    record {
      faultless = first_behind (faults_of_classes (class_names tree) [] tree) (missing_from (class_names tree) root_name NoRoot) own ∙ rooted;
      root_is = is;
      stands = subst (λ (found : List (List SolvedMethod)). ResolvesProgram tree found) (sym made) (solved-classes (class_names tree) [] tree own);
    }

-- a fault of a class comes first
pub classes_refused : (cs : List Class) (f : CheckFault) → IsFirstFault f (faults_of_classes (map (λ c. c.name) cs) [] (map class_tree cs)) → IsFirstFault f (faults_of_program (map class_tree cs))
classes_refused cs f h =
    let tree = map class_tree cs in
    let names : map (λ (c : Class). c.name) cs ≡ class_names tree = sym (map-names cs) in
    refuses_before f (faults_of_classes (class_names tree) [] tree) (missing_from (class_names tree) root_name NoRoot) (subst (λ (ns : List Name). IsFirstFault f (faults_of_classes ns [] tree)) names h)

-- that no class is named Root comes last
pub root_refused : (cs : List Class) (f : CheckFault) → first_of (faults_of_classes (map (λ c. c.name) cs) [] (map class_tree cs)) ≡ None → IsFirstFault f (missing_from (map (λ c. c.name) cs) root_name NoRoot) → IsFirstFault f (faults_of_program (map class_tree cs))
root_refused cs f none h =
    let tree = map class_tree cs in
    let names : map (λ (c : Class). c.name) cs ≡ class_names tree = sym (map-names cs) in
    refuses_behind f (faults_of_classes (class_names tree) [] tree) (missing_from (class_names tree) root_name NoRoot) (subst (λ (ns : List Name). first_of (faults_of_classes ns [] tree) ≡ None) names none) (subst (λ (ns : List Name). IsFirstFault f (missing_from ns root_name NoRoot)) names h)

-- ---- the class Root

or_true : (a b : Bool) → b ≡ true → (a || b) ≡ true
or_true true b e = refl
or_true false b e = e

among_at : (x : Name) (ys : List Name) (i : ℕ) → slice_get ys i ≡ Some x → is_among x ys ≡ true
among_at x [] i e = absurd (none-some x e)
among_at x (y ∷ ys) zero e =
    let same : bytes_eq x y ≡ true = (bytes_eq-Decides x y).1 (sym (same_Some y x e)) in
    rw same refl
among_at x (y ∷ ys) (suc i) e =
    let rest : is_among x ys ≡ true = among_at x ys i e in
    or_true (bytes_eq x y) (is_among x ys) rest

pub root_here : (cs : List Class) (i : ℕ) (c : Class) → slice_get cs i ≡ Some c → c.name ≡ root_name → (first_of (missing_from (map (λ c. c.name) cs) root_name NoRoot) ≡ None) × IsClass (map class_tree cs) i root_name
root_here cs i c e named =
    let at : slice_get (map (λ (c : Class). c.name) cs) i ≡ Some root_name = slice_get-map (λ (c : Class). c.name) cs i ∙ ap (option_map (λ (c : Class). c.name)) e ∙ ap (λ (x : Name). Some x) named in
    let among : is_among root_name (map (λ (c : Class). c.name) cs) ≡ true = among_at root_name (map (λ (c : Class). c.name) cs) i at in
    (rw among refl, (class_tree c, slice_get-map class_tree cs i ∙ ap (option_map class_tree) e, named))
