-- The class of a checked program that is named Root is the first one of that name.
use Rattle.std.proofs.Common.{◌≡◌, ℕ, zero, suc, ◌+◌, ◌<◌, Bool, true, false, List, [], ◌∷◌, ◌++◌, length, get_or, Option, Some, None, refl, sym, ap, ◌∙◌, subst, arith}
use Rattle.std.specs.Prelude.{◌||◌, bytes_eq, slice_get, option_map}
use Rattle.std.proofs.lemmas.Option.{none-some, same_Some, slice_get-map, slice_get_read}
use Rattle.std.proofs.lemmas.Slice.Eq.{bytes_eq-Decides}
use Rattle.model_tree.specs.Tree.{Name, ClassTree, ProgramTree, root_name}
use Rattle.model_tree.specs.TreeView.{class_tree, program_tree}
use Rattle.model_tree.specs.declared.tree.Class.{Class}
use Rattle.model_solved.specs.declared.fault.CheckFault.TheVariants.{Twice, NoRoot}
use Rattle.model_solved.specs.Faults.{is_among, twice_where, missing_from, faults_of_name, faults_of_class, faults_of_classes, class_names, first_of, first_fault}
use Rattle.model_solved.specs.Methods.{IsClass}
use Rattle.model_solved.proofs.NoFaults.{none-left, none-right}
use Rattle.model_solved.proofs.Compared.{compared_back}
use Rattle.world.specs.Worlds.{Founding, empty_world, with_next_turn, with_root, root_from, with_root_init, first_with, first_scene}

neither : (a b : Bool) → (a || b) ≡ false → (a ≡ false) × (b ≡ false)
neither true b e = absurd cc
neither false b e = (refl, e)

among-front : (x : Name) (xs ys : List Name) → is_among x (xs ++ ys) ≡ false → is_among x xs ≡ false
among-front x [] ys e = refl
among-front x (y ∷ xs) ys e =
    let parts = neither (bytes_eq x y) (is_among x (xs ++ ys)) e in
    rw parts.0 (among-front x xs ys parts.1)

among-last : (x y : Name) (xs : List Name) → is_among x (xs ++ y ∷ []) ≡ false → bytes_eq x y ≡ false
among-last x y [] e = (neither (bytes_eq x y) false e).0
among-last x y (z ∷ xs) e = among-last x y xs (neither (bytes_eq x z) (is_among x (xs ++ y ∷ [])) e).1

once_unseen : (is_seen : Bool) (x : Name) → first_of (twice_where is_seen x) ≡ None → is_seen ≡ false
once_unseen true x e = absurd (none-some (Twice x) (sym e))
once_unseen false x e = refl

-- no class has a name that was seen
unseen : (classes seen : List Name) (cs : ProgramTree) (i : ℕ) (c : ClassTree) → first_of (faults_of_classes classes seen cs) ≡ None → slice_get cs i ≡ Some c → is_among c.name seen ≡ false
unseen classes seen [] i c none at = absurd (none-some c at)
unseen classes seen (d ∷ cs) zero c none at =
    let name = faults_of_name seen d.name in
    let own = faults_of_class classes d in
    let first_scene = none-left name own (none-left (name ++ own) (faults_of_classes classes (seen ++ d.name ∷ []) cs) none) in
    subst (λ (k : ClassTree). is_among k.name seen ≡ false) (same_Some d c at) (once_unseen (is_among d.name seen) d.name first_scene)
unseen classes seen (d ∷ cs) (suc i) c none at =
    let behind = none-right (faults_of_name seen d.name ++ faults_of_class classes d) (faults_of_classes classes (seen ++ d.name ∷ []) cs) none in
    among-front c.name seen (d.name ∷ []) (unseen classes (seen ++ d.name ∷ []) cs i c behind at)

root_at : (classes seen : List Name) (cs : ProgramTree) (k i : ℕ) (c : ClassTree) → first_of (faults_of_classes classes seen cs) ≡ None → slice_get cs i ≡ Some c → c.name ≡ root_name → root_from k cs ≡ Some (k + i, c)
root_at classes seen [] k i c none at named = absurd (none-some c at)
root_at classes seen (d ∷ cs) k zero c none at named =
    let same : d ≡ c = same_Some d c at in
    let is : bytes_eq d.name root_name ≡ true = (bytes_eq-Decides d.name root_name).1 (ap (λ (b : ClassTree). b.name) same ∙ named) in
    let number : k ≡ k + 0 = omega arith in
    rw is (ap (λ (b : ClassTree). Some (k, b)) same ∙ ap (λ (n : ℕ). Some (n, c)) number)
root_at classes seen (d ∷ cs) k (suc i) c none at named =
    let behind = none-right (faults_of_name seen d.name ++ faults_of_class classes d) (faults_of_classes classes (seen ++ d.name ∷ []) cs) none in
    let apart : bytes_eq c.name d.name ≡ false = among-last c.name d.name seen (unseen classes (seen ++ d.name ∷ []) cs i c behind at) in
    let other : bytes_eq d.name root_name ≡ false = ap (bytes_eq d.name) (sym named) ∙ sym (compared_back (bytes_eq c.name d.name) c.name d.name (bytes_eq-Decides c.name d.name)) ∙ apart in
    let number : k + 1 + i ≡ k + suc i = omega arith in
    rw other (root_at classes (seen ++ d.name ∷ []) cs (k + 1) i c behind at named ∙ ap (λ (n : ℕ). Some (n, c)) number)

pub first_root : (tree : ProgramTree) (n : ℕ) (is : IsClass tree n root_name) → first_fault tree ≡ None → root_from 0 tree ≡ Some (n, is.0)
first_root tree n is none =
    let classes = none-left (faults_of_classes (class_names tree) [] tree) (missing_from (class_names tree) root_name NoRoot) none in
    let number : 0 + n ≡ n = omega arith in
    root_at (class_names tree) [] tree 0 n is.0 classes is.1 is.2 ∙ ap (λ (m : ℕ). Some (m, is.0)) number

pub first-is : (founding : Founding) (id : List ℕ) (n : ℕ) (is : IsClass founding.tree n root_name) → first_fault founding.tree ≡ None
    → first_scene founding id ≡ with_root_init founding is.0 (record { world = with_root n is.0 (with_next_turn (empty_world founding.persisted id)); published = [] })
first-is founding id n is none = ap (λ (root : Option (ℕ × ClassTree)). first_with founding root (with_next_turn (empty_world founding.persisted id))) (first_root founding.tree n is none)

-- the class at a place has the fields that its tree has
pub fields_there : (cs : List Class) (n : ℕ) (c : Class) (tree : ClassTree) → n < length cs → c ≡ get_or cs n c → slice_get (program_tree cs) n ≡ Some tree → length tree.fields ≡ length c.fields.items
fields_there cs n c tree inside is at =
    let here : slice_get cs n ≡ Some c = slice_get_read cs _ n c refl inside is in
    let same : class_tree c ≡ tree = same_Some (class_tree c) tree (sym (slice_get-map class_tree cs n ∙ ap (option_map class_tree) here) ∙ at) in
    ap (λ (t : ClassTree). length t.fields) (sym same)
