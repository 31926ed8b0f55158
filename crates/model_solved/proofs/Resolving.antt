-- The method at a place, with what stands for it there.
use Rattle.std.proofs.Common.{◌≡◌, ◌≤◌, ℕ, zero, suc, true, List, [], ◌∷◌, length, map, drop, Option, Some, None, refl, sym, ap, ◌∙◌, subst}
use Rattle.std.specs.Prelude.{slice_get, bytes_eq, option_map, option_and_then, option_copied}
use Rattle.std.specs.Borrow.{Bor}
use Rattle.std.proofs.lemmas.Option.{none-some, same_Some, slice_get-map}
use Rattle.model_tree.specs.Tree.{Name, MethodTree, ClassTree, ProgramTree}
use Rattle.model_tree.specs.TreeView.{method_tree, class_tree}
use Rattle.model_tree.specs.Bounds.{most_members, ClassesFit, ProgramFits}
use Rattle.model_tree.specs.declared.tree.Method.{Method}
use Rattle.model_tree.specs.declared.tree.Class.{Class}
use Rattle.model_solved.specs.Faults.{class_names}
use Rattle.model_solved.specs.Methods.{field_count, method_named, method_of, FindsMethod}
use Rattle.model_solved.specs.SolvedTree.{SolvedMethod}
use Rattle.model_solved.specs.SolvedView.{solved_method}
use Rattle.model_solved.specs.declared.solved.Solved.{Solved}
use Rattle.model_solved.specs.Resolution.{ResolvesMethod, ResolvesMethods, ResolvesClasses, ResolvesProgram}

method_stands : (classes fields : List Name) (ms : List MethodTree) (ss : List SolvedMethod) (n : ℕ) (m : MethodTree) → ResolvesMethods classes fields ms ss → slice_get ms n ≡ Some m → (s : SolvedMethod) × (slice_get ss n ≡ Some s) × ResolvesMethod classes fields m s
method_stands classes fields [] ss n m h e = absurd (none-some m e)
method_stands classes fields (k ∷ ms) [] n m h e = absurd h
method_stands classes fields (k ∷ ms) (s ∷ ss) zero m h e = (s, refl, subst (λ (b : MethodTree). ResolvesMethod classes fields b s) (same_Some k m e) h.0)
method_stands classes fields (k ∷ ms) (s ∷ ss) (suc n) m h e = method_stands classes fields ms ss n m h.1 e

class_stands : (classes : List Name) (cs : ProgramTree) (ss : List (List SolvedMethod)) (n : ℕ) (c : ClassTree) → ResolvesClasses classes cs ss → slice_get cs n ≡ Some c → (s : List SolvedMethod) × (slice_get ss n ≡ Some s) × ResolvesMethods classes c.fields c.methods s
class_stands classes [] ss n c h e = absurd (none-some c e)
class_stands classes (k ∷ cs) [] n c h e = absurd h
class_stands classes (k ∷ cs) (s ∷ ss) zero c h e = (s, refl, subst (λ (b : ClassTree). ResolvesMethods classes b.fields b.methods s) (same_Some k c e) h.0)
class_stands classes (k ∷ cs) (s ∷ ss) (suc n) c h e = class_stands classes cs ss n c h.1 e

-- each class has its list of methods
pub class_is_solved : (tree : ProgramTree) (solved : List (List SolvedMethod)) (n : ℕ) (c : ClassTree) → ResolvesProgram tree solved → slice_get tree n ≡ Some c → slice_get solved n ≡ None → ⊥
class_is_solved tree solved n c h e none =
    let beside = class_stands (class_names tree) tree solved n c h e in
    none-some beside.0 (sym none ∙ beside.1)

-- there is no such method in the class
pub finds_no_method : (tree : ProgramTree) (n : ℕ) (x : Name) (c : ClassTree) → slice_get tree n ≡ Some c → method_named x c.methods ≡ None → method_of tree n x ≡ None
finds_no_method tree n x c e none = ap (option_and_then (λ (c : ClassTree). method_named x c.methods)) e ∙ none

-- what a look-up of resolved methods finds beside a method
found_beside : (found : Option (Bor Solved)) (tree : ProgramTree) (n : ℕ) (x : Name) (c : ClassTree) (m : MethodTree) (s : SolvedMethod) → slice_get tree n ≡ Some c → method_of tree n x ≡ Some m → ResolvesMethod (class_names tree) c.fields m s → option_map solved_method (option_copied found) ≡ Some s → FindsMethod found tree n x
found_beside None tree n x c m s at of stands e = absurd (none-some s e)
found_beside (Some b) tree n x c m s at of stands e =
    let same : solved_method b.now ≡ s = same_Some (solved_method b.now) s e in
    (c, m, at, of, subst (λ (t : SolvedMethod). ResolvesMethod (class_names tree) c.fields m t) (sym same) stands)

finds_method : (found : Option (Bor Solved)) (tree : ProgramTree) (solved : List (List SolvedMethod)) (n : ℕ) (x : Name) (c : ClassTree) (m : MethodTree) (methods : List Solved) (place : ℕ) → ResolvesProgram tree solved → slice_get tree n ≡ Some c → slice_get solved n ≡ Some (map solved_method methods) → method_named x c.methods ≡ Some m → slice_get c.methods place ≡ Some m → option_copied found ≡ slice_get methods place → FindsMethod found tree n x
finds_method found tree solved n x c m methods place h at own named here got =
    let class = class_stands (class_names tree) tree solved n c h at in
    let same : map solved_method methods ≡ class.0 = same_Some (map solved_method methods) class.0 (sym own ∙ class.1) in
    let stand = subst (λ (ss : List SolvedMethod). ResolvesMethods (class_names tree) c.fields c.methods ss) (sym same) class.2 in
    let beside = method_stands (class_names tree) c.fields c.methods (map solved_method methods) place m stand here in
    let of : method_of tree n x ≡ Some m = ap (option_and_then (λ (c : ClassTree). method_named x c.methods)) at ∙ named in
    found_beside found tree n x c m beside.0 at of beside.2 (ap (option_map solved_method) got ∙ sym (slice_get-map solved_method methods place) ∙ beside.1)

-- behind the methods stands nothing for one
method_past : (classes fields : List Name) (ms : List MethodTree) (ss : List SolvedMethod) (n : ℕ) → ResolvesMethods classes fields ms ss → slice_get ms n ≡ None → slice_get ss n ≡ None
method_past classes fields [] [] n h e = refl
method_past classes fields [] (s ∷ ss) n h e = absurd h
method_past classes fields (k ∷ ms) [] n h e = absurd h
method_past classes fields (k ∷ ms) (s ∷ ss) zero h e = absurd (none-some k (sym e))
method_past classes fields (k ∷ ms) (s ∷ ss) (suc n) h e = method_past classes fields ms ss n h.1 e

found_nothing : (found : Option (Bor Solved)) (tree : ProgramTree) (n : ℕ) (x : Name) → option_map solved_method (option_copied found) ≡ None → method_of tree n x ≡ None → FindsMethod found tree n x
found_nothing None tree n x e none = none
found_nothing (Some b) tree n x e none = absurd (none-some (solved_method b.now) (sym e))

-- what stands at the place of the method of that name, if there is one
pub finds_at : (found : Option (Bor Solved)) (tree : ProgramTree) (solved : List (List SolvedMethod)) (n : ℕ) (x : Name) (c : ClassTree) (methods : List Solved) (place : ℕ) (named : Option MethodTree) → ResolvesProgram tree solved → slice_get tree n ≡ Some c → slice_get solved n ≡ Some (map solved_method methods) → method_named x c.methods ≡ named → slice_get c.methods place ≡ named → option_copied found ≡ slice_get methods place → FindsMethod found tree n x
finds_at found tree solved n x c methods place (Some m) h at own named here got = finds_method found tree solved n x c m methods place h at own named here got
finds_at found tree solved n x c methods place None h at own named here got =
    let class = class_stands (class_names tree) tree solved n c h at in
    let same : map solved_method methods ≡ class.0 = same_Some (map solved_method methods) class.0 (sym own ∙ class.1) in
    let stand = subst (λ (ss : List SolvedMethod). ResolvesMethods (class_names tree) c.fields c.methods ss) (sym same) class.2 in
    let past = method_past (class_names tree) c.fields c.methods (map solved_method methods) place stand here in
    found_nothing found tree n x (ap (option_map solved_method) got ∙ sym (slice_get-map solved_method methods place) ∙ past) (finds_no_method tree n x c at named)

-- ---- where a method stands, and how many fields a class has

named_at : (x : Name) (ms : List Method) (i : ℕ) (m : Method) → slice_get ms i ≡ Some m → bytes_eq x m.name ≡ true → method_named x (map method_tree (drop i ms)) ≡ Some (method_tree m)
named_at x [] i m e same = absurd (none-some m e)
named_at x (k ∷ ms) zero m e same = rw (same_Some k m e, same) refl
named_at x (k ∷ ms) (suc i) m e same = named_at x ms i m e same

pub method_at : (ms : List Method) (x : Name) (i : ℕ) (m : Method) → slice_get ms i ≡ Some m → bytes_eq x m.name ≡ true → method_named x (map method_tree (drop i ms)) ≡ method_named x (map method_tree ms) → slice_get (map method_tree ms) i ≡ method_named x (map method_tree ms)
method_at ms x i m e same loop = slice_get-map method_tree ms i ∙ ap (option_map method_tree) e ∙ sym (named_at x ms i m e same) ∙ loop

few-fields : (cs : List Class) (n : ℕ) (c : Class) → ClassesFit (map class_tree cs) → slice_get cs n ≡ Some c → length c.fields.items ≤ most_members
few-fields [] n c fits e = absurd (none-some c e)
few-fields (k ∷ cs) zero c fits e = subst (λ (b : Class). length b.fields.items ≤ most_members) (same_Some k c e) fits.0.0
few-fields (k ∷ cs) (suc n) c fits e = few-fields cs n c fits.1 e

pub has_few_fields : (cs : List Class) (n : ℕ) (c : Class) → ProgramFits (map class_tree cs) → slice_get cs n ≡ Some c → length c.fields.items ≤ most_members
has_few_fields cs n c fits e = few-fields cs n c fits.1 e

pub field_count_at : (cs : List Class) (n : ℕ) (c : Class) (len : ℕ) → slice_get cs n ≡ Some c → len ≡ length c.fields.items → Some len ≡ field_count (map class_tree cs) n
field_count_at cs n c len e is = ap (λ (k : ℕ). Some k) is ∙ sym (ap (option_map (λ (t : ClassTree). length t.fields)) (slice_get-map class_tree cs n ∙ ap (option_map class_tree) e))
