-- How many methods the classes of a program have.
use Rattle.std.proofs.Common.{◌≡◌, ℕ, ◌≤◌, ◌<◌, ◌+◌, ◌*◌, List, [], ◌∷◌, length, drop, get_or, ap, ◌∙◌, arith}
use Rattle.std.proofs.lemmas.List.{at_drop_more, length-map}
use Rattle.std.proofs.lemmas.List.Sums.{sum_by-cons}
use Rattle.model_tree.specs.declared.tree.Class.{Class}
use Rattle.model_tree.specs.Tree.{ClassTree, ProgramTree}
use Rattle.model_tree.specs.TreeView.{class_tree, method_tree, program_tree}
use Rattle.model_tree.specs.Bounds.{ClassesFit, ProgramFits}
use Rattle.command_outcome.specs.ProgramText.{method_count}

-- those of the first class, and of the others
method_count-cons : (c : ClassTree) (cs : ProgramTree) → method_count (c ∷ cs) ≡ length c.methods + method_count cs
method_count-cons c cs = sum_by-cons (λ (d : ClassTree). length d.methods) c cs

count_most : (tree : ProgramTree) → ClassesFit tree → method_count tree ≤ 256 * length tree
count_most [] fit = omega arith
count_most (c ∷ cs) (fits, rest) =
    let few : method_count cs ≤ 256 * length cs = count_most cs rest in
    omega (arith, method_count-cons c cs, fits.1, few)

-- so few that no sum of them is too large
pub method_count-most : (tree : ProgramTree) → ProgramFits tree → method_count tree ≤ 65536
method_count-most tree (few, fit) = let most = count_most tree fit in omega (arith, few, most)

-- the methods of a class and of those behind it
pub method_count-next : (classes : List Class) (i : ℕ) (class : Class) → i < length classes → method_count (program_tree (drop i classes)) ≡ length (get_or classes i class).methods.items + method_count (program_tree (drop (i + 1) classes))
method_count-next classes i class within =
    let found = get_or classes i class in
    let rest = drop (i + 1) classes in
    at_drop_more (λ (left : List Class). method_count (program_tree left)) classes i class within
    ∙ method_count-cons (class_tree found) (program_tree rest)
    ∙ ap (λ (n : ℕ). n + method_count (program_tree rest)) (length-map found.methods.items method_tree)
