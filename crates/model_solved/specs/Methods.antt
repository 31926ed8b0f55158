-- The classes and the methods of a program.
use Rattle.std.specs.Prelude.{◌≡◌, ℕ, List, length, map, find, bytes_eq, Option, Some, None, option_map, option_and_then, slice_get}
use Rattle.std.specs.Borrow.{Bor}
use Rattle.model_tree.specs.Tree.{Name, MethodTree, ClassTree, ProgramTree, root_name}
use Rattle.model_solved.specs.Faults.{class_names, first_fault}
use Rattle.model_solved.specs.SolvedTree.{SolvedMethod}
use Rattle.model_solved.specs.SolvedView.{solved_method}
use Rattle.model_solved.specs.Resolution.{ResolvesMethod, ResolvesProgram}
use Rattle.model_solved.specs.declared.solved.Solved.{Solved}

-- how many fields a class has. Classes are numbered from 0, in the order of the text
abbrev pub field_count : ProgramTree → ℕ → Option ℕ
field_count tree n = option_map (λ c. length c.fields) (slice_get tree n)

-- how many fields each class has
abbrev pub field_counts : ProgramTree → List ℕ
field_counts = map (λ c. length c.fields)

abbrev pub method_named : Name → List MethodTree → Option MethodTree
method_named x ms = find (λ m. bytes_eq x m.name) ms

-- the method of that name in that class
abbrev pub method_of : ProgramTree → ℕ → Name → Option MethodTree
method_of tree n x = option_and_then (λ c. method_named x c.methods) (slice_get tree n)

-- the class of that number has that name
abbrev pub IsClass : ProgramTree → ℕ → Name → Type 0
IsClass tree n x = (c : ClassTree) × (slice_get tree n ≡ Some c) × (c.name ≡ x)

-- a program without faults: the number of the class Root, and what stands for the methods of each class
pub record IsChecked (tree : ProgramTree) (root : ℕ) (solved : List (List SolvedMethod)) : Type 0 where
  pub faultless : first_fault tree ≡ None
  pub root_is : IsClass tree root root_name
  pub stands : ResolvesProgram tree solved

-- there is none where there is no such class, and where it has no such method
abbrev pub FindsMethod : Option (Bor Solved) → ProgramTree → ℕ → Name → Type 0
FindsMethod None tree n x = method_of tree n x ≡ None
FindsMethod (Some s) tree n x =
    (c : ClassTree) × (m : MethodTree) × (slice_get tree n ≡ Some c) × (method_of tree n x ≡ Some m)
    × ResolvesMethod (class_names tree) c.fields m (solved_method s.now)
