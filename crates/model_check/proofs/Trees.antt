-- What is made of each item of a list, as a list of parts.
use Rattle.std.proofs.Common.{◌≡◌, List, [], ◌∷◌, ◌++◌, length, map, refl, ap, arith}
use Rattle.std.proofs.lemmas.List.{map-append}
use Rattle.model_tree.specs.Tree.{Name}
use Rattle.model_tree.specs.TreeView.{expression_tree, expression_trees, method_tree, class_tree}
use Rattle.model_tree.specs.Bounds.{how_many}
use Rattle.model_tree.specs.declared.tree.Expr.{Expr}
use Rattle.model_tree.specs.declared.tree.Method.{Method}
use Rattle.model_tree.specs.declared.tree.Class.{Class}
use Rattle.model_solved.specs.SolvedTree.{solved_expressions_of, expression, SolvedStatement, SolvedStatements, no_statements, statement, solved_statements_of}
use Rattle.model_check.specs.Solving.{solve_expression, solve_expressions, solve_method, solve_methods}

pub solved_expressions_of-map : (classes fields scope : List Name) (es : List Expr) → solved_expressions_of (map (λ e. solve_expression classes fields scope (expression_tree e)) es) ≡ solve_expressions classes fields scope (expression_trees es)
solved_expressions_of-map classes fields scope [] = refl
solved_expressions_of-map classes fields scope (e ∷ es) = ap (expression (solve_expression classes fields scope (expression_tree e))) (solved_expressions_of-map classes fields scope es)

pub how_many-map : (es : List Expr) → how_many (expression_trees es) ≡ length es
how_many-map [] = refl
how_many-map (e ∷ es) = omega (arith, how_many-map es)

-- statements that are resolved, before the rest
abbrev pub solved_ahead : List SolvedStatement → SolvedStatements → SolvedStatements
solved_ahead [] rest = rest
solved_ahead (s ∷ ss) rest = statement s (solved_ahead ss rest)

pub solved_ahead-append : (ss : List SolvedStatement) (s : SolvedStatement) (rest : SolvedStatements) → solved_ahead (ss ++ s ∷ []) rest ≡ solved_ahead ss (statement s rest)
solved_ahead-append [] s rest = refl
solved_ahead-append (t ∷ ss) s rest = ap (statement t) (solved_ahead-append ss s rest)

pub solved_ahead-all : (ss : List SolvedStatement) → solved_ahead ss no_statements ≡ solved_statements_of ss
solved_ahead-all [] = refl
solved_ahead-all (t ∷ ss) = ap (statement t) (solved_ahead-all ss)

pub map-methods : (classes fields : List Name) (ms : List Method) → map (λ m. solve_method classes fields (method_tree m)) ms ≡ map (solve_method classes fields) (map method_tree ms)
map-methods classes fields [] = refl
map-methods classes fields (m ∷ ms) = ap (λ rest. solve_method classes fields (method_tree m) ∷ rest) (map-methods classes fields ms)

pub map-classes : (classes : List Name) (cs : List Class) → map (λ c. solve_methods classes (class_tree c)) cs ≡ map (solve_methods classes) (map class_tree cs)
map-classes classes [] = refl
map-classes classes (c ∷ cs) = ap (λ rest. solve_methods classes (class_tree c) ∷ rest) (map-classes classes cs)

pub map-names : (cs : List Class) → map (λ c. c.name) (map class_tree cs) ≡ map (λ c. c.name) cs
map-names [] = refl
map-names (c ∷ cs) = ap (λ rest. c.name ∷ rest) (map-names cs)

pub ruleset by_items = (map-append, solved_expressions_of-map, map-methods, map-classes)
