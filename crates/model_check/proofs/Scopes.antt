-- What is in scope behind statements, and how many slots they take.
use Rattle.std.proofs.Common.{◌≡◌, ◌≤◌, ℕ, List, [], ◌∷◌, length, take, refl, arith, length-append}
use Rattle.std.proofs.lemmas.List.{take-append-le}
use Rattle.model_tree.specs.Tree.{Name, Statement, declare, assign, set_field, when, while, give, do_, Statements, no_statements, statement}
use Rattle.model_solved.specs.Scopes.{scope_behind, slots_of_statements}

pub scope_grows : (scope : List Name) (s : Statement) → length scope ≤ length (scope_behind scope s)
scope_grows scope (declare x e) = omega (arith, length-append scope (x ∷ []))
scope_grows scope (assign x e) = omega arith
scope_grows scope (set_field x e) = omega arith
scope_grows scope (when test block other) = omega arith
scope_grows scope (while test block) = omega arith
scope_grows scope (give e) = omega arith
scope_grows scope (do_ e) = omega arith

-- the names that were in scope before a statement stay in front
pub scope_kept : (n : ℕ) (scope : List Name) (s : Statement) → n ≤ length scope → take n (scope_behind scope s) ≡ take n scope
scope_kept n scope (declare x e) h = take-append-le n scope (x ∷ []) h
scope_kept n scope (assign x e) h = refl
scope_kept n scope (set_field x e) h = refl
scope_kept n scope (when test block other) h = refl
scope_kept n scope (while test block) h = refl
scope_kept n scope (give e) h = refl
scope_kept n scope (do_ e) h = refl

pub slots_hold : (scope : List Name) (ss : Statements) → length scope ≤ slots_of_statements scope ss
slots_hold scope no_statements = omega arith
slots_hold scope (statement s ss) = omega (arith, scope_grows scope s, slots_hold (scope_behind scope s) ss)
