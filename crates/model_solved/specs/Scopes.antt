-- The names that are in scope in a method: its parameters, and behind each `let` its name, to the end of the block.
use Rattle.std.specs.Prelude.{ℕ, ◌+◌, max, List, [], ◌∷◌, ◌++◌, length}
use Rattle.model_tree.specs.Tree.{Name, Statement, declare, when, while, Statements, no_statements, statement, Otherwise, no_else, else_block}

abbrev pub scope_behind : List Name → Statement → List Name
scope_behind scope (declare x e) = scope ++ x ∷ []
scope_behind scope _ = scope

-- the greatest number of names that are in scope at a place of it or behind it
abbrev mutual
  pub slots_of_statement : List Name → Statement → ℕ
  slots_of_statement scope (declare x e) = length scope + 1
  slots_of_statement scope (when test block other) = max (slots_of_statements scope block) (slots_of_else scope other)
  slots_of_statement scope (while test block) = slots_of_statements scope block
  slots_of_statement scope _ = length scope

  pub slots_of_statements : List Name → Statements → ℕ
  slots_of_statements scope no_statements = length scope
  slots_of_statements scope (statement s ss) =
      max (slots_of_statement scope s) (slots_of_statements (scope_behind scope s) ss)

  pub slots_of_else : List Name → Otherwise → ℕ
  slots_of_else scope no_else = length scope
  slots_of_else scope (else_block block) = slots_of_statements scope block
