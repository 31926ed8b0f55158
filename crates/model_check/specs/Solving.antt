-- The resolved tree that the check makes of a tree without faults.
use Rattle.std.specs.Prelude.{ℕ, ◌≤◌, List, [], ◌∷◌, length, map, bytes_eq, unwrap_or}
use Rattle.std.specs.List.{position_from}
use Rattle.model_tree.specs.Tree.{Name, Expression, nil, bool, int, text, this, local, field, list, unary, binary, builtin, call, future, create, Expressions, no_expressions, expression, Statement, declare, assign, set_field, when, while, give, do_, Statements, no_statements, statement, Otherwise, no_else, else_block, MethodTree, ClassTree, ProgramTree}
use Rattle.model_tree.specs.Bounds.{most_members, most_arguments}
use Rattle.model_solved.specs.declared.builtin.Builtin.{Builtin}
use Rattle.model_solved.specs.declared.builtin.Builtin.TheVariants.{Now}
use Rattle.model_solved.specs.Builtins.{builtin_named}
use Rattle.model_solved.specs.Faults.{class_names}
use Rattle.model_solved.specs.Scopes.{scope_behind, slots_of_statements}
use Rattle.model_solved.specs.SolvedTree.{SolvedExpression, SolvedExpressions, SolvedStatement, SolvedStatements, SolvedOtherwise, SolvedMethod}
use Rattle.model_solved.specs.SolvedTree as solved

-- the first place of a name among names, where it is among them
abbrev pub place_of : List Name → Name → ℕ
place_of names x = unwrap_or (position_from (bytes_eq x) 0 names) 0

-- the builtin of that name, where there is one
abbrev pub builtin_of : Name → Builtin
builtin_of x = unwrap_or (builtin_named x) Now

-- of what stands in a program with these classes, in a class with these fields, where these names are in scope
abbrev mutual
  pub solve_expression : List Name → List Name → List Name → Expression → SolvedExpression
  solve_expression classes fields scope nil = solved.nil
  solve_expression classes fields scope (bool b) = solved.bool b
  solve_expression classes fields scope (int n) = solved.int n
  solve_expression classes fields scope (text s) = solved.text s
  solve_expression classes fields scope this = solved.this
  solve_expression classes fields scope (local x) = solved.local (place_of scope x)
  solve_expression classes fields scope (field x) = solved.field (place_of fields x)
  solve_expression classes fields scope (list items) = solved.list (solve_expressions classes fields scope items)
  solve_expression classes fields scope (unary op e) = solved.unary op (solve_expression classes fields scope e)
  solve_expression classes fields scope (binary op a b) =
      solved.binary op (solve_expression classes fields scope a) (solve_expression classes fields scope b)
  solve_expression classes fields scope (builtin x args) =
      solved.builtin (builtin_of x) (solve_expressions classes fields scope args)
  solve_expression classes fields scope (call object x args) =
      solved.call (solve_expression classes fields scope object) x (solve_expressions classes fields scope args)
  solve_expression classes fields scope (future object delay x args) =
      solved.future (solve_expression classes fields scope object) (solve_expression classes fields scope delay) x
      (solve_expressions classes fields scope args)
  solve_expression classes fields scope (create x options) =
      solved.create (place_of classes x) (solve_expression classes fields scope options)

  pub solve_expressions : List Name → List Name → List Name → Expressions → SolvedExpressions
  solve_expressions classes fields scope no_expressions = solved.no_expressions
  solve_expressions classes fields scope (expression e es) =
      solved.expression (solve_expression classes fields scope e) (solve_expressions classes fields scope es)

-- a `let` has the next slot
abbrev mutual
  pub solve_statement : List Name → List Name → List Name → Statement → SolvedStatement
  solve_statement classes fields scope (declare x e) =
      solved.declare (length scope) (solve_expression classes fields scope e)
  solve_statement classes fields scope (assign x e) =
      solved.assign (place_of scope x) (solve_expression classes fields scope e)
  solve_statement classes fields scope (set_field x e) =
      solved.set_field (place_of fields x) (solve_expression classes fields scope e)
  solve_statement classes fields scope (when test block other) =
      solved.when (solve_expression classes fields scope test) (solve_statements classes fields scope block)
      (solve_else classes fields scope other)
  solve_statement classes fields scope (while test block) =
      solved.while (solve_expression classes fields scope test) (solve_statements classes fields scope block)
  solve_statement classes fields scope (give e) = solved.give (solve_expression classes fields scope e)
  solve_statement classes fields scope (do_ e) = solved.do_ (solve_expression classes fields scope e)

  pub solve_statements : List Name → List Name → List Name → Statements → SolvedStatements
  solve_statements classes fields scope no_statements = solved.no_statements
  solve_statements classes fields scope (statement s ss) =
      solved.statement (solve_statement classes fields scope s)
      (solve_statements classes fields (scope_behind scope s) ss)

  pub solve_else : List Name → List Name → List Name → Otherwise → SolvedOtherwise
  solve_else classes fields scope no_else = solved.no_else
  solve_else classes fields scope (else_block block) = solved.else_block (solve_statements classes fields scope block)

abbrev pub solve_method : List Name → List Name → MethodTree → SolvedMethod
solve_method classes fields m =
    record {
      params = length m.params;
      slots = slots_of_statements m.params m.body;
      body = solve_statements classes fields m.params m.body;
    }

abbrev pub solve_methods : List Name → ClassTree → List SolvedMethod
solve_methods classes c = map (solve_method classes c.fields) c.methods

abbrev pub solve_program : ProgramTree → List (List SolvedMethod)
solve_program tree = map (solve_methods (class_names tree)) tree

-- the bounds that make a class solvable
abbrev pub HaveFewParameters : List MethodTree → Type 0
HaveFewParameters [] = Unit {0}
HaveFewParameters (m ∷ ms) = (length m.params ≤ most_arguments) × HaveFewParameters ms

abbrev pub IsSolvable : ClassTree → Type 0
IsSolvable c = (length c.fields ≤ most_members) × HaveFewParameters c.methods

abbrev pub AreSolvable : ProgramTree → Type 0
AreSolvable [] = Unit {0}
AreSolvable (c ∷ cs) = IsSolvable c × AreSolvable cs
