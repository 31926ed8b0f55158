-- The faults that a check finds, in the order of the text.
use Rattle.std.specs.Prelude.{ℕ, nat_eq, Bool, false, ◌||◌, if◌then◌else◌, List, [], ◌∷◌, ◌++◌, map, Option, Some, None, bytes_eq}
use Rattle.model_tree.specs.Tree.{Name, Expression, nil, bool, int, text, this, local, field, list, unary, binary, builtin, call, future, create, Expressions, no_expressions, expression, Statement, declare, assign, set_field, when, while, give, do_, Statements, no_statements, statement, Otherwise, no_else, else_block, MethodTree, ClassTree, ProgramTree, root_name}
use Rattle.model_tree.specs.Bounds.{how_many}
use Rattle.model_solved.specs.declared.builtin.Builtin.{Builtin}
use Rattle.model_solved.specs.declared.fault.CheckFault.{CheckFault}
use Rattle.model_solved.specs.declared.fault.CheckFault.TheVariants.{Twice, NoName, NoClass, NoField, Count, NoRoot}
use Rattle.model_solved.specs.Builtins.{arguments_of, builtin_named}
use Rattle.model_solved.specs.Scopes.{scope_behind}

abbrev pub is_among : Name → List Name → Bool
is_among x [] = false
is_among x (y ∷ ys) = bytes_eq x y || is_among x ys

-- a name is named twice where it is seen already
abbrev pub twice_where : Bool → Name → List CheckFault
twice_where is_seen x = if is_seen then Twice x ∷ [] else []

abbrev pub faults_of_name : List Name → Name → List CheckFault
faults_of_name seen x = twice_where (is_among x seen) x

abbrev pub faults_of_names : List Name → List Name → List CheckFault
faults_of_names seen [] = []
faults_of_names seen (x ∷ xs) = faults_of_name seen x ++ faults_of_names (seen ++ x ∷ []) xs

-- a name that has to be among some
abbrev pub missing_from : List Name → Name → CheckFault → List CheckFault
missing_from names x fault = if is_among x names then [] else fault ∷ []

abbrev pub faults_of_field : List Name → Name → List CheckFault
faults_of_field fields x = missing_from fields x (NoField x)

abbrev pub faults_of_local : List Name → Name → List CheckFault
faults_of_local scope x = missing_from scope x (NoName x)

-- a class may stand behind the place that names it
abbrev pub faults_of_creation : List Name → Name → List CheckFault
faults_of_creation classes x = missing_from classes x (NoClass x)

abbrev pub faults_of_count : Option Builtin → Name → ℕ → List CheckFault
faults_of_count None x given = NoName x ∷ []
faults_of_count (Some b) x given = if nat_eq given (arguments_of b) then [] else Count x ∷ []

-- of a call of a builtin with so many arguments
abbrev pub faults_of_builtin : Name → ℕ → List CheckFault
faults_of_builtin x given = faults_of_count (builtin_named x) x given

-- of what stands in a program with these classes, in a class with these fields, where these names are in scope. The name of
-- a method that is called is not checked
abbrev mutual
  pub faults_of_expression : List Name → List Name → List Name → Expression → List CheckFault
  faults_of_expression classes fields scope nil = []
  faults_of_expression classes fields scope (bool b) = []
  faults_of_expression classes fields scope (int n) = []
  faults_of_expression classes fields scope (text s) = []
  faults_of_expression classes fields scope this = []
  faults_of_expression classes fields scope (local x) = faults_of_local scope x
  faults_of_expression classes fields scope (field x) = faults_of_field fields x
  faults_of_expression classes fields scope (list items) = faults_of_expressions classes fields scope items
  faults_of_expression classes fields scope (unary op e) = faults_of_expression classes fields scope e
  faults_of_expression classes fields scope (binary op a b) =
      faults_of_expression classes fields scope a ++ faults_of_expression classes fields scope b
  faults_of_expression classes fields scope (builtin x args) =
      faults_of_builtin x (how_many args) ++ faults_of_expressions classes fields scope args
  faults_of_expression classes fields scope (call object x args) =
      faults_of_expression classes fields scope object ++ faults_of_expressions classes fields scope args
  faults_of_expression classes fields scope (future object delay x args) =
      faults_of_expression classes fields scope object ++ faults_of_expression classes fields scope delay
      ++ faults_of_expressions classes fields scope args
  faults_of_expression classes fields scope (create x options) =
      faults_of_creation classes x ++ faults_of_expression classes fields scope options

  pub faults_of_expressions : List Name → List Name → List Name → Expressions → List CheckFault
  faults_of_expressions classes fields scope no_expressions = []
  faults_of_expressions classes fields scope (expression e es) =
      faults_of_expression classes fields scope e ++ faults_of_expressions classes fields scope es

-- the name of a `let` is not in scope in its own value
abbrev mutual
  pub faults_of_statement : List Name → List Name → List Name → Statement → List CheckFault
  faults_of_statement classes fields scope (declare x e) =
      faults_of_name scope x ++ faults_of_expression classes fields scope e
  faults_of_statement classes fields scope (assign x e) =
      faults_of_local scope x ++ faults_of_expression classes fields scope e
  faults_of_statement classes fields scope (set_field x e) =
      faults_of_field fields x ++ faults_of_expression classes fields scope e
  faults_of_statement classes fields scope (when test block other) =
      faults_of_expression classes fields scope test ++ faults_of_statements classes fields scope block
      ++ faults_of_else classes fields scope other
  faults_of_statement classes fields scope (while test block) =
      faults_of_expression classes fields scope test ++ faults_of_statements classes fields scope block
  faults_of_statement classes fields scope (give e) = faults_of_expression classes fields scope e
  faults_of_statement classes fields scope (do_ e) = faults_of_expression classes fields scope e

  pub faults_of_statements : List Name → List Name → List Name → Statements → List CheckFault
  faults_of_statements classes fields scope no_statements = []
  faults_of_statements classes fields scope (statement s ss) =
      faults_of_statement classes fields scope s ++ faults_of_statements classes fields (scope_behind scope s) ss

  pub faults_of_else : List Name → List Name → List Name → Otherwise → List CheckFault
  faults_of_else classes fields scope no_else = []
  faults_of_else classes fields scope (else_block block) = faults_of_statements classes fields scope block

abbrev pub faults_of_method : List Name → List Name → MethodTree → List CheckFault
faults_of_method classes fields m = faults_of_names [] m.params ++ faults_of_statements classes fields m.params m.body

-- of methods that come after methods of these names
abbrev pub faults_of_methods : List Name → List Name → List Name → List MethodTree → List CheckFault
faults_of_methods classes fields seen [] = []
faults_of_methods classes fields seen (m ∷ ms) =
    faults_of_name seen m.name ++ faults_of_method classes fields m
    ++ faults_of_methods classes fields (seen ++ m.name ∷ []) ms

abbrev pub faults_of_class : List Name → ClassTree → List CheckFault
faults_of_class classes c = faults_of_names [] c.fields ++ faults_of_methods classes c.fields [] c.methods

-- of classes that come after classes of these names
abbrev pub faults_of_classes : List Name → List Name → ProgramTree → List CheckFault
faults_of_classes classes seen [] = []
faults_of_classes classes seen (c ∷ cs) =
    faults_of_name seen c.name ++ faults_of_class classes c ++ faults_of_classes classes (seen ++ c.name ∷ []) cs

abbrev pub class_names : ProgramTree → List Name
class_names tree = map (λ c. c.name) tree

-- that no class is named Root stands at the end of the text
abbrev pub faults_of_program : ProgramTree → List CheckFault
faults_of_program tree = faults_of_classes (class_names tree) [] tree
    ++ missing_from (class_names tree) root_name NoRoot

abbrev pub first_of : List CheckFault → Option CheckFault
first_of [] = None
first_of (f ∷ fs) = Some f

abbrev pub first_fault : ProgramTree → Option CheckFault
first_fault tree = first_of (faults_of_program tree)
