-- What a resolved method stands for. A slot or a number is the first place of its name: of a field among the fields of the
-- class, of a local among the names in scope, of a class among the classes of the program.
use Rattle.std.specs.Prelude.{◌≡◌, ℕ, List, [], ◌∷◌, length, Some, bytes_eq}
use Rattle.std.specs.List.{position_from}
use Rattle.model_tree.specs.Tree.{Name, Expression, nil, bool, int, text, this, local, field, list, unary, binary, builtin, call, future, create, Expressions, no_expressions, expression, Statement, declare, assign, set_field, when, while, give, do_, Statements, no_statements, statement, Otherwise, no_else, else_block, MethodTree, ProgramTree}
use Rattle.model_solved.specs.Builtins.{builtin_named}
use Rattle.model_solved.specs.Faults.{class_names}
use Rattle.model_solved.specs.Scopes.{scope_behind, slots_of_statements}
use Rattle.model_solved.specs.SolvedTree.{SolvedExpression, SolvedExpressions, SolvedStatement, SolvedStatements, SolvedOtherwise, SolvedMethod}
use Rattle.model_solved.specs.SolvedTree as solved

abbrev pub IsPlace : List Name → Name → ℕ → Type 0
IsPlace names x place = position_from (bytes_eq x) 0 names ≡ Some place

-- in a program with these classes, in a class with these fields, where these names are in scope
abbrev mutual
  pub Resolves : List Name → List Name → List Name → Expression → SolvedExpression → Type 0
  Resolves classes fields scope nil solved.nil = Unit {0}
  Resolves classes fields scope (bool b) (solved.bool c) = b ≡ c
  Resolves classes fields scope (int n) (solved.int k) = n ≡ k
  Resolves classes fields scope (text s) (solved.text t) = s ≡ t
  Resolves classes fields scope this solved.this = Unit {0}
  Resolves classes fields scope (local x) (solved.local slot) = IsPlace scope x slot
  Resolves classes fields scope (field x) (solved.field slot) = IsPlace fields x slot
  Resolves classes fields scope (list items) (solved.list ss) = ResolvesAll classes fields scope items ss
  Resolves classes fields scope (unary op e) (solved.unary o s) = (op ≡ o) × Resolves classes fields scope e s
  Resolves classes fields scope (binary op a b) (solved.binary o p q) =
      (op ≡ o) × Resolves classes fields scope a p × Resolves classes fields scope b q
  Resolves classes fields scope (builtin x args) (solved.builtin f ss) =
      (builtin_named x ≡ Some f) × ResolvesAll classes fields scope args ss
  Resolves classes fields scope (call object x args) (solved.call o y ss) =
      Resolves classes fields scope object o × (x ≡ y) × ResolvesAll classes fields scope args ss
  Resolves classes fields scope (future object delay x args) (solved.future o d y ss) =
      Resolves classes fields scope object o × Resolves classes fields scope delay d × (x ≡ y)
      × ResolvesAll classes fields scope args ss
  Resolves classes fields scope (create x options) (solved.create n s) =
      IsPlace classes x n × Resolves classes fields scope options s
  Resolves classes fields scope _ _ = ⊥

  pub ResolvesAll : List Name → List Name → List Name → Expressions → SolvedExpressions → Type 0
  ResolvesAll classes fields scope no_expressions solved.no_expressions = Unit {0}
  ResolvesAll classes fields scope (expression e es) (solved.expression s ss) =
      Resolves classes fields scope e s × ResolvesAll classes fields scope es ss
  ResolvesAll classes fields scope _ _ = ⊥

-- a `let` has the slot behind those of the names in scope
abbrev mutual
  pub ResolvesStatement : List Name → List Name → List Name → Statement → SolvedStatement → Type 0
  ResolvesStatement classes fields scope (declare x e) (solved.declare slot s) =
      (slot ≡ length scope) × Resolves classes fields scope e s
  ResolvesStatement classes fields scope (assign x e) (solved.assign slot s) =
      IsPlace scope x slot × Resolves classes fields scope e s
  ResolvesStatement classes fields scope (set_field x e) (solved.set_field slot s) =
      IsPlace fields x slot × Resolves classes fields scope e s
  ResolvesStatement classes fields scope (when test block other) (solved.when t b o) =
      Resolves classes fields scope test t × ResolvesBlock classes fields scope block b
      × ResolvesElse classes fields scope other o
  ResolvesStatement classes fields scope (while test block) (solved.while t b) =
      Resolves classes fields scope test t × ResolvesBlock classes fields scope block b
  ResolvesStatement classes fields scope (give e) (solved.give s) = Resolves classes fields scope e s
  ResolvesStatement classes fields scope (do_ e) (solved.do_ s) = Resolves classes fields scope e s
  ResolvesStatement classes fields scope _ _ = ⊥

  pub ResolvesBlock : List Name → List Name → List Name → Statements → SolvedStatements → Type 0
  ResolvesBlock classes fields scope no_statements solved.no_statements = Unit {0}
  ResolvesBlock classes fields scope (statement s ss) (solved.statement t ts) =
      ResolvesStatement classes fields scope s t × ResolvesBlock classes fields (scope_behind scope s) ss ts
  ResolvesBlock classes fields scope _ _ = ⊥

  pub ResolvesElse : List Name → List Name → List Name → Otherwise → SolvedOtherwise → Type 0
  ResolvesElse classes fields scope no_else solved.no_else = Unit {0}
  ResolvesElse classes fields scope (else_block block) (solved.else_block b) =
      ResolvesBlock classes fields scope block b
  ResolvesElse classes fields scope _ _ = ⊥

-- the parameters have the first slots, and there are as many slots as names are ever in scope at once
abbrev pub ResolvesMethod : List Name → List Name → MethodTree → SolvedMethod → Type 0
ResolvesMethod classes fields m s =
    (s.params ≡ length m.params) × (s.slots ≡ slots_of_statements m.params m.body)
    × ResolvesBlock classes fields m.params m.body s.body

abbrev pub ResolvesMethods : List Name → List Name → List MethodTree → List SolvedMethod → Type 0
ResolvesMethods classes fields [] [] = Unit {0}
ResolvesMethods classes fields (m ∷ ms) (s ∷ ss) =
    ResolvesMethod classes fields m s × ResolvesMethods classes fields ms ss
ResolvesMethods classes fields _ _ = ⊥

abbrev pub ResolvesClasses : List Name → ProgramTree → List (List SolvedMethod) → Type 0
ResolvesClasses classes [] [] = Unit {0}
ResolvesClasses classes (c ∷ cs) (s ∷ ss) = ResolvesMethods classes c.fields c.methods s × ResolvesClasses classes cs ss
ResolvesClasses classes _ _ = ⊥

-- the methods of each class
abbrev pub ResolvesProgram : ProgramTree → List (List SolvedMethod) → Type 0
ResolvesProgram tree solved = ResolvesClasses (class_names tree) tree solved
