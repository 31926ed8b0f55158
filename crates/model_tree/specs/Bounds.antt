-- The bounds of a program: brackets and operators among its tokens, and lists in its tree.
use Rattle.std.specs.Prelude.{ℕ, ◌+◌, ◌-◌, ◌≤◌, max, nat_le, if◌then◌else◌, List, [], ◌∷◌, length, Option, Some, None}
use Rattle.model_tokens.specs.declared.token.Token.{Token}
use Rattle.model_tokens.specs.declared.token.Token.TheVariants as token
use Rattle.model_tokens.specs.declared.token.Symbol.{Symbol}
use Rattle.model_tokens.specs.declared.token.Symbol.TheVariants as symbol
use Rattle.model_tree.specs.declared.bound.Bound.{Bound}
use Rattle.model_tree.specs.declared.bound.Bound.TheVariants as bound
use Rattle.model_tree.specs.Tree.{Expression, nil, bool, int, text, this, local, field, list, unary, binary, builtin, call, future, create, Expressions, no_expressions, expression, Statement, declare, assign, set_field, when, while, give, do_, Statements, no_statements, statement, Otherwise, no_else, else_block, MethodTree, ClassTree, ProgramTree}

abbrev pub most_program_bytes : ℕ
most_program_bytes = 65536

-- of brackets that are open at a token, and of operators since the last `,`, `;`, `{` or `}`
abbrev pub most_nested : ℕ
most_nested = 32

-- of classes, and of the fields and the methods of one
abbrev pub most_members : ℕ
most_members = 256

-- of a method's parameters, and of the arguments of a call or a future
abbrev pub most_arguments : ℕ
most_arguments = 16

-- how many brackets are open behind a symbol. A closing one closes the last open one, of whatever kind, if there is one
abbrev pub brackets_after : ℕ → Symbol → ℕ
brackets_after opened symbol.OpenBrace = opened + 1
brackets_after opened symbol.OpenRound = opened + 1
brackets_after opened symbol.OpenSquare = opened + 1
brackets_after opened symbol.CloseBrace = opened - 1
brackets_after opened symbol.CloseRound = opened - 1
brackets_after opened symbol.CloseSquare = opened - 1
brackets_after opened _ = opened

-- how many operators stand behind a symbol since the last `,`, `;`, `{` or `}`
abbrev pub operators_after : ℕ → Symbol → ℕ
operators_after before symbol.Comma = 0
operators_after before symbol.Semicolon = 0
operators_after before symbol.OpenBrace = 0
operators_after before symbol.CloseBrace = 0
operators_after before symbol.OpenRound = before
operators_after before symbol.CloseRound = before
operators_after before symbol.OpenSquare = before
operators_after before symbol.CloseSquare = before
operators_after before symbol.Assign = before
operators_after before _ = before + 1

-- what a count that symbols change is behind a token
abbrev pub count_after : (ℕ → Symbol → ℕ) → ℕ → Token → ℕ
count_after after count (token.Symbol s) = after count s
count_after after count _ = count

-- the greatest that a count becomes
abbrev pub greatest : (ℕ → Symbol → ℕ) → ℕ → List Token → ℕ
greatest after count [] = count
greatest after count (t ∷ ts) = max count (greatest after (count_after after count t) ts)

abbrev pub how_many : Expressions → ℕ
how_many no_expressions = 0
how_many (expression e es) = 1 + how_many es

-- no call and no future has too many arguments. A list may have any number of items
abbrev mutual
  pub FewArguments : Expression → Type 0
  FewArguments nil = Unit {0}
  FewArguments (bool b) = Unit {0}
  FewArguments (int n) = Unit {0}
  FewArguments (text s) = Unit {0}
  FewArguments this = Unit {0}
  FewArguments (local x) = Unit {0}
  FewArguments (field x) = Unit {0}
  FewArguments (list items) = AllFewArguments items
  FewArguments (unary op e) = FewArguments e
  FewArguments (binary op a b) = FewArguments a × FewArguments b
  FewArguments (builtin x args) = AllFewArguments args
  FewArguments (call object x args) = FewArguments object × ((how_many args ≤ most_arguments) × AllFewArguments args)
  FewArguments (future object delay x args) =
      FewArguments object × FewArguments delay × ((how_many args ≤ most_arguments) × AllFewArguments args)
  FewArguments (create x options) = FewArguments options

  pub AllFewArguments : Expressions → Type 0
  AllFewArguments no_expressions = Unit {0}
  AllFewArguments (expression e es) = FewArguments e × AllFewArguments es

abbrev mutual
  pub HasFewArguments : Statement → Type 0
  HasFewArguments (declare x e) = FewArguments e
  HasFewArguments (assign x e) = FewArguments e
  HasFewArguments (set_field x e) = FewArguments e
  HasFewArguments (when test block other) = FewArguments test × AllHaveFewArguments block × ElseHasFewArguments other
  HasFewArguments (while test block) = FewArguments test × AllHaveFewArguments block
  HasFewArguments (give e) = FewArguments e
  HasFewArguments (do_ e) = FewArguments e

  pub AllHaveFewArguments : Statements → Type 0
  AllHaveFewArguments no_statements = Unit {0}
  AllHaveFewArguments (statement s ss) = HasFewArguments s × AllHaveFewArguments ss

  pub ElseHasFewArguments : Otherwise → Type 0
  ElseHasFewArguments no_else = Unit {0}
  ElseHasFewArguments (else_block block) = AllHaveFewArguments block

abbrev pub MethodFits : MethodTree → Type 0
MethodFits m = (length m.params ≤ most_arguments) × AllHaveFewArguments m.body

abbrev pub MethodsFit : List MethodTree → Type 0
MethodsFit [] = Unit {0}
MethodsFit (m ∷ ms) = MethodFits m × MethodsFit ms

abbrev pub ClassFits : ClassTree → Type 0
ClassFits c = (length c.fields ≤ most_members) × (length c.methods ≤ most_members) × MethodsFit c.methods

abbrev pub ClassesFit : List ClassTree → Type 0
ClassesFit [] = Unit {0}
ClassesFit (c ∷ cs) = ClassFits c × ClassesFit cs

abbrev pub ProgramFits : ProgramTree → Type 0
ProgramFits cs = (length cs ≤ most_members) × ClassesFit cs

-- ---- what is too many

-- a count that is above its bound
abbrev pub above : ℕ → ℕ → Option ℕ
above most count = if nat_le count most then None else Some count

-- the first of two counts that are above a bound
abbrev pub first_found : Option ℕ → Option ℕ → Option ℕ
first_found None other = other
first_found (Some n) other = Some n

-- the first list of arguments of a call or a future that is too long, in the order in which the lists begin
abbrev mutual
  pub many_arguments : Expression → Option ℕ
  many_arguments nil = None
  many_arguments (bool b) = None
  many_arguments (int n) = None
  many_arguments (text s) = None
  many_arguments this = None
  many_arguments (local x) = None
  many_arguments (field x) = None
  many_arguments (list items) = all_many_arguments items
  many_arguments (unary op e) = many_arguments e
  many_arguments (binary op a b) = first_found (many_arguments a) (many_arguments b)
  many_arguments (builtin x args) = all_many_arguments args
  many_arguments (call object x args) =
      first_found (many_arguments object) (first_found (above most_arguments (how_many args)) (all_many_arguments args))
  many_arguments (future object delay x args) =
      first_found (many_arguments object)
      (first_found (many_arguments delay)
      (first_found (above most_arguments (how_many args)) (all_many_arguments args)))
  many_arguments (create x options) = many_arguments options

  pub all_many_arguments : Expressions → Option ℕ
  all_many_arguments no_expressions = None
  all_many_arguments (expression e es) = first_found (many_arguments e) (all_many_arguments es)

abbrev mutual
  pub many_in_statement : Statement → Option ℕ
  many_in_statement (declare x e) = many_arguments e
  many_in_statement (assign x e) = many_arguments e
  many_in_statement (set_field x e) = many_arguments e
  many_in_statement (when test block other) =
      first_found (many_arguments test) (first_found (many_in_block block) (many_in_else other))
  many_in_statement (while test block) = first_found (many_arguments test) (many_in_block block)
  many_in_statement (give e) = many_arguments e
  many_in_statement (do_ e) = many_arguments e

  pub many_in_block : Statements → Option ℕ
  many_in_block no_statements = None
  many_in_block (statement s ss) = first_found (many_in_statement s) (many_in_block ss)

  pub many_in_else : Otherwise → Option ℕ
  many_in_else no_else = None
  many_in_else (else_block block) = many_in_block block

-- the parameters of a method stand before its body
abbrev pub many_in_methods : List MethodTree → Option ℕ
many_in_methods [] = None
many_in_methods (m ∷ ms) = first_found (first_found (above most_arguments (length m.params)) (many_in_block m.body))
    (many_in_methods ms)

abbrev pub many_parameters : List ClassTree → Option ℕ
many_parameters [] = None
many_parameters (c ∷ cs) = first_found (many_in_methods c.methods) (many_parameters cs)

abbrev pub many_fields : List ClassTree → Option ℕ
many_fields [] = None
many_fields (c ∷ cs) = first_found (above most_members (length c.fields)) (many_fields cs)

abbrev pub many_methods : List ClassTree → Option ℕ
many_methods [] = None
many_methods (c ∷ cs) = first_found (above most_members (length c.methods)) (many_methods cs)

-- where a count is above its bound, that bound and the count, else what comes behind
abbrev pub or_else : Bound → Option ℕ → Option (Bound × ℕ) → Option (Bound × ℕ)
or_else what None behind = behind
or_else what (Some count) behind = Some (what, count)

-- the first bound that a program passes, in this order, with the first count that is above it
abbrev pub first_excess : ProgramTree → Option (Bound × ℕ)
first_excess cs =
    or_else bound.Classes (above most_members (length cs))
    (or_else bound.Fields (many_fields cs)
    (or_else bound.Methods (many_methods cs) (or_else bound.Parameters (many_parameters cs) None)))
