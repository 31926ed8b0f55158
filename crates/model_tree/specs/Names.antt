-- Names are short: no longer than the tokens let them be.
use Rattle.std.specs.Prelude.{◌≤◌, List, [], ◌∷◌, length}
use Rattle.model_tokens.specs.Spelling.{longest_name}
use Rattle.model_tree.specs.Tree.{Name, Expression, nil, bool, int, text, this, local, field, list, unary, binary, builtin, call, future, create, Expressions, no_expressions, expression, Statement, declare, assign, set_field, when, while, give, do_, Statements, no_statements, statement, Otherwise, no_else, else_block, MethodTree, ProgramTree}

abbrev pub IsShortName : Name → Type 0
IsShortName x = length x ≤ longest_name

abbrev pub AreShort : List Name → Type 0
AreShort [] = Unit {0}
AreShort (x ∷ xs) = IsShortName x × AreShort xs

abbrev mutual
  pub HasShortNames : Expression → Type 0
  HasShortNames nil = Unit {0}
  HasShortNames (bool b) = Unit {0}
  HasShortNames (int n) = Unit {0}
  HasShortNames (text s) = Unit {0}
  HasShortNames this = Unit {0}
  HasShortNames (local x) = IsShortName x
  HasShortNames (field x) = IsShortName x
  HasShortNames (list items) = AllHaveShortNames items
  HasShortNames (unary op e) = HasShortNames e
  HasShortNames (binary op a b) = HasShortNames a × HasShortNames b
  HasShortNames (builtin x args) = IsShortName x × AllHaveShortNames args
  HasShortNames (call object x args) = HasShortNames object × IsShortName x × AllHaveShortNames args
  HasShortNames (future object delay x args) = HasShortNames object × HasShortNames delay × IsShortName x
      × AllHaveShortNames args
  HasShortNames (create x options) = IsShortName x × HasShortNames options

  pub AllHaveShortNames : Expressions → Type 0
  AllHaveShortNames no_expressions = Unit {0}
  AllHaveShortNames (expression e es) = HasShortNames e × AllHaveShortNames es

abbrev mutual
  pub NamesAreShort : Statement → Type 0
  NamesAreShort (declare x e) = IsShortName x × HasShortNames e
  NamesAreShort (assign x e) = IsShortName x × HasShortNames e
  NamesAreShort (set_field x e) = IsShortName x × HasShortNames e
  NamesAreShort (when test block other) = HasShortNames test × AllNamesAreShort block × ElseNamesAreShort other
  NamesAreShort (while test block) = HasShortNames test × AllNamesAreShort block
  NamesAreShort (give e) = HasShortNames e
  NamesAreShort (do_ e) = HasShortNames e

  pub AllNamesAreShort : Statements → Type 0
  AllNamesAreShort no_statements = Unit {0}
  AllNamesAreShort (statement s ss) = NamesAreShort s × AllNamesAreShort ss

  pub ElseNamesAreShort : Otherwise → Type 0
  ElseNamesAreShort no_else = Unit {0}
  ElseNamesAreShort (else_block block) = AllNamesAreShort block

abbrev pub MethodNamesAreShort : List MethodTree → Type 0
MethodNamesAreShort [] = Unit {0}
MethodNamesAreShort (m ∷ ms) = (IsShortName m.name × AreShort m.params × AllNamesAreShort m.body)
    × MethodNamesAreShort ms

abbrev pub ClassNamesAreShort : ProgramTree → Type 0
ClassNamesAreShort [] = Unit {0}
ClassNamesAreShort (c ∷ cs) = (IsShortName c.name × AreShort c.fields × MethodNamesAreShort c.methods)
    × ClassNamesAreShort cs
