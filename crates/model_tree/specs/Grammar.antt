-- The grammar: the forms of its lines, with the tokens that each form spells and the tree that it stands for.
use Rattle.std.specs.Prelude.{◌≡◌, ◌≤◌, ◌<◌, ℕ, ℤ, Bool, true, false, List, [], ◌∷◌, ◌++◌, length, map}
use Rattle.model_tokens.specs.declared.token.Token.{Token}
use Rattle.model_tokens.specs.declared.token.Token.TheVariants.{Name as name, ClassName as class_name, Number as number, Text as literal, Word as word, Symbol as symbol}
use Rattle.model_tokens.specs.declared.token.Word.TheVariants as w
use Rattle.model_tokens.specs.declared.token.Symbol.{Symbol}
use Rattle.model_tokens.specs.declared.token.Symbol.TheVariants as s
use Rattle.model_tree.specs.declared.tree.UnaryOp.{UnaryOp}
use Rattle.model_tree.specs.declared.tree.UnaryOp.TheVariants as sign
use Rattle.model_tree.specs.declared.tree.BinaryOp.{BinaryOp}
use Rattle.model_tree.specs.declared.tree.BinaryOp.TheVariants as op
use Rattle.model_tree.specs.Tree.{Name, Expression, nil, bool, int, text, this, local, field, list, unary, binary, builtin, call, future, create, Expressions, no_expressions, expression, Statement, declare, assign, set_field, when, while, give, do_, Statements, no_statements, statement, no_else, else_block, MethodTree, ClassTree, ProgramTree}

-- ---- expressions

-- An expression as it is written: its tree, and the round brackets, which leave no node there.
mutual
  pub data Phrase : Type 0 where
    -- prim = number | text | "nil" | "true" | "false" | "this" | "this" "." name
    --      | name | name "(" args ")" | "create" "(" CName "," expr ")" | "[" args "]" | "(" expr ")"
    a_number : ℤ → Phrase
    a_text : List ℕ → Phrase
    a_nil : Phrase
    a_bool : Bool → Phrase
    a_this : Phrase
    a_field : Name → Phrase
    a_local : Name → Phrase
    a_builtin : Name → Phrases → Phrase
    a_create : Name → Phrase → Phrase
    a_list : Phrases → Phrase
    brackets : Phrase → Phrase
    -- post = prim ("." name "(" args ")" | "." "future" "(" expr ")" "." name "(" args ")")*
    a_call : Phrase → Name → Phrases → Phrase
    a_future : Phrase → Phrase → Name → Phrases → Phrase
    -- unary = ("-" | "!") unary | post
    a_unary : UnaryOp → Phrase → Phrase
    -- term = unary (("*" | "/" | "%") unary)*
    -- sum  = term (("+" | "-") term)*
    -- rel  = sum [("==" | "!=" | "<" | "<=" | ">" | ">=") sum]?
    -- and  = rel ("&&" rel)*
    -- expr = and ("||" and)*
    a_binary : BinaryOp → Phrase → Phrase → Phrase

  -- args = [expr ("," expr)*]?
  pub data Phrases : Type 0 where
    no_phrases : Phrases
    phrase : Phrase → Phrases → Phrases

-- The lines by number, from the tightest: post 0, unary 1, term 2, sum 3, rel 4, and 5, expr 6. A phrase of a line may stand
-- wherever a looser line may.
abbrev pub operator_line : BinaryOp → ℕ
operator_line op.Or = 6
operator_line op.And = 5
operator_line op.Same = 4
operator_line op.Differs = 4
operator_line op.Less = 4
operator_line op.AtMost = 4
operator_line op.Greater = 4
operator_line op.AtLeast = 4
operator_line op.Plus = 3
operator_line op.Minus = 3
operator_line op.Times = 2
operator_line op.Divide = 2
operator_line op.Rest = 2

abbrev pub line : Phrase → ℕ
line (a_unary o a) = 1
line (a_binary o a b) = operator_line o
line _ = 0

-- The loosest line that may stand on the left of an operator: its own, since the operators of a line group to the left. But
-- a relation has a sum on either side.
abbrev pub left_of : BinaryOp → ℕ
left_of op.Or = 6
left_of op.And = 5
left_of op.Same = 3
left_of op.Differs = 3
left_of op.Less = 3
left_of op.AtMost = 3
left_of op.Greater = 3
left_of op.AtLeast = 3
left_of op.Plus = 3
left_of op.Minus = 3
left_of op.Times = 2
left_of op.Divide = 2
left_of op.Rest = 2

-- each part is of a line that may stand where it does
abbrev mutual
  pub IsWellFormed : Phrase → Type 0
  IsWellFormed (a_number n) = Unit {0}
  IsWellFormed (a_text t) = Unit {0}
  IsWellFormed a_nil = Unit {0}
  IsWellFormed (a_bool b) = Unit {0}
  IsWellFormed a_this = Unit {0}
  IsWellFormed (a_field x) = Unit {0}
  IsWellFormed (a_local x) = Unit {0}
  IsWellFormed (a_builtin x args) = AreWellFormed args
  IsWellFormed (a_create x options) = IsWellFormed options
  IsWellFormed (a_list items) = AreWellFormed items
  IsWellFormed (brackets a) = IsWellFormed a
  IsWellFormed (a_call object x args) = IsWellFormed object × (line object ≤ 0) × AreWellFormed args
  IsWellFormed (a_future object delay x args) = IsWellFormed object × (line object ≤ 0) × IsWellFormed delay
      × AreWellFormed args
  IsWellFormed (a_unary o a) = IsWellFormed a × (line a ≤ 1)
  IsWellFormed (a_binary o a b) = IsWellFormed a × (line a ≤ left_of o) × IsWellFormed b × (line b < operator_line o)

  pub AreWellFormed : Phrases → Type 0
  AreWellFormed no_phrases = Unit {0}
  AreWellFormed (phrase a more) = IsWellFormed a × AreWellFormed more

abbrev pub in_round : List Token → List Token
in_round ts = symbol s.OpenRound ∷ (ts ++ symbol s.CloseRound ∷ [])

abbrev pub in_square : List Token → List Token
in_square ts = symbol s.OpenSquare ∷ (ts ++ symbol s.CloseSquare ∷ [])

abbrev pub in_braces : List Token → List Token
in_braces ts = symbol s.OpenBrace ∷ (ts ++ symbol s.CloseBrace ∷ [])

abbrev pub sign_symbol : UnaryOp → Symbol
sign_symbol sign.Minus = s.Minus
sign_symbol sign.Not = s.Not

abbrev pub op_symbol : BinaryOp → Symbol
op_symbol op.Or = s.Or
op_symbol op.And = s.And
op_symbol op.Same = s.Same
op_symbol op.Differs = s.Differs
op_symbol op.Less = s.Less
op_symbol op.AtMost = s.AtMost
op_symbol op.Greater = s.Greater
op_symbol op.AtLeast = s.AtLeast
op_symbol op.Plus = s.Plus
op_symbol op.Minus = s.Minus
op_symbol op.Times = s.Times
op_symbol op.Divide = s.Divide
op_symbol op.Rest = s.Rest

abbrev pub truth_word : Bool → Token
truth_word true = word w.True
truth_word false = word w.False

abbrev mutual
  pub phrase_spelling : Phrase → List Token
  phrase_spelling (a_number n) = number n ∷ []
  phrase_spelling (a_text t) = literal t ∷ []
  phrase_spelling a_nil = word w.Nil ∷ []
  phrase_spelling (a_bool b) = truth_word b ∷ []
  phrase_spelling a_this = word w.This ∷ []
  phrase_spelling (a_field x) = word w.This ∷ symbol s.Dot ∷ name x ∷ []
  phrase_spelling (a_local x) = name x ∷ []
  phrase_spelling (a_builtin x args) = name x ∷ in_round (args_spelling args)
  phrase_spelling (a_create x options) =
      word w.Create ∷ in_round (class_name x ∷ symbol s.Comma ∷ phrase_spelling options)
  phrase_spelling (a_list items) = in_square (args_spelling items)
  phrase_spelling (brackets a) = in_round (phrase_spelling a)
  phrase_spelling (a_call object x args) =
      phrase_spelling object ++ symbol s.Dot ∷ name x ∷ in_round (args_spelling args)
  phrase_spelling (a_future object delay x args) =
      phrase_spelling object ++ symbol s.Dot ∷ word w.Future
      ∷ (in_round (phrase_spelling delay) ++ symbol s.Dot ∷ name x ∷ in_round (args_spelling args))
  phrase_spelling (a_unary o a) = symbol (sign_symbol o) ∷ phrase_spelling a
  phrase_spelling (a_binary o a b) = phrase_spelling a ++ symbol (op_symbol o) ∷ phrase_spelling b

  pub args_spelling : Phrases → List Token
  args_spelling no_phrases = []
  args_spelling (phrase a more) = phrase_spelling a ++ more_spelling more

  pub more_spelling : Phrases → List Token
  more_spelling no_phrases = []
  more_spelling (phrase a more) = symbol s.Comma ∷ (phrase_spelling a ++ more_spelling more)

-- round brackets leave no node
abbrev mutual
  pub tree_of : Phrase → Expression
  tree_of (a_number n) = int n
  tree_of (a_text t) = text t
  tree_of a_nil = nil
  tree_of (a_bool b) = bool b
  tree_of a_this = this
  tree_of (a_field x) = field x
  tree_of (a_local x) = local x
  tree_of (a_builtin x args) = builtin x (trees_of args)
  tree_of (a_create x options) = create x (tree_of options)
  tree_of (a_list items) = list (trees_of items)
  tree_of (brackets a) = tree_of a
  tree_of (a_call object x args) = call (tree_of object) x (trees_of args)
  tree_of (a_future object delay x args) = future (tree_of object) (tree_of delay) x (trees_of args)
  tree_of (a_unary o a) = unary o (tree_of a)
  tree_of (a_binary o a b) = binary o (tree_of a) (tree_of b)

  pub trees_of : Phrases → Expressions
  trees_of no_phrases = no_expressions
  trees_of (phrase a more) = expression (tree_of a) (trees_of more)

-- ---- statements

mutual
  -- stmt = "let" name "=" expr ";" | name "=" expr ";" | "this" "." name "=" expr ";"
  --      | "if" "(" expr ")" block ["else" block]? | "while" "(" expr ")" block
  --      | "return" expr ";" | expr ";"
  pub data Action : Type 0 where
    a_let : Name → Phrase → Action
    an_assignment : Name → Phrase → Action
    a_set_field : Name → Phrase → Action
    choice : Phrase → Block → Action
    choice_else : Phrase → Block → Block → Action
    a_while : Phrase → Block → Action
    a_return : Phrase → Action
    a_do : Phrase → Action

  -- block = "{" stmt* "}"
  pub data Block : Type 0 where
    closed : Block
    action_then : Action → Block → Block

abbrev mutual
  pub IsWellFormedAction : Action → Type 0
  IsWellFormedAction (a_let x a) = IsWellFormed a
  IsWellFormedAction (an_assignment x a) = IsWellFormed a
  IsWellFormedAction (a_set_field x a) = IsWellFormed a
  IsWellFormedAction (choice a block) = IsWellFormed a × IsWellFormedBlock block
  IsWellFormedAction (choice_else a block other) = IsWellFormed a × IsWellFormedBlock block × IsWellFormedBlock other
  IsWellFormedAction (a_while a block) = IsWellFormed a × IsWellFormedBlock block
  IsWellFormedAction (a_return a) = IsWellFormed a
  IsWellFormedAction (a_do a) = IsWellFormed a

  pub IsWellFormedBlock : Block → Type 0
  IsWellFormedBlock closed = Unit {0}
  IsWellFormedBlock (action_then a block) = IsWellFormedAction a × IsWellFormedBlock block

-- an expression with the `;` behind it
abbrev pub end_spelling : Phrase → List Token
end_spelling a = phrase_spelling a ++ symbol s.Semicolon ∷ []

abbrev mutual
  pub action_spelling : Action → List Token
  action_spelling (a_let x a) = word w.Let ∷ name x ∷ symbol s.Assign ∷ end_spelling a
  action_spelling (an_assignment x a) = name x ∷ symbol s.Assign ∷ end_spelling a
  action_spelling (a_set_field x a) = word w.This ∷ symbol s.Dot ∷ name x ∷ symbol s.Assign ∷ end_spelling a
  action_spelling (choice a block) = word w.If ∷ (in_round (phrase_spelling a) ++ in_braces (block_spelling block))
  action_spelling (choice_else a block other) =
      word w.If ∷ (in_round (phrase_spelling a)
      ++ (in_braces (block_spelling block) ++ word w.Else ∷ in_braces (block_spelling other)))
  action_spelling (a_while a block) = word w.While ∷ (in_round (phrase_spelling a) ++ in_braces (block_spelling block))
  action_spelling (a_return a) = word w.Return ∷ end_spelling a
  action_spelling (a_do a) = end_spelling a

  -- between its braces
  pub block_spelling : Block → List Token
  block_spelling closed = []
  block_spelling (action_then a block) = action_spelling a ++ block_spelling block

abbrev mutual
  pub tree_of_action : Action → Statement
  tree_of_action (a_let x a) = declare x (tree_of a)
  tree_of_action (an_assignment x a) = assign x (tree_of a)
  tree_of_action (a_set_field x a) = set_field x (tree_of a)
  tree_of_action (choice a block) = when (tree_of a) (trees_of_block block) no_else
  tree_of_action (choice_else a block other) =
      when (tree_of a) (trees_of_block block) (else_block (trees_of_block other))
  tree_of_action (a_while a block) = while (tree_of a) (trees_of_block block)
  tree_of_action (a_return a) = give (tree_of a)
  tree_of_action (a_do a) = do_ (tree_of a)

  pub trees_of_block : Block → Statements
  trees_of_block closed = no_statements
  trees_of_block (action_then a block) = statement (tree_of_action a) (trees_of_block block)

-- ---- classes

-- method = name "(" [name ("," name)*]? ")" block
pub record MethodForm : Type 0 where
  pub name : Name
  pub params : List Name
  pub body : Block

-- class = "class" CName "{" ("field" name ";")* method* "}"
pub record ClassForm : Type 0 where
  pub name : Name
  pub fields : List Name
  pub methods : List MethodForm

abbrev pub AreWellFormedMethods : List MethodForm → Type 0
AreWellFormedMethods [] = Unit {0}
AreWellFormedMethods (m ∷ ms) = IsWellFormedBlock m.body × AreWellFormedMethods ms

abbrev pub AreWellFormedClasses : List ClassForm → Type 0
AreWellFormedClasses [] = Unit {0}
AreWellFormedClasses (c ∷ cs) = AreWellFormedMethods c.methods × AreWellFormedClasses cs

abbrev pub further_spelling : List Name → List Token
further_spelling [] = []
further_spelling (x ∷ xs) = symbol s.Comma ∷ name x ∷ further_spelling xs

abbrev pub params_spelling : List Name → List Token
params_spelling [] = []
params_spelling (x ∷ xs) = name x ∷ further_spelling xs

abbrev pub method_spelling : MethodForm → List Token
method_spelling m = name m.name ∷ (in_round (params_spelling m.params) ++ in_braces (block_spelling m.body))

abbrev pub methods_spelling : List MethodForm → List Token
methods_spelling [] = []
methods_spelling (m ∷ ms) = method_spelling m ++ methods_spelling ms

abbrev pub fields_spelling : List Name → List Token
fields_spelling [] = []
fields_spelling (x ∷ xs) = word w.Field ∷ name x ∷ symbol s.Semicolon ∷ fields_spelling xs

abbrev pub class_spelling : ClassForm → List Token
class_spelling c = word w.Class ∷ class_name c.name ∷ in_braces (fields_spelling c.fields ++ methods_spelling c.methods)

abbrev pub classes_spelling : List ClassForm → List Token
classes_spelling [] = []
classes_spelling (c ∷ cs) = class_spelling c ++ classes_spelling cs

abbrev pub tree_of_method : MethodForm → MethodTree
tree_of_method m = record { name = m.name; params = m.params; body = trees_of_block m.body }

abbrev pub tree_of_class : ClassForm → ClassTree
tree_of_class c = record { name = c.name; fields = c.fields; methods = map tree_of_method c.methods }

-- program = class class*
-- these tokens are a program, which stands for this tree
abbrev pub Derives : List Token → ProgramTree → Type 0
Derives ts tree = (cs : List ClassForm) × (0 < length cs) × AreWellFormedClasses cs × (classes_spelling cs ≡ ts)
    × (map tree_of_class cs ≡ tree)
