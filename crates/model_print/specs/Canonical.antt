-- The canonical text of a program: the tokens of its tree in the grammar's order, with round brackets exactly round each part
-- that the grammar would group otherwise.
use Rattle.std.specs.Prelude.{ℕ, ◌-◌, Bool, true, false, nat_le, if◌then◌else◌, List, [], ◌∷◌, ◌++◌, map}
use Rattle.model_tokens.specs.declared.token.Token.{Token}
use Rattle.model_tokens.specs.declared.token.Token.TheVariants as token
use Rattle.model_tokens.specs.Spelling.{token_spelling as spelled_token}
use Rattle.model_tree.specs.Tree.{Expression, nil, bool, int, text, this, local, field, list, unary, binary, builtin, call, future, create, Expressions, no_expressions, expression, Statement, declare, assign, set_field, when, while, give, do_, Statements, no_statements, statement, no_else, else_block, MethodTree, ClassTree, ProgramTree}
use Rattle.model_tree.specs.Grammar.{Phrase, a_number, a_text, a_nil, a_bool, a_this, a_field, a_local, a_builtin, a_create, a_list, brackets, a_call, a_future, a_unary, a_binary, Phrases, no_phrases, phrase, operator_line, line, left_of, Action, a_let, an_assignment, a_set_field, choice, choice_else, a_while, a_return, a_do, Block, closed, action_then, MethodForm, ClassForm, classes_spelling}

-- the phrase where one of this line may stand
abbrev pub at_line : ℕ → Phrase → Phrase
at_line wanted p = if nat_le (line p) wanted then p else brackets p

abbrev mutual
  pub phrase_of : Expression → Phrase
  phrase_of nil = a_nil
  phrase_of (bool b) = a_bool b
  phrase_of (int n) = a_number n
  phrase_of (text t) = a_text t
  phrase_of this = a_this
  phrase_of (local x) = a_local x
  phrase_of (field x) = a_field x
  phrase_of (list items) = a_list (phrases_of items)
  phrase_of (unary o a) = a_unary o (at_line 1 (phrase_of a))
  phrase_of (binary o a b) = a_binary o (at_line (left_of o) (phrase_of a))
      (at_line (operator_line o - 1) (phrase_of b))
  phrase_of (builtin x args) = a_builtin x (phrases_of args)
  phrase_of (call object x args) = a_call (at_line 0 (phrase_of object)) x (phrases_of args)
  phrase_of (future object delay x args) = a_future (at_line 0 (phrase_of object)) (phrase_of delay) x (phrases_of args)
  phrase_of (create x options) = a_create x (phrase_of options)

  pub phrases_of : Expressions → Phrases
  phrases_of no_expressions = no_phrases
  phrases_of (expression a more) = phrase (phrase_of a) (phrases_of more)

abbrev mutual
  pub action_of : Statement → Action
  action_of (declare x a) = a_let x (phrase_of a)
  action_of (assign x a) = an_assignment x (phrase_of a)
  action_of (set_field x a) = a_set_field x (phrase_of a)
  action_of (when a block no_else) = choice (phrase_of a) (block_of block)
  action_of (when a block (else_block other)) = choice_else (phrase_of a) (block_of block) (block_of other)
  action_of (while a block) = a_while (phrase_of a) (block_of block)
  action_of (give a) = a_return (phrase_of a)
  action_of (do_ a) = a_do (phrase_of a)

  pub block_of : Statements → Block
  block_of no_statements = closed
  block_of (statement a more) = action_then (action_of a) (block_of more)

abbrev pub method_form : MethodTree → MethodForm
method_form m = record { name = m.name; params = m.params; body = block_of m.body }

abbrev pub class_form : ClassTree → ClassForm
class_form c = record { name = c.name; fields = c.fields; methods = map method_form c.methods }

abbrev pub canonical_tokens : ProgramTree → List Token
canonical_tokens tree = classes_spelling (map class_form tree)

-- a name, a word or a number
abbrev pub is_worded : Token → Bool
is_worded (token.Name x) = true
is_worded (token.ClassName x) = true
is_worded (token.Number n) = true
is_worded (token.Text t) = false
is_worded (token.Word w) = true
is_worded (token.Symbol s) = false

-- what stands between two tokens, by whether each is worded
abbrev pub token_gap : Bool → Bool → List ℕ
token_gap true true = 32 ∷ []
token_gap _ _ = []

-- the text of tokens, behind a token that is worded or not
abbrev pub text_behind : Bool → List Token → List ℕ
text_behind worded [] = []
text_behind worded (t ∷ ts) = token_gap worded (is_worded t) ++ (spelled_token t ++ text_behind (is_worded t) ts)

abbrev pub canonical_text : ProgramTree → List ℕ
canonical_text tree = text_behind false (canonical_tokens tree)
