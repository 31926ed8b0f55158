-- A reader of tokens from left to right. That it reads the grammar is proved apart: no public clause names it.
use Rattle.std.specs.Prelude.{ℕ, zero, suc, Bool, true, false, List, [], ◌∷◌, ◌++◌, length, Option, Some, None, nat_eq, if◌then◌else◌}
use Rattle.model_tokens.specs.declared.token.Token.{Token}
use Rattle.model_tokens.specs.declared.token.Token.TheVariants as token
use Rattle.model_tokens.specs.declared.token.Word.{Word}
use Rattle.model_tokens.specs.declared.token.Word.TheVariants as w
use Rattle.model_tokens.specs.declared.token.Symbol.{Symbol}
use Rattle.model_tokens.specs.declared.token.Symbol.TheVariants as s
use Rattle.model_tree.specs.declared.tree.UnaryOp.{UnaryOp}
use Rattle.model_tree.specs.declared.tree.UnaryOp.TheVariants as sign
use Rattle.model_tree.specs.declared.tree.BinaryOp.{BinaryOp}
use Rattle.model_tree.specs.declared.tree.BinaryOp.TheVariants as op
use Rattle.model_tree.specs.Tree.{Name, Expression, nil, bool, int, text, this, local, field, list, unary, binary, builtin, call, future, create, expressions_of, Statement, declare, assign, set_field, when, while, give, do_, statements_of, no_else, else_block, MethodTree, ClassTree}
use Rattle.model_tree.specs.Grammar.{operator_line}

-- what was read, and the tokens behind it
abbrev pub ParseResult : Type 0 → Type 0
ParseResult A = Option (A × List Token)

abbrev pub on_read : {A B : Type 0} → ParseResult A → (A → List Token → Option B) → Option B
on_read None next = None
on_read (Some p) next = next p.0 p.1

abbrev pub on_rest : {B : Type 0} → Option (List Token) → (List Token → Option B) → Option B
on_rest None next = None
on_rest (Some ts) next = next ts

-- the first where there are tokens, else the second
abbrev pub either_way : {B : Type 0} → Option (List Token) → (List Token → B) → B → B
either_way None next other = other
either_way (Some ts) next other = next ts

-- with what was found, or what there is without it
abbrev pub on_found : {A B : Type 0} → ParseResult A → (A → List Token → B) → B → B
on_found None with_it without = without
on_found (Some p) with_it without = with_it p.0 p.1

-- ---- the token at the front

abbrev pub word_number : Word → ℕ
word_number w.Class = 0
word_number w.Field = 1
word_number w.Let = 2
word_number w.If = 3
word_number w.Else = 4
word_number w.While = 5
word_number w.Return = 6
word_number w.This = 7
word_number w.Nil = 8
word_number w.True = 9
word_number w.False = 10
word_number w.Create = 11
word_number w.Future = 12

abbrev pub symbol_number : Symbol → ℕ
symbol_number s.OpenBrace = 0
symbol_number s.CloseBrace = 1
symbol_number s.OpenRound = 2
symbol_number s.CloseRound = 3
symbol_number s.OpenSquare = 4
symbol_number s.CloseSquare = 5
symbol_number s.Comma = 6
symbol_number s.Semicolon = 7
symbol_number s.Dot = 8
symbol_number s.Assign = 9
symbol_number s.Same = 10
symbol_number s.Differs = 11
symbol_number s.Less = 12
symbol_number s.AtMost = 13
symbol_number s.Greater = 14
symbol_number s.AtLeast = 15
symbol_number s.Plus = 16
symbol_number s.Minus = 17
symbol_number s.Times = 18
symbol_number s.Divide = 19
symbol_number s.Rest = 20
symbol_number s.Not = 21
symbol_number s.And = 22
symbol_number s.Or = 23

abbrev pub only_where : Bool → List Token → Option (List Token)
only_where true ts = Some ts
only_where false ts = None

abbrev pub after_word : Word → List Token → Option (List Token)
after_word wanted (token.Word found ∷ ts) = only_where (nat_eq (word_number found) (word_number wanted)) ts
after_word wanted _ = None

abbrev pub after_symbol : Symbol → List Token → Option (List Token)
after_symbol wanted (token.Symbol found ∷ ts) = only_where (nat_eq (symbol_number found) (symbol_number wanted)) ts
after_symbol wanted _ = None

abbrev pub name_at : List Token → ParseResult Name
name_at (token.Name x ∷ ts) = Some (x, ts)
name_at _ = None

abbrev pub class_name_at : List Token → ParseResult Name
class_name_at (token.ClassName x ∷ ts) = Some (x, ts)
class_name_at _ = None

-- ---- expressions

abbrev pub ExpressionReader : Type 0
ExpressionReader = List Token → ParseResult Expression

-- expressions behind the first, up to the closing bracket, which is read too
abbrev pub read_more : Symbol → ExpressionReader → ℕ → List Expression → List Token → ParseResult (List Expression)
read_more close inner zero found ts = None
read_more close inner (suc turns) found ts =
    either_way (after_symbol s.Comma ts) (λ ts. on_read (inner ts) (λ e. read_more close inner turns (found ++ e ∷ [])))
    (on_rest (after_symbol close ts) (λ rest. Some (found, rest)))

abbrev pub read_args : Symbol → ExpressionReader → List Token → ParseResult (List Expression)
read_args close inner ts = either_way (after_symbol close ts) (λ rest. Some ([], rest))
    (on_read (inner ts) (λ e rest. read_more close inner (length ts) (e ∷ []) rest))

-- behind a name at the start of a prim
abbrev pub read_named : ExpressionReader → Name → ExpressionReader
read_named inner x ts =
    either_way (after_symbol s.OpenRound ts) (λ ts.
    on_read (read_args s.CloseRound inner ts) (λ args ts. Some (builtin x (expressions_of args), ts)))
    (Some (local x, ts))

-- `.` and a name that no `(` follows
abbrev pub field_at : List Token → ParseResult Name
field_at ts = on_rest (after_symbol s.Dot ts) (λ ts.
    on_read (name_at ts) (λ x ts. either_way (after_symbol s.OpenRound ts) (λ rest. None) (Some (x, ts))))

-- behind `this`
abbrev pub read_this : ExpressionReader
read_this ts = on_found (field_at ts) (λ x ts. Some (field x, ts)) (Some (this, ts))

-- behind `create`
abbrev pub read_create : ExpressionReader → ExpressionReader
read_create inner ts =
    on_rest (after_symbol s.OpenRound ts) (λ ts.
    on_read (class_name_at ts) (λ x ts. on_rest (after_symbol s.Comma ts) (λ ts.
    on_read (inner ts) (λ e ts. on_rest (after_symbol s.CloseRound ts) (λ ts. Some (create x e, ts))))))

abbrev pub read_word : ExpressionReader → Word → ExpressionReader
read_word inner w.Nil ts = Some (nil, ts)
read_word inner w.True ts = Some (bool true, ts)
read_word inner w.False ts = Some (bool false, ts)
read_word inner w.This ts = read_this ts
read_word inner w.Create ts = read_create inner ts
read_word inner _ ts = None

abbrev pub read_opened : ExpressionReader → Symbol → ExpressionReader
read_opened inner s.OpenRound ts =
    on_read (inner ts) (λ e ts. on_rest (after_symbol s.CloseRound ts) (λ ts. Some (e, ts)))
read_opened inner s.OpenSquare ts =
    on_read (read_args s.CloseSquare inner ts) (λ items ts. Some (list (expressions_of items), ts))
read_opened inner _ ts = None

abbrev pub read_prim : ExpressionReader → ExpressionReader
read_prim inner (token.Number n ∷ ts) = Some (int n, ts)
read_prim inner (token.Text t ∷ ts) = Some (text t, ts)
read_prim inner (token.Name x ∷ ts) = read_named inner x ts
read_prim inner (token.Word x ∷ ts) = read_word inner x ts
read_prim inner (token.Symbol x ∷ ts) = read_opened inner x ts
read_prim inner _ = None

-- a name and the `(` behind it
abbrev pub call_head : List Token → ParseResult Name
call_head ts = on_read (name_at ts) (λ x ts. on_rest (after_symbol s.OpenRound ts) (λ ts. Some (x, ts)))

-- the same behind the `)` and the `.` that stand behind a delay
abbrev pub message_head : List Token → ParseResult Name
message_head ts = on_rest (after_symbol s.CloseRound ts) (λ ts. on_rest (after_symbol s.Dot ts) call_head)

-- the name of a class between `(` and `,`
abbrev pub create_head : List Token → ParseResult Name
create_head ts = on_rest (after_symbol s.OpenRound ts) (λ ts.
    on_read (class_name_at ts) (λ x ts. on_rest (after_symbol s.Comma ts) (λ ts. Some (x, ts))))

-- a call behind its `.`
abbrev pub read_call : ExpressionReader → Expression → ExpressionReader
read_call inner object ts =
    on_read (name_at ts) (λ x ts.
    on_rest (after_symbol s.OpenRound ts) (λ ts.
    on_read (read_args s.CloseRound inner ts) (λ args ts. Some (call object x (expressions_of args), ts))))

-- a future behind its delay
abbrev pub read_message : ExpressionReader → Expression → Expression → ExpressionReader
read_message inner object delay ts =
    on_rest (after_symbol s.Dot ts) (λ ts. on_read (name_at ts) (λ x ts. on_rest (after_symbol s.OpenRound ts) (λ ts.
    on_read (read_args s.CloseRound inner ts) (λ args ts. Some (future object delay x (expressions_of args), ts)))))

-- a future behind `.future`
abbrev pub read_future : ExpressionReader → Expression → ExpressionReader
read_future inner object ts =
    on_rest (after_symbol s.OpenRound ts) (λ ts.
    on_read (inner ts) (λ delay ts. on_rest (after_symbol s.CloseRound ts) (read_message inner object delay)))

-- behind the `.` of a call or a future
abbrev pub read_suffix : ExpressionReader → Expression → ExpressionReader
read_suffix inner object ts = either_way (after_word w.Future ts) (read_future inner object) (read_call inner object ts)

-- at most so many calls and futures, each of what stands before it
abbrev pub suffixes_of : ExpressionReader → ℕ → Expression → ExpressionReader
suffixes_of inner zero object ts = Some (object, ts)
suffixes_of inner (suc turns) object ts =
    either_way (after_symbol s.Dot ts) (λ ts. on_read (read_suffix inner object ts) (suffixes_of inner turns))
    (Some (object, ts))

abbrev pub read_post : ExpressionReader → ExpressionReader
read_post inner ts = on_read (read_prim inner ts) (suffixes_of inner (length ts))

abbrev pub unary_of_symbol : Symbol → Option UnaryOp
unary_of_symbol s.Minus = Some sign.Minus
unary_of_symbol s.Not = Some sign.Not
unary_of_symbol _ = None

abbrev pub operator_of : Symbol → Option BinaryOp
operator_of s.Or = Some op.Or
operator_of s.And = Some op.And
operator_of s.Same = Some op.Same
operator_of s.Differs = Some op.Differs
operator_of s.Less = Some op.Less
operator_of s.AtMost = Some op.AtMost
operator_of s.Greater = Some op.Greater
operator_of s.AtLeast = Some op.AtLeast
operator_of s.Plus = Some op.Plus
operator_of s.Minus = Some op.Minus
operator_of s.Times = Some op.Times
operator_of s.Divide = Some op.Divide
operator_of s.Rest = Some op.Rest
operator_of _ = None

abbrev pub with_rest : {A : Type 0} → Option A → List Token → ParseResult A
with_rest None ts = None
with_rest (Some o) ts = Some (o, ts)

abbrev pub sign_at : List Token → ParseResult UnaryOp
sign_at (token.Symbol x ∷ ts) = with_rest (unary_of_symbol x) ts
sign_at _ = None

abbrev pub of_line : ℕ → Option BinaryOp → Option BinaryOp
of_line k None = None
of_line k (Some o) = if nat_eq (operator_line o) k then Some o else None

-- an operator of this line at the front
abbrev pub operator_at : ℕ → List Token → ParseResult BinaryOp
operator_at k (token.Symbol x ∷ ts) = with_rest (of_line k (operator_of x)) ts
operator_at k _ = None

-- at most so many operators of this line, each with its right side
abbrev pub more_of : ℕ → ExpressionReader → ℕ → Expression → ExpressionReader
more_of k inner zero left ts = Some (left, ts)
more_of k inner (suc turns) left ts =
    on_found (operator_at k ts) (λ o ts. on_read (inner ts) (λ e. more_of k inner turns (binary o left e)))
    (Some (left, ts))

-- how many operators of a line may stand one behind the other, among so many tokens. Relations do not group
abbrev pub turns_of : ℕ → ℕ → ℕ
turns_of k many = if nat_eq k 4 then 1 else many

-- an expression of this line or a tighter one
unfoldable pub read_operator_line : ExpressionReader → ℕ → ExpressionReader
read_operator_line inner zero ts = inner ts
read_operator_line inner (suc zero) ts = inner ts
read_operator_line inner (suc (suc k)) ts =
    on_read (read_operator_line inner (suc k) ts)
    (more_of (suc (suc k)) (read_operator_line inner (suc k)) (turns_of (suc (suc k)) (length ts)))

-- with at most so many signs and brackets one in another
abbrev pub read_unary : ℕ → ExpressionReader
read_unary zero ts = None
read_unary (suc room) ts =
    on_found (sign_at ts) (λ o ts. on_read (read_unary room ts) (λ e ts. Some (unary o e, ts)))
    (read_post (read_operator_line (read_unary room) 6) ts)

abbrev pub read_expression : ExpressionReader
read_expression ts = read_operator_line (read_unary (length ts)) 6 ts

-- ---- statements

-- an expression and the `;` behind it
abbrev pub read_ended : ExpressionReader
read_ended ts = on_read (read_expression ts) (λ e ts. on_rest (after_symbol s.Semicolon ts) (λ ts. Some (e, ts)))

-- a statement that ends with an expression
abbrev pub read_end : (Expression → Statement) → List Token → ParseResult Statement
read_end make ts = on_read (read_ended ts) (λ e ts. Some (make e, ts))

-- behind `let`
abbrev pub read_let : List Token → ParseResult Statement
read_let ts = on_read (name_at ts) (λ x ts. on_rest (after_symbol s.Assign ts) (read_end (declare x)))

-- a name and a `=`
abbrev pub assign_head : List Token → ParseResult Name
assign_head ts = on_read (name_at ts) (λ x ts. on_rest (after_symbol s.Assign ts) (λ ts. Some (x, ts)))

-- `this`, `.`, a name and a `=`
abbrev pub set_at : List Token → ParseResult Name
set_at ts = on_rest (after_word w.This ts) (λ ts. on_rest (after_symbol s.Dot ts) assign_head)

-- a statement that no word begins which stands before statements alone
abbrev pub read_simple : List Token → ParseResult Statement
read_simple ts = on_found (assign_head ts) (λ x. read_end (assign x))
    (on_found (set_at ts) (λ x. read_end (set_field x)) (read_end do_ ts))

-- an expression in round brackets, and the opening brace behind it
abbrev pub read_test : List Token → ParseResult Expression
read_test ts =
    on_rest (after_symbol s.OpenRound ts) (λ ts.
    on_read (read_expression ts) (λ e ts.
    on_rest (after_symbol s.CloseRound ts) (λ ts. on_rest (after_symbol s.OpenBrace ts) (λ ts. Some (e, ts)))))

-- behind `else`
abbrev pub read_else : (List Token → ParseResult (List Statement)) → Expression → List Statement → List Token
    → ParseResult Statement
read_else block test found ts =
    on_rest (after_symbol s.OpenBrace ts) (λ ts.
    on_read (block ts) (λ other ts. Some (when test (statements_of found) (else_block (statements_of other)), ts)))

-- behind `if`
abbrev pub read_if : (List Token → ParseResult (List Statement)) → List Token → ParseResult Statement
read_if block ts =
    on_read (read_test ts) (λ test ts.
    on_read (block ts) (λ found ts.
    either_way (after_word w.Else ts) (read_else block test found)
    (Some (when test (statements_of found) no_else, ts))))

-- behind `while`
abbrev pub read_while : (List Token → ParseResult (List Statement)) → List Token → ParseResult Statement
read_while block ts = on_read (read_test ts) (λ test ts.
    on_read (block ts) (λ body ts. Some (while test (statements_of body), ts)))

abbrev pub read_action : (List Token → ParseResult (List Statement)) → List Token → ParseResult Statement
read_action block ts =
    either_way (after_word w.If ts) (read_if block)
    (either_way (after_word w.While ts) (read_while block)
    (either_way (after_word w.Let ts) read_let
    (either_way (after_word w.Return ts) (read_end give) (read_simple ts))))

-- up to the closing brace, which is read too
abbrev pub read_actions : (List Token → ParseResult (List Statement)) → ℕ → List Statement → List Token
    → ParseResult (List Statement)
read_actions block zero found ts = None
read_actions block (suc turns) found ts =
    either_way (after_symbol s.CloseBrace ts) (λ rest. Some (found, rest))
    (on_read (read_action block ts) (λ a. read_actions block turns (found ++ a ∷ [])))

-- behind the opening brace of a block, with at most so many blocks one in another
abbrev pub read_block : ℕ → List Token → ParseResult (List Statement)
read_block zero ts = None
read_block (suc room) ts = read_actions (read_block room) (length ts) [] ts

-- ---- classes

-- further names, up to the closing bracket, which is read too
abbrev pub read_further : ℕ → List Name → List Token → ParseResult (List Name)
read_further zero found ts = None
read_further (suc turns) found ts =
    either_way (after_symbol s.Comma ts) (λ ts. on_read (name_at ts) (λ x. read_further turns (found ++ x ∷ [])))
    (on_rest (after_symbol s.CloseRound ts) (λ rest. Some (found, rest)))

abbrev pub read_params : List Token → ParseResult (List Name)
read_params ts = either_way (after_symbol s.CloseRound ts) (λ rest. Some ([], rest))
    (on_read (name_at ts) (λ x rest. read_further (length ts) (x ∷ []) rest))

abbrev pub read_body : Name → List Name → List Token → ParseResult MethodTree
read_body x params ts =
    on_rest (after_symbol s.OpenBrace ts) (λ ts.
    on_read (read_block (length ts) ts) (λ found ts.
    Some (record { name = x; params = params; body = statements_of found }, ts)))

abbrev pub read_method : List Token → ParseResult MethodTree
read_method ts = on_read (name_at ts) (λ x ts.
    on_rest (after_symbol s.OpenRound ts) (λ ts. on_read (read_params ts) (read_body x)))

abbrev pub read_fields : ℕ → List Name → List Token → ParseResult (List Name)
read_fields zero found ts = Some (found, ts)
read_fields (suc turns) found ts =
    either_way (after_word w.Field ts) (λ ts.
    on_read (name_at ts) (λ x ts. on_rest (after_symbol s.Semicolon ts) (read_fields turns (found ++ x ∷ []))))
    (Some (found, ts))

-- up to the closing brace, which is read too
abbrev pub read_methods : ℕ → List MethodTree → List Token → ParseResult (List MethodTree)
read_methods zero found ts = None
read_methods (suc turns) found ts =
    either_way (after_symbol s.CloseBrace ts) (λ rest. Some (found, rest))
    (on_read (read_method ts) (λ m. read_methods turns (found ++ m ∷ [])))

abbrev pub read_members : Name → List Token → ParseResult ClassTree
read_members x ts =
    on_read (read_fields (length ts) [] ts) (λ fields ts.
    on_read (read_methods (length ts) [] ts) (λ methods ts.
    Some (record { name = x; fields = fields; methods = methods }, ts)))

abbrev pub read_class : List Token → ParseResult ClassTree
read_class ts = on_rest (after_word w.Class ts) (λ ts.
    on_read (class_name_at ts) (λ x ts. on_rest (after_symbol s.OpenBrace ts) (read_members x)))

abbrev pub read_classes : ℕ → List ClassTree → List Token → Option (List ClassTree)
read_classes turns found [] = Some found
read_classes zero found (t ∷ ts) = None
read_classes (suc turns) found (t ∷ ts) = on_read (read_class (t ∷ ts)) (λ c. read_classes turns (found ++ c ∷ []))

-- all the tokens
abbrev pub read_program : List Token → Option (List ClassTree)
read_program ts = on_read (read_class ts) (λ c. read_classes (length ts) (c ∷ []))
