-- The tokens that expressions are spelled by: how many they are, which begins them, and which are never among them.
use Rattle.std.proofs.Common.{◌≡◌, ◌<◌, ◌≤◌, Bool, true, false, List, [], ◌∷◌, ◌++◌, length, Option, Some, None, nat_eq, refl, ap, arith, length-append}
use Rattle.std.proofs.lemmas.Bool.{ne_eqb}
use Rattle.model_tokens.specs.declared.token.Token.{Token}
use Rattle.model_tokens.specs.declared.token.Token.TheVariants as token
use Rattle.model_tokens.specs.declared.token.Token.TheVariants.{Name as name, ClassName as class_name, Word as word, Symbol as symbol}
use Rattle.model_tokens.specs.declared.token.Word.{Word}
use Rattle.model_tokens.specs.declared.token.Word.TheVariants as w
use Rattle.model_tokens.specs.declared.token.Symbol.{Symbol}
use Rattle.model_tokens.specs.declared.token.Symbol.TheVariants as s
use Rattle.model_tree.specs.declared.tree.UnaryOp.{UnaryOp}
use Rattle.model_tree.specs.declared.tree.UnaryOp.TheVariants as sign
use Rattle.model_tree.specs.declared.tree.BinaryOp.{BinaryOp}
use Rattle.model_tree.specs.declared.tree.BinaryOp.TheVariants as op
use Rattle.model_tree.specs.Tree.{Expression, expressions_of, expression}
use Rattle.model_tree.specs.Grammar.{Phrase, a_number, a_text, a_nil, a_bool, a_this, a_field, a_local, a_builtin, a_create, a_list, brackets, a_call, a_future, a_unary, a_binary, Phrases, no_phrases, phrase, in_round, in_square, sign_symbol, op_symbol, truth_word, phrase_spelling, args_spelling, more_spelling, tree_of, trees_of}
use Rattle.model_lang.specs.Reader.{on_rest, only_where, word_number, symbol_number, after_word, after_symbol, assign_head, set_at}

-- ---- the trees of arguments, as a list

abbrev pub list_of : Phrases → List Expression
list_of no_phrases = []
list_of (phrase a more) = tree_of a ∷ list_of more

pub list_of-trees : (es : Phrases) → expressions_of (list_of es) ≡ trees_of es
list_of-trees no_phrases = refl
list_of-trees (phrase a more) = ap (expression (tree_of a)) (list_of-trees more)

-- ---- how many tokens there are

pub phrase_long : (p : Phrase) → 1 ≤ length (phrase_spelling p)
phrase_long (a_bool b) = omega arith
phrase_long (a_call object x args) = omega (arith, length-append (phrase_spelling object) (symbol s.Dot ∷ name x ∷ in_round (args_spelling args)))
phrase_long (a_future object delay x args) =
    omega (arith, length-append (phrase_spelling object) (symbol s.Dot ∷ word w.Future ∷ (in_round (phrase_spelling delay) ++ symbol s.Dot ∷ name x ∷ in_round (args_spelling args))))
phrase_long (a_binary o a b) = omega (arith, length-append (phrase_spelling a) (symbol (op_symbol o) ∷ phrase_spelling b))
phrase_long _ = omega arith

-- ---- which tokens stand in an expression

abbrev pub WordInside : Word → Type 0
WordInside w.Class = ⊥
WordInside w.Field = ⊥
WordInside w.Let = ⊥
WordInside w.If = ⊥
WordInside w.Else = ⊥
WordInside w.While = ⊥
WordInside w.Return = ⊥
WordInside _ = Unit {0}

abbrev pub SymbolInside : Symbol → Type 0
SymbolInside s.OpenBrace = ⊥
SymbolInside s.CloseBrace = ⊥
SymbolInside s.Semicolon = ⊥
SymbolInside s.Assign = ⊥
SymbolInside _ = Unit {0}

-- no brace, no `;`, no `=` and no word of a statement or a class
abbrev pub IsInside : Token → Type 0
IsInside (token.Word x) = WordInside x
IsInside (token.Symbol x) = SymbolInside x
IsInside _ = Unit {0}

abbrev pub AllInside : List Token → Type 0
AllInside [] = Unit {0}
AllInside (t ∷ ts) = IsInside t × AllInside ts

inside-append : (xs ys : List Token) → AllInside xs → AllInside ys → AllInside (xs ++ ys)
inside-append [] ys in_xs in_ys = in_ys
inside-append (x ∷ xs) ys in_xs in_ys = (in_xs.0, inside-append xs ys in_xs.1 in_ys)

inside_round : (ts : List Token) → AllInside ts → AllInside (in_round ts)
inside_round ts h = (tt, inside-append ts (symbol s.CloseRound ∷ []) h (tt, tt))

inside_square : (ts : List Token) → AllInside ts → AllInside (in_square ts)
inside_square ts h = (tt, inside-append ts (symbol s.CloseSquare ∷ []) h (tt, tt))

sign_inside : (o : UnaryOp) → SymbolInside (sign_symbol o)
sign_inside sign.Minus = tt
sign_inside sign.Not = tt

operator_inside : (o : BinaryOp) → SymbolInside (op_symbol o)
operator_inside op.Or = tt
operator_inside op.And = tt
operator_inside op.Same = tt
operator_inside op.Differs = tt
operator_inside op.Less = tt
operator_inside op.AtMost = tt
operator_inside op.Greater = tt
operator_inside op.AtLeast = tt
operator_inside op.Plus = tt
operator_inside op.Minus = tt
operator_inside op.Times = tt
operator_inside op.Divide = tt
operator_inside op.Rest = tt

bool_inside : (b : Bool) → IsInside (truth_word b)
bool_inside true = tt
bool_inside false = tt

mutual
  pub phrase_tokens : (p : Phrase) → AllInside (phrase_spelling p)
  phrase_tokens (a_number n) = (tt, tt)
  phrase_tokens (a_text t) = (tt, tt)
  phrase_tokens a_nil = (tt, tt)
  phrase_tokens (a_bool b) = (bool_inside b, tt)
  phrase_tokens a_this = (tt, tt)
  phrase_tokens (a_field x) = (tt, (tt, (tt, tt)))
  phrase_tokens (a_local x) = (tt, tt)
  phrase_tokens (a_builtin x args) = (tt, inside_round (args_spelling args) (args_tokens args))
  phrase_tokens (a_create x options) =
      (tt, inside_round (class_name x ∷ symbol s.Comma ∷ phrase_spelling options) (tt, (tt, phrase_tokens options)))
  phrase_tokens (a_list items) = inside_square (args_spelling items) (args_tokens items)
  phrase_tokens (brackets a) = inside_round (phrase_spelling a) (phrase_tokens a)
  phrase_tokens (a_call object x args) =
      inside-append (phrase_spelling object) (symbol s.Dot ∷ name x ∷ in_round (args_spelling args)) (phrase_tokens object) (tt, (tt, inside_round (args_spelling args) (args_tokens args)))
  phrase_tokens (a_future object delay x args) =
      inside-append (phrase_spelling object) (symbol s.Dot ∷ word w.Future ∷ (in_round (phrase_spelling delay) ++ symbol s.Dot ∷ name x ∷ in_round (args_spelling args))) (phrase_tokens object)
      (tt, (tt, inside-append (in_round (phrase_spelling delay)) (symbol s.Dot ∷ name x ∷ in_round (args_spelling args)) (inside_round (phrase_spelling delay) (phrase_tokens delay)) (tt, (tt, inside_round (args_spelling args) (args_tokens args)))))
  phrase_tokens (a_unary o a) = (sign_inside o, phrase_tokens a)
  phrase_tokens (a_binary o a b) = inside-append (phrase_spelling a) (symbol (op_symbol o) ∷ phrase_spelling b) (phrase_tokens a) (operator_inside o, phrase_tokens b)

  args_tokens : (es : Phrases) → AllInside (args_spelling es)
  args_tokens no_phrases = tt
  args_tokens (phrase a more) = inside-append (phrase_spelling a) (more_spelling more) (phrase_tokens a) (more_tokens more)

  more_tokens : (es : Phrases) → AllInside (more_spelling es)
  more_tokens no_phrases = tt
  more_tokens (phrase a more) = (tt, inside-append (phrase_spelling a) (more_spelling more) (phrase_tokens a) (more_tokens more))

-- ---- what an expression does not begin with

word_inside-le : (x : Word) → WordInside x → 7 ≤ word_number x
word_inside-le w.Class h = absurd h
word_inside-le w.Field h = absurd h
word_inside-le w.Let h = absurd h
word_inside-le w.If h = absurd h
word_inside-le w.Else h = absurd h
word_inside-le w.While h = absurd h
word_inside-le w.Return h = absurd h
word_inside-le _ h = omega arith

inside_no_word : (x : Word) → word_number x < 7 → (xs rest : List Token) → AllInside xs → 1 ≤ length xs → after_word x (xs ++ rest) ≡ None
inside_no_word x h [] rest all long = absurd (omega arith)
inside_no_word x h (token.Word y ∷ xs) rest all long =
    ap (λ b. only_where b (xs ++ rest)) (ne_eqb (word_number y) (word_number x) (omega (arith, word_inside-le y all.0)))
inside_no_word x h (_ ∷ xs) rest all long = refl

-- a word below `this` in the order of words
pub phrase_no_word : (x : Word) → word_number x < 7 → (p : Phrase) (rest : List Token) → after_word x (phrase_spelling p ++ rest) ≡ None
phrase_no_word x h p rest = inside_no_word x h (phrase_spelling p) rest (phrase_tokens p) (phrase_long p)

no_brace_inside : (x : Symbol) → SymbolInside x → nat_eq (symbol_number x) 1 ≡ false
no_brace_inside s.OpenBrace h = absurd h
no_brace_inside s.CloseBrace h = absurd h
no_brace_inside s.Semicolon h = absurd h
no_brace_inside s.Assign h = absurd h
no_brace_inside _ h = refl

inside_no_brace : (xs rest : List Token) → AllInside xs → 1 ≤ length xs → after_symbol s.CloseBrace (xs ++ rest) ≡ None
inside_no_brace [] rest all long = absurd (omega arith)
inside_no_brace (token.Symbol x ∷ xs) rest all long = ap (λ b. only_where b (xs ++ rest)) (no_brace_inside x all.0)
inside_no_brace (_ ∷ xs) rest all long = refl

-- the brace that ends a block
pub phrase_no_brace : (p : Phrase) (rest : List Token) → after_symbol s.CloseBrace (phrase_spelling p ++ rest) ≡ None
phrase_no_brace p rest = inside_no_brace (phrase_spelling p) rest (phrase_tokens p) (phrase_long p)

no_assign_inside : (x : Symbol) → SymbolInside x → nat_eq (symbol_number x) 9 ≡ false
no_assign_inside s.OpenBrace h = absurd h
no_assign_inside s.CloseBrace h = absurd h
no_assign_inside s.Semicolon h = absurd h
no_assign_inside s.Assign h = absurd h
no_assign_inside _ h = refl

-- before a `;`
inside_no_assign : (xs rest : List Token) → AllInside xs → after_symbol s.Assign (xs ++ symbol s.Semicolon ∷ rest) ≡ None
inside_no_assign [] rest all = refl
inside_no_assign (token.Symbol x ∷ xs) rest all = ap (λ b. only_where b (xs ++ symbol s.Semicolon ∷ rest)) (no_assign_inside x all.0)
inside_no_assign (_ ∷ xs) rest all = refl

inside_not_assigned : (xs rest : List Token) → AllInside xs → assign_head (xs ++ symbol s.Semicolon ∷ rest) ≡ None
inside_not_assigned [] rest all = refl
inside_not_assigned (token.Name x ∷ xs) rest all = ap (λ o. on_rest o (λ ts. Some (x, ts))) (inside_no_assign xs rest all.1)
inside_not_assigned (_ ∷ xs) rest all = refl

-- a `;` behind it, an expression is no assignment
pub phrase_not_assigned : (p : Phrase) (rest : List Token) → assign_head (phrase_spelling p ++ symbol s.Semicolon ∷ rest) ≡ None
phrase_not_assigned p rest = inside_not_assigned (phrase_spelling p) rest (phrase_tokens p)

nothing_behind : {B : Type 0} (b : Bool) (ts : List Token) (next : List Token → Option B) → next ts ≡ None → on_rest (only_where b ts) next ≡ None
nothing_behind true ts next h = h
nothing_behind false ts next h = refl

inside_no_target : (xs rest : List Token) → AllInside xs → on_rest (after_symbol s.Dot (xs ++ symbol s.Semicolon ∷ rest)) assign_head ≡ None
inside_no_target [] rest all = refl
inside_no_target (token.Symbol x ∷ xs) rest all =
    nothing_behind (nat_eq (symbol_number x) 8) (xs ++ symbol s.Semicolon ∷ rest) assign_head (inside_not_assigned xs rest all.1)
inside_no_target (_ ∷ xs) rest all = refl

inside_not_set : (xs rest : List Token) → AllInside xs → set_at (xs ++ symbol s.Semicolon ∷ rest) ≡ None
inside_not_set [] rest all = refl
inside_not_set (token.Word x ∷ xs) rest all =
    nothing_behind (nat_eq (word_number x) 7) (xs ++ symbol s.Semicolon ∷ rest) (λ ts. on_rest (after_symbol s.Dot ts) assign_head) (inside_no_target xs rest all.1)
inside_not_set (_ ∷ xs) rest all = refl

pub phrase_not_set : (p : Phrase) (rest : List Token) → set_at (phrase_spelling p ++ symbol s.Semicolon ∷ rest) ≡ None
phrase_not_set p rest = inside_not_set (phrase_spelling p) rest (phrase_tokens p)
