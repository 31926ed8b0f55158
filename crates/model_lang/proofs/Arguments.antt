-- What stands in brackets is read, as soon as its expressions are.
use Rattle.std.proofs.Common.{◌≡◌, ℕ, zero, suc, ◌<◌, Bool, true, false, List, [], ◌∷◌, ◌++◌, length, Option, Some, None, refl, sym, ap, ◌∙◌, arith, append_assoc, append-nil, length-append}
use Rattle.model_tokens.specs.declared.token.Token.{Token}
use Rattle.model_tokens.specs.declared.token.Token.TheVariants.{Name as name, Word as word, Symbol as symbol}
use Rattle.model_tokens.specs.declared.token.Word.TheVariants as w
use Rattle.model_tokens.specs.declared.token.Symbol.{Symbol}
use Rattle.model_tokens.specs.declared.token.Symbol.TheVariants as s
use Rattle.model_tree.specs.declared.tree.UnaryOp.{UnaryOp}
use Rattle.model_tree.specs.declared.tree.UnaryOp.TheVariants as sign
use Rattle.model_tree.specs.Tree.{Expression}
use Rattle.model_tree.specs.Grammar.{Phrase, a_bool, a_list, brackets, a_call, a_future, a_unary, a_binary, Phrases, no_phrases, phrase, in_round, truth_word, sign_symbol, op_symbol, phrase_spelling, args_spelling, more_spelling, tree_of}
use Rattle.model_lang.specs.Reader.{ParseResult, ExpressionReader, on_read, on_rest, either_way, after_symbol, read_more, read_args}
use Rattle.model_lang.proofs.GoesOn.{front_line}
use Rattle.model_lang.proofs.Phrases.{list_of}

-- what the grammar spells by this phrase is read, wherever nothing of so tight a line goes on with it
abbrev pub IsReadBy : ExpressionReader → ℕ → Phrase → Type 0
IsReadBy inner k p = (rest : List Token) → k < front_line rest → inner (phrase_spelling p ++ rest) ≡ Some (tree_of p, rest)

abbrev pub AreReadBy : ExpressionReader → Phrases → Type 0
AreReadBy inner no_phrases = Unit {0}
AreReadBy inner (phrase a more) = IsReadBy inner 6 a × AreReadBy inner more

-- ---- the brackets that arguments stand in

pub data Bracket : Type 0 where
  round : Bracket
  square : Bracket

abbrev pub close_of : Bracket → Symbol
close_of round = s.CloseRound
close_of square = s.CloseSquare

close_found : (c : Bracket) (ts : List Token) → after_symbol (close_of c) (symbol (close_of c) ∷ ts) ≡ Some ts
close_found round ts = refl
close_found square ts = refl

no_comma : (c : Bracket) (ts : List Token) → after_symbol s.Comma (symbol (close_of c) ∷ ts) ≡ None
no_comma round ts = refl
no_comma square ts = refl

open_round : (c : Bracket) (ts : List Token) → after_symbol (close_of c) (symbol s.OpenRound ∷ ts) ≡ None
open_round round ts = refl
open_round square ts = refl

open_square : (c : Bracket) (ts : List Token) → after_symbol (close_of c) (symbol s.OpenSquare ∷ ts) ≡ None
open_square round ts = refl
open_square square ts = refl

open_sign : (c : Bracket) (o : UnaryOp) (ts : List Token) → after_symbol (close_of c) (symbol (sign_symbol o) ∷ ts) ≡ None
open_sign round sign.Minus ts = refl
open_sign round sign.Not ts = refl
open_sign square sign.Minus ts = refl
open_sign square sign.Not ts = refl

open_bool : (c : Bracket) (b : Bool) (ts : List Token) → after_symbol (close_of c) (truth_word b ∷ ts) ≡ None
open_bool c true ts = refl
open_bool c false ts = refl

-- no expression begins with a closing bracket
phrase_opens : (c : Bracket) (p : Phrase) (rest : List Token) → after_symbol (close_of c) (phrase_spelling p ++ rest) ≡ None
phrase_opens c (a_bool b) rest = open_bool c b rest
phrase_opens c (a_list items) rest = open_square c ((args_spelling items ++ symbol s.CloseSquare ∷ []) ++ rest)
phrase_opens c (brackets a) rest = open_round c ((phrase_spelling a ++ symbol s.CloseRound ∷ []) ++ rest)
phrase_opens c (a_call object x args) rest =
    let more = symbol s.Dot ∷ name x ∷ in_round (args_spelling args) in
    ap (after_symbol (close_of c)) (append_assoc (phrase_spelling object) more rest) ∙ phrase_opens c object (more ++ rest)
phrase_opens c (a_future object delay x args) rest =
    let more = symbol s.Dot ∷ word w.Future ∷ (in_round (phrase_spelling delay) ++ symbol s.Dot ∷ name x ∷ in_round (args_spelling args)) in
    ap (after_symbol (close_of c)) (append_assoc (phrase_spelling object) more rest) ∙ phrase_opens c object (more ++ rest)
phrase_opens c (a_unary o a) rest = open_sign c o (phrase_spelling a ++ rest)
phrase_opens c (a_binary o a b) rest =
    let more = symbol (op_symbol o) ∷ phrase_spelling b in
    ap (after_symbol (close_of c)) (append_assoc (phrase_spelling a) more rest) ∙ phrase_opens c a (more ++ rest)
phrase_opens c _ rest = refl

-- ---- arguments

-- behind an expression among arguments nothing goes on with it
more_ends : (c : Bracket) (es : Phrases) (rest : List Token) → 6 < front_line (more_spelling es ++ symbol (close_of c) ∷ rest)
more_ends round no_phrases rest = omega arith
more_ends square no_phrases rest = omega arith
more_ends c (phrase a more) rest = omega arith

more_read : (c : Bracket) (inner : ExpressionReader) (es : Phrases) → AreReadBy inner es → (turns : ℕ) (found : List Expression) (rest : List Token) → length (more_spelling es) < turns → read_more (close_of c) inner turns found (more_spelling es ++ symbol (close_of c) ∷ rest) ≡ Some (found ++ list_of es, rest)
more_read c inner es all zero found rest many = absurd (omega arith)
more_read c inner no_phrases all (suc turns) found rest many =
    let ts = symbol (close_of c) ∷ rest in
    let last : List Token → ParseResult (List Expression) = λ rest. Some (found, rest) in
    ap (λ o. either_way o (λ ts. on_read (inner ts) (λ e. read_more (close_of c) inner turns (found ++ e ∷ []))) (on_rest (after_symbol (close_of c) ts) last)) (no_comma c rest)
    ∙ ap (λ o. on_rest o last) (close_found c rest)
    ∙ ap (λ es. Some (es, rest)) (sym (append-nil found))
more_read c inner (phrase a more) all (suc turns) found rest many =
    let ts = more_spelling more ++ symbol (close_of c) ∷ rest in
    let next : Expression → List Token → ParseResult (List Expression) = λ e. read_more (close_of c) inner turns (found ++ e ∷ []) in
    ap (λ ts. on_read (inner ts) next) (append_assoc (phrase_spelling a) (more_spelling more) (symbol (close_of c) ∷ rest))
    ∙ ap (λ o. on_read o next) (all.0 ts (more_ends c more rest))
    ∙ more_read c inner more all.1 turns (found ++ tree_of a ∷ []) rest (omega (arith, length-append (phrase_spelling a) (more_spelling more)))
    ∙ ap (λ es. Some (es, rest)) (append_assoc found (tree_of a ∷ []) (list_of more))

pub args_read : (c : Bracket) (inner : ExpressionReader) (es : Phrases) → AreReadBy inner es → (rest : List Token) → read_args (close_of c) inner (args_spelling es ++ symbol (close_of c) ∷ rest) ≡ Some (list_of es, rest)
args_read c inner no_phrases all rest =
    let ts = symbol (close_of c) ∷ rest in
    ap (λ o. either_way o (λ rest. Some ([], rest)) (on_read (inner ts) (λ e rest. read_more (close_of c) inner (length ts) (e ∷ []) rest))) (close_found c rest)
args_read c inner (phrase a more) all rest =
    let ts = more_spelling more ++ symbol (close_of c) ∷ rest in
    let whole = phrase_spelling a ++ ts in
    let next : Expression → List Token → ParseResult (List Expression) = λ e rest. read_more (close_of c) inner (length whole) (e ∷ []) rest in
    ap (read_args (close_of c) inner) (append_assoc (phrase_spelling a) (more_spelling more) (symbol (close_of c) ∷ rest))
    ∙ ap (λ o. either_way o (λ rest. Some ([], rest)) (on_read (inner whole) next)) (phrase_opens c a ts)
    ∙ ap (λ o. on_read o next) (all.0 ts (more_ends c more rest))
    ∙ more_read c inner more all.1 (length whole) (tree_of a ∷ []) rest (omega (arith, length-append (phrase_spelling a) ts, length-append (more_spelling more) (symbol (close_of c) ∷ rest)))

-- arguments, their closing bracket, and what is done behind it
pub args_then : {B : Type 0} (c : Bracket) (inner : ExpressionReader) (es : Phrases) → AreReadBy inner es → (rest : List Token) (next : List Expression → List Token → Option B) → on_read (read_args (close_of c) inner ((args_spelling es ++ symbol (close_of c) ∷ []) ++ rest)) next ≡ next (list_of es) rest
args_then c inner es all rest next =
    ap (λ ts. on_read (read_args (close_of c) inner ts) next) (append_assoc (args_spelling es) (symbol (close_of c) ∷ []) rest)
    ∙ ap (λ o. on_read o next) (args_read c inner es all rest)
