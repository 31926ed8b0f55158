-- The reader reads whatever expression the grammar spells.
use Rattle.std.proofs.Common.{◌≡◌, ℕ, zero, suc, ◌-◌, ◌<◌, ◌≤◌, Bool, true, false, List, [], ◌∷◌, ◌++◌, length, Option, Some, None, nat_eq, if◌then◌else◌, refl, sym, ap, ◌∙◌, subst, arith, append_assoc, length-append}
use Rattle.std.proofs.lemmas.Bool.{ne_eqb}
use Rattle.std.proofs.lemmas.Bool.Decides.{nat_tests}
use Rattle.model_tokens.specs.declared.token.Token.{Token}
use Rattle.model_tokens.specs.declared.token.Token.TheVariants.{Name as name, Word as word, Symbol as symbol}
use Rattle.model_tokens.specs.declared.token.Word.TheVariants as w
use Rattle.model_tokens.specs.declared.token.Symbol.TheVariants as s
use Rattle.model_tree.specs.declared.tree.UnaryOp.{UnaryOp}
use Rattle.model_tree.specs.declared.tree.BinaryOp.{BinaryOp}
use Rattle.model_tree.specs.Tree.{Name, Expression, unary}
use Rattle.model_tree.specs.Grammar.{Phrase, a_number, a_text, a_nil, a_bool, a_this, a_field, a_local, a_builtin, a_create, a_list, brackets, a_call, a_future, a_unary, a_binary, Phrases, no_phrases, phrase, IsWellFormed, AreWellFormed, line, operator_line, left_of, in_round, sign_symbol, op_symbol, phrase_spelling, args_spelling, more_spelling, tree_of}
use Rattle.model_lang.specs.Reader.{ParseResult, ExpressionReader, on_read, on_found, sign_at, read_operator_line, read_unary, read_post, read_expression}
use Rattle.model_lang.proofs.GoesOn.{front_line, sign_found, line_of-two, line_of-le, left_of-le, left_of-relation}
use Rattle.model_lang.proofs.Turns.{read_line-one}
use Rattle.model_lang.proofs.Phrases.{phrase_long}
use Rattle.model_lang.proofs.Arguments.{IsReadBy, AreReadBy}
use Rattle.model_lang.proofs.Posts.{spine, IsPost, post_read, number_post, text_post, nil_post, bool_post, this_post, field_post, local_post, builtin_post, create_post, list_post, brackets_post, call_post, future_post}
use Rattle.model_lang.proofs.LineTurns.{IsLine, side_line, joined_line, line_read, climb}

-- ---- how long the end of a phrase is

if-le : (b : Bool) (m n : ℕ) → m ≤ n → (if b then m else 0) ≤ n
if-le true m n h = h
if-le false m n h = omega arith

spine-le : (p : Phrase) → spine p ≤ length (phrase_spelling p)
spine-le (a_call object x args) = omega (arith, spine-le object, length-append (phrase_spelling object) (symbol s.Dot ∷ name x ∷ in_round (args_spelling args)))
spine-le (a_future object delay x args) =
    omega (arith, spine-le object, length-append (phrase_spelling object) (symbol s.Dot ∷ word w.Future ∷ (in_round (phrase_spelling delay) ++ symbol s.Dot ∷ name x ∷ in_round (args_spelling args))))
spine-le (a_binary o a b) =
    omega (arith, if-le (nat_eq (line a) (operator_line o)) (spine a) (length (phrase_spelling a)) (spine-le a), length-append (phrase_spelling a) (symbol (op_symbol o) ∷ phrase_spelling b))
spine-le _ = omega arith

-- relations do not group
spine_of_relation : (p : Phrase) → IsWellFormed p → line p ≡ 4 → spine p ≤ 1
spine_of_relation (a_binary o a b) st h =
    let left : left_of o ≡ 3 = left_of-relation o h in
    let apart : nat_eq (line a) (operator_line o) ≡ false = ne_eqb (line a) (operator_line o) (omega (arith, st.1)) in
    rw apart (omega arith)
spine_of_relation (a_call object x args) st h = absurd (omega arith)
spine_of_relation (a_future object delay x args) st h = absurd (omega arith)
spine_of_relation _ st h = omega arith

-- ---- what is read on a phrase's own line, with room for one sign or bracket more than is given

abbrev OwnAt : ℕ → Phrase → ℕ → Type 0
OwnAt room p zero = IsPost (read_operator_line (read_unary room) 6) p
OwnAt room p (suc zero) = IsReadBy (read_unary (suc room)) 1 p
OwnAt room p (suc (suc k)) = IsLine (read_operator_line (read_unary (suc room)) (suc k)) (suc k) p (spine p)

abbrev IsOwn : Phrase → Type 0
IsOwn p = (room : ℕ) → length (phrase_spelling p) ≤ suc room → OwnAt room p (line p)

-- ---- and so on looser lines

to_post : (room : ℕ) (ts : List Token) → sign_at ts ≡ None → read_unary (suc room) ts ≡ read_post (read_operator_line (read_unary room) 6) ts
to_post room ts h =
    ap (λ f. on_found f (λ o ts. on_read (read_unary room ts) (λ e ts. Some (unary o e, ts))) (read_post (read_operator_line (read_unary room) 6) ts)) h

on_line : (u : ExpressionReader) (p : Phrase) → IsReadBy u 1 p → IsReadBy (read_operator_line u 1) 1 p
on_line u p at rest h = ap (λ (f : ExpressionReader). f (phrase_spelling p ++ rest)) (read_line-one u) ∙ at rest h

up_from : (n : ℕ) (p : Phrase) → IsWellFormed p → line p ≡ n → (room : ℕ) → OwnAt room p n → (k : ℕ) → n ≤ suc k → IsReadBy (read_operator_line (read_unary (suc room)) (suc k)) (suc k) p
up_from zero p st is room own k le =
    climb (read_unary (suc room)) p k zero (omega arith) (on_line (read_unary (suc room)) p (post_read (read_operator_line (read_unary room) 6) (read_unary (suc room)) p st (omega arith) (spine-le p) (to_post room) own))
up_from (suc zero) p st is room own k le = climb (read_unary (suc room)) p k zero (omega arith) (on_line (read_unary (suc room)) p own)
up_from (suc (suc n)) p st is room own k le =
    climb (read_unary (suc room)) p k (suc n) (omega arith) (line_read (read_unary (suc room)) n p (spine p) (spine-le p) (λ h. spine_of_relation p st (is ∙ h)) own)

up : (p : Phrase) → IsWellFormed p → IsOwn p → (room : ℕ) → length (phrase_spelling p) ≤ room → (k : ℕ) → line p ≤ suc k → IsReadBy (read_operator_line (read_unary room) (suc k)) (suc k) p
up p st own zero fits k le = absurd (omega (arith, phrase_long p))
up p st own (suc room) fits k le = up_from (line p) p st refl room (own room fits) k le

-- ---- form by form

line-le : (p : Phrase) → line p ≤ 6
line-le (a_unary o a) = omega arith
line-le (a_binary o a b) = line_of-le o
line-le _ = omega arith

whole : (p : Phrase) → IsWellFormed p → IsOwn p → (room : ℕ) → length (phrase_spelling p) ≤ room → IsReadBy (read_operator_line (read_unary room) 6) 6 p
whole p st own room fits = up p st own room fits 5 (line-le p)

abbrev AreOwn : Phrases → Type 0
AreOwn no_phrases = Unit {0}
AreOwn (phrase a more) = IsOwn a × AreOwn more

-- the expressions within brackets
more_wholes : (es : Phrases) → AreWellFormed es → AreOwn es → (room : ℕ) → length (more_spelling es) ≤ room → AreReadBy (read_operator_line (read_unary room) 6) es
more_wholes no_phrases st own room fits = tt
more_wholes (phrase a more) st own room fits =
    let long = length-append (phrase_spelling a) (more_spelling more) in
    (whole a st.0 own.0 room (omega (arith, long)), more_wholes more st.1 own.1 room (omega (arith, long)))

wholes : (es : Phrases) → AreWellFormed es → AreOwn es → (room : ℕ) → length (args_spelling es) ≤ room → AreReadBy (read_operator_line (read_unary room) 6) es
wholes no_phrases st own room fits = tt
wholes (phrase a more) st own room fits =
    let long = length-append (phrase_spelling a) (more_spelling more) in
    (whole a st.0 own.0 room (omega (arith, long)), more_wholes more st.1 own.1 room (omega (arith, long)))

builtin_own : (x : Name) (args : Phrases) → AreWellFormed args → AreOwn args → IsOwn (a_builtin x args)
builtin_own x args st own room fits =
    builtin_post (read_operator_line (read_unary room) 6) x args (wholes args st own room (omega (arith, length-append (args_spelling args) (symbol s.CloseRound ∷ []))))

create_own : (x : Name) (options : Phrase) → IsWellFormed options → IsOwn options → IsOwn (a_create x options)
create_own x options st own room fits =
    create_post (read_operator_line (read_unary room) 6) x options (whole options st own room (omega (arith, length-append (phrase_spelling options) (symbol s.CloseRound ∷ []))))

list_own : (items : Phrases) → AreWellFormed items → AreOwn items → IsOwn (a_list items)
list_own items st own room fits =
    list_post (read_operator_line (read_unary room) 6) items (wholes items st own room (omega (arith, length-append (args_spelling items) (symbol s.CloseSquare ∷ []))))

brackets_own : (a : Phrase) → IsWellFormed a → IsOwn a → IsOwn (brackets a)
brackets_own a st own room fits =
    brackets_post (read_operator_line (read_unary room) 6) a (whole a st own room (omega (arith, length-append (phrase_spelling a) (symbol s.CloseRound ∷ []))))

-- what the phrase before a call or a future has on its own line
post_of : (p : Phrase) → line p ≤ 0 → IsOwn p → (room : ℕ) → length (phrase_spelling p) ≤ suc room → IsPost (read_operator_line (read_unary room) 6) p
post_of p low own room fits =
    let e : line p ≡ 0 = omega arith in
    subst (λ n. OwnAt room p n) e (own room fits)

call_own : (object : Phrase) (x : Name) (args : Phrases) → line object ≤ 0 → AreWellFormed args → IsOwn object → AreOwn args → IsOwn (a_call object x args)
call_own object x args low st own_object own_args room fits =
    let long = length-append (phrase_spelling object) (symbol s.Dot ∷ name x ∷ in_round (args_spelling args)) in
    let inside = length-append (args_spelling args) (symbol s.CloseRound ∷ []) in
    call_post (read_operator_line (read_unary room) 6) object x args (post_of object low own_object room (omega (arith, long))) (wholes args st own_args room (omega (arith, long, inside)))

future_own : (object delay : Phrase) (x : Name) (args : Phrases) → line object ≤ 0 → IsWellFormed delay → AreWellFormed args → IsOwn object → IsOwn delay → AreOwn args → IsOwn (a_future object delay x args)
future_own object delay x args low st_delay st_args own_object own_delay own_args room fits =
    let message = symbol s.Dot ∷ name x ∷ in_round (args_spelling args) in
    let long = length-append (phrase_spelling object) (symbol s.Dot ∷ word w.Future ∷ (in_round (phrase_spelling delay) ++ message)) in
    let behind = length-append (in_round (phrase_spelling delay)) message in
    let in_delay = length-append (phrase_spelling delay) (symbol s.CloseRound ∷ []) in
    let in_args = length-append (args_spelling args) (symbol s.CloseRound ∷ []) in
    future_post (read_operator_line (read_unary room) 6) object delay x args
    (post_of object low own_object room (omega (arith, long)))
    (whole delay st_delay own_delay room (omega (arith, long, behind, in_delay)))
    (wholes args st_args own_args room (omega (arith, long, behind, in_args)))

signed_own : (o : UnaryOp) (a : Phrase) → IsWellFormed a → line a ≤ 1 → IsOwn a → IsOwn (a_unary o a)
signed_own o a st low own room fits rest h =
    let next : UnaryOp → List Token → ParseResult Expression = λ o ts. on_read (read_unary room ts) (λ e ts. Some (unary o e, ts)) in
    let one = ap (λ (f : ExpressionReader). f (phrase_spelling a ++ rest)) (read_line-one (read_unary room)) in
    ap (λ f. on_found f next (read_post (read_operator_line (read_unary room) 6) (symbol (sign_symbol o) ∷ (phrase_spelling a ++ rest)))) (sign_found o (phrase_spelling a ++ rest))
    ∙ ap (λ f. on_read f (λ e ts. Some (unary o e, ts))) (sym one ∙ up a st own room (omega arith) 0 low rest h)

left_own : (b : Bool) (a : Phrase) (k n : ℕ) → nat_eq (line a) n ≡ b → n ≡ suc (suc k) → line a ≤ n → IsWellFormed a → IsOwn a → (room : ℕ) → length (phrase_spelling a) ≤ suc room → IsLine (read_operator_line (read_unary (suc room)) (suc k)) (suc k) a (if b then spine a else 0)
left_own true a k n same is le st own room fits =
    let e : line a ≡ suc (suc k) = grind (arith, nat_tests) in
    subst (λ n. OwnAt room a n) e (own room fits)
left_own false a k n same is le st own room fits =
    let less : line a ≤ suc k = grind (arith, nat_tests) in
    side_line (read_operator_line (read_unary (suc room)) (suc k)) (suc k) a (up a st own (suc room) fits k less)

joined_own : (o : BinaryOp) (a b : Phrase) → IsWellFormed (a_binary o a b) → IsOwn a → IsOwn b → (k : ℕ) → operator_line o ≡ suc (suc k) → (room : ℕ) → length (phrase_spelling (a_binary o a b)) ≤ suc room → OwnAt room (a_binary o a b) (suc (suc k))
joined_own o a b st own_a own_b k is room fits =
    let long = length-append (phrase_spelling a) (symbol (op_symbol o) ∷ phrase_spelling b) in
    let lefts = if nat_eq (line a) (operator_line o) then spine a else 0 in
    joined_line (read_operator_line (read_unary (suc room)) (suc k)) (suc k) o a b lefts is
    (left_own (nat_eq (line a) (operator_line o)) a k (operator_line o) refl is (omega (arith, st.1, left_of-le o)) st.0 own_a room (omega (arith, long)))
    (up b st.2 own_b (suc room) (omega (arith, long)) k (omega (arith, st.3)))

mutual
  own : (p : Phrase) → IsWellFormed p → IsOwn p
  own (a_number n) st room fits = number_post (read_operator_line (read_unary room) 6) n
  own (a_text t) st room fits = text_post (read_operator_line (read_unary room) 6) t
  own a_nil st room fits = nil_post (read_operator_line (read_unary room) 6)
  own (a_bool b) st room fits = bool_post (read_operator_line (read_unary room) 6) b
  own a_this st room fits = this_post (read_operator_line (read_unary room) 6)
  own (a_field x) st room fits = field_post (read_operator_line (read_unary room) 6) x
  own (a_local x) st room fits = local_post (read_operator_line (read_unary room) 6) x
  own (a_builtin x args) st room fits = builtin_own x args st (all_own args st) room fits
  own (a_create x options) st room fits = create_own x options st (own options st) room fits
  own (a_list items) st room fits = list_own items st (all_own items st) room fits
  own (brackets a) st room fits = brackets_own a st (own a st) room fits
  own (a_call object x args) st room fits = call_own object x args st.1 st.2 (own object st.0) (all_own args st.2) room fits
  own (a_future object delay x args) st room fits = future_own object delay x args st.1 st.2 st.3 (own object st.0) (own delay st.2) (all_own args st.3) room fits
  own (a_unary o a) st room fits = signed_own o a st.0 st.1 (own a st.0) room fits
  own (a_binary o a b) st room fits =
      subst (λ n. OwnAt room (a_binary o a b) n) (sym (line_of-two o)) (joined_own o a b st (own a st.0) (own b st.2) (operator_line o - 2) (line_of-two o) room fits)

  all_own : (es : Phrases) → AreWellFormed es → AreOwn es
  all_own no_phrases st = tt
  all_own (phrase a more) st = (own a st.0, all_own more st.1)

-- ---- whole expressions

pub expression_read : (p : Phrase) → IsWellFormed p → (rest : List Token) → 6 < front_line rest → read_expression (phrase_spelling p ++ rest) ≡ Some (tree_of p, rest)
expression_read p st rest h = whole p st (own p st) (length (phrase_spelling p ++ rest)) (omega (arith, length-append (phrase_spelling p) rest)) rest h

-- what is done behind an expression and a token that does not go on with it
pub expression_then : {B : Type 0} (p : Phrase) → IsWellFormed p → (t : Token) (more rest : List Token) (next : Expression → List Token → Option B) → 6 < front_line (t ∷ (more ++ rest)) → on_read (read_expression ((phrase_spelling p ++ t ∷ more) ++ rest)) next ≡ next (tree_of p) (t ∷ (more ++ rest))
expression_then p st t more rest next h =
    ap (λ ts. on_read (read_expression ts) next) (append_assoc (phrase_spelling p) (t ∷ more) rest)
    ∙ ap (λ o. on_read o next) (expression_read p st (t ∷ (more ++ rest)) h)
