-- The tightest line of expressions is read, as soon as the expressions in its brackets are.
use Rattle.std.proofs.Common.{◌≡◌, ℕ, zero, suc, ◌+◌, ◌-◌, ◌≤◌, ℤ, Bool, true, false, List, [], ◌∷◌, ◌++◌, length, Some, None, nat_eq, if◌then◌else◌, refl, sym, ap, ◌∙◌, arith, append_assoc, length-append}
use Rattle.model_tokens.specs.declared.token.Token.{Token}
use Rattle.model_tokens.specs.declared.token.Token.TheVariants.{Name as name, Word as word, Symbol as symbol}
use Rattle.model_tokens.specs.declared.token.Word.TheVariants as w
use Rattle.model_tokens.specs.declared.token.Symbol.TheVariants as s
use Rattle.model_tree.specs.Tree.{Name, Expression, this, field, list, builtin, call, future, create, expressions_of}
use Rattle.model_tree.specs.Grammar.{Phrase, a_number, a_text, a_nil, a_bool, a_this, a_field, a_local, a_builtin, a_create, a_list, brackets, a_call, a_future, a_unary, a_binary, Phrases, line, operator_line, IsWellFormed, in_round, phrase_spelling, args_spelling, tree_of, trees_of}
use Rattle.model_lang.specs.Reader.{ParseResult, ExpressionReader, on_read, on_rest, either_way, on_found, after_symbol, field_at, sign_at, read_prim, read_suffix, read_message, suffixes_of, read_post}
use Rattle.model_lang.proofs.GoesOn.{no_dot, no_round, no_field, line_of-two}
use Rattle.model_lang.proofs.Phrases.{list_of-trees}
use Rattle.model_lang.proofs.Arguments.{IsReadBy, AreReadBy, round, square, args_then}

-- how many calls and futures, or how many operators of one line, stand one behind the other at the end of a phrase
abbrev pub spine : Phrase → ℕ
spine (a_call object x args) = suc (spine object)
spine (a_future object delay x args) = suc (spine object)
spine (a_binary o a b) = suc (if nat_eq (line a) (operator_line o) then spine a else 0)
spine _ = 0

-- ---- primaries

-- behind it no arguments stand and no field's name
abbrev IsPrim : ExpressionReader → Phrase → Type 0
IsPrim inner p = (rest : List Token) → after_symbol s.OpenRound rest ≡ None → field_at rest ≡ None → read_prim inner (phrase_spelling p ++ rest) ≡ Some (tree_of p, rest)

bool_read : (inner : ExpressionReader) (b : Bool) → IsPrim inner (a_bool b)
bool_read inner true rest round_none field_none = refl
bool_read inner false rest round_none field_none = refl

this_read : (inner : ExpressionReader) → IsPrim inner a_this
this_read inner rest round_none field_none = ap (λ o. on_found o (λ x ts. Some (field x, ts)) (Some (this, rest))) field_none

field_read : (inner : ExpressionReader) (x : Name) → IsPrim inner (a_field x)
field_read inner x rest round_none field_none =
    ap (λ o. on_found (either_way o (λ ts. None) (Some (x, rest))) (λ x ts. Some (field x, ts)) (Some (this, symbol s.Dot ∷ name x ∷ rest))) round_none

local_read : (inner : ExpressionReader) (x : Name) → IsPrim inner (a_local x)
local_read inner x rest round_none field_none = rw round_none refl

builtin_read : (inner : ExpressionReader) (x : Name) (args : Phrases) → AreReadBy inner args → IsPrim inner (a_builtin x args)
builtin_read inner x args all rest round_none field_none =
    args_then round inner args all rest (λ args ts. Some (builtin x (expressions_of args), ts)) ∙ ap (λ es. Some (builtin x es, rest)) (list_of-trees args)

create_read : (inner : ExpressionReader) (x : Name) (options : Phrase) → IsReadBy inner 6 options → IsPrim inner (a_create x options)
create_read inner x options at rest round_none field_none =
    let next : Expression → List Token → ParseResult Expression = λ e ts. on_rest (after_symbol s.CloseRound ts) (λ ts. Some (create x e, ts)) in
    ap (λ ts. on_read (inner ts) next) (append_assoc (phrase_spelling options) (symbol s.CloseRound ∷ []) rest)
    ∙ ap (λ o. on_read o next) (at (symbol s.CloseRound ∷ rest) (omega arith))

list_read : (inner : ExpressionReader) (items : Phrases) → AreReadBy inner items → IsPrim inner (a_list items)
list_read inner items all rest round_none field_none =
    args_then square inner items all rest (λ items ts. Some (list (expressions_of items), ts)) ∙ ap (λ es. Some (list es, rest)) (list_of-trees items)

brackets_read : (inner : ExpressionReader) (a : Phrase) → IsReadBy inner 6 a → IsPrim inner (brackets a)
brackets_read inner a at rest round_none field_none =
    let next : Expression → List Token → ParseResult Expression = λ e ts. on_rest (after_symbol s.CloseRound ts) (λ ts. Some (e, ts)) in
    ap (λ ts. on_read (inner ts) next) (append_assoc (phrase_spelling a) (symbol s.CloseRound ∷ []) rest)
    ∙ ap (λ o. on_read o next) (at (symbol s.CloseRound ∷ rest) (omega arith))

-- ---- calls and futures

-- the turns of the loop, and the calls and futures that the phrase has at its end
abbrev pub IsPost : ExpressionReader → Phrase → Type 0
IsPost inner p =
    (turns : ℕ) (rest : List Token) → after_symbol s.OpenRound rest ≡ None → field_at rest ≡ None → on_read (read_prim inner (phrase_spelling p ++ rest)) (suffixes_of inner (turns + spine p)) ≡ suffixes_of inner turns (tree_of p) rest

prim_post : (inner : ExpressionReader) (p : Phrase) → spine p ≡ 0 → IsPrim inner p → IsPost inner p
prim_post inner p none at turns rest round_none field_none =
    let e : turns + spine p ≡ turns = omega arith in
    ap (λ o. on_read o (suffixes_of inner (turns + spine p))) (at rest round_none field_none) ∙ ap (λ n. suffixes_of inner n (tree_of p) rest) e

pub number_post : (inner : ExpressionReader) (n : ℤ) → IsPost inner (a_number n)
number_post inner n = prim_post inner (a_number n) refl (λ rest h k. refl)

pub text_post : (inner : ExpressionReader) (t : List ℕ) → IsPost inner (a_text t)
text_post inner t = prim_post inner (a_text t) refl (λ rest h k. refl)

pub nil_post : (inner : ExpressionReader) → IsPost inner a_nil
nil_post inner = prim_post inner a_nil refl (λ rest h k. refl)

pub bool_post : (inner : ExpressionReader) (b : Bool) → IsPost inner (a_bool b)
bool_post inner b = prim_post inner (a_bool b) refl (bool_read inner b)

pub this_post : (inner : ExpressionReader) → IsPost inner a_this
this_post inner = prim_post inner a_this refl (this_read inner)

pub field_post : (inner : ExpressionReader) (x : Name) → IsPost inner (a_field x)
field_post inner x = prim_post inner (a_field x) refl (field_read inner x)

pub local_post : (inner : ExpressionReader) (x : Name) → IsPost inner (a_local x)
local_post inner x = prim_post inner (a_local x) refl (local_read inner x)

pub builtin_post : (inner : ExpressionReader) (x : Name) (args : Phrases) → AreReadBy inner args → IsPost inner (a_builtin x args)
builtin_post inner x args all = prim_post inner (a_builtin x args) refl (builtin_read inner x args all)

pub create_post : (inner : ExpressionReader) (x : Name) (options : Phrase) → IsReadBy inner 6 options → IsPost inner (a_create x options)
create_post inner x options at = prim_post inner (a_create x options) refl (create_read inner x options at)

pub list_post : (inner : ExpressionReader) (items : Phrases) → AreReadBy inner items → IsPost inner (a_list items)
list_post inner items all = prim_post inner (a_list items) refl (list_read inner items all)

pub brackets_post : (inner : ExpressionReader) (a : Phrase) → IsReadBy inner 6 a → IsPost inner (brackets a)
brackets_post inner a at = prim_post inner (brackets a) refl (brackets_read inner a at)

call_suffix : (inner : ExpressionReader) (object : Expression) (x : Name) (args : Phrases) → AreReadBy inner args → (rest : List Token) → read_suffix inner object (name x ∷ (in_round (args_spelling args) ++ rest)) ≡ Some (call object x (trees_of args), rest)
call_suffix inner object x args all rest =
    args_then round inner args all rest (λ args ts. Some (call object x (expressions_of args), ts)) ∙ ap (λ es. Some (call object x es, rest)) (list_of-trees args)

pub call_post : (inner : ExpressionReader) (object : Phrase) (x : Name) (args : Phrases) → IsPost inner object → AreReadBy inner args → IsPost inner (a_call object x args)
call_post inner object x args at all turns rest round_none field_none =
    let more = symbol s.Dot ∷ name x ∷ in_round (args_spelling args) in
    let e : turns + suc (spine object) ≡ suc turns + spine object = omega arith in
    ap (λ n. on_read (read_prim inner ((phrase_spelling object ++ more) ++ rest)) (suffixes_of inner n)) e
    ∙ ap (λ ts. on_read (read_prim inner ts) (suffixes_of inner (suc turns + spine object))) (append_assoc (phrase_spelling object) more rest)
    ∙ at (suc turns) (more ++ rest) refl refl
    ∙ ap (λ o. on_read o (suffixes_of inner turns)) (call_suffix inner (tree_of object) x args all rest)

message_read : (inner : ExpressionReader) (object delay : Expression) (x : Name) (args : Phrases) → AreReadBy inner args → (rest : List Token) → read_message inner object delay (symbol s.Dot ∷ name x ∷ (in_round (args_spelling args) ++ rest)) ≡ Some (future object delay x (trees_of args), rest)
message_read inner object delay x args all rest =
    args_then round inner args all rest (λ args ts. Some (future object delay x (expressions_of args), ts)) ∙ ap (λ es. Some (future object delay x es, rest)) (list_of-trees args)

future_suffix : (inner : ExpressionReader) (object : Expression) (delay : Phrase) (x : Name) (args : Phrases) → IsReadBy inner 6 delay → AreReadBy inner args → (rest : List Token)
    → read_suffix inner object (word w.Future ∷ ((in_round (phrase_spelling delay) ++ symbol s.Dot ∷ name x ∷ in_round (args_spelling args)) ++ rest)) ≡ Some (future object (tree_of delay) x (trees_of args), rest)
future_suffix inner object delay x args at all rest =
    let more = symbol s.Dot ∷ name x ∷ in_round (args_spelling args) in
    let next : Expression → List Token → ParseResult Expression = λ delay ts. on_rest (after_symbol s.CloseRound ts) (read_message inner object delay) in
    ap (λ ts. read_suffix inner object (word w.Future ∷ ts)) (append_assoc (in_round (phrase_spelling delay)) more rest)
    ∙ ap (λ ts. on_read (inner ts) next) (append_assoc (phrase_spelling delay) (symbol s.CloseRound ∷ []) (more ++ rest))
    ∙ ap (λ o. on_read o next) (at (symbol s.CloseRound ∷ (more ++ rest)) (omega arith))
    ∙ message_read inner object (tree_of delay) x args all rest

pub future_post : (inner : ExpressionReader) (object delay : Phrase) (x : Name) (args : Phrases) → IsPost inner object → IsReadBy inner 6 delay → AreReadBy inner args → IsPost inner (a_future object delay x args)
future_post inner object delay x args at_object at_delay all turns rest round_none field_none =
    let more = symbol s.Dot ∷ word w.Future ∷ (in_round (phrase_spelling delay) ++ symbol s.Dot ∷ name x ∷ in_round (args_spelling args)) in
    let e : turns + suc (spine object) ≡ suc turns + spine object = omega arith in
    ap (λ n. on_read (read_prim inner ((phrase_spelling object ++ more) ++ rest)) (suffixes_of inner n)) e
    ∙ ap (λ ts. on_read (read_prim inner ts) (suffixes_of inner (suc turns + spine object))) (append_assoc (phrase_spelling object) more rest)
    ∙ at_object (suc turns) (more ++ rest) refl refl
    ∙ ap (λ o. on_read o (suffixes_of inner turns)) (future_suffix inner (tree_of object) delay x args at_delay all rest)

-- ---- the whole line

no_suffix : (inner : ExpressionReader) (turns : ℕ) (object : Expression) (ts : List Token) → after_symbol s.Dot ts ≡ None → suffixes_of inner turns object ts ≡ Some (object, ts)
no_suffix inner zero object ts h = refl
no_suffix inner (suc turns) object ts h = rw h refl

-- no phrase of this line begins with a sign
unsigned : (p : Phrase) → IsWellFormed p → line p ≤ 0 → (rest : List Token) → sign_at (phrase_spelling p ++ rest) ≡ None
unsigned (a_bool true) st low rest = refl
unsigned (a_bool false) st low rest = refl
unsigned (a_call object x args) st low rest =
    let more = symbol s.Dot ∷ name x ∷ in_round (args_spelling args) in
    ap sign_at (append_assoc (phrase_spelling object) more rest) ∙ unsigned object st.0 st.1 (more ++ rest)
unsigned (a_future object delay x args) st low rest =
    let more = symbol s.Dot ∷ word w.Future ∷ (in_round (phrase_spelling delay) ++ symbol s.Dot ∷ name x ∷ in_round (args_spelling args)) in
    ap sign_at (append_assoc (phrase_spelling object) more rest) ∙ unsigned object st.0 st.1 (more ++ rest)
unsigned (a_unary o a) st low rest = absurd (omega arith)
unsigned (a_binary o a b) st low rest = absurd (omega (arith, line_of-two o))
unsigned _ st low rest = refl

pub post_read : (inner : ExpressionReader) (u : ExpressionReader) (p : Phrase) → IsWellFormed p → line p ≤ 0 → spine p ≤ length (phrase_spelling p) → ((ts : List Token) → sign_at ts ≡ None → u ts ≡ read_post inner ts) → IsPost inner p → IsReadBy u 1 p
post_read inner u p st low few to_post at rest h =
    let ts = phrase_spelling p ++ rest in
    let n = length ts - spine p in
    let e : n + spine p ≡ length ts = omega (arith, length-append (phrase_spelling p) rest) in
    to_post ts (unsigned p st low rest)
    ∙ ap (λ n. on_read (read_prim inner ts) (suffixes_of inner n)) (sym e)
    ∙ at n rest (no_round 1 rest h) (no_field 1 rest h)
    ∙ no_suffix inner n (tree_of p) rest (no_dot 1 rest h)
