-- What is read on the tightest line is spelled by the grammar, as soon as the expressions in its brackets are.
use Rattle.std.proofs.Common.{◌≡◌, ⊎_elim, ℕ, zero, suc, ◌≤◌, true, false, List, [], ◌∷◌, ◌++◌, length, Option, Some, None, refl, sym, ap, ◌∙◌, arith, append_assoc}
use Rattle.model_tokens.specs.declared.token.Token.{Token}
use Rattle.model_tokens.specs.declared.token.Token.TheVariants as token
use Rattle.model_tokens.specs.declared.token.Token.TheVariants.{Name as name, ClassName as class_name, Word as word, Symbol as symbol}
use Rattle.model_tokens.specs.declared.token.Word.{Word}
use Rattle.model_tokens.specs.declared.token.Word.TheVariants as w
use Rattle.model_tokens.specs.declared.token.Symbol.{Symbol}
use Rattle.model_tokens.specs.declared.token.Symbol.TheVariants as s
use Rattle.model_tree.specs.Tree.{Name, Expression, nil, bool, int, text, this, local, field, list, builtin, call, future, create, expressions_of}
use Rattle.model_tree.specs.Grammar.{Phrase, a_number, a_text, a_nil, a_bool, a_this, a_field, a_local, a_builtin, a_create, a_list, brackets, a_call, a_future, IsWellFormed, line, in_round, phrase_spelling, args_spelling, tree_of}
use Rattle.model_lang.specs.Reader.{ParseResult, ExpressionReader, on_read, on_rest, either_way, after_symbol, name_at, class_name_at, field_at, read_args, read_named, read_this, read_create, read_word, read_opened, read_prim, read_call, read_message, read_future, read_suffix, suffixes_of, read_post}
use Rattle.model_lang.proofs.Fronts.{parts, apart, word_or, symbol_or, symbol_then, name_then, class_name_front, found_or, both_spelled}
use Rattle.model_lang.proofs.Phrases.{list_of, list_of-trees}
use Rattle.model_lang.proofs.SoundArguments.{Found, IsSoundReader, sound_then, args_found, round_spelled}

-- a phrase whose tokens end before the rest
pub made : (k : ℕ) (p : Phrase) → IsWellFormed p → line p ≤ k → (ts : List Token) (e : Expression) (after rest : List Token) → phrase_spelling p ++ after ≡ ts → (tree_of p ≡ e) × (after ≡ rest) → Found k ts e rest
made k p st low ts e after rest q each = (p, st, low, ap (λ r. phrase_spelling p ++ r) (sym each.1) ∙ q, each.0)

pub retold : (k : ℕ) (ts us : List Token) (e : Expression) (rest : List Token) → ts ≡ us → Found k ts e rest → Found k us e rest
retold k ts us e rest q f = (f.0, f.1, f.2, f.3 ∙ q, f.4)

-- ---- primaries

named_sound : (inner : ExpressionReader) → IsSoundReader 6 inner → (x : Name) (ts : List Token) (e : Expression) (rest : List Token) → read_named inner x ts ≡ Some (e, rest) → Found 0 (name x ∷ ts) e rest
named_sound inner sound x ts e rest h =
    let with_args : List Expression → List Token → ParseResult Expression = λ args ts. Some (builtin x (expressions_of args), ts) in
    ⊎_elim
    (λ c.
    let l = args_found s.CloseRound inner sound c.0 with_args (e, rest) c.2 in
    let each = apart (builtin x (expressions_of (list_of l.0))) e l.2 rest l.4 in
    made 0 (a_builtin x l.0) l.1 (omega arith) (name x ∷ ts) e l.2 rest (ap (λ r. name x ∷ r) (round_spelled (args_spelling l.0) l.2 c.0 ts l.3 c.1)) (ap (builtin x) (sym (list_of-trees l.0)) ∙ each.0, each.1))
    (λ k. made 0 (a_local x) tt (omega arith) (name x ∷ ts) e ts rest refl (apart (local x) e ts rest k))
    (symbol_or s.OpenRound ts (λ ts. on_read (read_args s.CloseRound inner ts) with_args) (Some (local x, ts)) (Some (e, rest)) h)

not_called : (o : Option (List Token)) (x y : Name) (ts rest : List Token) → either_way {B = ParseResult Name} o (λ r. None) (Some (x, ts)) ≡ Some (y, rest) → (x ≡ y) × (ts ≡ rest)
not_called None x y ts rest h = apart x y ts rest h
not_called (Some r) x y ts rest h = cc

field_front : (ts : List Token) (x : Name) (rest : List Token) → field_at ts ≡ Some (x, rest) → symbol s.Dot ∷ name x ∷ rest ≡ ts
field_front ts x rest h =
    let named : Name → List Token → ParseResult Name = λ x ts. either_way (after_symbol s.OpenRound ts) (λ r. None) (Some (x, ts)) in
    let d = symbol_then s.Dot ts (λ ts. on_read (name_at ts) named) (x, rest) h in
    let n = name_then d.0 named (x, rest) d.2 in
    let each = not_called (after_symbol s.OpenRound n.1) n.0 x n.1 rest n.3 in
    cc (d.1, n.2, each.0, each.1)

this_sound : (ts : List Token) (e : Expression) (rest : List Token) → read_this ts ≡ Some (e, rest) → Found 0 (word w.This ∷ ts) e rest
this_sound ts e rest h =
    ⊎_elim
    (λ f. made 0 (a_field f.0.0) tt (omega arith) (word w.This ∷ ts) e f.0.1 rest (ap (λ r. word w.This ∷ r) (field_front ts f.0.0 f.0.1 f.1)) (apart (field f.0.0) e f.0.1 rest f.2))
    (λ n. made 0 a_this tt (omega arith) (word w.This ∷ ts) e ts rest refl (apart this e ts rest n.1))
    (found_or (field_at ts) (λ x ts. Some (field x, ts)) (Some (this, ts)) (Some (e, rest)) h)

create_made : (x : Name) (p : Phrase) → IsWellFormed p → (opened in_class behind after rest ts : List Token) (e : Expression) → opened ≡ class_name x ∷ in_class → symbol s.OpenRound ∷ opened ≡ ts
    → (more : List Token) → symbol s.Comma ∷ more ≡ in_class → phrase_spelling p ++ behind ≡ more → symbol s.CloseRound ∷ after ≡ behind → (create x (tree_of p) ≡ e) × (after ≡ rest) → Found 0 (word w.Create ∷ ts) e rest
create_made x p st opened in_class behind after rest ts e named front more comma q close each =
    let inside : (class_name x ∷ symbol s.Comma ∷ phrase_spelling p) ++ symbol s.CloseRound ∷ after ≡ opened = cc in
    made 0 (a_create x p) st (omega arith) (word w.Create ∷ ts) e after rest (ap (λ r. word w.Create ∷ r) (round_spelled (class_name x ∷ symbol s.Comma ∷ phrase_spelling p) after opened ts inside front)) each

create_sound : (inner : ExpressionReader) → IsSoundReader 6 inner → (ts : List Token) (e : Expression) (rest : List Token) → read_create inner ts ≡ Some (e, rest) → Found 0 (word w.Create ∷ ts) e rest
create_sound inner sound ts e rest h =
    let closed : Name → Expression → List Token → ParseResult Expression = λ x e ts. on_rest (after_symbol s.CloseRound ts) (λ ts. Some (create x e, ts)) in
    let options : Name → List Token → ParseResult Expression = λ x ts. on_rest (after_symbol s.Comma ts) (λ ts. on_read (inner ts) (closed x)) in
    let a = symbol_then s.OpenRound ts (λ ts. on_read (class_name_at ts) options) (e, rest) h in
    let x = parts (class_name_at a.0) options (e, rest) a.2 in
    let b = symbol_then s.Comma x.0.1 (λ ts. on_read (inner ts) (closed x.0.0)) (e, rest) x.2 in
    let p = sound_then 6 inner sound b.0 (closed x.0.0) (e, rest) b.2 in
    let c = symbol_then s.CloseRound p.3 (λ ts. Some (create x.0.0 (tree_of p.0), ts)) (e, rest) p.5 in
    create_made x.0.0 p.0 p.1 a.0 x.0.1 p.3 c.0 rest ts e (class_name_front a.0 x.0 x.1) a.1 b.0 b.1 p.4 c.1 (apart (create x.0.0 (tree_of p.0)) e c.0 rest c.2)

word_sound : (inner : ExpressionReader) → IsSoundReader 6 inner → (x : Word) (ts : List Token) (e : Expression) (rest : List Token) → read_word inner x ts ≡ Some (e, rest) → Found 0 (word x ∷ ts) e rest
word_sound inner sound w.Nil ts e rest h = made 0 a_nil tt (omega arith) (word w.Nil ∷ ts) e ts rest refl (apart nil e ts rest h)
word_sound inner sound w.True ts e rest h = made 0 (a_bool true) tt (omega arith) (word w.True ∷ ts) e ts rest refl (apart (bool true) e ts rest h)
word_sound inner sound w.False ts e rest h = made 0 (a_bool false) tt (omega arith) (word w.False ∷ ts) e ts rest refl (apart (bool false) e ts rest h)
word_sound inner sound w.This ts e rest h = this_sound ts e rest h
word_sound inner sound w.Create ts e rest h = create_sound inner sound ts e rest h
word_sound inner sound _ ts e rest h = cc

brackets_made : (p : Phrase) → IsWellFormed p → (ts : List Token) (e : Expression) (after behind rest : List Token) → phrase_spelling p ++ behind ≡ ts → symbol s.CloseRound ∷ after ≡ behind → (tree_of p ≡ e) × (after ≡ rest) → Found 0 (symbol s.OpenRound ∷ ts) e rest
brackets_made p st ts e after behind rest q c each =
    made 0 (brackets p) st (omega arith) (symbol s.OpenRound ∷ ts) e after rest (round_spelled (phrase_spelling p) after ts (symbol s.OpenRound ∷ ts) (ap (λ r. phrase_spelling p ++ r) c ∙ q) refl) each

brackets_sound : (inner : ExpressionReader) → IsSoundReader 6 inner → (ts : List Token) (e : Expression) (rest : List Token) → read_opened inner s.OpenRound ts ≡ Some (e, rest) → Found 0 (symbol s.OpenRound ∷ ts) e rest
brackets_sound inner sound ts e rest h =
    let p = sound_then 6 inner sound ts (λ e ts. on_rest (after_symbol s.CloseRound ts) (λ ts. Some (e, ts))) (e, rest) h in
    let c = symbol_then s.CloseRound p.3 (λ ts. Some (tree_of p.0, ts)) (e, rest) p.5 in
    brackets_made p.0 p.1 ts e c.0 p.3 rest p.4 c.1 (apart (tree_of p.0) e c.0 rest c.2)

list_sound : (inner : ExpressionReader) → IsSoundReader 6 inner → (ts : List Token) (e : Expression) (rest : List Token) → read_opened inner s.OpenSquare ts ≡ Some (e, rest) → Found 0 (symbol s.OpenSquare ∷ ts) e rest
list_sound inner sound ts e rest h =
    let l = args_found s.CloseSquare inner sound ts (λ items ts. Some (list (expressions_of items), ts)) (e, rest) h in
    let each = apart (list (expressions_of (list_of l.0))) e l.2 rest l.4 in
    made 0 (a_list l.0) l.1 (omega arith) (symbol s.OpenSquare ∷ ts) e l.2 rest (ap (λ r. symbol s.OpenSquare ∷ r) (append_assoc (args_spelling l.0) (symbol s.CloseSquare ∷ []) l.2 ∙ l.3)) (ap list (sym (list_of-trees l.0)) ∙ each.0, each.1)

opened_sound : (inner : ExpressionReader) → IsSoundReader 6 inner → (x : Symbol) (ts : List Token) (e : Expression) (rest : List Token) → read_opened inner x ts ≡ Some (e, rest) → Found 0 (symbol x ∷ ts) e rest
opened_sound inner sound s.OpenRound ts e rest h = brackets_sound inner sound ts e rest h
opened_sound inner sound s.OpenSquare ts e rest h = list_sound inner sound ts e rest h
opened_sound inner sound _ ts e rest h = cc

prim_sound : (inner : ExpressionReader) → IsSoundReader 6 inner → (ts : List Token) (e : Expression) (rest : List Token) → read_prim inner ts ≡ Some (e, rest) → Found 0 ts e rest
prim_sound inner sound (token.Number n ∷ ts) e rest h = made 0 (a_number n) tt (omega arith) (token.Number n ∷ ts) e ts rest refl (apart (int n) e ts rest h)
prim_sound inner sound (token.Text t ∷ ts) e rest h = made 0 (a_text t) tt (omega arith) (token.Text t ∷ ts) e ts rest refl (apart (text t) e ts rest h)
prim_sound inner sound (token.Name x ∷ ts) e rest h = named_sound inner sound x ts e rest h
prim_sound inner sound (token.Word x ∷ ts) e rest h = word_sound inner sound x ts e rest h
prim_sound inner sound (token.Symbol x ∷ ts) e rest h = opened_sound inner sound x ts e rest h
prim_sound inner sound _ e rest h = cc

-- ---- calls and futures

call_sound : (inner : ExpressionReader) → IsSoundReader 6 inner → (p : Phrase) → IsWellFormed p → line p ≤ 0 → (ts : List Token) (e : Expression) (rest : List Token) → read_call inner (tree_of p) ts ≡ Some (e, rest) → Found 0 (phrase_spelling p ++ symbol s.Dot ∷ ts) e rest
call_sound inner sound p st low ts e rest h =
    let with_args : Name → List Expression → List Token → ParseResult Expression = λ x args ts. Some (call (tree_of p) x (expressions_of args), ts) in
    let named : Name → List Token → ParseResult Expression = λ x ts. on_rest (after_symbol s.OpenRound ts) (λ ts. on_read (read_args s.CloseRound inner ts) (with_args x)) in
    let x = name_then ts named (e, rest) h in
    let a = symbol_then s.OpenRound x.1 (λ ts. on_read (read_args s.CloseRound inner ts) (with_args x.0)) (e, rest) x.3 in
    let l = args_found s.CloseRound inner sound a.0 (with_args x.0) (e, rest) a.2 in
    let each = apart (call (tree_of p) x.0 (expressions_of (list_of l.0))) e l.2 rest l.4 in
    let round = round_spelled (args_spelling l.0) l.2 a.0 x.1 l.3 a.1 in
    let more = symbol s.Dot ∷ name x.0 ∷ in_round (args_spelling l.0) in
    made 0 (a_call p x.0 l.0) (st, low, l.1) (omega arith) (phrase_spelling p ++ symbol s.Dot ∷ ts) e l.2 rest (both_spelled (phrase_spelling p) more l.2 (symbol s.Dot ∷ ts) (phrase_spelling p ++ symbol s.Dot ∷ ts) refl (ap (λ r. symbol s.Dot ∷ r) (ap (λ r. name x.0 ∷ r) round ∙ x.2)))
    (ap (call (tree_of p) x.0) (sym (list_of-trees l.0)) ∙ each.0, each.1)

-- behind the delay of a future
message_sound : (inner : ExpressionReader) → IsSoundReader 6 inner → (p d : Phrase) → IsWellFormed p → line p ≤ 0 → IsWellFormed d → (ts : List Token) (e : Expression) (rest before : List Token) → read_message inner (tree_of p) (tree_of d) ts ≡ Some (e, rest) → in_round (phrase_spelling d) ++ ts ≡ before → Found 0 (phrase_spelling p ++ symbol s.Dot ∷ word w.Future ∷ before) e rest
message_sound inner sound p d st low st_d ts e rest before h q =
    let with_args : Name → List Expression → List Token → ParseResult Expression = λ x args ts. Some (future (tree_of p) (tree_of d) x (expressions_of args), ts) in
    let named : Name → List Token → ParseResult Expression = λ x ts. on_rest (after_symbol s.OpenRound ts) (λ ts. on_read (read_args s.CloseRound inner ts) (with_args x)) in
    let b = symbol_then s.Dot ts (λ ts. on_read (name_at ts) named) (e, rest) h in
    let x = name_then b.0 named (e, rest) b.2 in
    let a = symbol_then s.OpenRound x.1 (λ ts. on_read (read_args s.CloseRound inner ts) (with_args x.0)) (e, rest) x.3 in
    let l = args_found s.CloseRound inner sound a.0 (with_args x.0) (e, rest) a.2 in
    let each = apart (future (tree_of p) (tree_of d) x.0 (expressions_of (list_of l.0))) e l.2 rest l.4 in
    let round = round_spelled (args_spelling l.0) l.2 a.0 x.1 l.3 a.1 in
    let message = symbol s.Dot ∷ name x.0 ∷ in_round (args_spelling l.0) in
    let all = both_spelled (in_round (phrase_spelling d)) message l.2 ts before q (ap (λ r. symbol s.Dot ∷ r) (ap (λ r. name x.0 ∷ r) round ∙ x.2) ∙ b.1) in
    let whole = phrase_spelling p ++ symbol s.Dot ∷ word w.Future ∷ before in
    made 0 (a_future p d x.0 l.0) (st, low, st_d, l.1) (omega arith) whole e l.2 rest
    (both_spelled (phrase_spelling p) (symbol s.Dot ∷ word w.Future ∷ (in_round (phrase_spelling d) ++ message)) l.2 (symbol s.Dot ∷ word w.Future ∷ before) whole refl (ap (λ r. symbol s.Dot ∷ word w.Future ∷ r) all))
    (ap (future (tree_of p) (tree_of d) x.0) (sym (list_of-trees l.0)) ∙ each.0, each.1)

future_sound : (inner : ExpressionReader) → IsSoundReader 6 inner → (p : Phrase) → IsWellFormed p → line p ≤ 0 → (ts : List Token) (e : Expression) (rest : List Token) → read_future inner (tree_of p) ts ≡ Some (e, rest) → Found 0 (phrase_spelling p ++ symbol s.Dot ∷ word w.Future ∷ ts) e rest
future_sound inner sound p st low ts e rest h =
    let delayed : Expression → List Token → ParseResult Expression = λ delay ts. on_rest (after_symbol s.CloseRound ts) (read_message inner (tree_of p) delay) in
    let a = symbol_then s.OpenRound ts (λ ts. on_read (inner ts) delayed) (e, rest) h in
    let d = sound_then 6 inner sound a.0 delayed (e, rest) a.2 in
    let c = symbol_then s.CloseRound d.3 (read_message inner (tree_of p) (tree_of d.0)) (e, rest) d.5 in
    message_sound inner sound p d.0 st low d.1 c.0 e rest ts c.2 (round_spelled (phrase_spelling d.0) c.0 a.0 ts (ap (λ r. phrase_spelling d.0 ++ r) c.1 ∙ d.4) a.1)

suffix_sound : (inner : ExpressionReader) → IsSoundReader 6 inner → (p : Phrase) → IsWellFormed p → line p ≤ 0 → (ts : List Token) (e : Expression) (rest : List Token) → read_suffix inner (tree_of p) ts ≡ Some (e, rest) → Found 0 (phrase_spelling p ++ symbol s.Dot ∷ ts) e rest
suffix_sound inner sound p st low ts e rest h =
    ⊎_elim
    (λ f. retold 0 (phrase_spelling p ++ symbol s.Dot ∷ word w.Future ∷ f.0) (phrase_spelling p ++ symbol s.Dot ∷ ts) e rest (ap (λ r. phrase_spelling p ++ symbol s.Dot ∷ r) f.1) (future_sound inner sound p st low f.0 e rest f.2))
    (λ k. call_sound inner sound p st low ts e rest k)
    (word_or w.Future ts (read_future inner (tree_of p)) (read_call inner (tree_of p) ts) (Some (e, rest)) h)

suffixes_sound : (inner : ExpressionReader) → IsSoundReader 6 inner → (turns : ℕ) (p : Phrase) → IsWellFormed p → line p ≤ 0 → (ts : List Token) (e : Expression) (rest : List Token) → suffixes_of inner turns (tree_of p) ts ≡ Some (e, rest) → Found 0 (phrase_spelling p ++ ts) e rest
suffixes_sound inner sound zero p st low ts e rest h = made 0 p st low (phrase_spelling p ++ ts) e ts rest refl (apart (tree_of p) e ts rest h)
suffixes_sound inner sound (suc turns) p st low ts e rest h =
    ⊎_elim
    (λ d.
    let q = parts (read_suffix inner (tree_of p) d.0) (suffixes_of inner turns) (e, rest) d.2 in
    let f = suffix_sound inner sound p st low d.0 q.0.0 q.0.1 q.1 in
    retold 0 (phrase_spelling f.0 ++ q.0.1) (phrase_spelling p ++ ts) e rest (f.3 ∙ ap (λ r. phrase_spelling p ++ r) d.1) (suffixes_sound inner sound turns f.0 f.1 f.2 q.0.1 e rest (ap (λ t. suffixes_of inner turns t q.0.1) f.4 ∙ q.2)))
    (λ k. made 0 p st low (phrase_spelling p ++ ts) e ts rest refl (apart (tree_of p) e ts rest k))
    (symbol_or s.Dot ts (λ ts. on_read (read_suffix inner (tree_of p) ts) (suffixes_of inner turns)) (Some (tree_of p, ts)) (Some (e, rest)) h)

pub post_sound : (inner : ExpressionReader) → IsSoundReader 6 inner → (ts : List Token) (e : Expression) (rest : List Token) → read_post inner ts ≡ Some (e, rest) → Found 0 ts e rest
post_sound inner sound ts e rest h =
    let q = parts (read_prim inner ts) (suffixes_of inner (length ts)) (e, rest) h in
    let p = prim_sound inner sound ts q.0.0 q.0.1 q.1 in
    retold 0 (phrase_spelling p.0 ++ q.0.1) ts e rest p.3 (suffixes_sound inner sound (length ts) p.0 p.1 p.2 q.0.1 e rest (ap (λ t. suffixes_of inner (length ts) t q.0.1) p.4 ∙ q.2))
