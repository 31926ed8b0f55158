-- What is read in brackets is spelled by the grammar, as soon as its expressions are.
use Rattle.std.proofs.Common.{◌≡◌, ⊎_elim, ℕ, zero, suc, ◌≤◌, List, [], ◌∷◌, ◌++◌, length, Option, Some, sym, ap, ◌∙◌, append_assoc, append-nil}
use Rattle.model_tokens.specs.declared.token.Token.{Token}
use Rattle.model_tokens.specs.declared.token.Token.TheVariants.{Symbol as symbol}
use Rattle.model_tokens.specs.declared.token.Symbol.{Symbol}
use Rattle.model_tokens.specs.declared.token.Symbol.TheVariants as s
use Rattle.model_tree.specs.Tree.{Expression}
use Rattle.model_tree.specs.Grammar.{Phrase, Phrases, no_phrases, phrase, IsWellFormed, AreWellFormed, line, in_round, phrase_spelling, args_spelling, more_spelling, tree_of}
use Rattle.model_lang.specs.Reader.{ParseResult, ExpressionReader, on_read, on_rest, after_symbol, read_more, read_args}
use Rattle.model_lang.proofs.Fronts.{parts, apart, symbol_or, symbol_then, both_spelled}
use Rattle.model_lang.proofs.Phrases.{list_of}

-- a phrase of so tight a line, with its tokens before `rest`
abbrev pub Found : ℕ → List Token → Expression → List Token → Type 0
Found k ts e rest = (p : Phrase) × IsWellFormed p × (line p ≤ k) × (phrase_spelling p ++ rest ≡ ts) × (tree_of p ≡ e)

-- what this reader reads is spelled by a phrase of so tight a line
pub record IsSoundReader (k : ℕ) (inner : ExpressionReader) : Type 0 where
  pub by : (ts : List Token) (e : Expression) (rest : List Token) → inner ts ≡ Some (e, rest) → Found k ts e rest

-- such a phrase was at the front
pub sound_then : {B : Type 0} (k : ℕ) (inner : ExpressionReader) → IsSoundReader k inner → (ts : List Token) (next : Expression → List Token → Option B) (y : B) → on_read (inner ts) next ≡ Some y
    → (p : Phrase) × IsWellFormed p × (line p ≤ k) × (rest : List Token) × (phrase_spelling p ++ rest ≡ ts) × (next (tree_of p) rest ≡ Some y)
sound_then k inner sound ts next y h =
    let q = parts (inner ts) next y h in
    let p = sound.by ts q.0.0 q.0.1 q.1 in
    (p.0, p.1, p.2, q.0.1, p.3, ap (λ t. next t q.0.1) p.4 ∙ q.2)

-- ---- arguments

abbrev MoreFound : Symbol → List Expression → List Token → List Expression → List Token → Type 0
MoreFound close found ts es rest = (l : Phrases) × AreWellFormed l × (more_spelling l ++ symbol close ∷ rest ≡ ts) × (found ++ list_of l ≡ es)

no_further : (close : Symbol) (found : List Expression) (ts after : List Token) (es : List Expression) (rest : List Token) → symbol close ∷ after ≡ ts → (found ≡ es) × (after ≡ rest) → MoreFound close found ts es rest
no_further close found ts after es rest p each = (no_phrases, tt, ap (λ r. symbol close ∷ r) (sym each.1) ∙ p, append-nil found ∙ each.0)

one_further : (close : Symbol) (found : List Expression) (a : Phrase) (ts more after : List Token) (es : List Expression) (rest : List Token) → IsWellFormed a → symbol s.Comma ∷ more ≡ ts → phrase_spelling a ++ after ≡ more → MoreFound close (found ++ tree_of a ∷ []) after es rest → MoreFound close found ts es rest
one_further close found a ts more after es rest st p q l = (
  phrase a l.0,
  (st, l.1),
  ap (λ r. symbol s.Comma ∷ r) (both_spelled (phrase_spelling a) (more_spelling l.0) (symbol close ∷ rest) after more q l.2) ∙ p,
  sym (append_assoc found (tree_of a ∷ []) (list_of l.0)) ∙ l.3,
)

more_sound : (close : Symbol) (inner : ExpressionReader) → IsSoundReader 6 inner → (turns : ℕ) (found : List Expression) (ts : List Token) (es : List Expression) (rest : List Token) → read_more close inner turns found ts ≡ Some (es, rest) → MoreFound close found ts es rest
more_sound close inner sound zero found ts es rest h = cc
more_sound close inner sound (suc turns) found ts es rest h =
    let next : Expression → List Token → ParseResult (List Expression) = λ e. read_more close inner turns (found ++ e ∷ []) in
    let last : ParseResult (List Expression) = on_rest (after_symbol close ts) (λ rest. Some (found, rest)) in
    ⊎_elim
    (λ c.
    let f = sound_then 6 inner sound c.0 next (es, rest) c.2 in
    one_further close found f.0 ts c.0 f.3 es rest f.1 c.1 f.4 (more_sound close inner sound turns (found ++ tree_of f.0 ∷ []) f.3 es rest f.5))
    (λ k.
    let c = symbol_then close ts (λ rest. Some (found, rest)) (es, rest) k in
    no_further close found ts c.0 es rest c.1 (apart found es c.0 rest c.2))
    (symbol_or s.Comma ts (λ ts. on_read (inner ts) next) last (Some (es, rest)) h)

abbrev ArgsFound : Symbol → List Token → List Expression → List Token → Type 0
ArgsFound close ts es rest = (l : Phrases) × AreWellFormed l × (args_spelling l ++ symbol close ∷ rest ≡ ts) × (list_of l ≡ es)

args_sound : (close : Symbol) (inner : ExpressionReader) → IsSoundReader 6 inner → (ts : List Token) (es : List Expression) (rest : List Token) → read_args close inner ts ≡ Some (es, rest) → ArgsFound close ts es rest
args_sound close inner sound ts es rest h =
    let next : Expression → List Token → ParseResult (List Expression) = λ e rest. read_more close inner (length ts) (e ∷ []) rest in
    let none : List Token → ParseResult (List Expression) = λ rest. Some ([], rest) in
    ⊎_elim
    (λ c. let each = apart [] es c.0 rest c.2 in (no_phrases, tt, ap (λ r. symbol close ∷ r) (sym each.1) ∙ c.1, each.0))
    (λ k.
    let f = sound_then 6 inner sound ts next (es, rest) k in
    let l = more_sound close inner sound (length ts) (tree_of f.0 ∷ []) f.3 es rest f.5 in
    (phrase f.0 l.0, (f.1, l.1), both_spelled (phrase_spelling f.0) (more_spelling l.0) (symbol close ∷ rest) f.3 ts f.4 l.2, l.3))
    (symbol_or close ts none (on_read (inner ts) next) (Some (es, rest)) h)

-- arguments and their closing bracket were at the front
pub args_found : {B : Type 0} (close : Symbol) (inner : ExpressionReader) → IsSoundReader 6 inner → (ts : List Token) (next : List Expression → List Token → Option B) (y : B) → on_read (read_args close inner ts) next ≡ Some y
    → (l : Phrases) × AreWellFormed l × (rest : List Token) × (args_spelling l ++ symbol close ∷ rest ≡ ts) × (next (list_of l) rest ≡ Some y)
args_found close inner sound ts next y h =
    let q = parts (read_args close inner ts) next y h in
    let l = args_sound close inner sound ts q.0.0 q.0.1 q.1 in
    (l.0, l.1, q.0.1, l.2, ap (λ es. next es q.0.1) l.3 ∙ q.2)

-- what stands in round brackets
pub round_spelled : (xs rest after ts : List Token) → xs ++ symbol s.CloseRound ∷ rest ≡ after → symbol s.OpenRound ∷ after ≡ ts → in_round xs ++ rest ≡ ts
round_spelled xs rest after ts p q = ap (λ r. symbol s.OpenRound ∷ r) (append_assoc xs (symbol s.CloseRound ∷ []) rest ∙ p) ∙ q
