-- What is printed of the forms of the grammar, part by part.
use Rattle.std.proofs.Common.{◌≡◌, ℕ, suc, ◌+◌, ◌-◌, ◌<◌, false, List, [], ◌∷◌, ◌++◌, length, get_or, drop, drop-cons, sym, ap, ◌∙◌, subst, arith, append_assoc}
use Rattle.model_tokens.specs.declared.token.Token.{Token}
use Rattle.model_tokens.specs.declared.token.Token.TheVariants.{Name as name, ClassName as class_name, Word as word, Symbol as symbol}
use Rattle.model_tokens.specs.declared.token.Word.TheVariants as w
use Rattle.model_tokens.specs.declared.token.Symbol.{Symbol}
use Rattle.model_tokens.specs.declared.token.Symbol.TheVariants as s
use Rattle.model_tree.specs.declared.tree.BinaryOp.{BinaryOp}
use Rattle.model_tree.specs.declared.tree.Class.{Class}
use Rattle.model_tree.specs.Tree.{Name, Expression, Expressions, binary, call, future, create, Statement, Statements, when, else_block}
use Rattle.model_tree.specs.TreeView.{program_tree}
use Rattle.model_tree.specs.Grammar.{operator_line, left_of, op_symbol, in_round, in_braces, phrase_spelling, args_spelling, action_spelling, block_spelling}
use Rattle.model_tree.specs.Program.{IsRead, IsProgram}
use Rattle.model_print.specs.Canonical.{at_line, phrase_of, phrases_of, action_of, block_of, canonical_tokens, canonical_text}
use Rattle.model_print.specs.Printing.{PrintState, with_token, with_tokens}
use Rattle.model_print.proofs.Canonical.{canonical-reads}
use Rattle.model_print.proofs.Printed.{with_tokens-append, printed-canonical}

-- some tokens, and those behind them
pub both_printed : (old between new : PrintState) (a b : List Token) → between ≡ with_tokens old a → new ≡ with_tokens between b → new ≡ with_tokens old (a ++ b)
both_printed old between new a b h k = k ∙ ap (λ p. with_tokens p b) h ∙ sym (with_tokens-append old a b)

-- some tokens, and one behind them
pub one_printed : (old between new : PrintState) (a : List Token) (t : Token) → between ≡ with_tokens old a → new ≡ with_token between t → new ≡ with_tokens old (a ++ t ∷ [])
one_printed old between new a t h k = both_printed old between new a (t ∷ []) h k

-- ---- expressions

pub binary_printed : (old left behind new : PrintState) (e a b : Expression) (o : BinaryOp) (o_symbol : Symbol) (m n : ℕ)
    → e ≡ binary o a b → m ≡ left_of o → o_symbol ≡ op_symbol o → n ≡ operator_line o - 1
    → left ≡ with_tokens old (phrase_spelling (at_line m (phrase_of a))) → behind ≡ with_token left (symbol o_symbol) → new ≡ with_tokens behind (phrase_spelling (at_line n (phrase_of b)))
    → new ≡ with_tokens old (phrase_spelling (phrase_of e))
binary_printed old left behind new e a b o o_symbol m n tree lm sy ln first second third =
    let here : left ≡ with_tokens old (phrase_spelling (at_line (left_of o) (phrase_of a))) = first ∙ ap (λ k. with_tokens old (phrase_spelling (at_line k (phrase_of a)))) lm in
    let there : new ≡ with_tokens left (symbol (op_symbol o) ∷ phrase_spelling (at_line (operator_line o - 1) (phrase_of b))) =
    third ∙ ap (λ k. with_tokens behind (phrase_spelling (at_line k (phrase_of b)))) ln
    ∙ ap (λ p. with_tokens p (phrase_spelling (at_line (operator_line o - 1) (phrase_of b)))) (second ∙ ap (λ x. with_token left (symbol x)) sy) in
    both_printed old left new (phrase_spelling (at_line (left_of o) (phrase_of a))) (symbol (op_symbol o) ∷ phrase_spelling (at_line (operator_line o - 1) (phrase_of b))) here there
    ∙ ap (λ x. with_tokens old (phrase_spelling (phrase_of x))) (sym tree)

pub call_printed : (old object behind new : PrintState) (e a : Expression) (x : Name) (args : Expressions)
    → e ≡ call a x args → object ≡ with_tokens old (phrase_spelling (at_line 0 (phrase_of a))) → behind ≡ with_token object (symbol s.Dot)
    → new ≡ with_tokens behind (name x ∷ in_round (args_spelling (phrases_of args)))
    → new ≡ with_tokens old (phrase_spelling (phrase_of e))
call_printed old object behind new e a x args tree first second third =
    let called = name x ∷ in_round (args_spelling (phrases_of args)) in
    let there : new ≡ with_tokens object (symbol s.Dot ∷ called) = third ∙ ap (λ p. with_tokens p called) second in
    both_printed old object new (phrase_spelling (at_line 0 (phrase_of a))) (symbol s.Dot ∷ called) first there ∙ ap (λ y. with_tokens old (phrase_spelling (phrase_of y))) (sym tree)

pub future_printed : (old object behind new : PrintState) (e a delay : Expression) (x : Name) (args : Expressions)
    → e ≡ future a delay x args → object ≡ with_tokens old (phrase_spelling (at_line 0 (phrase_of a)))
    → behind ≡ with_tokens object (symbol s.Dot ∷ word w.Future ∷ (in_round (phrase_spelling (phrase_of delay)) ++ symbol s.Dot ∷ []))
    → new ≡ with_tokens behind (name x ∷ in_round (args_spelling (phrases_of args)))
    → new ≡ with_tokens old (phrase_spelling (phrase_of e))
future_printed old object behind new e a delay x args tree first second third =
    let delayed = in_round (phrase_spelling (phrase_of delay)) in
    let called = name x ∷ in_round (args_spelling (phrases_of args)) in
    let there : new ≡ with_tokens object (symbol s.Dot ∷ word w.Future ∷ ((delayed ++ symbol s.Dot ∷ []) ++ called)) =
    both_printed object behind new (symbol s.Dot ∷ word w.Future ∷ (delayed ++ symbol s.Dot ∷ [])) called second third in
    let grouped : (delayed ++ symbol s.Dot ∷ []) ++ called ≡ delayed ++ (symbol s.Dot ∷ called) = append_assoc delayed (symbol s.Dot ∷ []) called in
    both_printed old object new (phrase_spelling (at_line 0 (phrase_of a))) (symbol s.Dot ∷ word w.Future ∷ (delayed ++ symbol s.Dot ∷ called)) first
    (there ∙ ap (λ ts. with_tokens object (symbol s.Dot ∷ word w.Future ∷ ts)) grouped)
    ∙ ap (λ y. with_tokens old (phrase_spelling (phrase_of y))) (sym tree)

pub create_printed : (old behind options new : PrintState) (e a : Expression) (x : Name)
    → e ≡ create x a → behind ≡ with_tokens old (word w.Create ∷ symbol s.OpenRound ∷ class_name x ∷ symbol s.Comma ∷ [])
    → options ≡ with_tokens behind (phrase_spelling (phrase_of a)) → new ≡ with_token options (symbol s.CloseRound)
    → new ≡ with_tokens old (phrase_spelling (phrase_of e))
create_printed old behind options new e a x tree first second third =
    let front = word w.Create ∷ symbol s.OpenRound ∷ class_name x ∷ symbol s.Comma ∷ [] in
    let there : new ≡ with_tokens behind (phrase_spelling (phrase_of a) ++ symbol s.CloseRound ∷ []) =
    one_printed behind options new (phrase_spelling (phrase_of a)) (symbol s.CloseRound) second third in
    both_printed old behind new front (phrase_spelling (phrase_of a) ++ symbol s.CloseRound ∷ []) first there ∙ ap (λ y. with_tokens old (phrase_spelling (phrase_of y))) (sym tree)

-- ---- statements

pub choice_else_printed : (old tested chosen behind new : PrintState) (e : Statement) (a : Expression) (block other : Statements)
    → e ≡ when a block (else_block other) → tested ≡ with_tokens old (word w.If ∷ in_round (phrase_spelling (phrase_of a)))
    → chosen ≡ with_tokens tested (in_braces (block_spelling (block_of block))) → behind ≡ with_token chosen (word w.Else)
    → new ≡ with_tokens behind (in_braces (block_spelling (block_of other)))
    → new ≡ with_tokens old (action_spelling (action_of e))
choice_else_printed old tested chosen behind new e a block other tree first second third fourth =
    let ending = in_braces (block_spelling (block_of other)) in
    let there : new ≡ with_tokens chosen (word w.Else ∷ ending) = fourth ∙ ap (λ p. with_tokens p ending) third in
    both_printed old tested new (word w.If ∷ in_round (phrase_spelling (phrase_of a))) (in_braces (block_spelling (block_of block)) ++ word w.Else ∷ ending) first
    (both_printed tested chosen new (in_braces (block_spelling (block_of block))) (word w.Else ∷ ending) second there)
    ∙ ap (λ x. with_tokens old (action_spelling (action_of x))) (sym tree)

-- ---- loops

-- one part of a list more
pub part_printed : {X : Type 0} (all : List X → List Token) (each : X → List Token) → ((x : X) (xs : List X) → all (x ∷ xs) ≡ each x ++ all xs)
    → (xs : List X) (i : ℕ) (x : X) (old new whole : PrintState) → i < length xs → x ≡ get_or xs i x
    → with_tokens old (all (drop i xs)) ≡ whole → new ≡ with_tokens old (each x) → with_tokens new (all (drop (i + 1) xs)) ≡ whole
part_printed all each grows xs i x old new whole h is so_far here =
    let after : drop (i + 1) xs ≡ drop (suc i) xs = ap (λ n. drop n xs) (let k : i + 1 ≡ suc i = omega arith in k) in
    let parts : drop i xs ≡ x ∷ drop (suc i) xs = drop-cons xs i x h ∙ ap (λ y. y ∷ drop (suc i) xs) (sym is) in
    ap (λ ys. with_tokens new (all ys)) after
    ∙ ap (λ p. with_tokens p (all (drop (suc i) xs))) here
    ∙ sym (with_tokens-append old (each x) (all (drop (suc i) xs)))
    ∙ ap (with_tokens old) (sym (grows x (drop (suc i) xs)))
    ∙ ap (λ ys. with_tokens old (all ys)) (sym parts)
    ∙ so_far

-- ---- the whole

pub whole_printed : (start after : PrintState) (classes held : List Class) (blob : List ℕ) → IsProgram (program_tree held) → classes ≡ held
    → start ≡ ([], false) → after ≡ with_tokens start (canonical_tokens (program_tree classes)) → blob ≡ after.0 → blob ≡ canonical_text (program_tree held)
whole_printed start after classes held blob is same begins prints holds =
    let all : after ≡ with_tokens ([], false) (canonical_tokens (program_tree held)) =
    prints ∙ ap (λ p. with_tokens p (canonical_tokens (program_tree classes))) begins ∙ ap (λ cs. with_tokens ([], false) (canonical_tokens (program_tree cs))) same in
    holds ∙ ap (λ p. p.0) all ∙ printed-canonical (program_tree held) is

pub whole_read : (held : List Class) (blob : List ℕ) → IsProgram (program_tree held) → blob ≡ canonical_text (program_tree held) → IsRead blob (program_tree held)
whole_read held blob is e = subst (λ text. IsRead text (program_tree held)) (sym e) (canonical-reads (program_tree held) is)

pub ruleset by_whole = (whole_printed, whole_read)
