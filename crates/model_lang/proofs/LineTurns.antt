-- A line of operators is read, as soon as its sides are.
use Rattle.std.proofs.Common.{◌≡◌, ◌⊎◌, ⊎_elim, ℕ, zero, suc, ◌+◌, ◌-◌, ◌<◌, ◌≤◌, Bool, true, false, List, ◌∷◌, ◌++◌, length, Some, None, nat_eq, if◌then◌else◌, refl, sym, ap, ◌∙◌, subst, arith, append_assoc, length-append}
use Rattle.std.proofs.lemmas.Bool.Decides.{nat_tests}
use Rattle.model_tokens.specs.declared.token.Token.{Token}
use Rattle.model_tokens.specs.declared.token.Token.TheVariants.{Symbol as symbol}
use Rattle.model_tree.specs.declared.tree.BinaryOp.{BinaryOp}
use Rattle.model_tree.specs.Tree.{Expression, binary}
use Rattle.model_tree.specs.Grammar.{Phrase, a_binary, operator_line, op_symbol, phrase_spelling, tree_of}
use Rattle.model_lang.specs.Reader.{ParseResult, ExpressionReader, on_read, on_found, operator_at, more_of, turns_of, read_operator_line}
use Rattle.model_lang.proofs.GoesOn.{front_line, no_operator, operator_found, operator-front_line}
use Rattle.model_lang.proofs.Arguments.{IsReadBy}
use Rattle.model_lang.proofs.Turns.{read_line-next}

-- The turns of the loop of line `suc k`, and the operators of that line that the phrase has at its end. `inner` reads the sides.
abbrev pub IsLine : ExpressionReader → ℕ → Phrase → ℕ → Type 0
IsLine inner k p many =
    (turns : ℕ) (rest : List Token) → k < front_line rest → on_read (inner (phrase_spelling p ++ rest)) (more_of (suc k) inner (turns + many)) ≡ more_of (suc k) inner turns (tree_of p) rest

-- a side of an operator
pub side_line : (inner : ExpressionReader) (k : ℕ) (p : Phrase) → IsReadBy inner k p → IsLine inner k p 0
side_line inner k p at turns rest h =
    let e : turns + 0 ≡ turns = omega arith in
    ap (λ o. on_read o (more_of (suc k) inner (turns + 0))) (at rest h) ∙ ap (λ n. more_of (suc k) inner n (tree_of p) rest) e

operator_there : (o : BinaryOp) (k : ℕ) (ts : List Token) → operator_line o ≡ k → operator_at k (symbol (op_symbol o) ∷ ts) ≡ Some (o, ts)
operator_there o k ts e = subst (λ k. operator_at k (symbol (op_symbol o) ∷ ts) ≡ Some (o, ts)) e (operator_found o ts)

pub joined_line : (inner : ExpressionReader) (k : ℕ) (o : BinaryOp) (a b : Phrase) (many : ℕ) → operator_line o ≡ suc k → IsLine inner k a many → IsReadBy inner k b → IsLine inner k (a_binary o a b) (suc many)
joined_line inner k o a b many here at_a at_b turns rest h =
    let more = symbol (op_symbol o) ∷ phrase_spelling b in
    let e : turns + suc many ≡ suc turns + many = omega arith in
    let next : Expression → List Token → ParseResult Expression = λ t. more_of (suc k) inner turns (binary o (tree_of a) t) in
    ap (λ n. on_read (inner ((phrase_spelling a ++ more) ++ rest)) (more_of (suc k) inner n)) e
    ∙ ap (λ ts. on_read (inner ts) (more_of (suc k) inner (suc turns + many))) (append_assoc (phrase_spelling a) more rest)
    ∙ at_a (suc turns) (more ++ rest) (omega (arith, operator-front_line o (phrase_spelling b ++ rest)))
    ∙ ap (λ f. on_found f (λ o ts. on_read (inner ts) (λ t. more_of (suc k) inner turns (binary o (tree_of a) t))) (Some (tree_of a, more ++ rest))) (operator_there o (suc k) (phrase_spelling b ++ rest) here)
    ∙ ap (λ f. on_read f next) (at_b rest h)

no_more : (k : ℕ) (inner : ExpressionReader) (turns : ℕ) (left : Expression) (ts : List Token) → operator_at k ts ≡ None → more_of k inner turns left ts ≡ Some (left, ts)
no_more k inner zero left ts h = refl
no_more k inner (suc turns) left ts h = rw h refl

turns_by : (b : Bool) (k m n : ℕ) → nat_eq k 4 ≡ b → m ≤ n → (k ≡ 4 → m ≤ 1) → m ≤ (if b then 1 else n)
turns_by true k m n is le relation =
    let same : k ≡ 4 = grind (arith, nat_tests) in
    relation same
turns_by false k m n is le relation = le

-- the loop has as many turns as are needed
turns_of-le : (k m n : ℕ) → m ≤ n → (k ≡ 4 → m ≤ 1) → m ≤ turns_of k n
turns_of-le k m n le relation = turns_by (nat_eq k 4) k m n refl le relation

pub line_read : (u : ExpressionReader) (k : ℕ) (p : Phrase) (many : ℕ) → many ≤ length (phrase_spelling p) → (suc (suc k) ≡ 4 → many ≤ 1) → IsLine (read_operator_line u (suc k)) (suc k) p many → IsReadBy (read_operator_line u (suc (suc k))) (suc (suc k)) p
line_read u k p many few relation at rest h =
    let ts = phrase_spelling p ++ rest in
    let inner = read_operator_line u (suc k) in
    let turns = turns_of (suc (suc k)) (length ts) in
    let enough : many ≤ turns = turns_of-le (suc (suc k)) many (length ts) (omega (arith, length-append (phrase_spelling p) rest)) relation in
    let e : turns - many + many ≡ turns = omega (arith, enough) in
    read_line-next u k ts
    ∙ ap (λ n. on_read (inner ts) (more_of (suc (suc k)) inner n)) (sym e)
    ∙ at (turns - many) rest (omega arith)
    ∙ no_more (suc (suc k)) inner (turns - many) (tree_of p) rest (no_operator (suc (suc k)) (suc (suc k)) rest (omega arith) h)

-- what is read on one line is read on the next looser one
looser : (u : ExpressionReader) (k : ℕ) (p : Phrase) → IsReadBy (read_operator_line u (suc k)) (suc k) p → IsReadBy (read_operator_line u (suc (suc k))) (suc (suc k)) p
looser u k p at = line_read u k p 0 (omega arith) (λ h. omega arith) (side_line (read_operator_line u (suc k)) (suc k) p at)

-- and on all looser ones
pub climb : (u : ExpressionReader) (p : Phrase) (k j : ℕ) → j ≤ k → IsReadBy (read_operator_line u (suc j)) (suc j) p → IsReadBy (read_operator_line u (suc k)) (suc k) p
climb u p zero j le at =
    let e : j ≡ zero = omega arith in
    subst (λ j. IsReadBy (read_operator_line u (suc j)) (suc j) p) e at
climb u p (suc k) j le at =
    let either : (j ≡ suc k) ⊎ (j ≤ k) = grind (arith, nat_tests) in
    ⊎_elim
    (λ e. subst (λ j. IsReadBy (read_operator_line u (suc j)) (suc j) p) e at)
    (λ less. looser u k p (climb u p k j less at))
    either
