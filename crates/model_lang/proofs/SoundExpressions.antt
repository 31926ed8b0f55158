-- Whatever expression the reader reads is spelled by the grammar.
use Rattle.std.proofs.Common.{◌≡◌, ⊎_elim, ℕ, zero, suc, ◌+◌, ◌≤◌, List, ◌∷◌, ◌++◌, length, Option, Some, refl, sym, ap, ◌∙◌, arith}
use Rattle.model_tokens.specs.declared.token.Token.{Token}
use Rattle.model_tokens.specs.declared.token.Token.TheVariants.{Symbol as symbol}
use Rattle.model_tree.specs.declared.tree.UnaryOp.{UnaryOp}
use Rattle.model_tree.specs.declared.tree.BinaryOp.{BinaryOp}
use Rattle.model_tree.specs.Tree.{Expression, unary, binary}
use Rattle.model_tree.specs.Grammar.{Phrase, a_unary, a_binary, IsWellFormed, line, sign_symbol, op_symbol, phrase_spelling, tree_of}
use Rattle.model_lang.specs.Reader.{ParseResult, ExpressionReader, on_read, sign_at, operator_at, more_of, turns_of, read_operator_line, read_unary, read_post, read_expression}
use Rattle.model_lang.proofs.Fronts.{parts, apart, found_or, both_spelled}
use Rattle.model_lang.proofs.GoesOn.{operator_front, sign_front, left_of-fits}
use Rattle.model_lang.proofs.Turns.{read_line-one, read_line-next}
use Rattle.model_lang.proofs.SoundArguments.{Found, IsSoundReader, sound_then}
use Rattle.model_lang.proofs.SoundPosts.{made, retold, post_sound}

-- ---- lines of operators

-- a phrase of line `suc k`, and what the loop of that line reads behind it. Of relations it reads one, behind a sum
turns_sound : (k : ℕ) (inner : ExpressionReader) → IsSoundReader k inner → (turns : ℕ) (p : Phrase) → IsWellFormed p → line p ≤ suc k → (suc k ≡ 4 → turns + line p ≤ 4) → (suc k ≡ 4 → turns ≤ 1) → (ts : List Token) (e : Expression) (rest : List Token) → more_of (suc k) inner turns (tree_of p) ts ≡ Some (e, rest) → Found (suc k) (phrase_spelling p ++ ts) e rest
turns_sound k inner sound zero p st low sum few ts e rest h = made (suc k) p st low (phrase_spelling p ++ ts) e ts rest refl (apart (tree_of p) e ts rest h)
turns_sound k inner sound (suc turns) p st low sum few ts e rest h =
    let next : BinaryOp → Expression → List Token → ParseResult Expression = λ o e. more_of (suc k) inner turns (binary o (tree_of p) e) in
    ⊎_elim
    (λ f.
    let o = f.0.0 in
    let front = operator_front (suc k) ts o f.0.1 f.1 in
    let b = sound_then k inner sound f.0.1 (next o) (e, rest) f.2 in
    let left = left_of-fits o (line p) (omega (arith, front.0)) (λ is. omega (arith, sum (sym front.0 ∙ is))) in
    let one = both_spelled (phrase_spelling p) (symbol (op_symbol o) ∷ phrase_spelling b.0) b.3 ts (phrase_spelling p ++ ts) refl (ap (λ r. symbol (op_symbol o) ∷ r) b.4 ∙ front.1) in
    retold (suc k) (phrase_spelling (a_binary o p b.0) ++ b.3) (phrase_spelling p ++ ts) e rest one
    (turns_sound k inner sound turns (a_binary o p b.0) (st, left, b.1, omega (arith, front.0, b.2)) (omega (arith, front.0)) (λ is. omega (arith, front.0, few is)) (λ is. omega (arith, few is)) b.3 e rest b.5))
    (λ n. made (suc k) p st low (phrase_spelling p ++ ts) e ts rest refl (apart (tree_of p) e ts rest n.1))
    (found_or (operator_at (suc k) ts) (λ o ts. on_read (inner ts) (next o)) (Some (tree_of p, ts)) (Some (e, rest)) h)

next_sound : (u : ExpressionReader) (k : ℕ) → IsSoundReader (suc k) (read_operator_line u (suc k)) → (ts : List Token) (e : Expression) (rest : List Token) → read_operator_line u (suc (suc k)) ts ≡ Some (e, rest) → Found (suc (suc k)) ts e rest
next_sound u k sound ts e rest h =
    let inner = read_operator_line u (suc k) in
    let turns = turns_of (suc (suc k)) (length ts) in
    let q = parts (inner ts) (more_of (suc (suc k)) inner turns) (e, rest) (sym (read_line-next u k ts) ∙ h) in
    let p = sound.by ts q.0.0 q.0.1 q.1 in
    let one : suc (suc k) ≡ 4 → turns ≡ 1 = λ is. ap (λ k. turns_of k (length ts)) is in
    retold (suc (suc k)) (phrase_spelling p.0 ++ q.0.1) ts e rest p.3
    (turns_sound (suc k) inner sound turns p.0 p.1 (omega (arith, p.2)) (λ is. omega (arith, one is, p.2)) (λ is. omega (arith, one is)) q.0.1 e rest (ap (λ t. more_of (suc (suc k)) inner turns t q.0.1) p.4 ∙ q.2))

line_sound : (u : ExpressionReader) → IsSoundReader 1 u → (k : ℕ) → IsSoundReader (suc k) (read_operator_line u (suc k))
line_sound u sound zero = record { by = λ ts e rest h. sound.by ts e rest (sym (ap (λ (f : ExpressionReader). f ts) (read_line-one u)) ∙ h) }
line_sound u sound (suc k) = record { by = next_sound u k (line_sound u sound k) }

-- ---- signs

one_sound : (room : ℕ) → IsSoundReader 1 (read_unary room) → (ts : List Token) (e : Expression) (rest : List Token) → read_unary (suc room) ts ≡ Some (e, rest) → Found 1 ts e rest
one_sound room sound ts e rest h =
    let inner = read_operator_line (read_unary room) 6 in
    let next : UnaryOp → Expression → List Token → ParseResult Expression = λ o e ts. Some (unary o e, ts) in
    ⊎_elim
    (λ f.
    let o = f.0.0 in
    let a = sound_then 1 (read_unary room) sound f.0.1 (next o) (e, rest) f.2 in
    made 1 (a_unary o a.0) (a.1, a.2) (omega arith) ts e a.3 rest (ap (λ r. symbol (sign_symbol o) ∷ r) a.4 ∙ sign_front ts o f.0.1 f.1) (apart (unary o (tree_of a.0)) e a.3 rest a.5))
    (λ n.
    let p = post_sound inner (line_sound (read_unary room) sound 5) ts e rest n.1 in
    (p.0, p.1, omega (arith, p.2), p.3, p.4))
    (found_or (sign_at ts) (λ o ts. on_read (read_unary room ts) (next o)) (read_post inner ts) (Some (e, rest)) h)

unary_sound : (room : ℕ) → IsSoundReader 1 (read_unary room)
unary_sound zero = record { by = λ ts e rest h. cc }
unary_sound (suc room) = record { by = one_sound room (unary_sound room) }

-- ---- whole expressions

pub expression_sound : (ts : List Token) (e : Expression) (rest : List Token) → read_expression ts ≡ Some (e, rest) → (p : Phrase) × IsWellFormed p × (phrase_spelling p ++ rest ≡ ts) × (tree_of p ≡ e)
expression_sound ts e rest h =
    let sound = line_sound (read_unary (length ts)) (unary_sound (length ts)) 5 in
    let p = sound.by ts e rest h in
    (p.0, p.1, p.3, p.4)

-- an expression was at the front
pub expression_at_front : {B : Type 0} (ts : List Token) (next : Expression → List Token → Option B) (y : B) → on_read (read_expression ts) next ≡ Some y → (p : Phrase) × IsWellFormed p × (rest : List Token) × (phrase_spelling p ++ rest ≡ ts) × (next (tree_of p) rest ≡ Some y)
expression_at_front ts next y h =
    let q = parts (read_expression ts) next y h in
    let p = expression_sound ts q.0.0 q.0.1 q.1 in
    (p.0, p.1, q.0.1, p.2, ap (λ t. next t q.0.1) p.3 ∙ q.2)
