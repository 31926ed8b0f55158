-- One turn of the reader's loops, and one level of room.
use Rattle.std.proofs.Common.{◌≡◌, ℕ, zero, suc, ◌+◌, ◌-◌, ◌<◌, ◌≤◌, List, [], ◌∷◌, ◌++◌, length, Some, None, refl, sym, ap, ◌∙◌, arith}
use Rattle.std.proofs.lemmas.List.{map-append}
use Rattle.model_tokens.specs.declared.token.Token.{Token}
use Rattle.model_tokens.specs.declared.token.Symbol.{Symbol}
use Rattle.model_tokens.specs.declared.token.Symbol.TheVariants as s
use Rattle.model_tokens.specs.declared.token.Word.TheVariants as w
use Rattle.model_lang.specs.declared.operators.Line.{Line}
use Rattle.model_lang.specs.declared.operators.Line.TheVariants as line
use Rattle.model_lang.specs.Lines.{line_number, tighter_of}
use Rattle.model_tree.specs.Tree.{Name, Expression, unary, binary, Statement, MethodTree, ClassTree}
use Rattle.model_lang.specs.Reader.{ParseResult, ExpressionReader, on_read, on_rest, either_way, on_found, operator_at, more_of, turns_of, suffixes_of, read_suffix, read_more, read_operator_line, read_unary, read_post, sign_at, after_symbol, after_word, name_at, read_actions, read_action, read_block, read_fields, read_methods, read_method, read_further, read_classes, read_class}

pub more_of-turn : (k : ℕ) (inner : ExpressionReader) (turns i : ℕ) (left : Expression) (ts : List Token) → i < turns → more_of k inner (turns - i) left ts ≡ on_found (operator_at k ts) (λ o rest. on_read (inner rest) (λ e. more_of k inner (turns - (i + 1)) (binary o left e))) (Some (left, ts))
more_of-turn k inner turns i left ts h =
    let e : turns - i ≡ suc (turns - (i + 1)) = omega arith in
    rw e refl

pub more_of-over : (k : ℕ) (inner : ExpressionReader) (turns i : ℕ) (left : Expression) (ts : List Token) → turns ≤ i → more_of k inner (turns - i) left ts ≡ Some (left, ts)
more_of-over k inner turns i left ts h =
    let e : turns - i ≡ 0 = omega arith in
    rw e refl

pub suffixes_of-turn : (inner : ExpressionReader) (turns i : ℕ) (object : Expression) (ts : List Token) → i < turns → suffixes_of inner (turns - i) object ts ≡ either_way (after_symbol s.Dot ts) (λ ts. on_read (read_suffix inner object ts) (suffixes_of inner (turns - (i + 1)))) (Some (object, ts))
suffixes_of-turn inner turns i object ts h =
    let e : turns - i ≡ suc (turns - (i + 1)) = omega arith in
    rw e refl

pub suffixes_of-over : (inner : ExpressionReader) (turns i : ℕ) (object : Expression) (ts : List Token) → turns ≤ i → suffixes_of inner (turns - i) object ts ≡ Some (object, ts)
suffixes_of-over inner turns i object ts h =
    let e : turns - i ≡ 0 = omega arith in
    rw e refl

pub read_more-turn : (close : Symbol) (inner : ExpressionReader) (turns i : ℕ) (found : List Expression) (ts : List Token) → i < turns → read_more close inner (turns - i) found ts ≡ either_way (after_symbol s.Comma ts) (λ ts. on_read (inner ts) (λ e. read_more close inner (turns - (i + 1)) (found ++ e ∷ []))) (on_rest (after_symbol close ts) (λ rest. Some (found, rest)))
read_more-turn close inner turns i found ts h =
    let e : turns - i ≡ suc (turns - (i + 1)) = omega arith in
    rw e refl

pub read_more-over : (close : Symbol) (inner : ExpressionReader) (turns i : ℕ) (found : List Expression) (ts : List Token) → turns ≤ i → read_more close inner (turns - i) found ts ≡ None
read_more-over close inner turns i found ts h =
    let e : turns - i ≡ 0 = omega arith in
    rw e refl

pub read_actions-turn : (block : List Token → ParseResult (List Statement)) (turns i : ℕ) (found : List Statement) (ts : List Token) → i < turns → read_actions block (turns - i) found ts ≡ either_way (after_symbol s.CloseBrace ts) (λ rest. Some (found, rest)) (on_read (read_action block ts) (λ a. read_actions block (turns - (i + 1)) (found ++ a ∷ [])))
read_actions-turn block turns i found ts h =
    let e : turns - i ≡ suc (turns - (i + 1)) = omega arith in
    rw e refl

pub read_actions-over : (block : List Token → ParseResult (List Statement)) (turns i : ℕ) (found : List Statement) (ts : List Token) → turns ≤ i → read_actions block (turns - i) found ts ≡ None
read_actions-over block turns i found ts h =
    let e : turns - i ≡ 0 = omega arith in
    rw e refl

pub read_fields-turn : (turns i : ℕ) (found : List Name) (ts : List Token) → i < turns → read_fields (turns - i) found ts ≡ either_way (after_word w.Field ts) (λ ts. on_read (name_at ts) (λ x ts. on_rest (after_symbol s.Semicolon ts) (read_fields (turns - (i + 1)) (found ++ x ∷ [])))) (Some (found, ts))
read_fields-turn turns i found ts h =
    let e : turns - i ≡ suc (turns - (i + 1)) = omega arith in
    rw e refl

pub read_fields-over : (turns i : ℕ) (found : List Name) (ts : List Token) → turns ≤ i → read_fields (turns - i) found ts ≡ Some (found, ts)
read_fields-over turns i found ts h =
    let e : turns - i ≡ 0 = omega arith in
    rw e refl

pub read_methods-turn : (turns i : ℕ) (found : List MethodTree) (ts : List Token) → i < turns → read_methods (turns - i) found ts ≡ either_way (after_symbol s.CloseBrace ts) (λ rest. Some (found, rest)) (on_read (read_method ts) (λ m. read_methods (turns - (i + 1)) (found ++ m ∷ [])))
read_methods-turn turns i found ts h =
    let e : turns - i ≡ suc (turns - (i + 1)) = omega arith in
    rw e refl

pub read_methods-over : (turns i : ℕ) (found : List MethodTree) (ts : List Token) → turns ≤ i → read_methods (turns - i) found ts ≡ None
read_methods-over turns i found ts h =
    let e : turns - i ≡ 0 = omega arith in
    rw e refl

pub read_further-turn : (turns i : ℕ) (found : List Name) (ts : List Token) → i < turns → read_further (turns - i) found ts ≡ either_way (after_symbol s.Comma ts) (λ ts. on_read (name_at ts) (λ x. read_further (turns - (i + 1)) (found ++ x ∷ []))) (on_rest (after_symbol s.CloseRound ts) (λ rest. Some (found, rest)))
read_further-turn turns i found ts h =
    let e : turns - i ≡ suc (turns - (i + 1)) = omega arith in
    rw e refl

pub read_further-over : (turns i : ℕ) (found : List Name) (ts : List Token) → turns ≤ i → read_further (turns - i) found ts ≡ None
read_further-over turns i found ts h =
    let e : turns - i ≡ 0 = omega arith in
    rw e refl

pub read_classes-turn : (turns i : ℕ) (found : List ClassTree) (ts : List Token) → i < turns → 0 < length ts → read_classes (turns - i) found ts ≡ on_read (read_class ts) (λ c. read_classes (turns - (i + 1)) (found ++ c ∷ []))
read_classes-turn turns i found [] h some = absurd (omega arith)
read_classes-turn turns i found (t ∷ ts) h some =
    let e : turns - i ≡ suc (turns - (i + 1)) = omega arith in
    rw e refl

pub read_classes-over : (turns i : ℕ) (found : List ClassTree) (ts : List Token) → turns ≤ i → 0 < length ts → read_classes (turns - i) found ts ≡ None
read_classes-over turns i found [] h some = absurd (omega arith)
read_classes-over turns i found (t ∷ ts) h some =
    let e : turns - i ≡ 0 = omega arith in
    rw e refl

pub read_classes-end : (turns : ℕ) (found : List ClassTree) (ts : List Token) → length ts ≡ 0 → read_classes turns found ts ≡ Some found
read_classes-end turns found [] none = refl
read_classes-end turns found (t ∷ ts) none = absurd (omega arith)

pub read_line-one : (inner : ExpressionReader) → read_operator_line inner 1 ≡ inner
unfolding read_operator_line
read_line-one inner = refl

pub read_line-next : (inner : ExpressionReader) (k : ℕ) (ts : List Token) → read_operator_line inner (suc (suc k)) ts ≡ on_read (read_operator_line inner (suc k) ts) (more_of (suc (suc k)) (read_operator_line inner (suc k)) (turns_of (suc (suc k)) (length ts)))
unfolding read_operator_line
read_line-next inner k ts = refl

-- the same by the lines of operators
pub read_line-turns : (inner : ExpressionReader) (l : Line) (ts : List Token) → read_operator_line inner (line_number l) ts ≡ on_read (read_operator_line inner (line_number l - 1) ts) (more_of (line_number l) (read_operator_line inner (line_number l - 1)) (turns_of (line_number l) (length ts)))
read_line-turns inner line.Term ts = read_line-next inner 0 ts
read_line-turns inner line.Sum ts = read_line-next inner 1 ts
read_line-turns inner line.Relation ts = read_line-next inner 2 ts
read_line-turns inner line.And ts = read_line-next inner 3 ts
read_line-turns inner line.Or ts = read_line-next inner 4 ts

pub tightest-number : (l : Line) → tighter_of l ≡ None → line_number l ≡ 2
tightest-number line.Term h = refl
tightest-number line.Sum h = cc
tightest-number line.Relation h = cc
tightest-number line.And h = cc
tightest-number line.Or h = cc

-- a line whose first side is read, or is not
pub line_begins : (inner : ExpressionReader) (l : Line) (ts : List Token) (e : Expression) (rest : List Token) → read_operator_line inner (line_number l - 1) ts ≡ Some (e, rest) → more_of (line_number l) (read_operator_line inner (line_number l - 1)) (turns_of (line_number l) (length ts) - 0) e rest ≡ read_operator_line inner (line_number l) ts
line_begins inner l ts e rest h =
    let next = more_of (line_number l) (read_operator_line inner (line_number l - 1)) in
    let all : turns_of (line_number l) (length ts) - 0 ≡ turns_of (line_number l) (length ts) = omega arith in
    ap (λ n. next n e rest) all ∙ sym (ap (λ o. on_read o (next (turns_of (line_number l) (length ts)))) h) ∙ sym (read_line-turns inner l ts)

pub line_stops : (inner : ExpressionReader) (l : Line) (ts : List Token) → read_operator_line inner (line_number l - 1) ts ≡ None → read_operator_line inner (line_number l) ts ≡ None
line_stops inner l ts h = read_line-turns inner l ts ∙ ap (λ o. on_read o (more_of (line_number l) (read_operator_line inner (line_number l - 1)) (turns_of (line_number l) (length ts)))) h

-- the sides of the tightest line
pub tightest_sides : (inner : ExpressionReader) (l : Line) (ts : List Token) → tighter_of l ≡ None → read_operator_line inner (line_number l - 1) ts ≡ inner ts
tightest_sides inner l ts h =
    let e : line_number l - 1 ≡ 1 = omega (arith, tightest-number l h) in
    ap (λ k. read_operator_line inner k ts) e ∙ ap (λ (f : ExpressionReader). f ts) (read_line-one inner)

pub ruleset by_line = (line_stops, more_of-turn, more_of-over)

pub ruleset by_turn = (more_of-turn, more_of-over, suffixes_of-turn, suffixes_of-over, read_more-turn, read_more-over, read_actions-turn, read_actions-over, read_fields-turn, read_fields-over, read_methods-turn, read_methods-over, read_further-turn, read_further-over, read_classes-turn, read_classes-over, read_classes-end, map-append)

pub read_block-inside : (room : ℕ) (ts : List Token) → 0 < room → read_block room ts ≡ read_actions (read_block (room - 1)) (length ts) [] ts
read_block-inside zero ts h = absurd (omega arith)
read_block-inside (suc room) ts h =
    let e : suc room - 1 ≡ room = omega arith in
    rw e refl

pub read_unary-inside : (room : ℕ) (ts : List Token) → 0 < room → read_unary room ts ≡ on_found (sign_at ts) (λ o ts. on_read (read_unary (room - 1) ts) (λ e ts. Some (unary o e, ts))) (read_post (read_operator_line (read_unary (room - 1)) 6) ts)
read_unary-inside zero ts h = absurd (omega arith)
read_unary-inside (suc room) ts h =
    let e : suc room - 1 ≡ room = omega arith in
    rw e refl

pub ruleset by_room = (read_block-inside, read_unary-inside)
