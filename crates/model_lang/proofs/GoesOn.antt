-- With which line the token at the front would go on with an expression, and what is not there where it is too loose.
use Rattle.std.proofs.Common.{◌≡◌, ℕ, suc, ◌-◌, ◌<◌, ◌≤◌, Bool, true, false, List, ◌∷◌, Option, Some, None, nat_eq, if◌then◌else◌, refl, sym, ap, ◌∙◌, arith}
use Rattle.std.proofs.lemmas.Bool.Decides.{nat_tests}
use Rattle.std.proofs.lemmas.Bool.{ne_eqb}
use Rattle.model_tokens.specs.declared.token.Token.{Token}
use Rattle.model_tokens.specs.declared.token.Token.TheVariants as token
use Rattle.model_tokens.specs.declared.token.Token.TheVariants.{Symbol as symbol}
use Rattle.model_tokens.specs.declared.token.Symbol.{Symbol}
use Rattle.model_tokens.specs.declared.token.Symbol.TheVariants as s
use Rattle.model_tree.specs.declared.tree.UnaryOp.{UnaryOp}
use Rattle.model_tree.specs.declared.tree.UnaryOp.TheVariants as sign
use Rattle.model_tree.specs.declared.tree.BinaryOp.{BinaryOp}
use Rattle.model_tree.specs.declared.tree.BinaryOp.TheVariants as op
use Rattle.model_tree.specs.Grammar.{operator_line, left_of, sign_symbol, op_symbol}
use Rattle.model_lang.specs.Reader.{on_read, on_rest, either_way, only_where, symbol_number, after_symbol, name_at, field_at, unary_of_symbol, operator_of, with_rest, sign_at, of_line, operator_at}

abbrev pub line_if : Option BinaryOp → ℕ
line_if None = 7
line_if (Some o) = operator_line o

abbrev pub symbol_line : Symbol → ℕ
symbol_line s.Dot = 0
symbol_line s.OpenRound = 0
symbol_line x = line_if (operator_of x)

-- 0 before a call, a future or arguments, the operator's line before an operator, and 7 before all else
abbrev pub front_line : List Token → ℕ
front_line (token.Symbol x ∷ ts) = symbol_line x
front_line _ = 7

-- ---- what is not there

symbol_line-le : (x : Symbol) → symbol_line x ≤ line_if (operator_of x)
symbol_line-le s.Dot = omega arith
symbol_line-le s.OpenRound = omega arith
symbol_line-le _ = omega arith

of_line-none : (o : Option BinaryOp) (k j : ℕ) → j ≤ k → k < line_if o → of_line j o ≡ None
of_line-none None k j le lt = refl
of_line-none (Some o) k j le lt =
    ap (λ b. if b then Some o else None) (ne_eqb (operator_line o) j (omega arith))

pub no_operator : (k j : ℕ) (ts : List Token) → j ≤ k → k < front_line ts → operator_at j ts ≡ None
no_operator k j (token.Symbol x ∷ ts) le lt =
    ap (λ o. with_rest o ts) (of_line-none (operator_of x) k j le (omega (arith, symbol_line-le x)))
no_operator k j _ le lt = refl

no_dot_here : (x : Symbol) (k : ℕ) (ts : List Token) → k < symbol_line x → only_where (nat_eq (symbol_number x) 8) ts ≡ None
no_dot_here s.Dot k ts h = absurd (omega arith)
no_dot_here _ k ts h = refl

pub no_dot : (k : ℕ) (ts : List Token) → k < front_line ts → after_symbol s.Dot ts ≡ None
no_dot k (token.Symbol x ∷ ts) h = no_dot_here x k ts h
no_dot k _ h = refl

no_round_here : (x : Symbol) (k : ℕ) (ts : List Token) → k < symbol_line x → only_where (nat_eq (symbol_number x) 2) ts ≡ None
no_round_here s.OpenRound k ts h = absurd (omega arith)
no_round_here _ k ts h = refl

pub no_round : (k : ℕ) (ts : List Token) → k < front_line ts → after_symbol s.OpenRound ts ≡ None
no_round k (token.Symbol x ∷ ts) h = no_round_here x k ts h
no_round k _ h = refl

pub no_field : (k : ℕ) (ts : List Token) → k < front_line ts → field_at ts ≡ None
no_field k ts h =
    ap (λ o. on_rest o (λ ts. on_read (name_at ts) (λ x ts. either_way (after_symbol s.OpenRound ts) (λ rest. None) (Some (x, ts))))) (no_dot k ts h)

-- ---- operators and signs, and the symbols that they are spelled by

pub operator_found : (o : BinaryOp) (ts : List Token) → operator_at (operator_line o) (symbol (op_symbol o) ∷ ts) ≡ Some (o, ts)
operator_found op.Or ts = refl
operator_found op.And ts = refl
operator_found op.Same ts = refl
operator_found op.Differs ts = refl
operator_found op.Less ts = refl
operator_found op.AtMost ts = refl
operator_found op.Greater ts = refl
operator_found op.AtLeast ts = refl
operator_found op.Plus ts = refl
operator_found op.Minus ts = refl
operator_found op.Times ts = refl
operator_found op.Divide ts = refl
operator_found op.Rest ts = refl

pub operator-front_line : (o : BinaryOp) (ts : List Token) → front_line (symbol (op_symbol o) ∷ ts) ≡ operator_line o
operator-front_line op.Or ts = refl
operator-front_line op.And ts = refl
operator-front_line op.Same ts = refl
operator-front_line op.Differs ts = refl
operator-front_line op.Less ts = refl
operator-front_line op.AtMost ts = refl
operator-front_line op.Greater ts = refl
operator-front_line op.AtLeast ts = refl
operator-front_line op.Plus ts = refl
operator-front_line op.Minus ts = refl
operator-front_line op.Times ts = refl
operator-front_line op.Divide ts = refl
operator-front_line op.Rest ts = refl

pub line_of-two : (o : BinaryOp) → operator_line o ≡ suc (suc (operator_line o - 2))
line_of-two op.Or = refl
line_of-two op.And = refl
line_of-two op.Same = refl
line_of-two op.Differs = refl
line_of-two op.Less = refl
line_of-two op.AtMost = refl
line_of-two op.Greater = refl
line_of-two op.AtLeast = refl
line_of-two op.Plus = refl
line_of-two op.Minus = refl
line_of-two op.Times = refl
line_of-two op.Divide = refl
line_of-two op.Rest = refl

pub line_of-le : (o : BinaryOp) → operator_line o ≤ 6
line_of-le op.Or = omega arith
line_of-le op.And = omega arith
line_of-le _ = omega arith

pub left_of-le : (o : BinaryOp) → left_of o ≤ operator_line o
left_of-le op.Or = omega arith
left_of-le op.And = omega arith
left_of-le op.Plus = omega arith
left_of-le op.Minus = omega arith
left_of-le op.Times = omega arith
left_of-le op.Divide = omega arith
left_of-le op.Rest = omega arith
left_of-le _ = omega arith

-- a relation has a sum on its left, and all others what their own line spells
pub left_of-fits : (o : BinaryOp) (n : ℕ) → n ≤ operator_line o → (operator_line o ≡ 4 → n ≤ 3) → n ≤ left_of o
left_of-fits op.Or n h relation = h
left_of-fits op.And n h relation = h
left_of-fits op.Plus n h relation = h
left_of-fits op.Minus n h relation = h
left_of-fits op.Times n h relation = h
left_of-fits op.Divide n h relation = h
left_of-fits op.Rest n h relation = h
left_of-fits _ n h relation = relation refl

pub left_of-relation : (o : BinaryOp) → operator_line o ≡ 4 → left_of o ≡ 3
left_of-relation op.Or h = absurd (omega arith)
left_of-relation op.And h = absurd (omega arith)
left_of-relation op.Plus h = absurd (omega arith)
left_of-relation op.Minus h = absurd (omega arith)
left_of-relation op.Times h = absurd (omega arith)
left_of-relation op.Divide h = absurd (omega arith)
left_of-relation op.Rest h = absurd (omega arith)
left_of-relation _ h = refl

pub sign_found : (o : UnaryOp) (ts : List Token) → sign_at (symbol (sign_symbol o) ∷ ts) ≡ Some (o, ts)
sign_found sign.Minus ts = refl
sign_found sign.Not ts = refl

-- ---- what stood at the front

same_symbol : (p o : BinaryOp) → ◌≡◌ {A = Option BinaryOp} (Some p) (Some o) → op_symbol p ≡ op_symbol o
same_symbol p o h =
    let e : p ≡ o = cc in
    ap op_symbol e

operator_symbol : (x : Symbol) (o : BinaryOp) → operator_of x ≡ Some o → x ≡ op_symbol o
operator_symbol s.Or o h = same_symbol op.Or o h
operator_symbol s.And o h = same_symbol op.And o h
operator_symbol s.Same o h = same_symbol op.Same o h
operator_symbol s.Differs o h = same_symbol op.Differs o h
operator_symbol s.Less o h = same_symbol op.Less o h
operator_symbol s.AtMost o h = same_symbol op.AtMost o h
operator_symbol s.Greater o h = same_symbol op.Greater o h
operator_symbol s.AtLeast o h = same_symbol op.AtLeast o h
operator_symbol s.Plus o h = same_symbol op.Plus o h
operator_symbol s.Minus o h = same_symbol op.Minus o h
operator_symbol s.Times o h = same_symbol op.Times o h
operator_symbol s.Divide o h = same_symbol op.Divide o h
operator_symbol s.Rest o h = same_symbol op.Rest o h
operator_symbol _ o h = cc

same_sign : (p o : UnaryOp) → ◌≡◌ {A = Option UnaryOp} (Some p) (Some o) → sign_symbol p ≡ sign_symbol o
same_sign p o h =
    let e : p ≡ o = cc in
    ap sign_symbol e

signed_symbol : (x : Symbol) (o : UnaryOp) → unary_of_symbol x ≡ Some o → x ≡ sign_symbol o
signed_symbol s.Minus o h = same_sign sign.Minus o h
signed_symbol s.Not o h = same_sign sign.Not o h
signed_symbol _ o h = cc

with_rest-parts : {A : Type 0} (p : Option A) (ts : List Token) (o : A) (rest : List Token) → with_rest p ts ≡ Some (o, rest) → (p ≡ Some o) × (ts ≡ rest)
with_rest-parts None ts o rest h = cc
with_rest-parts {A} (Some a) ts o rest h =
    let p : ◌≡◌ {A = A × List Token} (a, ts) (o, rest) = cc in
    (ap (λ q. Some q.0) p, ap (λ q. q.1) p)

tested : (b : Bool) (p o : BinaryOp) (k : ℕ) → nat_eq (operator_line p) k ≡ b → (if b then Some p else None) ≡ Some o → (operator_line o ≡ k) × (Some p ≡ Some o)
tested true p o k is h =
    let same : operator_line p ≡ k = grind (arith, nat_tests) in
    let e : p ≡ o = cc in
    (ap operator_line (sym e) ∙ same, h)
tested false p o k is h = cc

of_line-parts : (p : Option BinaryOp) (k : ℕ) (o : BinaryOp) → of_line k p ≡ Some o → (operator_line o ≡ k) × (p ≡ Some o)
of_line-parts None k o h = cc
of_line-parts (Some p) k o h = tested (nat_eq (operator_line p) k) p o k refl h

pub operator_front : (k : ℕ) (ts : List Token) (o : BinaryOp) (rest : List Token) → operator_at k ts ≡ Some (o, rest) → (operator_line o ≡ k) × (symbol (op_symbol o) ∷ rest ≡ ts)
operator_front k (token.Symbol x ∷ ts) o rest h =
    let q = with_rest-parts (of_line k (operator_of x)) ts o rest h in
    let l = of_line-parts (operator_of x) k o q.0 in
    let is : x ≡ op_symbol o = operator_symbol x o l.1 in
    (l.0, cc (is, q.1))
operator_front k _ o rest h = cc

pub sign_front : (ts : List Token) (o : UnaryOp) (rest : List Token) → sign_at ts ≡ Some (o, rest) → symbol (sign_symbol o) ∷ rest ≡ ts
sign_front (token.Symbol x ∷ ts) o rest h =
    let q = with_rest-parts (unary_of_symbol x) ts o rest h in
    let is : x ≡ sign_symbol o = signed_symbol x o q.0 in
    cc (is, q.1)
sign_front _ o rest h = cc
