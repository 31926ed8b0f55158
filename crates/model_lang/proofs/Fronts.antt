-- What stands at the front of tokens, told from what was read of them.
use Rattle.std.proofs.Common.{◌≡◌, ◌⊎◌, inl, inr, ℕ, Bool, true, false, List, [], ◌∷◌, ◌++◌, get_or, Option, Some, None, nat_eq, refl, sym, ap, ◌∙◌, arith, append_assoc}
use Rattle.std.proofs.lemmas.Bool.Decides.{nat_tests}
use Rattle.model_tokens.specs.declared.token.Token.{Token}
use Rattle.model_tokens.specs.declared.token.Token.TheVariants as token
use Rattle.model_tokens.specs.declared.token.Token.TheVariants.{Name as name, ClassName as class_name, Word as word, Symbol as symbol}
use Rattle.model_tokens.specs.declared.token.Word.{Word}
use Rattle.model_tokens.specs.declared.token.Word.TheVariants as w
use Rattle.model_tokens.specs.declared.token.Symbol.{Symbol}
use Rattle.model_tokens.specs.declared.token.Symbol.TheVariants as s
use Rattle.model_tree.specs.Tree.{Name}
use Rattle.model_lang.specs.Reader.{ParseResult, on_read, on_rest, either_way, on_found, word_number, symbol_number, only_where, after_word, after_symbol, name_at, class_name_at}

-- ---- what gave something had parts that did

abbrev pub Parts : {A B : Type 0} → ParseResult A → (A → List Token → Option B) → B → Type 0
Parts {A} o next y = (p : A × List Token) × (o ≡ Some p) × (next p.0 p.1 ≡ Some y)

pub parts : {A B : Type 0} (o : ParseResult A) (next : A → List Token → Option B) (y : B) → on_read o next ≡ Some y → Parts o next y
parts None next y h = cc
parts (Some p) next y h = (p, refl, h)

abbrev pub Behind : {B : Type 0} → Option (List Token) → (List Token → Option B) → B → Type 0
Behind o next y = (ts : List Token) × (o ≡ Some ts) × (next ts ≡ Some y)

pub behind_parts : {B : Type 0} (o : Option (List Token)) (next : List Token → Option B) (y : B) → on_rest o next ≡ Some y → Behind o next y
behind_parts None next y h = cc
behind_parts (Some ts) next y h = (ts, refl, h)

-- what was read, and the tokens behind it, are each the same
pub apart : {A : Type 0} (a b : A) (ts rest : List Token) → ◌≡◌ {A = Option (A × List Token)} (Some (a, ts)) (Some (b, rest)) → (a ≡ b) × (ts ≡ rest)
apart {A} a b ts rest h =
    let p : ◌≡◌ {A = A × List Token} (a, ts) (b, rest) = cc in
    (ap (λ q. q.0) p, ap (λ q. q.1) p)

-- ---- the token at the front

abbrev pub words : List Word
words = w.Class ∷ w.Field ∷ w.Let ∷ w.If ∷ w.Else ∷ w.While ∷ w.Return ∷ w.This ∷ w.Nil ∷ w.True ∷ w.False ∷ w.Create ∷ w.Future ∷ []

abbrev pub word_at : ℕ → Word
word_at i = get_or words i w.Class

pub word_at-number : (x : Word) → word_at (word_number x) ≡ x
word_at-number w.Class = refl
word_at-number w.Field = refl
word_at-number w.Let = refl
word_at-number w.If = refl
word_at-number w.Else = refl
word_at-number w.While = refl
word_at-number w.Return = refl
word_at-number w.This = refl
word_at-number w.Nil = refl
word_at-number w.True = refl
word_at-number w.False = refl
word_at-number w.Create = refl
word_at-number w.Future = refl

abbrev pub symbols : List Symbol
symbols = s.OpenBrace ∷ s.CloseBrace ∷ s.OpenRound ∷ s.CloseRound ∷ s.OpenSquare ∷ s.CloseSquare ∷ s.Comma ∷ s.Semicolon ∷ s.Dot ∷ s.Assign ∷ s.Same ∷ s.Differs ∷ s.Less ∷ s.AtMost ∷ s.Greater ∷ s.AtLeast ∷ s.Plus ∷ s.Minus ∷ s.Times ∷ s.Divide ∷ s.Rest ∷ s.Not ∷ s.And ∷ s.Or ∷ []

abbrev pub symbol_at : ℕ → Symbol
symbol_at i = get_or symbols i s.Or

pub symbol_at-number : (x : Symbol) → symbol_at (symbol_number x) ≡ x
symbol_at-number s.OpenBrace = refl
symbol_at-number s.CloseBrace = refl
symbol_at-number s.OpenRound = refl
symbol_at-number s.CloseRound = refl
symbol_at-number s.OpenSquare = refl
symbol_at-number s.CloseSquare = refl
symbol_at-number s.Comma = refl
symbol_at-number s.Semicolon = refl
symbol_at-number s.Dot = refl
symbol_at-number s.Assign = refl
symbol_at-number s.Same = refl
symbol_at-number s.Differs = refl
symbol_at-number s.Less = refl
symbol_at-number s.AtMost = refl
symbol_at-number s.Greater = refl
symbol_at-number s.AtLeast = refl
symbol_at-number s.Plus = refl
symbol_at-number s.Minus = refl
symbol_at-number s.Times = refl
symbol_at-number s.Divide = refl
symbol_at-number s.Rest = refl
symbol_at-number s.Not = refl
symbol_at-number s.And = refl
symbol_at-number s.Or = refl

pub same_number : (m n : ℕ) → nat_eq m n ≡ true → m ≡ n
same_number m n h = grind (arith, nat_tests)

pub where_true : (b : Bool) (ts rest : List Token) → only_where b ts ≡ Some rest → (b ≡ true) × (ts ≡ rest)
where_true true ts rest h = (refl, cc)
where_true false ts rest h = cc

pub word_front : (x : Word) (ts rest : List Token) → after_word x ts ≡ Some rest → ts ≡ word x ∷ rest
word_front x (token.Word y ∷ ts) rest h =
    let q = where_true (nat_eq (word_number y) (word_number x)) ts rest h in
    let same : y ≡ x = sym (word_at-number y) ∙ ap word_at (same_number (word_number y) (word_number x) q.0) ∙ word_at-number x in
    ap (λ y. word y ∷ ts) same ∙ ap (λ r. word x ∷ r) q.1
word_front x _ rest h = cc

pub symbol_front : (x : Symbol) (ts rest : List Token) → after_symbol x ts ≡ Some rest → ts ≡ symbol x ∷ rest
symbol_front x (token.Symbol y ∷ ts) rest h =
    let q = where_true (nat_eq (symbol_number y) (symbol_number x)) ts rest h in
    let same : y ≡ x = sym (symbol_at-number y) ∙ ap symbol_at (same_number (symbol_number y) (symbol_number x) q.0) ∙ symbol_at-number x in
    ap (λ y. symbol y ∷ ts) same ∙ ap (λ r. symbol x ∷ r) q.1
symbol_front x _ rest h = cc

pub name_front : (ts : List Token) (p : Name × List Token) → name_at ts ≡ Some p → ts ≡ name p.0 ∷ p.1
name_front (token.Name x ∷ ts) p h =
    let q : ◌≡◌ {A = Name × List Token} (x, ts) p = cc in
    ap (λ (q : Name × List Token). name q.0 ∷ q.1) q
name_front _ p h = cc

pub class_name_front : (ts : List Token) (p : Name × List Token) → class_name_at ts ≡ Some p → ts ≡ class_name p.0 ∷ p.1
class_name_front (token.ClassName x ∷ ts) p h =
    let q : ◌≡◌ {A = Name × List Token} (x, ts) p = cc in
    ap (λ (q : Name × List Token). class_name q.0 ∷ q.1) q
class_name_front _ p h = cc

-- a token that was asked for was at the front
pub word_then : {B : Type 0} (x : Word) (ts : List Token) (next : List Token → Option B) (y : B) → on_rest (after_word x ts) next ≡ Some y → (rest : List Token) × (word x ∷ rest ≡ ts) × (next rest ≡ Some y)
word_then x ts next y h =
    let q = behind_parts (after_word x ts) next y h in
    (q.0, sym (word_front x ts q.0 q.1), q.2)

pub symbol_then : {B : Type 0} (x : Symbol) (ts : List Token) (next : List Token → Option B) (y : B) → on_rest (after_symbol x ts) next ≡ Some y → (rest : List Token) × (symbol x ∷ rest ≡ ts) × (next rest ≡ Some y)
symbol_then x ts next y h =
    let q = behind_parts (after_symbol x ts) next y h in
    (q.0, sym (symbol_front x ts q.0 q.1), q.2)

pub name_then : {B : Type 0} (ts : List Token) (next : Name → List Token → Option B) (y : B) → on_read (name_at ts) next ≡ Some y → (x : Name) × (rest : List Token) × (name x ∷ rest ≡ ts) × (next x rest ≡ Some y)
name_then ts next y h =
    let q = parts (name_at ts) next y h in
    (q.0.0, q.0.1, sym (name_front ts q.0 q.1), q.2)

-- it was there, or the other way was gone
abbrev pub Either : {B : Type 0} → Token → List Token → (List Token → B) → B → B → Type 0
Either t ts next other y = ((rest : List Token) × (t ∷ rest ≡ ts) × (next rest ≡ y)) ⊎ (other ≡ y)

pub word_by : {B : Type 0} (x : Word) (ts : List Token) (next : List Token → B) (other y : B) (o : Option (List Token)) → after_word x ts ≡ o → either_way o next other ≡ y → Either (word x) ts next other y
word_by x ts next other y None is h = inr h
word_by x ts next other y (Some rest) is h = inl (rest, sym (word_front x ts rest is), h)

pub word_or : {B : Type 0} (x : Word) (ts : List Token) (next : List Token → B) (other y : B) → either_way (after_word x ts) next other ≡ y → Either (word x) ts next other y
word_or x ts next other y h = word_by x ts next other y (after_word x ts) refl h

pub symbol_by : {B : Type 0} (x : Symbol) (ts : List Token) (next : List Token → B) (other y : B) (o : Option (List Token)) → after_symbol x ts ≡ o → either_way o next other ≡ y → Either (symbol x) ts next other y
symbol_by x ts next other y None is h = inr h
symbol_by x ts next other y (Some rest) is h = inl (rest, sym (symbol_front x ts rest is), h)

pub symbol_or : {B : Type 0} (x : Symbol) (ts : List Token) (next : List Token → B) (other y : B) → either_way (after_symbol x ts) next other ≡ y → Either (symbol x) ts next other y
symbol_or x ts next other y h = symbol_by x ts next other y (after_symbol x ts) refl h

-- tokens one behind the other
pub both_spelled : (xs ys rest r ts : List Token) → xs ++ r ≡ ts → ys ++ rest ≡ r → (xs ++ ys) ++ rest ≡ ts
both_spelled xs ys rest r ts p q = append_assoc xs ys rest ∙ ap (λ r. xs ++ r) q ∙ p

-- something was found at the front, or the other way was gone
abbrev pub FoundOr : {A B : Type 0} → ParseResult A → (A → List Token → B) → B → B → Type 0
FoundOr {A} o next other y = ((p : A × List Token) × (o ≡ Some p) × (next p.0 p.1 ≡ y)) ⊎ ((o ≡ None) × (other ≡ y))

pub found_or : {A B : Type 0} (o : ParseResult A) (next : A → List Token → B) (other y : B) → on_found o next other ≡ y → FoundOr o next other y
found_or None next other y h = inr (refl, h)
found_or (Some p) next other y h = inl (p, refl, h)
