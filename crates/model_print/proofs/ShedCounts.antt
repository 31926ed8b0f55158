-- The canonical tokens are among the text's, open no more brackets and have no more operators.
use Rattle.std.proofs.Common.{◌≡◌, ℕ, ◌+◌, ◌-◌, ◌≤◌, max, false, List, [], ◌∷◌, ◌++◌, refl, sym, ap, ◌∙◌, arith}
use Rattle.model_tokens.specs.declared.token.Token.{Token}
use Rattle.model_tokens.specs.declared.token.Token.TheVariants.{Name as name, ClassName as class_name, Number as number, Text as literal, Word as word, Symbol as symbol}
use Rattle.model_tokens.specs.declared.token.Symbol.{Symbol}
use Rattle.model_tokens.specs.declared.token.Symbol.TheVariants as s
use Rattle.model_tokens.specs.Spelling.{IsToken}
use Rattle.model_tree.specs.Bounds.{brackets_after, operators_after, count_after, greatest}
use Rattle.model_lang.proofs.Counts.{greatest-le}
use Rattle.model_print.proofs.Shedding.{is_bracket, Sheds}

-- ---- each is a token

abbrev pub AreTokens : List Token → Type 0
AreTokens [] = Unit {0}
AreTokens (t ∷ ts) = IsToken t × AreTokens ts

pub are-append : (a b : List Token) → AreTokens a → AreTokens b → AreTokens (a ++ b)
are-append [] b h k = k
are-append (t ∷ a) b h k = (h.0, are-append a b h.1 k)

are-front : (a b : List Token) → AreTokens (a ++ b) → AreTokens a
are-front [] b h = tt
are-front (t ∷ a) b h = (h.0, are-front a b h.1)

are-back : (a b : List Token) → AreTokens (a ++ b) → AreTokens b
are-back [] b h = h
are-back (t ∷ a) b h = are-back a b h.1

abbrev pub SameTokens : List Token → List Token → Type 0
SameTokens a b = AreTokens b → AreTokens a

tokens_between : (opening closing : Symbol) (a b : List Token) → SameTokens a b → SameTokens (symbol opening ∷ (a ++ symbol closing ∷ [])) (symbol opening ∷ (b ++ symbol closing ∷ []))
tokens_between opening closing a b h k = (tt, are-append a (symbol closing ∷ []) (h (are-front b (symbol closing ∷ []) k.1)) (tt, tt))

pub tokens_shed : Sheds SameTokens
tokens_shed = record {
  nothing = λ h. h;
  same = λ t n h. h;
  beside = λ a b c d h k l. are-append a c (h (are-front b d l)) (k (are-back b d l));
  round = tokens_between s.OpenRound s.CloseRound;
  square = tokens_between s.OpenSquare s.CloseSquare;
  braces = tokens_between s.OpenBrace s.CloseBrace;
  shed = λ a b h k. h (are-front b (symbol s.CloseRound ∷ []) k.1);
}

-- ---- counts

-- what a count is behind tokens
abbrev pub behind : (ℕ → Symbol → ℕ) → ℕ → List Token → ℕ
behind after count [] = count
behind after count (t ∷ ts) = behind after (count_after after count t) ts

behind-append : (after : ℕ → Symbol → ℕ) (k : ℕ) (a b : List Token) → behind after k (a ++ b) ≡ behind after (behind after k a) b
behind-append after k [] b = refl
behind-append after k (t ∷ a) b = behind-append after (count_after after k t) a b

greatest-append : (after : ℕ → Symbol → ℕ) (k : ℕ) (a b : List Token) → greatest after k (a ++ b) ≡ max (greatest after k a) (greatest after (behind after k a) b)
greatest-append after k [] b = omega (arith, greatest-le after k b)
greatest-append after k (t ∷ a) b = omega (arith, greatest-append after (count_after after k t) a b)

-- ---- brackets

abbrev pub deepest : ℕ → List Token → ℕ
deepest = greatest brackets_after

-- both leave as many open as before, and the first opens no more at once
pub record Nests (a b : List Token) : Type 0 where
  pub closed_a : (k : ℕ) → behind brackets_after k a ≡ k
  pub closed_b : (k : ℕ) → behind brackets_after k b ≡ k
  pub less : (k l : ℕ) → k ≤ l → deepest k a ≤ deepest l b

unbracketed : (t : Token) (k : ℕ) → is_bracket t ≡ false → count_after brackets_after k t ≡ k
unbracketed (name x) k h = refl
unbracketed (class_name x) k h = refl
unbracketed (number n) k h = refl
unbracketed (literal t) k h = refl
unbracketed (word w) k h = refl
unbracketed (symbol s.OpenBrace) k h = cc
unbracketed (symbol s.CloseBrace) k h = cc
unbracketed (symbol s.OpenRound) k h = cc
unbracketed (symbol s.CloseRound) k h = cc
unbracketed (symbol s.OpenSquare) k h = cc
unbracketed (symbol s.CloseSquare) k h = cc
unbracketed (symbol o) k h = refl

nest_same : (t : Token) → is_bracket t ≡ false → Nests (t ∷ []) (t ∷ [])
nest_same t h = record {
  closed_a = λ k. unbracketed t k h;
  closed_b = λ k. unbracketed t k h;
  less = λ k l le. omega (arith, unbracketed t k h, unbracketed t l h);
}

nest_beside : (a b c d : List Token) → Nests a b → Nests c d → Nests (a ++ c) (b ++ d)
nest_beside a b c d h k = record {
  closed_a = λ n. behind-append brackets_after n a c ∙ ap (λ m. behind brackets_after m c) (h.closed_a n) ∙ k.closed_a n;
  closed_b = λ n. behind-append brackets_after n b d ∙ ap (λ m. behind brackets_after m d) (h.closed_b n) ∙ k.closed_b n;
  less = λ n l le. (
      let e = greatest-append brackets_after n a c ∙ ap (λ m. max (deepest n a) (deepest m c)) (h.closed_a n) in
      let f = greatest-append brackets_after l b d ∙ ap (λ m. max (deepest l b) (deepest m d)) (h.closed_b l) in
      omega (arith, e, f, h.less n l le, k.less n l le));
}

-- a pair of brackets
record IsPair (opening closing : Symbol) : Type 0 where
  opens : (k : ℕ) → brackets_after k opening ≡ k + 1
  closes : (k : ℕ) → brackets_after k closing ≡ k - 1

pair_closed : (opening closing : Symbol) → IsPair opening closing → (a : List Token) → ((k : ℕ) → behind brackets_after k a ≡ k) → (k : ℕ) → behind brackets_after k (symbol opening ∷ (a ++ symbol closing ∷ [])) ≡ k
pair_closed opening closing pair a h k =
    let e = behind-append brackets_after (brackets_after k opening) a (symbol closing ∷ []) in
    omega (arith, e, h (brackets_after k opening), pair.opens k, pair.closes (behind brackets_after (brackets_after k opening) a))

pair_deepest : (opening closing : Symbol) → IsPair opening closing → (a : List Token) → ((k : ℕ) → behind brackets_after k a ≡ k) → (k : ℕ) → deepest k (symbol opening ∷ (a ++ symbol closing ∷ [])) ≡ deepest (k + 1) a
pair_deepest opening closing pair a h k =
    let o = pair.opens k in
    let e = ap (λ m. deepest m (a ++ symbol closing ∷ [])) o ∙ greatest-append brackets_after (k + 1) a (symbol closing ∷ []) in
    omega (arith, e, h (k + 1), pair.closes (behind brackets_after (k + 1) a), greatest-le brackets_after (k + 1) a)

nest_between : (opening closing : Symbol) → IsPair opening closing → (a b : List Token) → Nests a b → Nests (symbol opening ∷ (a ++ symbol closing ∷ [])) (symbol opening ∷ (b ++ symbol closing ∷ []))
nest_between opening closing pair a b h = record {
  closed_a = pair_closed opening closing pair a h.closed_a;
  closed_b = pair_closed opening closing pair b h.closed_b;
  less = λ k l le. omega (arith, pair_deepest opening closing pair a h.closed_a k, pair_deepest opening closing pair b h.closed_b l, h.less (k + 1) (l + 1) (omega arith));
}

round_pair : IsPair s.OpenRound s.CloseRound
round_pair = record { opens = λ k. refl; closes = λ k. refl }

square_pair : IsPair s.OpenSquare s.CloseSquare
square_pair = record { opens = λ k. refl; closes = λ k. refl }

brace_pair : IsPair s.OpenBrace s.CloseBrace
brace_pair = record { opens = λ k. refl; closes = λ k. refl }

nest_shed : (a b : List Token) → Nests a b → Nests a (symbol s.OpenRound ∷ (b ++ symbol s.CloseRound ∷ []))
nest_shed a b h = record {
  closed_a = h.closed_a;
  closed_b = pair_closed s.OpenRound s.CloseRound round_pair b h.closed_b;
  less = λ k l le. omega (arith, pair_deepest s.OpenRound s.CloseRound round_pair b h.closed_b l, h.less k (l + 1) (omega arith));
}

pub nests_shed : Sheds Nests
nests_shed = record {
  nothing = record { closed_a = λ k. refl; closed_b = λ k. refl; less = λ k l le. le };
  same = nest_same;
  beside = nest_beside;
  round = nest_between s.OpenRound s.CloseRound round_pair;
  square = nest_between s.OpenSquare s.CloseSquare square_pair;
  braces = nest_between s.OpenBrace s.CloseBrace brace_pair;
  shed = nest_shed;
}

-- ---- operators

abbrev pub most : ℕ → List Token → ℕ
most = greatest operators_after

-- both leave the same count, and the first has no higher one
pub record Counts (a b : List Token) : Type 0 where
  pub same : (k : ℕ) → behind operators_after k a ≡ behind operators_after k b
  pub less : (k : ℕ) → most k a ≤ most k b

counts_itself : (a : List Token) → Counts a a
counts_itself a = record { same = λ k. refl; less = λ k. omega arith }

counts_beside : (a b c d : List Token) → Counts a b → Counts c d → Counts (a ++ c) (b ++ d)
counts_beside a b c d h k = record {
  same = λ n. (
      behind-append operators_after n a c ∙ ap (λ m. behind operators_after m c) (h.same n) ∙ k.same (behind operators_after n b)
      ∙ sym (behind-append operators_after n b d));
  less = λ n. (
      let e = greatest-append operators_after n a c ∙ ap (λ m. max (most n a) (most m c)) (h.same n) in
      let f = greatest-append operators_after n b d in
      omega (arith, e, f, h.less n, k.less (behind operators_after n b)));
}

counts_between : (opening closing : Symbol) (a b : List Token) → Counts a b → Counts (symbol opening ∷ (a ++ symbol closing ∷ [])) (symbol opening ∷ (b ++ symbol closing ∷ []))
counts_between opening closing a b h =
    let ending = counts_beside a b (symbol closing ∷ []) (symbol closing ∷ []) h (counts_itself (symbol closing ∷ [])) in
    counts_beside (symbol opening ∷ []) (symbol opening ∷ []) (a ++ symbol closing ∷ []) (b ++ symbol closing ∷ []) (counts_itself (symbol opening ∷ [])) ending

counts_shed_one : (a b : List Token) → Counts a b → Counts a (symbol s.OpenRound ∷ (b ++ symbol s.CloseRound ∷ []))
counts_shed_one a b h = record {
  same = λ k. h.same k ∙ sym (behind-append operators_after k b (symbol s.CloseRound ∷ []));
  less = λ k. omega (arith, h.less k, greatest-append operators_after k b (symbol s.CloseRound ∷ []));
}

pub counts_shed : Sheds Counts
counts_shed = record {
  nothing = counts_itself [];
  same = λ t n. counts_itself (t ∷ []);
  beside = counts_beside;
  round = counts_between s.OpenRound s.CloseRound;
  square = counts_between s.OpenSquare s.CloseSquare;
  braces = counts_between s.OpenBrace s.CloseBrace;
  shed = counts_shed_one;
}
