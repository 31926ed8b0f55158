-- The text of a program's tokens is divided into them.
use Rattle.std.proofs.Common.{◌≡◌, ℕ, ℤ, pos, negsuc, zero, suc, ◌+◌, ◌<◌, ◌≤◌, ◌^◌, Bool, true, false, List, [], ◌∷◌, ◌++◌, length, refl, sym, ap, ◌∙◌, subst, arith}
use Rattle.std.specs.Prelude.{◌==◌, ◌||◌}
use Rattle.std.specs.Char.{digit_value}
use Rattle.std.specs.Str.Parse.{AllDigits}
use Rattle.std.specs.Fmt.{decimal}
use Rattle.std.proofs.lemmas.Bool.Decides.{nat_tests}
use Rattle.std.proofs.lemmas.Fmt.{decimal_is_IsNumeral, decimal_nonempty}
use Rattle.model_tokens.specs.declared.token.Token.{Token}
use Rattle.model_tokens.specs.declared.token.Token.TheVariants.{Name as name, ClassName as class_name, Number as number, Text as literal, Word as word, Symbol as symbol}
use Rattle.model_tokens.specs.declared.token.Symbol.{Symbol}
use Rattle.model_tokens.specs.declared.token.Symbol.TheVariants as s
use Rattle.model_tokens.specs.Bytes.{is_digit, goes_on_name, begins_name, begins_class_name}
use Rattle.model_tokens.specs.Spelling.{token_spelling, spelled_word, spelled_symbol, IsNamed, IsToken}
use Rattle.model_tokens.specs.Division.{Piece, blank, a_token, symbol_goes_on, number_goes_on, token_goes_on, EndsBefore, spelling_of, ArePieces, tokens_of, Divides}
use Rattle.model_tokens.proofs.NameLaws.{word_is_named}
use Rattle.model_print.specs.Canonical.{is_worded, token_gap, text_behind}
use Rattle.model_print.proofs.ShedCounts.{AreTokens}
use Rattle.model_print.proofs.Neighbours.{begins, Chain}

-- ---- the first byte of a token

-- these bytes go on so
abbrev pub FirstIs : (ℕ → Bool) → List ℕ → Type 0
FirstIs test [] = ⊥
FirstIs test (byte ∷ bytes) = test byte ≡ true

first-append : (test : ℕ → Bool) (a b : List ℕ) → FirstIs test a → FirstIs test (a ++ b)
first-append test [] b h = absurd h
first-append test (byte ∷ a) b h = h

named_first : (test : ℕ → Bool) (x : List ℕ) → ((b : ℕ) → test b ≡ true → goes_on_name b ≡ true) → IsNamed test x → FirstIs goes_on_name x
named_first test [] f h = absurd h
named_first test (b ∷ x) f h = f b h.0

pub name_goes_on : (b : ℕ) → begins_name b ≡ true → goes_on_name b ≡ true
name_goes_on b h = grind (arith, nat_tests)

pub class_name_goes_on : (b : ℕ) → begins_class_name b ≡ true → goes_on_name b ≡ true
class_name_goes_on b h = grind (arith, nat_tests)

digit_goes_on : (b : ℕ) → digit_value b < 10 → goes_on_name b ≡ true
digit_goes_on b h = grind (arith, nat_tests)

digits_first : (ds : List ℕ) → 0 < length ds → AllDigits 10 ds → FirstIs goes_on_name ds
digits_first [] some h = omega arith
digits_first (d ∷ ds) some h = digit_goes_on d h.0

decimal_first : (n : ℕ) → n ≤ 9_223_372_036_854_775_807 → FirstIs goes_on_name (decimal n)
decimal_first n small =
    let fits : n < 2 ^ 64 = omega arith in
    digits_first (decimal n) (decimal_nonempty n fits) (decimal_is_IsNumeral n fits).0.1

-- a name, a word or a number begins with a letter, a digit or `_`
pub worded_first : (t : Token) → IsToken t → is_worded t ≡ true → FirstIs goes_on_name (token_spelling t)
worded_first (name x) is h = named_first begins_name x name_goes_on is.0
worded_first (class_name x) is h = named_first begins_class_name x class_name_goes_on is
worded_first (number n) is h = subst (λ z. FirstIs goes_on_name (token_spelling (number z))) (sym is.2) (decimal_first is.0 is.1)
worded_first (literal x) is h = cc
worded_first (word v) is h = named_first begins_name (spelled_word v) name_goes_on (word_is_named v)
worded_first (symbol o) is h = cc

-- ---- a space, a quote or a symbol ends a name and a number

symbol_ends : (o : Symbol) (bytes : List ℕ) → EndsBefore goes_on_name (spelled_symbol o ++ bytes)
symbol_ends s.OpenBrace bytes = refl
symbol_ends s.CloseBrace bytes = refl
symbol_ends s.OpenRound bytes = refl
symbol_ends s.CloseRound bytes = refl
symbol_ends s.OpenSquare bytes = refl
symbol_ends s.CloseSquare bytes = refl
symbol_ends s.Comma bytes = refl
symbol_ends s.Semicolon bytes = refl
symbol_ends s.Dot bytes = refl
symbol_ends s.Assign bytes = refl
symbol_ends s.Same bytes = refl
symbol_ends s.Differs bytes = refl
symbol_ends s.Less bytes = refl
symbol_ends s.AtMost bytes = refl
symbol_ends s.Greater bytes = refl
symbol_ends s.AtLeast bytes = refl
symbol_ends s.Plus bytes = refl
symbol_ends s.Minus bytes = refl
symbol_ends s.Times bytes = refl
symbol_ends s.Divide bytes = refl
symbol_ends s.Rest bytes = refl
symbol_ends s.Not bytes = refl
symbol_ends s.And bytes = refl
symbol_ends s.Or bytes = refl

name_ends : (ts : List Token) → EndsBefore goes_on_name (text_behind true ts)
name_ends [] = tt
name_ends (name x ∷ ts) = refl
name_ends (class_name x ∷ ts) = refl
name_ends (number n ∷ ts) = refl
name_ends (literal x ∷ ts) = refl
name_ends (word v ∷ ts) = refl
name_ends (symbol o ∷ ts) = symbol_ends o (text_behind false ts)

no_digit : (b : ℕ) → goes_on_name b ≡ false → is_digit b ≡ false
no_digit b h = grind (arith, nat_tests)

number_ends : (n : ℤ) (bytes : List ℕ) → EndsBefore goes_on_name bytes → EndsBefore (number_goes_on n) bytes
number_ends n [] h = tt
number_ends (pos zero) (b ∷ bytes) h = refl
number_ends (pos (suc n)) (b ∷ bytes) h = no_digit b h
number_ends (negsuc n) (b ∷ bytes) h = no_digit b h

-- ---- no symbol is made longer

-- the bytes that make some symbol longer
abbrev lengthens : ℕ → Bool
lengthens byte = byte == 61 || byte == 47

name_apart : (b : ℕ) → goes_on_name b ≡ true → lengthens b ≡ false
name_apart b h = grind (arith, nat_tests)

first_apart : (bytes : List ℕ) → FirstIs goes_on_name bytes → EndsBefore lengthens bytes
first_apart [] h = tt
first_apart (b ∷ bytes) h = name_apart b h

begins_apart : (t : Token) (bytes : List ℕ) → IsToken t → begins t ≡ true → EndsBefore lengthens (token_spelling t ++ bytes)
begins_apart (name x) bytes is h = first_apart (x ++ bytes) (first-append goes_on_name x bytes (worded_first (name x) is refl))
begins_apart (class_name x) bytes is h = cc
begins_apart (number n) bytes is h = first_apart (token_spelling (number n) ++ bytes) (first-append goes_on_name (token_spelling (number n)) bytes (worded_first (number n) is refl))
begins_apart (literal x) bytes is h = refl
begins_apart (word v) bytes is h = first_apart (spelled_word v ++ bytes) (first-append goes_on_name (spelled_word v) bytes (worded_first (word v) is refl))
begins_apart (symbol s.OpenRound) bytes is h = refl
begins_apart (symbol s.OpenSquare) bytes is h = refl
begins_apart (symbol s.Minus) bytes is h = refl
begins_apart (symbol s.Not) bytes is h = refl
begins_apart (symbol o) bytes is h = cc

same_apart : (o : Symbol) (b : ℕ) → lengthens b ≡ false → symbol_goes_on o b ≡ false
same_apart s.Assign b h = grind (arith, nat_tests)
same_apart s.Not b h = grind (arith, nat_tests)
same_apart s.Less b h = grind (arith, nat_tests)
same_apart s.Greater b h = grind (arith, nat_tests)
same_apart s.Divide b h = grind (arith, nat_tests)
same_apart o b h = refl

apart_ends : (o : Symbol) (bytes : List ℕ) → EndsBefore lengthens bytes → EndsBefore (symbol_goes_on o) bytes
apart_ends o [] h = tt
apart_ends o (b ∷ bytes) h = same_apart o b h

never_ends : (bytes : List ℕ) → EndsBefore (λ b. false) bytes
never_ends [] = tt
never_ends (b ∷ bytes) = refl

pressed_ends : (o : Symbol) (t : Token) (ts : List Token) → IsToken t → begins t ≡ true → EndsBefore (symbol_goes_on o) (text_behind false (t ∷ ts))
pressed_ends o t ts is h = apart_ends o (token_spelling t ++ text_behind (is_worded t) ts) (begins_apart t (text_behind (is_worded t) ts) is h)

symbol_before : (o : Symbol) (ts : List Token) → Chain (symbol o) ts → AreTokens ts → EndsBefore (symbol_goes_on o) (text_behind false ts)
symbol_before o [] h are = tt
symbol_before s.Assign (t ∷ ts) h are = pressed_ends s.Assign t ts are.0 h.0
symbol_before s.Not (t ∷ ts) h are = pressed_ends s.Not t ts are.0 h.0
symbol_before s.Less (t ∷ ts) h are = pressed_ends s.Less t ts are.0 h.0
symbol_before s.Greater (t ∷ ts) h are = pressed_ends s.Greater t ts are.0 h.0
symbol_before s.Divide (t ∷ ts) h are = pressed_ends s.Divide t ts are.0 h.0
symbol_before o (t ∷ ts) h are = never_ends (text_behind false (t ∷ ts))

-- each token ends before the text of those behind it
ends_before : (t : Token) (ts : List Token) → Chain t ts → AreTokens ts → EndsBefore (token_goes_on t) (text_behind (is_worded t) ts)
ends_before (name x) ts h are = name_ends ts
ends_before (class_name x) ts h are = name_ends ts
ends_before (number n) ts h are = number_ends n (text_behind true ts) (name_ends ts)
ends_before (literal x) ts h are = never_ends (text_behind false ts)
ends_before (word v) ts h are = name_ends ts
ends_before (symbol o) ts h are = symbol_before o ts h are

-- ---- the pieces

abbrev spaced : Bool → Bool → List Piece → List Piece
spaced true true pieces = blank 32 ∷ pieces
spaced _ _ pieces = pieces

abbrev pieces_behind : Bool → List Token → List Piece
pieces_behind worded [] = []
pieces_behind worded (t ∷ ts) = spaced worded (is_worded t) (a_token t ∷ pieces_behind (is_worded t) ts)

spelled-spaced : (v w : Bool) (pieces : List Piece) → spelling_of (spaced v w pieces) ≡ token_gap v w ++ spelling_of pieces
spelled-spaced true true pieces = refl
spelled-spaced true false pieces = refl
spelled-spaced false w pieces = refl

spelled-pieces : (worded : Bool) (ts : List Token) → spelling_of (pieces_behind worded ts) ≡ text_behind worded ts
spelled-pieces worded [] = refl
spelled-pieces worded (t ∷ ts) =
    spelled-spaced worded (is_worded t) (a_token t ∷ pieces_behind (is_worded t) ts)
    ∙ ap (λ xs. token_gap worded (is_worded t) ++ (token_spelling t ++ xs)) (spelled-pieces (is_worded t) ts)

tokens-spaced : (v w : Bool) (pieces : List Piece) → tokens_of (spaced v w pieces) ≡ tokens_of pieces
tokens-spaced true true pieces = refl
tokens-spaced true false pieces = refl
tokens-spaced false w pieces = refl

tokens-pieces : (worded : Bool) (ts : List Token) → tokens_of (pieces_behind worded ts) ≡ ts
tokens-pieces worded [] = refl
tokens-pieces worded (t ∷ ts) =
    tokens-spaced worded (is_worded t) (a_token t ∷ pieces_behind (is_worded t) ts) ∙ ap (λ xs. t ∷ xs) (tokens-pieces (is_worded t) ts)

are-spaced : (v w : Bool) (pieces : List Piece) → ArePieces pieces → ArePieces (spaced v w pieces)
are-spaced true true pieces h = (refl, never_ends (spelling_of pieces), h)
are-spaced true false pieces h = h
are-spaced false w pieces h = h

are-pieces : (t : Token) (ts : List Token) → Chain t ts → AreTokens ts → ArePieces (pieces_behind (is_worded t) ts)
are-pieces t [] h are = tt
are-pieces t (u ∷ us) h are =
    let ends = subst (EndsBefore (token_goes_on u)) (sym (spelled-pieces (is_worded u) us)) (ends_before u us h.1 are.1) in
    are-spaced (is_worded t) (is_worded u) (a_token u ∷ pieces_behind (is_worded u) us) (are.0, ends, are-pieces u us h.1 are.1)

pub text-divides : (t : Token) (ts : List Token) → Chain t ts → AreTokens ts → Divides ts (text_behind (is_worded t) ts)
text-divides t ts h are =
    (pieces_behind (is_worded t) ts, are-pieces t ts h are, spelled-pieces (is_worded t) ts, tokens-pieces (is_worded t) ts)
