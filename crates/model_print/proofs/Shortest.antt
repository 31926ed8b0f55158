-- The canonical text has no more bytes than any text of the same tree.
use Rattle.std.proofs.Common.{◌≡◌, ℕ, ◌+◌, ◌≤◌, Bool, true, false, List, [], ◌∷◌, ◌++◌, length, refl, sym, ap, ◌∙◌, subst, arith, append_assoc, length-append}
use Rattle.std.specs.Prelude.{not}
use Rattle.model_tokens.specs.declared.token.Token.{Token}
use Rattle.model_tokens.specs.declared.token.Token.TheVariants.{Name as name, ClassName as class_name, Number as number, Text as literal, Word as word, Symbol as symbol}
use Rattle.model_tokens.specs.declared.token.Symbol.{Symbol}
use Rattle.model_tokens.specs.declared.token.Symbol.TheVariants as s
use Rattle.model_tokens.specs.Bytes.{goes_on_name}
use Rattle.model_tokens.specs.Spelling.{token_spelling, IsToken}
use Rattle.model_tokens.specs.Division.{Piece, blank, comment, a_token, token_goes_on, EndsBefore, EndsPiece, spelling_of, ArePieces, tokens_of, Divides}
use Rattle.model_print.specs.Canonical.{is_worded, token_gap, text_behind}
use Rattle.model_print.proofs.Shedding.{Sheds}
use Rattle.model_print.proofs.Neighbours.{may_follow, Chain, Free}
use Rattle.model_print.proofs.Spaced.{FirstIs, worded_first}

-- ---- the text of tokens one behind the other

-- whether the last token is worded
abbrev pub last_worded : Bool → List Token → Bool
last_worded worded [] = worded
last_worded worded (t ∷ ts) = last_worded (is_worded t) ts

pub last-append : (worded : Bool) (a b : List Token) → last_worded worded (a ++ b) ≡ last_worded (last_worded worded a) b
last-append worded [] b = refl
last-append worded (t ∷ a) b = last-append (is_worded t) a b

pub text-append : (worded : Bool) (a b : List Token) → text_behind worded (a ++ b) ≡ text_behind worded a ++ text_behind (last_worded worded a) b
text-append worded [] b = refl
text-append worded (t ∷ a) b =
    let here = token_gap worded (is_worded t) in
    let more = text_behind (is_worded t) a in
    let behind = text_behind (last_worded (is_worded t) a) b in
    ap (λ xs. here ++ (token_spelling t ++ xs)) (text-append (is_worded t) a b)
    ∙ ap (λ xs. here ++ xs) (sym (append_assoc (token_spelling t) more behind))
    ∙ sym (append_assoc here (token_spelling t ++ more) behind)

abbrev pub bytes : Bool → List Token → ℕ
bytes worded ts = length (text_behind worded ts)

bytes-append : (worded : Bool) (a b : List Token) → bytes worded (a ++ b) ≡ bytes worded a + bytes (last_worded worded a) b
bytes-append worded a b = ap length (text-append worded a b) ∙ length-append (text_behind worded a) (text_behind (last_worded worded a) b)

-- ---- brackets that are shed make room for the spaces that come in their place

-- the byte that may be wanted where only the first of two texts ends with a worded token
abbrev pub owed : Bool → Bool → ℕ
owed true false = 1
owed _ _ = 0

owed_one : (v w : Bool) → owed v w ≤ 1
owed_one true true = omega arith
owed_one true false = omega arith
owed_one false w = omega arith

-- behind texts of which the first owes a byte, or not
abbrev pub Shorter : List Token → List Token → Type 0
Shorter a b = (v w : Bool) → bytes v a + owed (last_worded v a) (last_worded w b) ≤ bytes w b + owed v w

space_owed : (v w u : Bool) (xs : List ℕ) → length (token_gap v u ++ xs) + owed u u ≤ length (token_gap w u ++ xs) + owed v w
space_owed true true true xs = omega arith
space_owed true false true xs = omega arith
space_owed false true true xs = omega arith
space_owed false false true xs = omega arith
space_owed true true false xs = omega arith
space_owed true false false xs = omega arith
space_owed false true false xs = omega arith
space_owed false false false xs = omega arith

shorter_same : (t : Token) → Shorter (t ∷ []) (t ∷ [])
shorter_same t v w = space_owed v w (is_worded t) (token_spelling t ++ [])

shorter_beside : (a b c d : List Token) → Shorter a b → Shorter c d → Shorter (a ++ c) (b ++ d)
shorter_beside a b c d h k v w =
    let e : last_worded v (a ++ c) ≡ last_worded (last_worded v a) c = last-append v a c in
    let f : last_worded w (b ++ d) ≡ last_worded (last_worded w b) d = last-append w b d in
    let o : owed (last_worded v (a ++ c)) (last_worded w (b ++ d)) ≡ owed (last_worded (last_worded v a) c) (last_worded (last_worded w b) d) =
    ap (λ x. owed x (last_worded w (b ++ d))) e ∙ ap (owed (last_worded (last_worded v a) c)) f in
    omega (arith, o, bytes-append v a c, bytes-append w b d, h v w, k (last_worded v a) (last_worded w b))

shorter_between : (opening closing : Symbol) (a b : List Token) → Shorter a b → Shorter (symbol opening ∷ (a ++ symbol closing ∷ [])) (symbol opening ∷ (b ++ symbol closing ∷ []))
shorter_between opening closing a b h =
    let ending = shorter_beside a b (symbol closing ∷ []) (symbol closing ∷ []) h (shorter_same (symbol closing)) in
    shorter_beside (symbol opening ∷ []) (symbol opening ∷ []) (a ++ symbol closing ∷ []) (b ++ symbol closing ∷ []) (shorter_same (symbol opening)) ending

no_space : (w : Bool) → token_gap w false ≡ []
no_space true = refl
no_space false = refl

bytes-round : (w : Bool) (b : List Token) → bytes w (symbol s.OpenRound ∷ (b ++ symbol s.CloseRound ∷ [])) ≡ bytes false b + 2
bytes-round w b =
    let e : bytes (last_worded false b) (symbol s.CloseRound ∷ []) ≡ 1 = ap (λ xs. length (xs ++ 41 ∷ [])) (no_space (last_worded false b)) in
    let f : bytes w (symbol s.OpenRound ∷ (b ++ symbol s.CloseRound ∷ [])) ≡ length (40 ∷ text_behind false (b ++ symbol s.CloseRound ∷ [])) =
    ap (λ xs. length (xs ++ (40 ∷ text_behind false (b ++ symbol s.CloseRound ∷ [])))) (no_space w) in
    omega (arith, e, f, bytes-append false b (symbol s.CloseRound ∷ []))

shorter_shed : (a b : List Token) → Shorter a b → Shorter a (symbol s.OpenRound ∷ (b ++ symbol s.CloseRound ∷ []))
shorter_shed a b h v w =
    omega (arith, h v false, bytes-round w b, owed_one v false, owed_one (last_worded v a) (last_worded false (b ++ symbol s.CloseRound ∷ [])))

pub shorter_sheds : Sheds Shorter
shorter_sheds = record {
  nothing = λ v w. omega arith;
  same = λ t n. shorter_same t;
  beside = shorter_beside;
  round = shorter_between s.OpenRound s.CloseRound;
  square = shorter_between s.OpenSquare s.CloseSquare;
  braces = shorter_between s.OpenBrace s.CloseBrace;
  shed = shorter_shed;
}

-- ---- a text has at least the bytes of the text of its tokens

first_twice : (xs : List ℕ) (bytes : List ℕ) → FirstIs goes_on_name xs → ¬ EndsBefore goes_on_name (xs ++ bytes)
first_twice [] bytes h k = h
first_twice (x ∷ xs) bytes h k = cc

not_worded : (t : Token) (bytes : List ℕ) → IsToken t → EndsBefore goes_on_name (token_spelling t ++ bytes) → (b : Bool) → is_worded t ≡ b → b ≡ false
not_worded t bytes is ends true h = absurd (first_twice (token_spelling t) bytes (worded_first t is h) ends)
not_worded t bytes is ends false h = refl

name_space : (t : Token) (bytes : List ℕ) → IsToken t → EndsBefore goes_on_name (token_spelling t ++ bytes) → token_gap true (is_worded t) ≡ []
name_space t bytes is ends = ap (token_gap true) (not_worded t bytes is ends (is_worded t) refl)

number_space : (b : Bool) → not b ≡ true → token_gap true b ≡ []
number_space true h = cc
number_space false h = refl

-- a token that ends before another, and is no number before a worded one, wants no space before it
no_space_between : (t u : Token) (bytes : List ℕ) → IsToken u → may_follow t u ≡ true → EndsBefore (token_goes_on t) (token_spelling u ++ bytes) → token_gap (is_worded t) (is_worded u) ≡ []
no_space_between (name x) u bytes is f ends = name_space u bytes is ends
no_space_between (class_name x) u bytes is f ends = name_space u bytes is ends
no_space_between (number n) u bytes is f ends = number_space (is_worded u) f
no_space_between (literal x) u bytes is f ends = refl
no_space_between (word v) u bytes is f ends = name_space u bytes is ends
no_space_between (symbol o) u bytes is f ends = refl

spaces : (u : Bool) (xs : List ℕ) → length (token_gap true u ++ xs) ≤ length xs + 1
spaces true xs = omega arith
spaces false xs = omega arith

-- a space more at most
one_space : (w : Bool) (ts : List Token) → bytes w ts ≤ bytes false ts + 1
one_space w [] = omega arith
one_space true (t ∷ ts) = spaces (is_worded t) (token_spelling t ++ text_behind (is_worded t) ts)
one_space false ts = omega arith

free_chain : (t u : Token) (ts : List Token) → Free u → Chain t ts → Chain u ts
free_chain t u [] free h = tt
free_chain t u (v ∷ ts) free h = (free v, h.1)

semicolon_ends : (bytes : List ℕ) → EndsBefore (token_goes_on (symbol s.Semicolon)) bytes
semicolon_ends [] = tt
semicolon_ends (b ∷ bytes) = refl

shortest_behind : (pieces : List Piece) (t : Token) → ArePieces pieces → Chain t (tokens_of pieces) → EndsPiece (a_token t) (spelling_of pieces) → bytes (is_worded t) (tokens_of pieces) ≤ length (spelling_of pieces)
shortest_behind [] t are h ends = omega arith
shortest_behind (blank b ∷ pieces) t are h ends =
    let more = shortest_behind pieces (symbol s.Semicolon) are.2 (free_chain t (symbol s.Semicolon) (tokens_of pieces) (λ u. refl) h) (semicolon_ends (spelling_of pieces)) in
    omega (arith, more, one_space (is_worded t) (tokens_of pieces))
shortest_behind (comment bs ∷ pieces) t are h ends =
    let more = shortest_behind pieces (symbol s.Semicolon) are.2 (free_chain t (symbol s.Semicolon) (tokens_of pieces) (λ u. refl) h) (semicolon_ends (spelling_of pieces)) in
    omega (arith, more, one_space (is_worded t) (tokens_of pieces), length-append bs (spelling_of pieces))
shortest_behind (a_token u ∷ pieces) t are h ends =
    let more = shortest_behind pieces u are.2 h.1 are.1 in
    let e = ap (λ xs. length (xs ++ (token_spelling u ++ text_behind (is_worded u) (tokens_of pieces)))) (no_space_between t u (spelling_of pieces) are.0 h.0 ends) in
    omega (arith, more, e, length-append (token_spelling u) (text_behind (is_worded u) (tokens_of pieces)), length-append (token_spelling u) (spelling_of pieces))

pub text_is_shortest : (ts : List Token) (text : List ℕ) → Chain (symbol s.Semicolon) ts → Divides ts text → length (text_behind false ts) ≤ length text
text_is_shortest ts text h divides =
    let chain = subst (Chain (symbol s.Semicolon)) (sym divides.3) h in
    let e = shortest_behind divides.0 (symbol s.Semicolon) divides.1 chain (semicolon_ends (spelling_of divides.0)) in
    omega (arith, e, ap (bytes false) divides.3, ap length divides.2)
