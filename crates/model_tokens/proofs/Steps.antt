-- A text is divided piece by piece, from the left.
use Rattle.std.proofs.Common.{◌≡◌, ◌≢◌, ℕ, ◌<◌, List, [], ◌∷◌, ◌++◌, length, Option, Some, None, Err, refl, sym, ap, ◌∙◌, subst, arith, append_assoc, append-nil, length-append}
use Rattle.model_tokens.specs.Division.{Piece, blank, comment, a_token, spelling, spelling_of, IsPiece, ArePieces, token_of, tokens_of, Divides, Tokenizes}
use Rattle.model_tokens.specs.Reader.{TokenRead, next_piece}
use Rattle.model_tokens.specs.Answer.{token_in, token_found, ReadsPiece}
use Rattle.model_tokens.specs.declared.token.Token.{Token}
use Rattle.model_tokens.specs.declared.dividing.TokenFault.{TokenFault}
use Rattle.model_tokens.specs.declared.dividing.TokenFault.TheVariants.{NoToken, WantOfMemory}
use Rattle.model_tokens.proofs.Complete.{complete}
use Rattle.model_tokens.proofs.Sound.{Begins, sound, same_read}

-- a piece before a text that is divided
pub piece_before : (text : List ℕ) (piece : Piece) (rest : List ℕ) (ts : List Token) → next_piece text ≡ Some (piece, rest) → Divides ts rest → Divides (token_of piece ++ ts) text
piece_before text piece rest ts read divided =
    let b = sound text piece rest read in
    let e : spelling_of divided.0 ≡ rest = divided.2 in
    let ends = subst (λ xs. Begins text piece xs) (sym e) b in
    (piece ∷ divided.0, (ends.is, ends.ends, divided.1), ends.whole, ap (λ us. token_of piece ++ us) divided.3)

-- what is read of a text that is divided
read_first : (piece : Piece) (pieces : List Piece) (text : List ℕ) → ArePieces (piece ∷ pieces) → spelling_of (piece ∷ pieces) ≡ text → next_piece text ≡ Some (piece, spelling_of pieces)
read_first piece pieces text are e = ap next_piece (sym e) ∙ complete piece (spelling_of pieces) are.0 are.1

-- ---- one division

no_pieces : (piece : Piece) (pieces : List Piece) → ArePieces (piece ∷ pieces) → spelling_of (piece ∷ pieces) ≢ []
no_pieces piece pieces are e =
    let read : next_piece [] ≡ Some (piece, spelling_of pieces) = read_first piece pieces [] are e in
    cc

one_list : (ps qs : List Piece) → ArePieces ps → ArePieces qs → spelling_of ps ≡ spelling_of qs → tokens_of ps ≡ tokens_of qs
one_list [] [] a b e = refl
one_list [] (q ∷ qs) a b e = absurd (no_pieces q qs b (sym e))
one_list (p ∷ ps) [] a b e = absurd (no_pieces p ps a e)
one_list (p ∷ ps) (q ∷ qs) a b e =
    let left = read_first p ps (spelling_of (q ∷ qs)) a e in
    let right = read_first q qs (spelling_of (q ∷ qs)) b refl in
    let same = same_read p q (spelling_of ps) (spelling_of qs) (sym left ∙ right) in
    ap (λ r. token_of r ++ tokens_of ps) same.0 ∙ ap (λ us. token_of q ++ us) (one_list ps qs a.2 b.2 same.1)

pub one : (text : List ℕ) (ts us : List Token) → Divides ts text → Divides us text → ts ≡ us
one text ts us d e = sym d.3 ∙ one_list d.0 e.0 d.1 e.1 (d.2 ∙ sym e.2) ∙ e.3

-- ---- the loop over the pieces

-- With these tokens taken, the rest is left of the text: each division of the rest goes on one of the text, and where the text is divided the rest is.
pub record Leaves (ts : List Token) (rest text : List ℕ) : Type 0 where
  pub forth : (us : List Token) → Divides us rest → Divides (ts ++ us) text
  pub back : (us : List Token) → Divides us text → (vs : List Token) × Divides vs rest

pub at_start : (text : List ℕ) → Leaves [] text text
at_start text = record { forth = λ us d. d; back = λ us d. (us, d) }

divided_rest : (text : List ℕ) (piece : Piece) (rest : List ℕ) (us : List Token) → next_piece text ≡ Some (piece, rest) → (ps : List Piece) → ArePieces ps → spelling_of ps ≡ text → (vs : List Token) × Divides vs rest
divided_rest text piece rest us read [] are e =
    let none : next_piece [] ≡ Some (piece, rest) = ap next_piece e ∙ read in
    absurd cc
divided_rest text piece rest us read (p ∷ ps) are e =
    let same = same_read p piece (spelling_of ps) rest (sym (read_first p ps text are e) ∙ read) in
    (tokens_of ps, (ps, are.2, same.1, refl))

pub one_more : (ts : List Token) (rest text : List ℕ) (piece : Piece) (behind : List ℕ) → Leaves ts rest text → next_piece rest ≡ Some (piece, behind) → Leaves (ts ++ token_of piece) behind text
one_more ts rest text piece behind leaves read = record {
  forth = λ us d. subst (λ vs. Divides vs text) (sym (append_assoc ts (token_of piece) us)) (leaves.forth (token_of piece ++ us) (piece_before rest piece behind us read d));
  back = λ us d. (
      let v = leaves.back us d in
      divided_rest rest piece behind v.0 read v.1.0 v.1.1 v.1.2);
}

pub at_end : (ts : List Token) (text : List ℕ) → Leaves ts [] text → Divides ts text
at_end ts text leaves = subst (λ us. Divides us text) (append-nil ts) (leaves.forth [] ([], tt, refl, refl))

undivided : (rest : List ℕ) → next_piece rest ≡ None → rest ≢ [] → (ps : List Piece) → ArePieces ps → spelling_of ps ≢ rest
undivided rest none some [] are e = some (sym e)
undivided rest none some (p ∷ ps) are e =
    let read = read_first p ps rest are e in
    cc

pub no_more : (ts : List Token) (rest text : List ℕ) → Leaves ts rest text → next_piece rest ≡ None → rest ≢ [] → (us : List Token) → ¬ Divides us text
no_more ts rest text leaves none some us d =
    let v = leaves.back us d in
    undivided rest none some v.1.0 v.1.1 v.1.2

-- each piece is spelled with a byte at least
some_bytes : (piece : Piece) → IsPiece piece → spelling piece ≢ []
some_bytes piece is e =
    let read : next_piece [] ≡ Some (piece, []) = ap (λ xs. next_piece (xs ++ [])) (sym e) ∙ complete piece [] is tt in
    cc

shorter_by : (front rest text : List ℕ) → front ++ rest ≡ text → front ≢ [] → length rest < length text
shorter_by [] rest text e some = absurd (some refl)
shorter_by (b ∷ front) rest text e some = omega (arith, ap length (sym e), length-append front rest)

pub shorter : (text : List ℕ) (piece : Piece) (rest : List ℕ) → next_piece text ≡ Some (piece, rest) → length rest < length text
shorter text piece rest read =
    let b = sound text piece rest read in
    shorter_by (spelling piece) rest text b.whole (some_bytes piece b.is)

-- ---- what the code sees of the piece

seen_is : (read : TokenRead) (found : Option Token) (behind : List ℕ) → token_found read ≡ Some (found, behind) → (piece : Piece) × (read ≡ Some (piece, behind)) × (token_in piece ≡ found)
seen_is None found behind h = cc
seen_is (Some r) found behind h =
    let p : ◌≡◌ {A = Option Token × List ℕ} (token_in r.0, r.1) (found, behind) = cc in
    let wrap : List ℕ → TokenRead = λ xs. Some (r.0, xs) in
    (r.0, ap wrap (ap (λ q. q.1) p), ap (λ q. q.0) p)

abbrev listed : Option Token → List Token
listed None = []
listed (Some token) = token ∷ []

token_listed : (piece : Piece) → token_of piece ≡ listed (token_in piece)
token_listed (blank _) = refl
token_listed (comment _) = refl
token_listed (a_token token) = refl

taken_more : (ts : List Token) (rest text : List ℕ) (found : Option Token) (behind : List ℕ) → Leaves ts rest text → token_found (next_piece rest) ≡ Some (found, behind) → Leaves (ts ++ listed found) behind text
taken_more ts rest text found behind leaves h =
    let s = seen_is (next_piece rest) found behind h in
    subst (λ us. Leaves (ts ++ us) behind text) (token_listed s.0 ∙ ap listed s.2) (one_more ts rest text s.0 behind leaves s.1)

pub none_taken : (ts : List Token) (rest text : List ℕ) (found : Option Token) (behind : List ℕ) → Leaves ts rest text → token_found (next_piece rest) ≡ Some (found, behind) → found ≡ None → Leaves ts behind text
none_taken ts rest text found behind leaves h e = subst (λ us. Leaves us behind text) (append-nil ts) (subst (λ o. Leaves (ts ++ listed o) behind text) e (taken_more ts rest text found behind leaves h))

pub some_taken : (ts : List Token) (rest text : List ℕ) (found : Option Token) (token : Token) (behind : List ℕ) → Leaves ts rest text → token_found (next_piece rest) ≡ Some (found, behind) → found ≡ Some token → Leaves (ts ++ token ∷ []) behind text
some_taken ts rest text found token behind leaves h e = subst (λ o. Leaves (ts ++ listed o) behind text) e (taken_more ts rest text found behind leaves h)

pub seen_shorter : (text : List ℕ) (found : Option Token) (rest : List ℕ) → token_found (next_piece text) ≡ Some (found, rest) → length rest < length text
seen_shorter text found rest h =
    let s = seen_is (next_piece text) found rest h in
    shorter text s.0 rest s.1

-- ---- at the end of the loop

no_bytes : (rest : List ℕ) → length rest ≡ 0 → rest ≡ []
no_bytes [] e = refl
no_bytes (b ∷ rest) e = absurd (omega arith)

pub all_taken : (ts : List Token) (rest text : List ℕ) → Leaves ts rest text → length rest ≡ 0 → Divides ts text
all_taken ts rest text leaves e = at_end ts text (subst (λ xs. Leaves ts xs text) (no_bytes rest e) leaves)

pub not_divided : (ts : List Token) (rest text : List ℕ) (fault : TokenFault) → Leaves ts rest text → ReadsPiece (Err fault) (next_piece rest) → 0 < length rest → Tokenizes (Err fault) text
not_divided ts rest text NoToken leaves read some = no_more ts rest text leaves read (λ e. (let none : length rest ≡ 0 = ap length e in absurd (omega arith)))
not_divided ts rest text WantOfMemory leaves read some = tt
