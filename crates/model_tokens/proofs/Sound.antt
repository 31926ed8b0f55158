-- What the reader reads is a piece that ends before what follows it.
use Rattle.std.proofs.Common.{◌≡◌, ◌≢◌, ℕ, zero, suc, pos, ◌<◌, ◌≤◌, Bool, true, false, ◌||◌, cond, List, [], ◌∷◌, ◌++◌, length, Option, Some, None, refl, sym, ap, ◌∙◌, subst, arith, one-add}
use Rattle.std.specs.Prelude.{nat_le, nat_lt, ◌==◌}
use Rattle.std.specs.List.{prefix_len, list_all}
use Rattle.std.specs.Str.Parse.{digits_value}
use Rattle.std.specs.Fmt.{decimal}
use Rattle.std.proofs.lemmas.Bool.Decides.{nat_tests}
use Rattle.std.proofs.lemmas.Fmt.{decimal_digit}
use Rattle.model_tokens.specs.Bytes.{is_blank, is_digit, begins_name, begins_class_name, goes_on_name, goes_on_line}
use Rattle.model_tokens.specs.Spelling.{longest_name, spelled_word}
use Rattle.model_tokens.specs.Division.{Piece, blank, comment, a_token, spelling, IsPiece, EndsPiece, EndsBefore, number_goes_on}
use Rattle.model_tokens.specs.Reader.{TokenRead, front, rest_past, kind_of, word_among, every_word, token_of_name, number_in_bounds, literal_text_at, as_text, symbol_at, comment_at, as_symbol, or_symbol, row, next_piece}
use Rattle.model_tokens.specs.declared.token.Token.TheVariants as token
use Rattle.model_tokens.specs.declared.token.Word.{Word}
use Rattle.model_tokens.specs.declared.token.Symbol.{Symbol}
use Rattle.model_tokens.specs.declared.bytes.ByteKind.{ByteKind}
use Rattle.model_tokens.specs.declared.bytes.ByteKind.TheVariants as kind
use Rattle.model_tokens.proofs.Lists.{whole_is, front_all, ends_behind, length_of_front}
use Rattle.model_tokens.proofs.NameLaws.{among_spells, among_every, begins_letter, letter_begins}
use Rattle.model_tokens.proofs.NumberLaws.{NumberRead, digits_read, kind_digit}
use Rattle.model_tokens.proofs.LiteralLaws.{literal_only}
use Rattle.model_tokens.proofs.SymbolLaws.{symbol_read, comment_read}

-- the text begins with the piece, and goes on so
pub record Begins (text : List ℕ) (piece : Piece) (rest : List ℕ) : Type 0 where
  pub whole : spelling piece ++ rest ≡ text
  pub is : IsPiece piece
  pub ends : EndsPiece piece rest

pub same_read : (p q : Piece) (a b : List ℕ) → ◌≡◌ {A = TokenRead} (Some (p, a)) (Some (q, b)) → (p ≡ q) × (a ≡ b)
same_read p q a b h =
    let e : ◌≡◌ {A = Piece × List ℕ} (p, a) (q, b) = cc in
    (ap (λ q. q.0) e, ap (λ q. q.1) e)

-- what is read is this
found : (text : List ℕ) (p q : Piece) (a b : List ℕ) → ◌≡◌ {A = TokenRead} (Some (p, a)) (Some (q, b)) → Begins text p a → Begins text q b
found text p q a b h is =
    let e = same_read p q a b h in
    subst (λ r. Begins text r b) e.0 (subst (λ c. Begins text p c) e.1 is)

blank_if : (byte : ℕ) (b : Bool) → is_blank byte ≡ b → kind_of byte ≡ kind.Blank → is_blank byte ≡ true
blank_if byte true h k = h
blank_if byte false h k = grind (arith, nat_tests)

zero_ends : (rest : List ℕ) → EndsBefore (number_goes_on (pos zero)) rest
zero_ends [] = tt
zero_ends (b ∷ rest) = refl

text_ends : (cs rest : List ℕ) → EndsPiece (a_token (token.Text cs)) rest
text_ends cs [] = tt
text_ends cs (b ∷ rest) = refl

blank_ends : (byte : ℕ) (rest : List ℕ) → EndsPiece (blank byte) rest
blank_ends byte [] = tt
blank_ends byte (b ∷ rest) = refl

-- ---- names

not_word : (name : List ℕ) → word_among every_word name ≡ None → (w : Word) → name ≢ spelled_word w
not_word name none w e =
    let some : word_among every_word name ≡ Some w = ap (word_among every_word) e ∙ among_every w in
    cc

either_name : (a b : Bool) → (a || b) ≡ true → b ≡ false → a ≡ true
either_name true b h n = refl
either_name false b h n = cc

name_if : (byte : ℕ) (bytes : List ℕ) (rest : List ℕ) (text : List ℕ) → (byte ∷ bytes) ++ rest ≡ text → EndsBefore goes_on_name rest → list_all goes_on_name bytes ≡ true → length bytes < longest_name → (begins_name byte || begins_class_name byte) ≡ true
    → word_among every_word (byte ∷ bytes) ≡ None → (b : Bool) → begins_class_name byte ≡ b → Begins text (a_token (cond b (token.ClassName (byte ∷ bytes)) (token.Name (byte ∷ bytes)))) rest
name_if byte bytes rest text whole ends all short begins none true hb = record { whole = whole; is = (hb, all, short); ends = ends }
name_if byte bytes rest text whole ends all short begins none false hb =
    record { whole = whole; is = ((either_name (begins_name byte) (begins_class_name byte) begins hb, all, short), not_word (byte ∷ bytes) none); ends = ends }

name_named : (byte : ℕ) (bytes : List ℕ) (rest : List ℕ) (text : List ℕ) → (byte ∷ bytes) ++ rest ≡ text → EndsBefore goes_on_name rest → list_all goes_on_name bytes ≡ true → length bytes < longest_name → (begins_name byte || begins_class_name byte) ≡ true
    → (o : Option Word) → word_among every_word (byte ∷ bytes) ≡ o → Begins text (a_token (token_of_name o (byte ∷ bytes))) rest
name_named byte bytes rest text whole ends all short begins (Some w) e =
    record { whole = ap (λ xs. xs ++ rest) (sym (among_spells every_word (byte ∷ bytes) w e)) ∙ whole; is = tt; ends = ends }
name_named byte bytes rest text whole ends all short begins None e = name_if byte bytes rest text whole ends all short begins e (begins_class_name byte) refl

name_found : (text name same left : List ℕ) (piece : Piece) (rest : List ℕ) → name ≡ same → ◌≡◌ {A = TokenRead} (Some (a_token (token_of_name (word_among every_word same) same), left)) (Some (piece, rest)) → Begins text (a_token (token_of_name (word_among every_word name) name)) left → Begins text piece rest
name_found text name same left piece rest e h is =
    let wrap : List ℕ → TokenRead = λ xs. Some (a_token (token_of_name (word_among every_word xs) xs), left) in
    found text (a_token (token_of_name (word_among every_word name) name)) piece left rest (ap wrap e ∙ h) is

name_read_if : (byte : ℕ) (bytes : List ℕ) (piece : Piece) (rest : List ℕ) (len : ℕ) (b : Bool) → nat_lt longest_name len ≡ b → prefix_len goes_on_name (byte ∷ bytes) ≡ len → (begins_name byte || begins_class_name byte) ≡ true → goes_on_name byte ≡ true
    → cond {A = TokenRead} b None (Some (a_token (token_of_name (word_among every_word (front goes_on_name (byte ∷ bytes))) (front goes_on_name (byte ∷ bytes))), rest_past goes_on_name (byte ∷ bytes))) ≡ Some (piece, rest) → Begins (byte ∷ bytes) piece rest
name_read_if byte bytes piece rest len true hb e begins goes h = cc
name_read_if byte bytes piece rest len false hb e begins goes h =
    let is_front : front goes_on_name (byte ∷ bytes) ≡ byte ∷ front goes_on_name bytes = rw goes (rw (one-add (prefix_len goes_on_name bytes)) refl) in
    let counted : length (front goes_on_name (byte ∷ bytes)) ≡ prefix_len goes_on_name (byte ∷ bytes) = length_of_front goes_on_name (byte ∷ bytes) in
    let longer : suc (length (front goes_on_name bytes)) ≡ len = ap length (sym is_front) ∙ counted ∙ e in
    let short : length (front goes_on_name bytes) < longest_name = grind (arith, nat_tests) in
    let whole : (byte ∷ front goes_on_name bytes) ++ rest_past goes_on_name (byte ∷ bytes) ≡ byte ∷ bytes = ap (λ xs. xs ++ rest_past goes_on_name (byte ∷ bytes)) (sym is_front) ∙ whole_is goes_on_name (byte ∷ bytes) in
    let read = name_named byte (front goes_on_name bytes) (rest_past goes_on_name (byte ∷ bytes)) (byte ∷ bytes) whole (ends_behind goes_on_name (byte ∷ bytes)) (front_all goes_on_name bytes) short begins (word_among every_word (byte ∷ front goes_on_name bytes)) refl in
    name_found (byte ∷ bytes) (byte ∷ front goes_on_name bytes) (front goes_on_name (byte ∷ bytes)) (rest_past goes_on_name (byte ∷ bytes)) piece rest (sym is_front) h read

-- ---- numbers

number_found : (text : List ℕ) (n : ℕ) (rest : List ℕ) → NumberRead text n rest → Begins text (a_token (token.Number (pos n))) rest
number_found text n rest h = record { whole = h.whole; is = (n, h.small, refl); ends = h.ends }

valued_if : (text : List ℕ) (d : ℕ) (ds : List ℕ) (piece : Piece) (rest : List ℕ) (b : Bool) → front is_digit text ≡ d ∷ ds → (d == 48) ≡ false → nat_le (digits_value 10 (d ∷ ds)) 9_223_372_036_854_775_807 ≡ b
    → cond {A = TokenRead} b (Some (a_token (token.Number (pos (digits_value 10 (d ∷ ds)))), rest_past is_digit text)) None ≡ Some (piece, rest) → Begins text piece rest
valued_if text d ds piece rest true e nonzero hb h =
    let n : ℕ = digits_value 10 (d ∷ ds) in
    let small : digits_value 10 (d ∷ ds) ≤ 9_223_372_036_854_775_807 = grind (arith, nat_tests) in
    found text (a_token (token.Number (pos (digits_value 10 (d ∷ ds))))) piece (rest_past is_digit text) rest h (number_found text (digits_value 10 (d ∷ ds)) (rest_past is_digit text) (digits_read text d ds e nonzero small))
valued_if text d ds piece rest false e nonzero hb h = cc

number_if : (d : ℕ) (bytes : List ℕ) (piece : Piece) (rest : List ℕ) (b : Bool) → (d == 48) ≡ b → is_digit d ≡ true
    → cond {A = TokenRead} b (Some (a_token (token.Number (pos zero)), bytes)) (number_in_bounds (digits_value 10 (front is_digit (d ∷ bytes))) (rest_past is_digit (d ∷ bytes))) ≡ Some (piece, rest) → Begins (d ∷ bytes) piece rest
number_if d bytes piece rest true hb digit h =
    let at : 48 ≡ d = grind (arith, nat_tests) in
    let zero_is : decimal 0 ≡ 48 ∷ [] = decimal_digit 0 (omega arith) in
    found (d ∷ bytes) (a_token (token.Number (pos zero))) piece bytes rest h (record { whole = ap (λ xs. xs ++ bytes) zero_is ∙ ap (λ n. n ∷ bytes) at; is = (zero, omega arith, refl); ends = zero_ends bytes })
number_if d bytes piece rest false hb digit h =
    let is_front : front is_digit (d ∷ bytes) ≡ d ∷ front is_digit bytes = rw digit (rw (one-add (prefix_len is_digit bytes)) refl) in
    valued_if (d ∷ bytes) d (front is_digit bytes) piece rest (nat_le (digits_value 10 (d ∷ front is_digit bytes)) 9_223_372_036_854_775_807) is_front hb refl (ap (λ xs. number_in_bounds (digits_value 10 xs) (rest_past is_digit (d ∷ bytes))) (sym is_front) ∙ h)

-- ---- text literals

text_found : (text : List ℕ) (piece : Piece) (rest : List ℕ) (o : Option (List ℕ × List ℕ)) → literal_text_at text ≡ o → as_text o ≡ Some (piece, rest) → Begins (34 ∷ text) piece rest
text_found text piece rest None e h = cc
text_found text piece rest (Some read) e h =
    let is = literal_only text read.0 read.1 e in
    found (34 ∷ text) (a_token (token.Text read.0)) piece read.1 rest h (record { whole = is.whole; is = is.scalars; ends = text_ends read.0 read.1 })

-- ---- symbols and comments

symbol_found : (text : List ℕ) (piece : Piece) (rest : List ℕ) (o : Option (Symbol × List ℕ)) → comment_at text ≡ None → symbol_at text ≡ o → as_symbol o ≡ Some (piece, rest) → Begins text piece rest
symbol_found text piece rest None c e h = cc
symbol_found text piece rest (Some read) c e h =
    let s = symbol_read text read.0 read.1 c e in
    found text (a_token (token.Symbol read.0)) piece read.1 rest h (record { whole = s.whole; is = tt; ends = s.ends })

other_found : (text : List ℕ) (piece : Piece) (rest : List ℕ) (o : Option (List ℕ)) → comment_at text ≡ o → or_symbol o text ≡ Some (piece, rest) → Begins text piece rest
other_found text piece rest None e h = symbol_found text piece rest (symbol_at text) e refl h
other_found text piece rest (Some line) e h =
    found text (comment (front goes_on_line line)) piece (rest_past goes_on_line line) rest h (record {
      whole = ap (λ xs. 47 ∷ 47 ∷ xs) (whole_is goes_on_line line) ∙ sym (comment_read text line e);
      is = front_all goes_on_line line;
      ends = ends_behind goes_on_line line;
    })

-- ---- any piece

quote_kind : (byte : ℕ) → kind_of byte ≡ kind.Quote → 34 ≡ byte
quote_kind byte h = grind (arith, nat_tests)

row_sound : (k : ByteKind) (byte : ℕ) (bytes : List ℕ) (piece : Piece) (rest : List ℕ) → kind_of byte ≡ k → row k byte bytes ≡ Some (piece, rest) → Begins (byte ∷ bytes) piece rest
row_sound kind.Blank byte bytes piece rest e h = found (byte ∷ bytes) (blank byte) piece bytes rest h (record { whole = refl; is = blank_if byte (is_blank byte) refl e; ends = blank_ends byte bytes })
row_sound kind.Digit byte bytes piece rest e h = number_if byte bytes piece rest (byte == 48) refl (kind_digit byte e) h
row_sound kind.Letter byte bytes piece rest e h =
    let begins = letter_begins byte e in
    name_read_if byte bytes piece rest (prefix_len goes_on_name (byte ∷ bytes)) (nat_lt longest_name (prefix_len goes_on_name (byte ∷ bytes))) refl refl begins (begins_letter byte begins).1 h
row_sound kind.Quote byte bytes piece rest e h = subst (λ n. Begins (n ∷ bytes) piece rest) (quote_kind byte e) (text_found bytes piece rest (literal_text_at bytes) refl h)
row_sound kind.Other byte bytes piece rest e h = other_found (byte ∷ bytes) piece rest (comment_at (byte ∷ bytes)) refl h

pub sound : (text : List ℕ) (piece : Piece) (rest : List ℕ) → next_piece text ≡ Some (piece, rest) → Begins text piece rest
sound [] piece rest h = cc
sound (byte ∷ bytes) piece rest h = row_sound (kind_of byte) byte bytes piece rest refl h
