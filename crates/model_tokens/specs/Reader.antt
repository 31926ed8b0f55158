-- A reader of the piece at the front of a text. That it reads the division is proved apart.
use Rattle.std.specs.Prelude.{ℕ, zero, suc, pos, Bool, ◌+◌, ◌-◌, ◌*◌, ◌==◌, ◌&&◌, ◌||◌, nat_le, nat_lt, not, if◌then◌else◌, slice_index, List, [], ◌∷◌, take, drop, Option, Some, None}
use Rattle.std.specs.List.{prefix_len}
use Rattle.std.specs.Str.{bytes_eq, is_utf8, chars}
use Rattle.std.specs.Str.Parse.{digits_value}
use Rattle.model_tokens.specs.Bytes.{is_blank, is_digit, begins_name, begins_class_name, goes_on_name, goes_on_line, is_control}
use Rattle.model_tokens.specs.Spelling.{longest_name, spelled_word}
use Rattle.model_tokens.specs.Division.{Piece, blank, comment, a_token}
use Rattle.model_tokens.specs.declared.token.Token.{Token}
use Rattle.model_tokens.specs.declared.token.Token.TheVariants as token
use Rattle.model_tokens.specs.declared.token.Word.{Word}
use Rattle.model_tokens.specs.declared.token.Word.TheVariants as word
use Rattle.model_tokens.specs.declared.token.Symbol.{Symbol}
use Rattle.model_tokens.specs.declared.token.Symbol.TheVariants as symbol
use Rattle.model_tokens.specs.declared.bytes.ByteKind.{ByteKind}
use Rattle.model_tokens.specs.declared.bytes.ByteKind.TheVariants as kind

-- the piece, and the bytes behind it
abbrev pub TokenRead : Type 0
TokenRead = Option (Piece × List ℕ)

-- the bytes that pass the test, up to the first that does not, and those from there on
abbrev pub front : (ℕ → Bool) → List ℕ → List ℕ
front test text = take (prefix_len test text) text

abbrev pub rest_past : (ℕ → Bool) → List ℕ → List ℕ
rest_past test text = drop (prefix_len test text) text

-- what the first byte begins
abbrev pub kind_of : ℕ → ByteKind
kind_of byte =
    if is_blank byte then kind.Blank
    else (if is_digit byte then kind.Digit
    else (if begins_name byte || begins_class_name byte then kind.Letter
    else (if byte == 34 then kind.Quote
    else kind.Other)))

-- ---- names

abbrev pub word_among : List Word → List ℕ → Option Word
word_among [] bytes = None
word_among (word ∷ words) bytes = if bytes_eq bytes (spelled_word word) then Some word else word_among words bytes

abbrev pub every_word : List Word
every_word = word.Class ∷ word.Field ∷ word.Let ∷ word.If ∷ word.Else ∷ word.While ∷ word.Return ∷ word.This ∷ word.Nil
    ∷ word.True ∷ word.False ∷ word.Create ∷ word.Future ∷ []

abbrev pub token_of_name : Option Word → List ℕ → Token
token_of_name (Some word) bytes = token.Word word
token_of_name None bytes = if begins_class_name (slice_index bytes 0) then token.ClassName bytes else token.Name bytes

abbrev pub name_token_at : List ℕ → TokenRead
name_token_at text =
    if nat_lt longest_name (prefix_len goes_on_name text) then None
    else Some (
      a_token (token_of_name (word_among every_word (front goes_on_name text)) (front goes_on_name text)),
      rest_past goes_on_name text,
    )

-- ---- numbers

abbrev pub number_in_bounds : ℕ → List ℕ → TokenRead
number_in_bounds number rest =
    if nat_le number 9_223_372_036_854_775_807 then Some (a_token (token.Number (pos number)), rest) else None

abbrev pub number_token_at : List ℕ → TokenRead
number_token_at text =
    if slice_index text 0 == 48 then Some (a_token (token.Number (pos zero)), drop 1 text)
    else number_in_bounds (digits_value 10 (front is_digit text)) (rest_past is_digit text)

-- ---- text literals

abbrev pub hex_value : ℕ → Option ℕ
hex_value byte =
    if is_digit byte then Some (byte - 48)
    else (if nat_le 97 byte && nat_le byte 102 then Some (byte - 87)
    else None)

-- a byte, and how many bytes of its spelling stand behind the first
abbrev pub control_of : Option ℕ → Option ℕ → Option (ℕ × ℕ)
control_of None low = None
control_of (Some high) None = None
control_of (Some high) (Some low) =
    if is_control (high * 16 + low) && not (high * 16 + low == 10) then Some (high * 16 + low, 3) else None

abbrev pub control_at : List ℕ → Option (ℕ × ℕ)
control_at (high ∷ low ∷ bytes) = control_of (hex_value high) (hex_value low)
control_at _ = None

abbrev pub escape_at : List ℕ → Option (ℕ × ℕ)
escape_at [] = None
escape_at (byte ∷ bytes) =
    if byte == 34 then Some (34, 1)
    else (if byte == 92 then Some (92, 1)
    else (if byte == 110 then Some (10, 1)
    else (if byte == 120 then control_at bytes
    else None)))

abbrev pub literal_byte_at : List ℕ → Option (ℕ × ℕ)
literal_byte_at [] = None
literal_byte_at (byte ∷ bytes) =
    if byte == 92 then escape_at bytes
    else (if byte == 34 || is_control byte then None
    else Some (byte, 0))

abbrev pub with_front : ℕ → Option (List ℕ × List ℕ) → Option (List ℕ × List ℕ)
with_front byte None = None
with_front byte (Some found) = Some (byte ∷ found.0, found.1)

abbrev pub literal_step : ℕ → List ℕ → Option (ℕ × ℕ) → (ℕ → Option (List ℕ × List ℕ)) → Option (List ℕ × List ℕ)
literal_step byte bytes None more = if byte == 34 then Some ([], bytes) else None
literal_step byte bytes (Some found) more = with_front found.0 (more found.1)

-- what stands before the closing quote, and behind it; the first bytes are passed over
abbrev pub literal_at : ℕ → List ℕ → Option (List ℕ × List ℕ)
literal_at passed [] = None
literal_at (suc passed) (byte ∷ bytes) = literal_at passed bytes
literal_at zero (byte ∷ bytes) =
    literal_step byte bytes (literal_byte_at (byte ∷ bytes)) (λ passed. literal_at passed bytes)

-- the text of its bytes, if they are UTF-8
abbrev pub as_characters : Option (List ℕ × List ℕ) → Option (List ℕ × List ℕ)
as_characters None = None
as_characters (Some found) = if is_utf8 found.0 then Some (chars found.0, found.1) else None

-- the text whose literal stands there, all but its first quote, and what is behind the literal
abbrev pub literal_text_at : List ℕ → Option (List ℕ × List ℕ)
literal_text_at text = as_characters (literal_at zero text)

abbrev pub as_text : Option (List ℕ × List ℕ) → TokenRead
as_text None = None
as_text (Some found) = Some (a_token (token.Text found.0), found.1)

-- ---- symbols and comments

abbrev pub single_among : List (ℕ × Symbol) → ℕ → Option Symbol
single_among [] byte = None
single_among (row ∷ rows) byte = if byte == row.0 then Some row.1 else single_among rows byte

abbrev pub singles : List (ℕ × Symbol)
singles =
    (123, symbol.OpenBrace) ∷ (125, symbol.CloseBrace) ∷ (40, symbol.OpenRound) ∷ (41, symbol.CloseRound)
    ∷ (91, symbol.OpenSquare) ∷ (93, symbol.CloseSquare)
    ∷ (44, symbol.Comma) ∷ (59, symbol.Semicolon) ∷ (46, symbol.Dot) ∷ (61, symbol.Assign) ∷ (60, symbol.Less)
    ∷ (62, symbol.Greater)
    ∷ (43, symbol.Plus) ∷ (45, symbol.Minus) ∷ (42, symbol.Times) ∷ (47, symbol.Divide) ∷ (37, symbol.Rest)
    ∷ (33, symbol.Not) ∷ []

-- the symbol of two bytes
abbrev pub double_of : ℕ → ℕ → Option Symbol
double_of first second =
    if first == 61 && second == 61 then Some symbol.Same
    else (if first == 33 && second == 61 then Some symbol.Differs
    else (if first == 60 && second == 61 then Some symbol.AtMost
    else (if first == 62 && second == 61 then Some symbol.AtLeast
    else (if first == 38 && second == 38 then Some symbol.And
    else (if first == 124 && second == 124 then Some symbol.Or
    else None)))))

abbrev pub single_at : ℕ → List ℕ → Option Symbol → Option (Symbol × List ℕ)
single_at first rest (Some symbol) = Some (symbol, rest)
single_at first rest None = None

abbrev pub double_or : Option Symbol → ℕ → ℕ → List ℕ → Option (Symbol × List ℕ)
double_or (Some symbol) first second rest = Some (symbol, rest)
double_or None first second rest = single_at first (second ∷ rest) (single_among singles first)

-- the longest symbol at the front
abbrev pub symbol_at : List ℕ → Option (Symbol × List ℕ)
symbol_at [] = None
symbol_at (byte ∷ []) = single_at byte [] (single_among singles byte)
symbol_at (first ∷ second ∷ rest) = double_or (double_of first second) first second rest

-- what stands behind `//`
abbrev pub comment_at : List ℕ → Option (List ℕ)
comment_at (first ∷ second ∷ rest) = if first == 47 && second == 47 then Some rest else None
comment_at _ = None

abbrev pub as_symbol : Option (Symbol × List ℕ) → TokenRead
as_symbol None = None
as_symbol (Some found) = Some (a_token (token.Symbol found.0), found.1)

abbrev pub or_symbol : Option (List ℕ) → List ℕ → TokenRead
or_symbol (Some line) text = Some (comment (front goes_on_line line), rest_past goes_on_line line)
or_symbol None text = as_symbol (symbol_at text)

abbrev pub other_at : List ℕ → TokenRead
other_at text = or_symbol (comment_at text) text

-- ---- any piece

abbrev pub row : ByteKind → ℕ → List ℕ → TokenRead
row kind.Blank byte bytes = Some (blank byte, bytes)
row kind.Digit byte bytes = number_token_at (byte ∷ bytes)
row kind.Letter byte bytes = name_token_at (byte ∷ bytes)
row kind.Quote byte bytes = as_text (literal_text_at bytes)
row kind.Other byte bytes = other_at (byte ∷ bytes)

abbrev pub next_piece : List ℕ → TokenRead
next_piece [] = None
next_piece (byte ∷ bytes) = row (kind_of byte) byte bytes
