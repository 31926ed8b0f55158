-- How a text is divided into tokens.
use Rattle.std.specs.Prelude.{◌≡◌, ℕ, ℤ, pos, zero, Bool, true, false, ◌==◌, List, [], ◌∷◌, flat_map, Result, Ok, Err}
use Rattle.std.specs.List.{list_all}
use Rattle.model_tokens.specs.Bytes.{is_blank, is_digit, goes_on_name, goes_on_line}
use Rattle.model_tokens.specs.Spelling.{token_spelling, IsToken}
use Rattle.model_tokens.specs.declared.token.Token.{Token}
use Rattle.model_tokens.specs.declared.token.Token.TheVariants as token
use Rattle.model_tokens.specs.declared.token.Symbol.{Symbol}
use Rattle.model_tokens.specs.declared.token.Symbol.TheVariants as symbol
use Rattle.model_tokens.specs.declared.dividing.TokenFault.{TokenFault}
use Rattle.model_tokens.specs.declared.dividing.TokenFault.TheVariants.{NoToken, WantOfMemory}

-- a blank, a comment with its bytes behind `//`, or a token
pub data Piece : Type 0 where
  blank : ℕ → Piece
  comment : List ℕ → Piece
  a_token : Token → Piece

abbrev pub spelling : Piece → List ℕ
spelling (blank byte) = byte ∷ []
spelling (comment bytes) = 47 ∷ 47 ∷ bytes
spelling (a_token token) = token_spelling token

abbrev pub IsPiece : Piece → Type 0
IsPiece (blank byte) = is_blank byte ≡ true
IsPiece (comment bytes) = list_all goes_on_line bytes ≡ true
IsPiece (a_token token) = IsToken token

-- The bytes that make a longer symbol, or a comment, of this one. `&` and `|` alone are no symbols.
abbrev pub symbol_goes_on : Symbol → ℕ → Bool
symbol_goes_on symbol.Assign byte = byte == 61
symbol_goes_on symbol.Not byte = byte == 61
symbol_goes_on symbol.Less byte = byte == 61
symbol_goes_on symbol.Greater byte = byte == 61
symbol_goes_on symbol.Divide byte = byte == 47
symbol_goes_on _ byte = false

-- no digit goes on with 0
abbrev pub number_goes_on : ℤ → ℕ → Bool
number_goes_on (pos zero) byte = false
number_goes_on number byte = is_digit byte

abbrev pub token_goes_on : Token → ℕ → Bool
token_goes_on (token.Name name) byte = goes_on_name byte
token_goes_on (token.ClassName name) byte = goes_on_name byte
token_goes_on (token.Number number) byte = number_goes_on number byte
token_goes_on (token.Text characters) byte = false
token_goes_on (token.Word word) byte = goes_on_name byte
token_goes_on (token.Symbol symbol) byte = symbol_goes_on symbol byte

-- the bytes that would go on with this piece
abbrev pub goes_on : Piece → ℕ → Bool
goes_on (blank _) byte = false
goes_on (comment bytes) byte = goes_on_line byte
goes_on (a_token token) byte = token_goes_on token byte

-- no longer piece begins here: what stands behind this one does not go on with it
abbrev pub EndsBefore : (ℕ → Bool) → List ℕ → Type 0
EndsBefore goes [] = Unit {0}
EndsBefore goes (byte ∷ bytes) = goes byte ≡ false

abbrev pub EndsPiece : Piece → List ℕ → Type 0
EndsPiece piece behind = EndsBefore (goes_on piece) behind

abbrev pub spelling_of : List Piece → List ℕ
spelling_of = flat_map spelling

-- each is a piece, and ends before what follows it
abbrev pub ArePieces : List Piece → Type 0
ArePieces [] = Unit {0}
ArePieces (piece ∷ pieces) = IsPiece piece × EndsPiece piece (spelling_of pieces) × ArePieces pieces

abbrev pub token_of : Piece → List Token
token_of (blank _) = []
token_of (comment _) = []
token_of (a_token token) = token ∷ []

-- the tokens in order
abbrev pub tokens_of : List Piece → List Token
tokens_of = flat_map token_of

-- the text is pieces one behind the other, and these are the tokens among them
abbrev pub Divides : List Token → List ℕ → Type 0
Divides tokens text = (pieces : List Piece) × ArePieces pieces × (spelling_of pieces ≡ text)
    × (tokens_of pieces ≡ tokens)

-- the tokens that the text is divided into, or that it is divided into none
abbrev pub Tokenizes : Result (List Token) TokenFault → List ℕ → Type 0
Tokenizes (Ok tokens) text = Divides tokens text
Tokenizes (Err NoToken) text = (tokens : List Token) → ¬ Divides tokens text
Tokenizes (Err WantOfMemory) text = Unit {0}
