-- What the code answers, beside what the reader reads.
use Rattle.std.specs.Prelude.{◌≡◌, ℕ, true, false, List, Option, Some, None, Result, Ok, Err, Vec}
use Rattle.std.specs.Str.{is_utf8, chars}
use Rattle.std.specs.Borrow.{Bor}
use Rattle.std.specs.declared.alloc.Global.{Global}
use Rattle.model_tokens.specs.Division.{Piece, blank, comment, a_token}
use Rattle.model_tokens.specs.Reader.{TokenRead, as_symbol}
use Rattle.model_tokens.specs.declared.token.Token.{Token}
use Rattle.model_tokens.specs.declared.token.Symbol.{Symbol}
use Rattle.model_tokens.specs.declared.dividing.TokenFault.{TokenFault}
use Rattle.model_tokens.specs.declared.dividing.TokenFault.TheVariants.{NoToken, WantOfMemory}

-- a token, and the bytes behind it
abbrev pub ReadsToken : Result (Token × Bor (List ℕ)) TokenFault → TokenRead → Type 0
ReadsToken (Ok found) read = read ≡ Some (a_token found.0, found.1.now)
ReadsToken (Err NoToken) read = read ≡ None
ReadsToken (Err WantOfMemory) read = Unit {0}

abbrev pub token_in : Piece → Option Token
token_in (blank _) = None
token_in (comment _) = None
token_in (a_token token) = Some token

abbrev pub token_found : TokenRead → Option (Option Token × List ℕ)
token_found None = None
token_found (Some found) = Some (token_in found.0, found.1)

-- a token if the piece is one, and the bytes behind the piece
abbrev pub ReadsPiece : Result (Option Token × Bor (List ℕ)) TokenFault → TokenRead → Type 0
ReadsPiece (Ok found) read = token_found read ≡ Some (found.0, found.1.now)
ReadsPiece (Err NoToken) read = read ≡ None
ReadsPiece (Err WantOfMemory) read = Unit {0}

-- a symbol, and the bytes behind it
abbrev pub FindsSymbolAt : Option (Token × Bor (List ℕ)) → Option (Symbol × List ℕ) → Type 0
FindsSymbolAt None read = read ≡ None
FindsSymbolAt (Some found) read = as_symbol read ≡ Some (a_token found.0, found.1.now)

abbrev pub FindsComment : Option (Bor (List ℕ)) → Option (List ℕ) → Type 0
FindsComment None read = read ≡ None
FindsComment (Some rest) read = read ≡ Some rest.now

-- the bytes of a text literal, and those behind it
abbrev pub ReadsBytes : Result (Vec ℕ Global × Bor (List ℕ)) TokenFault → Option (List ℕ × List ℕ) → Type 0
ReadsBytes (Ok found) read = read ≡ Some (found.0.items, found.1.now)
ReadsBytes (Err NoToken) read = read ≡ None
ReadsBytes (Err WantOfMemory) read = Unit {0}

-- the text of a literal, and the bytes behind it
abbrev pub ReadsLiteral : Result (List ℕ × Bor (List ℕ)) TokenFault → Option (List ℕ × List ℕ) → Type 0
ReadsLiteral (Ok found) read = read ≡ Some (found.0, found.1.now)
ReadsLiteral (Err NoToken) read = read ≡ None
ReadsLiteral (Err WantOfMemory) read = Unit {0}

-- the characters of a text's bytes
abbrev pub ReadsText : Result (List ℕ) TokenFault → List ℕ → Type 0
ReadsText (Ok text) bytes = (is_utf8 bytes ≡ true) × (text ≡ chars bytes)
ReadsText (Err NoToken) bytes = is_utf8 bytes ≡ false
ReadsText (Err WantOfMemory) bytes = Unit {0}

-- the token of a name
abbrev pub ReadsNamed : Result Token TokenFault → Token → Type 0
ReadsNamed (Ok token) named = token ≡ named
ReadsNamed (Err NoToken) named = ⊥
ReadsNamed (Err WantOfMemory) named = Unit {0}
