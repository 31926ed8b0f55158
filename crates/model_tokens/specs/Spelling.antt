-- How each token is spelled.
use Rattle.std.specs.Prelude.{◌≡◌, ◌≢◌, ℕ, pos, ◌+◌, ◌/◌, ◌%◌, ◌<◌, ◌≤◌, Bool, true, ◌==◌, nat_lt, if◌then◌else◌, List, [], ◌∷◌, ◌++◌, length, flat_map, codes, encode_utf8}
use Rattle.std.specs.List.{list_all}
use Rattle.std.specs.Str.{all_scalars}
use Rattle.std.specs.Fmt.{signed_decimal}
use Rattle.model_tokens.specs.Bytes.{begins_name, begins_class_name, goes_on_name, is_control}
use Rattle.model_tokens.specs.declared.token.Token.{Token}
use Rattle.model_tokens.specs.declared.token.Token.TheVariants as token
use Rattle.model_tokens.specs.declared.token.Word.{Word}
use Rattle.model_tokens.specs.declared.token.Word.TheVariants as word
use Rattle.model_tokens.specs.declared.token.Symbol.{Symbol}
use Rattle.model_tokens.specs.declared.token.Symbol.TheVariants as symbol

abbrev pub spelled_word : Word → List ℕ
spelled_word word.Class = codes "class"
spelled_word word.Field = codes "field"
spelled_word word.Let = codes "let"
spelled_word word.If = codes "if"
spelled_word word.Else = codes "else"
spelled_word word.While = codes "while"
spelled_word word.Return = codes "return"
spelled_word word.This = codes "this"
spelled_word word.Nil = codes "nil"
spelled_word word.True = codes "true"
spelled_word word.False = codes "false"
spelled_word word.Create = codes "create"
spelled_word word.Future = codes "future"

abbrev pub spelled_symbol : Symbol → List ℕ
spelled_symbol symbol.OpenBrace = codes "{"
spelled_symbol symbol.CloseBrace = codes "}"
spelled_symbol symbol.OpenRound = codes "("
spelled_symbol symbol.CloseRound = codes ")"
spelled_symbol symbol.OpenSquare = codes "["
spelled_symbol symbol.CloseSquare = codes "]"
spelled_symbol symbol.Comma = codes ","
spelled_symbol symbol.Semicolon = codes ";"
spelled_symbol symbol.Dot = codes "."
spelled_symbol symbol.Assign = codes "="
spelled_symbol symbol.Same = codes "=="
spelled_symbol symbol.Differs = codes "!="
spelled_symbol symbol.Less = codes "<"
spelled_symbol symbol.AtMost = codes "<="
spelled_symbol symbol.Greater = codes ">"
spelled_symbol symbol.AtLeast = codes ">="
spelled_symbol symbol.Plus = codes "+"
spelled_symbol symbol.Minus = codes "-"
spelled_symbol symbol.Times = codes "*"
spelled_symbol symbol.Divide = codes "/"
spelled_symbol symbol.Rest = codes "%"
spelled_symbol symbol.Not = codes "!"
spelled_symbol symbol.And = codes "&&"
spelled_symbol symbol.Or = codes "||"

-- a digit from 0 to 15, in lower case
abbrev pub hex_digit : ℕ → ℕ
hex_digit digit = if nat_lt digit 10 then 48 + digit else 87 + digit

-- a character in a text literal: `\"`, `\\`, `\n`, `\xHH` of the other controls, else itself
abbrev pub spelled_character : ℕ → List ℕ
spelled_character character =
    if character == 34 then 92 ∷ 34 ∷ []
    else (if character == 92 then 92 ∷ 92 ∷ []
    else (if character == 10 then 92 ∷ 110 ∷ []
    else (if is_control character then 92 ∷ 120 ∷ hex_digit (character / 16) ∷ hex_digit (character % 16) ∷ []
    else encode_utf8 character)))

-- characters between quotes
abbrev pub spelled_text : List ℕ → List ℕ
spelled_text characters = 34 ∷ (flat_map spelled_character characters ++ 34 ∷ [])

abbrev pub token_spelling : Token → List ℕ
token_spelling (token.Name name) = name
token_spelling (token.ClassName name) = name
token_spelling (token.Number number) = signed_decimal number
token_spelling (token.Text characters) = spelled_text characters
token_spelling (token.Word word) = spelled_word word
token_spelling (token.Symbol symbol) = spelled_symbol symbol

-- the most bytes of a name
abbrev pub longest_name : ℕ
longest_name = 64

-- letters, digits and `_`, not too many of them, of which the first passes the test
abbrev pub IsNamed : (ℕ → Bool) → List ℕ → Type 0
IsNamed begins [] = ⊥
IsNamed begins (byte ∷ bytes) = (begins byte ≡ true) × (list_all goes_on_name bytes ≡ true)
    × (length bytes < longest_name)

abbrev pub IsToken : Token → Type 0
IsToken (token.Name name) = IsNamed begins_name name × ((word : Word) → name ≢ spelled_word word)
IsToken (token.ClassName name) = IsNamed begins_class_name name
IsToken (token.Number number) = (n : ℕ) × (n ≤ 9_223_372_036_854_775_807) × (number ≡ pos n)
IsToken (token.Text characters) = all_scalars characters ≡ true
IsToken (token.Word word) = Unit {0}
IsToken (token.Symbol symbol) = Unit {0}
