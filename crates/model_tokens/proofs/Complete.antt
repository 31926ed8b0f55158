-- A piece that ends before what follows it is what the reader reads.
use Rattle.std.proofs.Common.{◌≡◌, ℕ, pos, true, List, ◌∷◌, ◌++◌, Some, refl, sym, ap, ◌∙◌, subst}
use Rattle.std.specs.List.{list_all}
use Rattle.std.specs.Fmt.{signed_decimal}
use Rattle.model_tokens.specs.Bytes.{is_blank, goes_on_line}
use Rattle.model_tokens.specs.Spelling.{token_spelling, IsToken}
use Rattle.model_tokens.specs.Division.{Piece, blank, comment, a_token, spelling, IsPiece, EndsPiece, EndsBefore, token_goes_on, number_goes_on}
use Rattle.model_tokens.specs.Reader.{front, rest_past, kind_of, row, next_piece}
use Rattle.model_tokens.specs.declared.token.Token.{Token}
use Rattle.model_tokens.specs.declared.token.Token.TheVariants as token
use Rattle.model_tokens.specs.declared.bytes.ByteKind.TheVariants as kind
use Rattle.model_tokens.proofs.Lists.{front_is, behind_is}
use Rattle.model_tokens.proofs.NameLaws.{name_next, class_name_next, word_next}
use Rattle.model_tokens.proofs.NumberLaws.{number_next}
use Rattle.model_tokens.proofs.LiteralLaws.{text_next}
use Rattle.model_tokens.proofs.SymbolLaws.{symbol_next}

blank_kind : (b : ℕ) → is_blank b ≡ true → kind_of b ≡ kind.Blank
blank_kind b h = rw h refl

comment_next : (bytes rest : List ℕ) → list_all goes_on_line bytes ≡ true → EndsBefore goes_on_line rest → next_piece (47 ∷ 47 ∷ (bytes ++ rest)) ≡ Some (comment bytes, rest)
comment_next bytes rest all ends =
    let here : front goes_on_line (bytes ++ rest) ≡ bytes = front_is goes_on_line bytes rest all ends in
    let there : rest_past goes_on_line (bytes ++ rest) ≡ rest = behind_is goes_on_line bytes rest all ends in
    ap (λ xs. Some (comment xs, rest_past goes_on_line (bytes ++ rest))) here ∙ ap (λ xs. Some (comment bytes, xs)) there

token_next : (t : Token) (rest : List ℕ) → IsToken t → EndsBefore (token_goes_on t) rest → next_piece (token_spelling t ++ rest) ≡ Some (a_token t, rest)
token_next (token.Name name) rest is ends = name_next name rest is.0 is.1 ends
token_next (token.ClassName name) rest is ends = class_name_next name rest is ends
token_next (token.Number number) rest is ends =
    let e = is.2 in
    let ends_at : EndsBefore (number_goes_on (pos is.0)) rest = subst (λ z. EndsBefore (number_goes_on z) rest) e ends in
    ap (λ z. next_piece (signed_decimal z ++ rest)) e ∙ number_next is.0 rest is.1 ends_at ∙ ap (λ z. Some (a_token (token.Number z), rest)) (sym e)
token_next (token.Text characters) rest is ends = text_next characters rest is
token_next (token.Word word) rest is ends = word_next word rest ends
token_next (token.Symbol symbol) rest is ends = symbol_next symbol rest ends

pub complete : (piece : Piece) (rest : List ℕ) → IsPiece piece → EndsPiece piece rest → next_piece (spelling piece ++ rest) ≡ Some (piece, rest)
complete (blank byte) rest is ends = ap (λ k. row k byte rest) (blank_kind byte is)
complete (comment bytes) rest is ends = comment_next bytes rest is ends
complete (a_token t) rest is ends = token_next t rest is ends
