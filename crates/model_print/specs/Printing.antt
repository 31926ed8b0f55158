-- A text as it is printed, token by token: its bytes so far, and whether its last token is worded.
use Rattle.std.specs.Prelude.{◌≡◌, ℕ, Bool, List, [], ◌∷◌, ◌++◌, Result, Ok, Err, encode_utf8_all}
use Rattle.std.specs.Str.{chars}
use Rattle.model_tokens.specs.declared.token.Token.{Token}
use Rattle.model_tokens.specs.declared.token.Token.TheVariants as token
use Rattle.model_tokens.specs.Spelling.{spelled_text, token_spelling}
use Rattle.model_print.specs.declared.printing.Level.{Level}
use Rattle.model_print.specs.declared.printing.Level.TheVariants as level
use Rattle.model_tree.specs.declared.tree.Class.{Class}
use Rattle.model_lang.specs.declared.fault.LangFault.{LangFault}
use Rattle.model_lang.specs.declared.fault.LangFault.TheVariants.{Syntax, TooLarge, WantOfMemory}
use Rattle.model_tree.specs.Tree.{ProgramTree}
use Rattle.model_tree.specs.TreeView.{program_tree}
use Rattle.model_print.specs.Canonical.{is_worded, token_gap}

abbrev pub PrintState : Type 0
PrintState = List ℕ × Bool

-- with the spelling of one token more, which is worded or not
abbrev pub with_gap : PrintState → Bool → List ℕ → PrintState
with_gap p worded bytes = (p.0 ++ (token_gap p.1 worded ++ bytes), worded)

-- what is printed of a token: names and texts are held as UTF-8
abbrev pub token_text : Token → List ℕ
token_text (token.Name x) = encode_utf8_all x
token_text (token.ClassName x) = encode_utf8_all x
token_text (token.Number n) = token_spelling (token.Number n)
token_text (token.Text x) = spelled_text (chars (encode_utf8_all x))
token_text (token.Word w) = token_spelling (token.Word w)
token_text (token.Symbol s) = token_spelling (token.Symbol s)

unfoldable pub with_token : PrintState → Token → PrintState
with_token p t = with_gap p (is_worded t) (token_text t)

-- with tokens more, one behind the other
abbrev pub with_tokens : PrintState → List Token → PrintState
with_tokens p [] = p
with_tokens p (t ∷ ts) = with_tokens (with_token p t) ts

-- the lines of the grammar by number
abbrev pub level_number : Level → ℕ
level_number level.Post = 0
level_number level.Unary = 1
level_number level.Term = 2
level_number level.Sum = 3
level_number level.Relation = 4
level_number level.And = 5
level_number level.Or = 6

-- what reading the canonical text of a program answers: the program again, where memory lasts
abbrev pub GivesAgain : ProgramTree → Result (List Class) LangFault → Type 0
GivesAgain tree (Ok classes) = program_tree classes ≡ tree
GivesAgain tree (Err (TooLarge what count)) = ⊥
GivesAgain tree (Err (Syntax at)) = ⊥
GivesAgain tree (Err WantOfMemory) = Unit {0}
