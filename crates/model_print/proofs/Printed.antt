-- What is printed of tokens.
use Rattle.std.proofs.Common.{◌≡◌, ℕ, Bool, true, false, List, [], ◌∷◌, ◌++◌, refl, sym, ap, ◌∙◌, append_assoc, append-nil}
use Rattle.std.specs.Prelude.{encode_utf8_all}
use Rattle.std.specs.List.{list_all}
use Rattle.std.specs.Str.{chars}
use Rattle.std.proofs.lemmas.Str.{IsUtf8-from_ascii, chars-IsAscii, encodes-chars, chars-encodes}
use Rattle.model_tokens.specs.declared.token.Token.{Token}
use Rattle.model_tokens.specs.declared.token.Token.TheVariants.{Name as name, ClassName as class_name, Number as number, Text as literal, Word as word, Symbol as symbol}
use Rattle.model_tokens.specs.Bytes.{goes_on_name, begins_name, begins_class_name}
use Rattle.model_tokens.specs.Spelling.{token_spelling, spelled_text, IsNamed, IsToken}
use Rattle.model_tokens.proofs.Lists.{from_both}
use Rattle.model_tokens.proofs.NameLaws.{ascii_at}
use Rattle.model_tree.specs.Tree.{ProgramTree}
use Rattle.model_tree.specs.Program.{IsProgram}
use Rattle.model_print.specs.Canonical.{is_worded, token_gap, text_behind, canonical_tokens, canonical_text}
use Rattle.model_print.specs.Printing.{PrintState, token_text, with_token, with_tokens}
use Rattle.model_print.proofs.ShedCounts.{AreTokens}
use Rattle.model_print.proofs.Spaced.{name_goes_on, class_name_goes_on}
use Rattle.model_print.proofs.Canonical.{canonical-tokens}

pub with_tokens-append : (p : PrintState) (a b : List Token) → with_tokens p (a ++ b) ≡ with_tokens (with_tokens p a) b
with_tokens-append p [] b = refl
with_tokens-append p (t ∷ a) b = with_tokens-append (with_token p t) a b

pub ruleset by_append = (with_tokens-append)

-- ---- each token is printed as it is spelled

encoded_name : (x : List ℕ) → list_all goes_on_name x ≡ true → encode_utf8_all x ≡ x
encoded_name x h =
    let ascii = ascii_at x h in
    ap encode_utf8_all (sym (chars-IsAscii x ascii)) ∙ encodes-chars x (IsUtf8-from_ascii x ascii)

named_all : (test : ℕ → Bool) (x : List ℕ) → ((b : ℕ) → test b ≡ true → goes_on_name b ≡ true) → IsNamed test x → list_all goes_on_name x ≡ true
named_all test [] f h = absurd h
named_all test (b ∷ x) f h = from_both (goes_on_name b) (list_all goes_on_name x) (f b h.0) h.1

printed-token : (t : Token) → IsToken t → token_text t ≡ token_spelling t
printed-token (name x) is = encoded_name x (named_all begins_name x name_goes_on is.0)
printed-token (class_name x) is = encoded_name x (named_all begins_class_name x class_name_goes_on is)
printed-token (number n) is = refl
printed-token (literal x) is = ap spelled_text (chars-encodes x is)
printed-token (word w) is = refl
printed-token (symbol s) is = refl

bytes-with_token : (p : PrintState) (t : Token) → (with_token p t).0 ≡ p.0 ++ (token_gap p.1 (is_worded t) ++ token_text t)
unfolding with_token
bytes-with_token p t = refl

worded-with_token : (p : PrintState) (t : Token) → (with_token p t).1 ≡ is_worded t
unfolding with_token
worded-with_token p t = refl

bytes-with_tokens : (p : PrintState) (ts : List Token) → AreTokens ts → (with_tokens p ts).0 ≡ p.0 ++ text_behind p.1 ts
bytes-with_tokens p [] are = sym (append-nil p.0)
bytes-with_tokens p (t ∷ ts) are =
    let gap = token_gap p.1 (is_worded t) in
    let more = text_behind (is_worded t) ts in
    bytes-with_tokens (with_token p t) ts are.1
    ∙ ap (λ w. (with_token p t).0 ++ text_behind w ts) (worded-with_token p t)
    ∙ ap (λ xs. xs ++ more) (bytes-with_token p t ∙ ap (λ xs. p.0 ++ (gap ++ xs)) (printed-token t are.0))
    ∙ append_assoc p.0 (gap ++ token_spelling t) more
    ∙ ap (λ xs. p.0 ++ xs) (append_assoc gap (token_spelling t) more)

pub printed-canonical : (tree : ProgramTree) → IsProgram tree → (with_tokens ([], false) (canonical_tokens tree)).0 ≡ canonical_text tree
printed-canonical tree is = bytes-with_tokens ([], false) (canonical_tokens tree) (canonical-tokens tree is)
