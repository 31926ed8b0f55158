-- Names, class names and words: what is read of them.
use Rattle.std.proofs.Common.{◌≡◌, ◌≢◌, ℕ, zero, suc, ◌<◌, ◌≤◌, Bool, true, false, ◌||◌, cond, List, [], ◌∷◌, ◌++◌, length, take, drop, get_or, Option, Some, None, refl, sym, ap, ◌∙◌, arith, lit<}
use Rattle.std.proofs.lemmas.Bool.Decides.{nat_tests}
use Rattle.std.proofs.lemmas.Slice.Eq.{bytes_eq-Decides}
use Rattle.std.specs.List.{prefix_len, list_all}
use Rattle.std.proofs.lemmas.Str.{is_utf8-from_IsUtf8, IsUtf8-from_ascii, chars-IsAscii}
use Rattle.std.specs.Str.{bytes_eq, is_utf8, chars}
use Rattle.std.specs.Prelude.{nat_lt}
use Rattle.model_tokens.specs.Bytes.{begins_name, begins_class_name, goes_on_name}
use Rattle.model_tokens.specs.Spelling.{longest_name, spelled_word, IsNamed}
use Rattle.model_tokens.specs.Division.{a_token, EndsBefore}
use Rattle.model_tokens.specs.Reader.{front, rest_past, kind_of, word_among, every_word, token_of_name, name_token_at, row, next_piece}
use Rattle.model_tokens.specs.declared.token.Token.TheVariants as token
use Rattle.model_tokens.specs.declared.token.Word.{Word}
use Rattle.model_tokens.specs.declared.token.Word.TheVariants as word
use Rattle.model_tokens.specs.declared.bytes.ByteKind.TheVariants as kind
use Rattle.model_tokens.proofs.Lists.{both, from_both, length_front, take_front, drop_front, front_all}

-- ---- words

among_if : (w : Word) (ws : List Word) (bytes : List ℕ) (v : Word) → (word_among ws bytes ≡ Some v → bytes ≡ spelled_word v) → (b : Bool) → bytes_eq bytes (spelled_word w) ≡ b → cond b (Some w) (word_among ws bytes) ≡ Some v → bytes ≡ spelled_word v
among_if w ws bytes v later true e h =
    let same : w ≡ v = cc in
    (bytes_eq-Decides bytes (spelled_word w)).0 e ∙ ap spelled_word same
among_if w ws bytes v later false e h = later h

pub among_spells : (ws : List Word) (bytes : List ℕ) (v : Word) → word_among ws bytes ≡ Some v → bytes ≡ spelled_word v
among_spells [] bytes v h = cc
among_spells (w ∷ ws) bytes v h = among_if w ws bytes v (among_spells ws bytes v) (bytes_eq bytes (spelled_word w)) refl h

none_if : (ws : List Word) (bytes : List ℕ) (found : Option Word) → word_among ws bytes ≡ found → ((w : Word) → bytes ≢ spelled_word w) → found ≡ None
none_if ws bytes None h not = refl
none_if ws bytes (Some w) h not = absurd (not w (among_spells ws bytes w h))

pub among_none : (ws : List Word) (bytes : List ℕ) → ((w : Word) → bytes ≢ spelled_word w) → word_among ws bytes ≡ None
among_none ws bytes not = none_if ws bytes (word_among ws bytes) refl not

pub among_every : (w : Word) → word_among every_word (spelled_word w) ≡ Some w
among_every word.Class = refl
among_every word.Field = refl
among_every word.Let = refl
among_every word.If = refl
among_every word.Else = refl
among_every word.While = refl
among_every word.Return = refl
among_every word.This = refl
among_every word.Nil = refl
among_every word.True = refl
among_every word.False = refl
among_every word.Create = refl
among_every word.Future = refl

pub among_is : (w : Word) (bytes : List ℕ) → bytes ≡ spelled_word w → Some w ≡ word_among every_word bytes
among_is w bytes e = sym (ap (word_among every_word) e ∙ among_every w)

pub word_is_named : (w : Word) → IsNamed begins_name (spelled_word w)
word_is_named word.Class = (refl, refl, lit< tt)
word_is_named word.Field = (refl, refl, lit< tt)
word_is_named word.Let = (refl, refl, lit< tt)
word_is_named word.If = (refl, refl, lit< tt)
word_is_named word.Else = (refl, refl, lit< tt)
word_is_named word.While = (refl, refl, lit< tt)
word_is_named word.Return = (refl, refl, lit< tt)
word_is_named word.This = (refl, refl, lit< tt)
word_is_named word.Nil = (refl, refl, lit< tt)
word_is_named word.True = (refl, refl, lit< tt)
word_is_named word.False = (refl, refl, lit< tt)
word_is_named word.Create = (refl, refl, lit< tt)
word_is_named word.Future = (refl, refl, lit< tt)

-- ---- the first byte

pub begins_letter : (b : ℕ) → (begins_name b || begins_class_name b) ≡ true → (kind_of b ≡ kind.Letter) × (goes_on_name b ≡ true)
begins_letter b h = (grind (arith, nat_tests), grind (arith, nat_tests))

pub letter_begins : (b : ℕ) → kind_of b ≡ kind.Letter → (begins_name b || begins_class_name b) ≡ true
letter_begins b h = grind (arith, nat_tests)

pub not_both : (b : ℕ) → begins_name b ≡ true → begins_class_name b ≡ false
not_both b h = grind (arith, nat_tests)

either_left : (a b : Bool) → a ≡ true → (a || b) ≡ true
either_left a b h = rw h refl

either_right : (a b : Bool) → b ≡ true → (a || b) ≡ true
either_right true b h = refl
either_right false b h = h

-- ---- what is read of a name

-- a name of so many bytes, and what stands behind it
read_name : (name rest : List ℕ) → prefix_len goes_on_name (name ++ rest) ≡ length name → length name ≤ longest_name → name_token_at (name ++ rest) ≡ Some (a_token (token_of_name (word_among every_word name) name), rest)
read_name name rest len short =
    let here : front goes_on_name (name ++ rest) ≡ name = ap (λ n. take n (name ++ rest)) len ∙ take_front name rest in
    let there : rest_past goes_on_name (name ++ rest) ≡ rest = ap (λ n. drop n (name ++ rest)) len ∙ drop_front name rest in
    let test : nat_lt longest_name (prefix_len goes_on_name (name ++ rest)) ≡ false = rw len (grind (arith, nat_tests)) in
    rw (test, here, there) refl

named_next : (byte : ℕ) (bytes rest : List ℕ) → (begins_name byte || begins_class_name byte) ≡ true → list_all goes_on_name bytes ≡ true → length bytes < longest_name → EndsBefore goes_on_name rest → next_piece ((byte ∷ bytes) ++ rest) ≡ Some (a_token (token_of_name (word_among every_word (byte ∷ bytes)) (byte ∷ bytes)), rest)
named_next byte bytes rest begins all short ends =
    let letter : kind_of byte ≡ kind.Letter = (begins_letter byte begins).0 in
    let every : list_all goes_on_name (byte ∷ bytes) ≡ true = from_both (goes_on_name byte) (list_all goes_on_name bytes) (begins_letter byte begins).1 all in
    let len : prefix_len goes_on_name ((byte ∷ bytes) ++ rest) ≡ length (byte ∷ bytes) = length_front goes_on_name (byte ∷ bytes) rest every ends in
    ap (λ k. row k byte (bytes ++ rest)) letter ∙ read_name (byte ∷ bytes) rest len (omega arith)

pub name_next : (name rest : List ℕ) → IsNamed begins_name name → ((w : Word) → name ≢ spelled_word w) → EndsBefore goes_on_name rest → next_piece (name ++ rest) ≡ Some (a_token (token.Name name), rest)
name_next [] rest is not ends = absurd is
name_next (byte ∷ bytes) rest is not ends =
    let read = named_next byte bytes rest (either_left (begins_name byte) (begins_class_name byte) is.0) is.1 is.2 ends in
    let word : word_among every_word (byte ∷ bytes) ≡ None = among_none every_word (byte ∷ bytes) not in
    let small : begins_class_name byte ≡ false = not_both byte is.0 in
    read ∙ ap (λ o. Some (a_token (token_of_name o (byte ∷ bytes)), rest)) word ∙ ap (λ b. Some (a_token (cond b (token.ClassName (byte ∷ bytes)) (token.Name (byte ∷ bytes))), rest)) small

no_word : (byte : ℕ) (bytes spelled : List ℕ) → begins_class_name byte ≡ true → IsNamed begins_name spelled → (byte ∷ bytes) ≢ spelled
no_word byte bytes [] large is e = absurd is
no_word byte bytes (c ∷ cs) large is e =
    let same : byte ≡ c = cc in
    let small : begins_class_name byte ≡ false = ap begins_class_name same ∙ not_both c is.0 in
    cc

pub class_name_next : (name rest : List ℕ) → IsNamed begins_class_name name → EndsBefore goes_on_name rest → next_piece (name ++ rest) ≡ Some (a_token (token.ClassName name), rest)
class_name_next [] rest is ends = absurd is
class_name_next (byte ∷ bytes) rest is ends =
    let read = named_next byte bytes rest (either_right (begins_name byte) (begins_class_name byte) is.0) is.1 is.2 ends in
    let word : word_among every_word (byte ∷ bytes) ≡ None = among_none every_word (byte ∷ bytes) (λ w. no_word byte bytes (spelled_word w) is.0 (word_is_named w)) in
    read ∙ ap (λ o. Some (a_token (token_of_name o (byte ∷ bytes)), rest)) word ∙ ap (λ b. Some (a_token (cond b (token.ClassName (byte ∷ bytes)) (token.Name (byte ∷ bytes))), rest)) is.0

word_next_as : (w : Word) (name rest : List ℕ) → name ≡ spelled_word w → IsNamed begins_name name → EndsBefore goes_on_name rest → next_piece (name ++ rest) ≡ Some (a_token (token.Word w), rest)
word_next_as w [] rest e is ends = absurd is
word_next_as w (byte ∷ bytes) rest e is ends =
    let read = named_next byte bytes rest (either_left (begins_name byte) (begins_class_name byte) is.0) is.1 is.2 ends in
    let word : word_among every_word (byte ∷ bytes) ≡ Some w = ap (word_among every_word) e ∙ among_every w in
    read ∙ ap (λ o. Some (a_token (token_of_name o (byte ∷ bytes)), rest)) word

pub word_next : (w : Word) (rest : List ℕ) → EndsBefore goes_on_name rest → next_piece (spelled_word w ++ rest) ≡ Some (a_token (token.Word w), rest)
word_next w rest ends = word_next_as w (spelled_word w) rest refl (word_is_named w) ends

-- ---- the text of a name

ascii_name : (b : ℕ) → goes_on_name b ≡ true → b < 128
ascii_name b h = grind (arith, nat_tests)

-- the bytes of a name are ASCII
pub ascii_at : (bytes : List ℕ) → list_all goes_on_name bytes ≡ true → (i : ℕ) → get_or bytes i 0 < 128
ascii_at [] h i = lit< tt
ascii_at (b ∷ bytes) h zero = ascii_name b (both (goes_on_name b) (list_all goes_on_name bytes) h).0
ascii_at (b ∷ bytes) h (suc i) = ascii_at bytes (both (goes_on_name b) (list_all goes_on_name bytes) h).1 i

pub name_is_text : (text : List ℕ) → (is_utf8 (front goes_on_name text) ≡ true) × (chars (front goes_on_name text) ≡ front goes_on_name text)
name_is_text text =
    let name : List ℕ = front goes_on_name text in
    let ascii = ascii_at (front goes_on_name text) (front_all goes_on_name text) in
    (is_utf8-from_IsUtf8 name (IsUtf8-from_ascii name ascii), chars-IsAscii name ascii)
