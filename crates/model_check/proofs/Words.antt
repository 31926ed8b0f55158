-- The bytes of the words that the language gives a meaning: the names of the builtins, and `Root`.
use Rattle.std.proofs.Common.{◌≡◌, ◌↔◌, ℕ, zero, suc, Bool, true, IsTrue, List, [], ◌∷◌, encode_utf8_all, refl, sym, ap, ◌∙◌, arith}
use Rattle.std.specs.Prelude.{nat_lt, ◌&&◌}
use Rattle.std.proofs.lemmas.Bool.{and_parts}
use Rattle.std.proofs.lemmas.Bool.Decides.{Decides-ltb}
use Rattle.std.proofs.lemmas.Slice.Eq.{bytes_eq-Decides}
use Rattle.std.proofs.lemmas.Str.{encodes_same, encodes-IsAscii}
use Rattle.std.specs.Str.{bytes_eq, IsAscii}
use Rattle.model_tree.specs.Tree.{Name, root_name}
use Rattle.model_solved.specs.declared.builtin.Builtin.{Builtin}
use Rattle.model_solved.specs.declared.builtin.Builtin.TheVariants as builtin
use Rattle.model_solved.specs.Builtins.{builtin_spelling}
use Rattle.model_solved.proofs.Compared.{compared}

abbrev is_ascii : List ℕ → Bool
is_ascii [] = true
is_ascii (x ∷ xs) = nat_lt x 128 && is_ascii xs

ascii : (xs : List ℕ) → is_ascii xs ≡ true → IsAscii xs
ascii [] h i = omega arith
ascii (x ∷ xs) h zero = (Decides-ltb x 128).0 (and_parts (nat_lt x 128) (is_ascii xs) h).0
ascii (x ∷ xs) h (suc i) = ascii xs (and_parts (nat_lt x 128) (is_ascii xs) h).1 i

-- a text has the bytes of a word where it has its characters
spells : (word : Name) → is_ascii word ≡ true → (same : Bool) (bytes : List ℕ) (name : Name) → same ≡ bytes_eq bytes word → bytes ≡ encode_utf8_all name → IsTrue same ↔ name ≡ word
spells word plain same bytes name is told =
    let own : encode_utf8_all word ≡ word = encodes-IsAscii word (ascii word plain) in
    let decides = bytes_eq-Decides bytes word in (
      λ same_bytes. encodes_same name word (sym told ∙ decides.0 (sym is ∙ same_bytes) ∙ sym own),
      λ equal. is ∙ decides.1 (told ∙ ap encode_utf8_all equal ∙ own),
    )

pub root_named : (same : Bool) (bytes : List ℕ) (name : Name) → same ≡ bytes_eq bytes root_name → bytes ≡ encode_utf8_all name → IsTrue same ↔ name ≡ root_name
root_named = spells root_name refl

plain_word : (b : Builtin) → is_ascii (builtin_spelling b) ≡ true
plain_word builtin.Now = refl
plain_word builtin.Random = refl
plain_word builtin.ViewCount = refl
plain_word builtin.Views = refl
plain_word builtin.SessionId = refl
plain_word builtin.Known = refl
plain_word builtin.BeKnown = refl
plain_word builtin.Exists = refl
plain_word builtin.Destroy = refl
plain_word builtin.Publish = refl
plain_word builtin.Subscribe = refl
plain_word builtin.Unsubscribe = refl
plain_word builtin.Cancel = refl
plain_word builtin.Persist = refl
plain_word builtin.Length = refl
plain_word builtin.At = refl
plain_word builtin.Put = refl
plain_word builtin.Push = refl
plain_word builtin.Slice = refl
plain_word builtin.Concat = refl
plain_word builtin.Text = refl
plain_word builtin.Number = refl
plain_word builtin.Compare = refl

pub builtin_spelled : (b : Builtin) (same : Bool) (bytes word : List ℕ) (name : Name) → word ≡ builtin_spelling b → same ≡ bytes_eq bytes word → bytes ≡ encode_utf8_all name → same ≡ bytes_eq name (builtin_spelling b)
builtin_spelled b same bytes word name is tested told =
    compared same name (builtin_spelling b) (spells (builtin_spelling b) (plain_word b) same bytes name (tested ∙ ap (bytes_eq bytes) is) told)
