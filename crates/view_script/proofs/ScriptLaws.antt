-- Scripts that are text, and those that are not.
use Rattle.std.proofs.Common.{◌≡◌, ℕ, Bool, true, false, cond, List, Some, None, refl}
use Rattle.std.proofs.lemmas.Str.{is_utf8-from_IsUtf8, IsUtf8-from_is_utf8}
use Rattle.std.specs.Str.{chars, is_utf8, IsUtf8}
use Rattle.std.specs.Str.Lines.{lines}
use Rattle.view_script.specs.ViewScript.{lines_of, if_few, text_of_word, view_script_of}

-- bytes that are text
pub view_script_of-text : (bytes text : List ℕ) → IsUtf8 bytes → text ≡ bytes → if_few (lines_of (lines text)) ≡ view_script_of bytes
view_script_of-text bytes text is same = rw (is_utf8-from_IsUtf8 bytes is, same) refl

view_script_of-if : (bytes : List ℕ) (b : Bool) → is_utf8 bytes ≡ b → (IsUtf8 bytes → ⊥) → cond b (if_few (lines_of (lines bytes))) None ≡ None
view_script_of-if bytes true is never = absurd (never (IsUtf8-from_is_utf8 bytes is))
view_script_of-if bytes false is never = refl

-- a word that is text
pub text_of_word-text : (word text : List ℕ) → IsUtf8 word → text ≡ chars word → text_of_word word ≡ Some text
text_of_word-text word text is same = rw (is_utf8-from_IsUtf8 word is, same) refl

text_of_word-if : (word : List ℕ) (b : Bool) → is_utf8 word ≡ b → (IsUtf8 word → ⊥) → cond b (Some (chars word)) None ≡ None
text_of_word-if word true is never = absurd (never (IsUtf8-from_is_utf8 word is))
text_of_word-if word false is never = refl

pub text_of_word-not_text : (word : List ℕ) → (IsUtf8 word → ⊥) → text_of_word word ≡ None
text_of_word-not_text word never = text_of_word-if word (is_utf8 word) refl never

-- bytes that are not
pub view_script_of-not_text : (bytes : List ℕ) → (IsUtf8 bytes → ⊥) → view_script_of bytes ≡ None
view_script_of-not_text bytes never = view_script_of-if bytes (is_utf8 bytes) refl never
