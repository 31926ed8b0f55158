-- Lines that are text, and those that are not.
use Rattle.std.proofs.Common.{◌≡◌, ℕ, Bool, true, false, cond, List, None, refl}
use Rattle.std.proofs.lemmas.Str.{is_utf8-from_IsUtf8, IsUtf8-from_is_utf8}
use Rattle.std.specs.Str.{is_utf8, IsUtf8}
use Rattle.text_lines.specs.Lines.{words_of}
use Rattle.live_view.specs.Lines.{hold_of, hold_of_words}

pub hold_of-text : (bytes text : List ℕ) → IsUtf8 bytes → text ≡ bytes → hold_of_words (words_of text) ≡ hold_of bytes
hold_of-text bytes text is same = rw (is_utf8-from_IsUtf8 bytes is, same) refl

hold_of-if : (bytes : List ℕ) (b : Bool) → is_utf8 bytes ≡ b → (IsUtf8 bytes → ⊥) → cond b (hold_of_words (words_of bytes)) None ≡ None
hold_of-if bytes true is never = absurd (never (IsUtf8-from_is_utf8 bytes is))
hold_of-if bytes false is never = refl

pub hold_of-not_text : (bytes : List ℕ) → (IsUtf8 bytes → ⊥) → hold_of bytes ≡ None
hold_of-not_text bytes never = hold_of-if bytes (is_utf8 bytes) refl never
