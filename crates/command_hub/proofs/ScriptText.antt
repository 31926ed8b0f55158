-- Scripts that are text, and those that are not.
use Rattle.std.proofs.Common.{◌≡◌, ℕ, Bool, true, false, cond, List, None, refl}
use Rattle.std.proofs.lemmas.Str.{is_utf8-from_IsUtf8, IsUtf8-from_is_utf8}
use Rattle.std.specs.Str.{is_utf8, IsUtf8}
use Rattle.std.specs.Str.Lines.{lines}
use Rattle.command_hub.specs.HubScript.{hub_lines_of, hub_script_of}

-- bytes that are text
pub script_of-text : (bytes text : List ℕ) → IsUtf8 bytes → text ≡ bytes → hub_lines_of (lines text) ≡ hub_script_of bytes
script_of-text bytes text is same = rw (is_utf8-from_IsUtf8 bytes is, same) refl

script_of-if : (bytes : List ℕ) (b : Bool) → is_utf8 bytes ≡ b → (IsUtf8 bytes → ⊥) → None ≡ cond b (hub_lines_of (lines bytes)) None
script_of-if bytes true is not = absurd (not (IsUtf8-from_is_utf8 bytes is))
script_of-if bytes false is not = refl

-- bytes that are not
pub script_of-not_text : (bytes : List ℕ) → (IsUtf8 bytes → ⊥) → None ≡ hub_script_of bytes
script_of-not_text bytes not = script_of-if bytes (is_utf8 bytes) refl not
