use Rattle.std.proofs.Common.{◌≡◌, Option, Some, None, true, false, cond, Bool, List, ℕ, refl}
use Rattle.std.specs.Str.{is_utf8, IsUtf8}
use Rattle.std.proofs.lemmas.Str.{is_utf8-from_IsUtf8, IsUtf8-from_is_utf8}
use Rattle.byte_fields.proofs.fields.text_of.Goals as goal

is_text : (bytes text : List ℕ) → IsUtf8 bytes → text ≡ bytes → Some text ≡ cond (is_utf8 bytes) (Some bytes) None
is_text bytes text is e = rw (is_utf8-from_IsUtf8 bytes is, e) refl

not_text : (bytes : List ℕ) (b : Bool) → is_utf8 bytes ≡ b → (IsUtf8 bytes → ⊥) → ◌≡◌ {A = Option (List ℕ)} None (cond b (Some bytes) None)
not_text bytes true is not = absurd (not (IsUtf8-from_is_utf8 bytes is))
not_text bytes false is not = refl

pub returns-in-Ok : goal.returns-in-Ok
returns-in-Ok c = is_text c.args.bytes.now c.in-Ok.text.now c.in-Ok.ensures.cases.1 c.in-Ok.ensures.cases.0

pub returns-in-Err : goal.returns-in-Err
returns-in-Err c = not_text c.args.bytes.now (is_utf8 c.args.bytes.now) refl c.in-Err.ensures.cases.0
