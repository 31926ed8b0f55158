-- Configurations that are text, and those that are not; and what one line more of it says.
use Rattle.std.proofs.Common.{◌≡◌, ℕ, Bool, true, false, cond, List, ◌∷◌, Option, None, Result, Ok, Err, IfOk, MatchBool, refl}
use Rattle.std.specs.Option.{option_and_then}
use Rattle.std.proofs.lemmas.Str.{is_utf8-from_IsUtf8, IsUtf8-from_is_utf8}
use Rattle.std.specs.Str.{is_utf8, IsUtf8}
use Rattle.std.specs.Str.Lines.{lines}
use Rattle.tea_base.specs.declared.want.WantOfMemory.{WantOfMemory}
use Rattle.text_lines.specs.Lines.{is_skipped, words_of}
use Rattle.host_config.specs.Config.{config_lines_of, config_of, if_few, then_config, with_words}
use Rattle.host_config.specs.declared.reading.Config.{Config}

-- bytes that are text
pub config_of-text : (bytes text : List ℕ) → IsUtf8 bytes → text ≡ bytes → option_and_then if_few (config_lines_of (lines text)) ≡ config_of bytes
config_of-text bytes text is same = rw (is_utf8-from_IsUtf8 bytes is, same) refl

config_of-if : (bytes : List ℕ) (b : Bool) → is_utf8 bytes ≡ b → (IsUtf8 bytes → ⊥) → None ≡ cond b (option_and_then if_few (config_lines_of (lines bytes))) None
config_of-if bytes true is not = absurd (not (IsUtf8-from_is_utf8 bytes is))
config_of-if bytes false is not = refl

-- bytes that are not
pub config_of-not_text : (bytes : List ℕ) → (IsUtf8 bytes → ⊥) → None ≡ config_of bytes
config_of-not_text bytes not = config_of-if bytes (is_utf8 bytes) refl not

-- one line more
pub taken_line : (result : Result Bool WantOfMemory) (old new : Config) (line : List ℕ) (words : List (List ℕ)) → is_skipped line ≡ false → words ≡ words_of line
    → IfOk result (λ follows. MatchBool follows ((rest : Option Config) → then_config new rest ≡ then_config old (option_and_then (with_words words) rest))
    ((rest : Option Config) → then_config old (option_and_then (with_words words) rest) ≡ None))
    → IfOk result (λ follows. MatchBool follows ((more : List (List ℕ)) → then_config new (config_lines_of more) ≡ then_config old (config_lines_of (line ∷ more)))
    ((more : List (List ℕ)) → then_config old (config_lines_of (line ∷ more)) ≡ None))
taken_line (Ok true) old new line words not are reads = λ more. rw not (rw are at (reads (config_lines_of more)))
taken_line (Ok false) old new line words not are reads = λ more. rw not (rw are at (reads (config_lines_of more)))
taken_line (Err want) old new line words not are reads = tt
