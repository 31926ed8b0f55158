-- Parts behind which nothing was read, and those that one word more makes.
use Rattle.std.proofs.Common.{◌≡◌, ◌++◌, ◌∷◌, [], List, false, Option, Some, None, refl, rules}
use Rattle.std.proofs.lemmas.List.{append_assoc}
use Rattle.text_lines.specs.Lines.{LineWord, is_empty}
use Rattle.command_words.specs.Parts.{Parts, is_option, no_parts, one_positional, one_setting, opens_option, parts_after_option, with_parts}
use Rattle.command_words.specs.PartsRead.{read_on}
use Rattle.command_words.specs.declared.parts.Setting.{Setting}

pub behind_nothing : (parts : Option Parts) → with_parts no_parts parts ≡ parts
behind_nothing None = refl
behind_nothing (Some parts) = refl

abbrev and_setting : Parts → Setting → Parts
and_setting parts setting = record parts { settings = parts.settings ++ setting ∷ [] }

abbrev and_positional : Parts → LineWord → Parts
and_positional parts word = record parts { positionals = parts.positionals ++ word ∷ [] }

setting_first : (parts : Parts) (option value : LineWord) (rest : Option Parts) →
    with_parts (and_setting parts (record { option = option; value = value })) rest ≡ with_parts parts (with_parts (one_setting option value) rest)
setting_first parts option value None = refl
setting_first parts option value (Some rest) = rw (append_assoc parts.settings (record { option = option; value = value } ∷ []) rest.settings) refl

positional_first : (parts : Parts) (word : LineWord) (rest : Option Parts) →
    with_parts (and_positional parts word) rest ≡ with_parts parts (with_parts (one_positional word) rest)
positional_first parts word None = refl
positional_first parts word (Some rest) = rw (append_assoc parts.positionals (word ∷ []) rest.positionals) refl

-- a word that is no option is the value of the option that waits for one
pub reads_setting : (parts : Parts) (option word : LineWord) (rest : List LineWord) → is_empty word ≡ false → is_option word ≡ false →
    read_on (record parts { settings = parts.settings ++ record { option = option; value = word } ∷ [] }) None rest ≡ read_on parts (Some option) (word ∷ rest)
reads_setting parts option word rest some value = rw some (rw value (setting_first parts option word (parts_after_option None rest)))

-- where none waits it is a positional
pub reads_positional : (parts : Parts) (word : LineWord) (rest : List LineWord) → is_empty word ≡ false → opens_option word ≡ false →
    read_on (record parts { positionals = parts.positionals ++ word ∷ [] }) None rest ≡ read_on parts None (word ∷ rest)
reads_positional parts word rest some positional = rw some (rw positional (positional_first parts word (parts_after_option None rest)))
