-- The words after the name of a command: its positionals in order, and its settings. A word is seen as its characters.
use Rattle.std.specs.Prelude.{Bool, false, ◌==◌, ◌&&◌, ◌||◌, if◌then◌else◌, length, drop, slice_get, codes, List, [], ◌∷◌, ◌++◌, Option, Some, None, option_and_then}
use Rattle.std.specs.Str.{bytes_eq}
use Rattle.text_lines.specs.Lines.{LineWord, is_empty}
use Rattle.command_words.specs.declared.parts.Setting.{Setting}

pub record Parts : Type 0 where
  pub positionals : List LineWord
  pub settings : List Setting

-- the word begins with `-`
abbrev pub is_option : LineWord → Bool
is_option [] = false
is_option (first ∷ rest) = first == 45

-- the word is `-` alone
abbrev pub is_dash : LineWord → Bool
is_dash word = bytes_eq word (codes "-")

-- the word is an option: it begins with `-`, and is not `-` alone
abbrev pub opens_option : LineWord → Bool
opens_option word = if is_dash word then false else is_option word

-- these positionals and settings, and then those
abbrev pub with_parts : Parts → Option Parts → Option Parts
with_parts front None = None
with_parts front (Some parts) =
    Some (record { positionals = front.positionals ++ parts.positionals; settings = front.settings ++ parts.settings })

abbrev pub no_parts : Parts
no_parts = record { positionals = []; settings = [] }

abbrev pub one_positional : LineWord → Parts
one_positional word = record { positionals = word ∷ []; settings = [] }

abbrev pub one_setting : LineWord → LineWord → Parts
one_setting option value = record { positionals = []; settings = record { option = option; value = value } ∷ [] }

-- the parts of these words, after an option that waits for its value, or none that does: a word that begins with `-`, and is not `-` alone, is
-- an option, the word after it, which does not begin with `-`, is its value, the others are the positionals in order, and none is empty
abbrev pub parts_after_option : Option LineWord → List LineWord → Option Parts
parts_after_option None [] = Some no_parts
parts_after_option None (word ∷ words) =
    if is_empty word then None
    else if opens_option word then parts_after_option (Some word) words
    else with_parts (one_positional word) (parts_after_option None words)
parts_after_option (Some option) [] = None
parts_after_option (Some option) (word ∷ words) =
    if is_empty word || is_option word then None
    else with_parts (one_setting option word) (parts_after_option None words)

abbrev pub all_parts : List LineWord → Option Parts
all_parts words = parts_after_option None words

-- ---- taken out one by one

-- a setting of this option
abbrev pub sets_option : LineWord → Setting → Bool
sets_option option found = bytes_eq found.option option

-- the value of the first setting of an option
abbrev pub setting_value : LineWord → List Setting → Option LineWord
setting_value option [] = None
setting_value option (found ∷ settings) =
    if sets_option option found then Some found.value else setting_value option settings

-- the settings without the first one of an option
abbrev pub without : LineWord → List Setting → List Setting
without option [] = []
without option (found ∷ settings) = if sets_option option found then settings else found ∷ without option settings

-- a word, but for `-` alone
abbrev pub but_dash : LineWord → Option LineWord
but_dash word = if is_dash word then None else Some word

-- the first positional, which is not `-` alone, and the parts without it
abbrev pub first_positional : Parts → Option LineWord
first_positional parts = option_and_then but_dash (slice_get parts.positionals 0)

abbrev pub behind_first : Parts → Parts
behind_first parts = record parts { positionals = drop 1 parts.positionals }

-- the value of an option, and the parts without its setting
abbrev pub value_of : LineWord → Parts → Option LineWord
value_of option parts = setting_value option parts.settings

abbrev pub without_option : LineWord → Parts → Parts
without_option option parts = record parts { settings = without option parts.settings }

abbrev pub is_dash_alone : Option LineWord → Bool
is_dash_alone None = false
is_dash_alone (Some word) = is_dash word

-- the first positional is `-` alone
abbrev pub has_dash : Parts → Bool
has_dash parts = is_dash_alone (slice_get parts.positionals 0)

-- none is left
abbrev pub are_all_taken : Parts → Bool
are_all_taken parts = (length parts.positionals == 0) && (length parts.settings == 0)
