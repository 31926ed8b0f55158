-- How the parts of a command's words are read.
use Rattle.std.specs.Prelude.{◌≡◌, ℕ, ◌<◌, length, slice_index_or, remove, List, Option, Some, None}
use Rattle.text_lines.specs.Lines.{LineWord}
use Rattle.command_words.specs.declared.parts.Setting.{Setting}
use Rattle.command_words.specs.Parts.{Parts, parts_after_option, setting_value, with_parts, without}

-- what is made of these words behind those that were read, after an option that waits for its value, or none that does
abbrev pub read_on : Parts → Option LineWord → List LineWord → Option Parts
read_on parts awaiting words = with_parts parts (parts_after_option awaiting words)

-- the first setting of an option stands at this place
pub record IsFirstOf (option : LineWord) (settings : List Setting) (place : ℕ) : Type 0 where
  pub within : place < length settings
  pub value : (default : Setting) → setting_value option settings ≡ Some (slice_index_or settings place default).value
  pub others : without option settings ≡ remove settings place

-- there is no setting of an option
pub record HasNone (option : LineWord) (settings : List Setting) : Type 0 where
  pub value : setting_value option settings ≡ None
  pub others : without option settings ≡ settings
