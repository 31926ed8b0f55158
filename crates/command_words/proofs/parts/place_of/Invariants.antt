use Rattle.std.proofs.Common.{◌≡◌, drop, take, ◌++◌}
use Rattle.command_words.specs.Parts.{setting_value, without}
use Rattle.command_words.proofs.parts.place_of.Given as goal

-- the settings passed are of other options
abbrev pub invariant-loop-place : goal.invariant-loop-place
invariant-loop-place l = record {
  value : setting_value l.option l.settings ≡ setting_value l.option (drop l.place l.settings);
  others : without l.option l.settings ≡ take l.place l.settings ++ without l.option (drop l.place l.settings);
}
