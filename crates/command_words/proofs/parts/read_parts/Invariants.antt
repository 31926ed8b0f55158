use Rattle.std.proofs.Common.{◌≡◌, drop}
use Rattle.command_words.specs.Parts.{all_parts}
use Rattle.command_words.specs.PartsRead.{read_on}
use Rattle.command_words.proofs.parts.read_parts.Given as goal

-- what is read of the rest, behind what was read, is what is read of all the words
abbrev pub invariant-loop-word : goal.invariant-loop-word
invariant-loop-word l = read_on l.reader.parts l.reader.awaiting (drop l.word-index l.words) ≡ all_parts l.words
