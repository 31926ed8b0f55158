use Rattle.std.proofs.Common.{◌≡◌, ◌++◌, drop, string_bytes}
use Rattle.text_lines.specs.Lines.{spaced_numbers, spell_numbers}
use Rattle.text_lines.proofs.writing.spell_numbers.Given as goal

-- the text so far, and the numbers that are left
abbrev pub invariant-loop-number : goal.invariant-loop-number
invariant-loop-number l = string_bytes l.text ++ spaced_numbers (drop l.number-index l.numbers) ≡ spell_numbers l.fn.word l.numbers
