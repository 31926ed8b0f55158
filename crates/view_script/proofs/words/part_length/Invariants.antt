use Rattle.std.proofs.Common.{◌≡◌, ◌+◌, drop}
use Rattle.view_script.specs.declared.words.Place.TheVariants.{Outside}
use Rattle.view_script.specs.Words.{part_length}
use Rattle.view_script.proofs.words.part_length.Given as goal

-- no byte so far divides
abbrev pub invariant-loop-i : goal.invariant-loop-i
invariant-loop-i l = l.i + part_length l.place (drop l.i l.line) ≡ part_length Outside l.line
