use Rattle.std.proofs.Common.{◌≡◌, ◌++◌, map, length}
use Rattle.view_script.specs.declared.words.Place.TheVariants.{Outside}
use Rattle.view_script.specs.Words.{parts_from, filled_parts}
use Rattle.view_script.proofs.words.split_words.Given as goal

-- the words so far, and those of what is left
abbrev pub invariant-loop-rest : goal.invariant-loop-rest
invariant-loop-rest l = map (λ word. word.now) l.words.items ++ filled_parts (parts_from Outside l.rest) ≡ filled_parts (parts_from Outside l.line)

abbrev pub decreases-loop-rest : goal.decreases-loop-rest
decreases-loop-rest l = length l.rest
