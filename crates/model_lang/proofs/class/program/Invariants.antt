use Rattle.std.proofs.Common.{◌≡◌, ◌-◌, length, map}
use Rattle.model_tree.specs.TreeView.{class_tree}
use Rattle.model_lang.specs.Reader.{read_classes, read_program}
use Rattle.model_lang.proofs.class.program.Given as goal

abbrev pub invariant-loop-turn : goal.invariant-loop-turn
invariant-loop-turn l = read_classes (length l.tokens - l._turn) (map class_tree l.found.items) l.rest ≡ read_program l.tokens
