use Rattle.std.proofs.Common.{◌≡◌, ◌-◌, [], length, map}
use Rattle.model_tree.specs.TreeView.{method_tree}
use Rattle.model_lang.specs.Reader.{read_methods}
use Rattle.model_lang.proofs.class.methods.Given as goal

abbrev pub invariant-loop-turn : goal.invariant-loop-turn
invariant-loop-turn l = read_methods (length l.tokens - l._turn) (map method_tree l.found.items) l.rest ≡ read_methods (length l.tokens) [] l.tokens
