use Rattle.std.proofs.Common.{◌≡◌, ◌-◌, [], length}
use Rattle.model_lang.specs.Reader.{read_fields}
use Rattle.model_lang.proofs.class.fields.Given as goal

abbrev pub invariant-loop-turn : goal.invariant-loop-turn
invariant-loop-turn l = read_fields (length l.tokens - l._turn) l.found.items l.rest ≡ read_fields (length l.tokens) [] l.tokens
