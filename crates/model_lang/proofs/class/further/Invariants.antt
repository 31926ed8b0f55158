use Rattle.std.proofs.Common.{◌≡◌, ◌-◌}
use Rattle.model_lang.specs.Reader.{read_further}
use Rattle.model_lang.proofs.class.further.Given as goal

abbrev pub invariant-loop-turn : goal.invariant-loop-turn
invariant-loop-turn l = read_further (l.turns - l._turn) l.found.items l.rest ≡ read_further l.turns l.fn.found.items l.tokens
