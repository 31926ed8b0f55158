use Rattle.std.proofs.Common.{length}
use Rattle.model_tokens.proofs.Steps.{Leaves}
use Rattle.model_tokens.proofs.dividing.tokens.Given as goal

abbrev pub invariant-loop-rest : goal.invariant-loop-rest
invariant-loop-rest l = Leaves l.tokens l.rest l.text

abbrev pub decreases-loop-rest : goal.decreases-loop-rest
decreases-loop-rest l = length l.rest
