use Rattle.model_tokens.proofs.Steps.{one}
use Rattle.model_tokens.proofs.dividing.one_division.Goals as goal

pub returns : goal.returns
returns c = one
