use Rattle.model_lang.proofs.Whole.{one_derived}
use Rattle.model_lang.proofs.parsing.one_derivation.Goals as goal

pub returns : goal.returns
returns c = one_derived
