use Rattle.model_lang.proofs.Whole.{one_read}
use Rattle.model_lang.proofs.parsing.one_tree.Goals as goal

pub returns : goal.returns
returns c = one_read c.one_division.ensures
