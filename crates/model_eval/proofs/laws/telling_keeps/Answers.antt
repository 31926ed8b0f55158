use Rattle.model_tree.proofs.Names.{program-names}
use Rattle.model_tree.proofs.Fitting.{program-fits}
use Rattle.model_eval.proofs.KeptLaws.{told-kept}
use Rattle.model_eval.proofs.laws.telling_keeps.Goals as goal

pub returns : goal.returns
returns c = λ program room scope event notice r p bounds. told-kept program room scope event notice r (program-fits program p.1.spelled.fits).1 (program-names program p) bounds
