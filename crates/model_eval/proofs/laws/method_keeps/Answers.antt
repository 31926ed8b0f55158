use Rattle.model_tree.proofs.Names.{program-names}
use Rattle.model_tree.proofs.Fitting.{program-fits}
use Rattle.model_eval.proofs.KeptLaws.{starts-kept}
use Rattle.model_eval.proofs.laws.method_keeps.Goals as goal

pub returns : goal.returns
returns c = λ program room object x args r p bounds. starts-kept program room object x args r (program-fits program p.1.spelled.fits).1 (program-names program p) bounds
