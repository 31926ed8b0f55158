use Rattle.model_tree.proofs.Names.{program-names}
use Rattle.model_tree.proofs.Fitting.{program-fits}
use Rattle.model_eval.proofs.Loops.{loop-goes_round}
use Rattle.model_eval.proofs.laws.loops_end_by_fuel_alone.Goals as goal

pub returns : goal.returns
returns c = λ program room here test body locals r p few brief. loop-goes_round program room here test body (program-fits program p.1.spelled.fits).1 (program-names program p) few brief locals r
