use Rattle.model_value.specs.View.{plain}
use Rattle.model_eval.proofs.Same.{told_same}
use Rattle.model_eval.proofs.operator.are_equal.Goals as goal

pub returns : goal.returns
returns c = told_same c.same.result (plain c.args.left.now) (plain c.args.right.now) c.same.ensures
