use Rattle.model_builtin.proofs.Bounds.{applied-in_bounds}
use Rattle.model_builtin.proofs.laws.values_are_in_bounds.Goals as goal

pub returns : goal.returns
returns c = applied-in_bounds
