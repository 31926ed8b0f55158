use Rattle.std.proofs.Common.{◌≡◌, take}
use Rattle.model_check.proofs.scope.Scope.of_params.Given as goal

abbrev pub invariant-loop-param : goal.invariant-loop-param
invariant-loop-param l = l.names.items ≡ take l.param-index l.params
