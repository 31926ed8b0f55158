use Rattle.std.proofs.Common.{◌≡◌, drop, map}
use Rattle.model_solved.specs.Faults.{is_among}
use Rattle.model_check.proofs.class.has_method.Given as goal

abbrev pub invariant-loop-method : goal.invariant-loop-method
invariant-loop-method l = is_among l.name (map (λ m. m.name) (drop l.method-index l.methods)) ≡ is_among l.name (map (λ m. m.name) l.methods)
