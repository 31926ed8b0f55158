use Rattle.std.proofs.Common.{◌≡◌, drop, map}
use Rattle.model_solved.specs.Faults.{is_among}
use Rattle.model_check.proofs.class.has_class.Given as goal

abbrev pub invariant-loop-class : goal.invariant-loop-class
invariant-loop-class l = is_among l.name (map (λ c. c.name) (drop l.class-index l.classes)) ≡ is_among l.name (map (λ c. c.name) l.classes)
