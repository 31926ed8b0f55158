use Rattle.std.proofs.Common.{◌≡◌, drop, map}
use Rattle.std.specs.Prelude.{bytes_eq}
use Rattle.std.specs.List.{position_from}
use Rattle.model_check.proofs.names.class_place.Given as goal

abbrev pub invariant-loop-class : goal.invariant-loop-class
invariant-loop-class l = (l.place ≡ l.class-index) × (position_from (bytes_eq l.name) l.place (map (λ c. c.name) (drop l.class-index l.classes)) ≡ position_from (bytes_eq l.name) 0 (map (λ c. c.name) l.classes))
