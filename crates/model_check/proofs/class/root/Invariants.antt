use Rattle.std.proofs.Common.{◌≡◌, drop, map}
use Rattle.model_tree.specs.Tree.{root_name}
use Rattle.model_solved.specs.Faults.{is_among}
use Rattle.model_check.proofs.class.root.Given as goal

abbrev pub invariant-loop-class : goal.invariant-loop-class
invariant-loop-class l = record {
  here : l.number ≡ l.class-index;
  rest : is_among root_name (map (λ c. c.name) (drop l.class-index l.classes)) ≡ is_among root_name (map (λ c. c.name) l.classes);
}
