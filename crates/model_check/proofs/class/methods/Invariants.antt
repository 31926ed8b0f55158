use Rattle.std.proofs.Common.{◌≡◌, [], drop, take, map}
use Rattle.model_tree.specs.TreeView.{method_tree}
use Rattle.model_solved.specs.Faults.{first_of, faults_of_methods}
use Rattle.model_solved.specs.SolvedView.{solved_method}
use Rattle.model_check.specs.Solving.{solve_method, HaveFewParameters}
use Rattle.model_check.proofs.class.methods.Given as goal

abbrev pub invariant-loop-i : goal.invariant-loop-i
invariant-loop-i l = record {
  few : HaveFewParameters (map method_tree (drop l.i l.methods));
  faults : first_of (faults_of_methods (map (λ c. c.name) l.classes) l.fields (map (λ m. m.name) (take l.i l.methods)) (map method_tree (drop l.i l.methods))) ≡ first_of (faults_of_methods (map (λ c. c.name) l.classes) l.fields [] (map method_tree l.methods));
  solved : map solved_method l.solved.items ≡ map (λ m. solve_method (map (λ c. c.name) l.classes) l.fields (method_tree m)) (take l.i l.methods);
}
