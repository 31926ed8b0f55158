use Rattle.std.proofs.Common.{◌≡◌, [], drop, take, map}
use Rattle.model_tree.specs.TreeView.{class_tree}
use Rattle.model_solved.specs.Faults.{first_of, faults_of_classes}
use Rattle.model_solved.specs.SolvedView.{solved_method}
use Rattle.model_check.specs.Solving.{solve_methods, AreSolvable}
use Rattle.model_check.proofs.class.solve.Given as goal

abbrev pub invariant-loop-i : goal.invariant-loop-i
invariant-loop-i l = record {
  solvable : AreSolvable (map class_tree (drop l.i l.classes));
  faults : first_of (faults_of_classes (map (λ c. c.name) l.classes) (map (λ c. c.name) (take l.i l.classes)) (map class_tree (drop l.i l.classes))) ≡ first_of (faults_of_classes (map (λ c. c.name) l.classes) [] (map class_tree l.classes));
  solved : map (λ methods. map solved_method methods.items) l.solved.items ≡ map (λ c. solve_methods (map (λ c. c.name) l.classes) (class_tree c)) (take l.i l.classes);
}
