use Rattle.std.proofs.Common.{◌≡◌, [], take, drop}
use Rattle.model_solved.specs.Faults.{first_of, faults_of_names}
use Rattle.model_check.proofs.names.all_once.Given as goal

abbrev pub invariant-loop-i : goal.invariant-loop-i
invariant-loop-i l = first_of (faults_of_names (take l.i l.names) (drop l.i l.names)) ≡ first_of (faults_of_names [] l.names)
