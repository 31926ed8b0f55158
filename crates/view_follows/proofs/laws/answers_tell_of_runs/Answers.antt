use Rattle.view_follows.proofs.Telling.{answers_tell, kept_tells}
use Rattle.view_follows.proofs.laws.answers_tell_of_runs.Goals as goal

pub returns : goal.returns
returns g c = record {
  alone = answers_tell _ _ _;
  kept = λ id clock opening first keeper calls count before now answer has. kept_tells _ _ _ id clock opening _ calls count before now answer has;
}
