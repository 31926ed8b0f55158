use Rattle.system_plain.proofs.StepRows.{no_leave, no_pull, no_take, over_rests}
use Rattle.system_plain.proofs.laws.steps_that_rest.Goals as goal

pub returns : goal.returns
returns g c = record { over = over_rests; no_pull = no_pull; no_take = no_take; no_leave = no_leave }
