use Rattle.system_plain.proofs.WholeSchedules.{schedule_grows}
use Rattle.system_plain.proofs.laws.schedules_grow.Goals as goal

pub returns : goal.returns
returns g c = schedule_grows
