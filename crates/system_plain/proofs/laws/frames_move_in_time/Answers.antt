use Rattle.system_plain.proofs.WholeSchedules.{connection_in_time, next_in_time, served_in_time}
use Rattle.system_plain.proofs.laws.frames_move_in_time.Goals as goal

pub returns : goal.returns
returns g c = record { served = served_in_time; in_flight = connection_in_time; next = next_in_time }
