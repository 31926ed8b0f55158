use Rattle.system_plain.proofs.LineSteps.{pull_is_turn, take_is_turn, tick_is_turn}
use Rattle.system_plain.proofs.laws.connection_is_line.Goals as goal

pub returns : goal.returns
returns g c = record { takes = take_is_turn; ticks = tick_is_turn; pulls = pull_is_turn }
