use Rattle.system_plain.proofs.Traffics.{traffic_is_served}
use Rattle.system_plain.proofs.laws.connections_are_served.Goals as goal

pub returns : goal.returns
returns g c = traffic_is_served
