use Rattle.reflect_server.proofs.OpeningLaws.{just_those}
use Rattle.reflect_server.proofs.laws.those_here.Goals as goal

pub returns : goal.returns
returns c = just_those
