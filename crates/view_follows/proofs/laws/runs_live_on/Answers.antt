use Rattle.view_follows.proofs.Living.{lives_on}
use Rattle.view_follows.proofs.laws.runs_live_on.Goals as goal

pub returns : goal.returns
returns g c = lives_on _ _
