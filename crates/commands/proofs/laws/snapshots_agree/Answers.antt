use Rattle.commands.proofs.Agreement.{snapshots-agree}
use Rattle.commands.proofs.laws.snapshots_agree.Goals as goal

pub returns : goal.returns
returns c = snapshots-agree c.resumed_follows.ensures
