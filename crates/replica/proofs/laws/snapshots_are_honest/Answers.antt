use Rattle.std.proofs.Common.{refl}
use Rattle.replica.proofs.laws.snapshots_are_honest.Goals as goal

pub returns : goal.returns
returns c = λ r log bytes follows spelled. record { world = r.plain.world; spelled = spelled; timed = refl; follows = follows.follows }
