use Rattle.std.proofs.Common.{refl}
use Rattle.replica_plain.proofs.Unsent.{synced_unsent, gives_unsent, publishes_unsent, done_unsent}
use Rattle.replica_plain.proofs.laws.events_are_given.Goals as goal

pub returns : goal.returns
returns g c = record { joins = λ r how. refl; synced = synced_unsent; gives = gives_unsent; publishes = publishes_unsent; answers = done_unsent }
