use denote.Param.Send.{IsSend, IsSync, sendable}
use Rattle.std.proofs.Crossing.{crosses}
use Rattle.model_solved.specs.contracts.checked.Checked as checked
use Rattle.world.specs.contracts.world.World as world
use Rattle.replica.specs.contracts.replica.Replica as replica
use Rattle.replica.proofs.laws.replica_crosses_threads.Goals as goal

replica-send : IsSend checked.the_row → IsSync checked.the_row → IsSend world.the_row → IsSend replica.the_row
replica-send send sync worlds = search (sendable, crosses) depth 60 fits 20000

pub returns : goal.returns
returns c = replica-send c.checked_crosses_threads.ensures.send c.checked_crosses_threads.ensures.sync c.world_crosses_threads.ensures
