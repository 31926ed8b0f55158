use denote.Param.Send.{IsSend, IsSync, sendable}
use Rattle.std.proofs.Crossing.{crosses}
use Rattle.model_value.proofs.value.Value.TheLaws.TheKnot.{send-Value}
use Rattle.model_solved.specs.contracts.checked.Checked as checked
use Rattle.pubsub.specs.contracts.topics.Topics as topics
use Rattle.world.specs.contracts.world.World as world
use Rattle.world.proofs.laws.world_crosses_threads.Goals as goal

topics-send : IsSend topics.the_row
topics-send = search (sendable, crosses) depth 60 fits 20000

world-send : IsSend checked.the_row → IsSync checked.the_row → IsSend topics.the_row → IsSend world.the_row
world-send send sync topics = search (sendable, crosses, send-Value) depth 60 fits 20000

pub returns : goal.returns
returns c = world-send c.checked_crosses_threads.ensures.send c.checked_crosses_threads.ensures.sync topics-send
