use Rattle.view_bridge.proofs.TopicLaws.{handled-by_topic, handled-sublist}
use Rattle.view_bridge.proofs.laws.events_are_handled_by_topic.Goals as goal

pub returns-clause-topic : goal.returns-clause-topic
returns-clause-topic c = handled-by_topic

pub returns-clause-order : goal.returns-clause-order
returns-clause-order c = handled-sublist
