use Rattle.std.proofs.Common.{rules}
use Rattle.std.specs.Prelude.{not}
use Rattle.std.proofs.lemmas.Fn.{filter_same}
use Rattle.view_bridge.specs.declared.topic.Topic.{Topic}
use Rattle.view_bridge.specs.Topics.{is_topic}
use Rattle.view_bridge.proofs.events.remove.Goals as goal

pub returns : goal.returns
returns c = filter_same _ (λ (t : Topic). not (is_topic c.args.scope.now c.args.event.now t)) _ (λ x b f' k. search rules) _ _ c.retain.ensures.filtered
