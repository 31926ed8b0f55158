use Rattle.std.proofs.Common.{List, ap, ◌∙◌}
use Rattle.std.specs.Option.{is_some}
use Rattle.std.specs.List.{position}
use Rattle.view_bridge.specs.declared.topic.Topic.{Topic}
use Rattle.view_bridge.specs.Topics.{is_topic, has_topic}
use Rattle.view_bridge.proofs.TopicLaws.{subscribed-position}
use Rattle.view_bridge.proofs.topics.ViewTopics.unsubscribe.Goals as goal

pub returns-clause-held : goal.returns-clause-held
returns-clause-held c =
    c.is_some-held.ensures
    ∙ ap is_some (c.place_of.ensures ∙ ap (λ (ts : List Topic). position (is_topic c.args.scope.now c.args.event.now) ts) c.deref.ensures.value)
    ∙ subscribed-position c.args.scope.now c.args.event.now c.self.inside.topics.items
    ∙ ap (λ (ts : List Topic). has_topic ts c.args.scope.now c.args.event.now) c.self.view_is
