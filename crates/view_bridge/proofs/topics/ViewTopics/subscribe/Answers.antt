use Rattle.std.proofs.Common.{◌≡◌, Some, None, List, sym, ap, ◌∙◌}
use Rattle.std.specs.List.{position}
use Rattle.view_bridge.specs.declared.topic.Topic.{Topic}
use Rattle.view_bridge.specs.Topics.{is_topic, subscribes}
use Rattle.view_bridge.proofs.TopicLaws.{subscribed-found, subscribed-none}
use Rattle.view_bridge.proofs.topics.ViewTopics.subscribe.Goals as goal

pub returns-in-Some-clause-ok : goal.returns-in-Some-clause-ok
returns-in-Some-clause-ok c =
    let topics = c.self.inside.topics.items in
    let found : position (is_topic c.args.scope c.args.event) topics ≡ Some c.in-Some.place =
    sym (c.place_of.ensures ∙ ap (λ (ts : List Topic). position (is_topic c.args.scope c.args.event) ts) c.deref.ensures.value) ∙ c.in-Some.is in
    subscribed-found c.args.scope c.args.event c.args.handling topics c.in-Some.place c.index_mut.result.now found c.index_mut.ensures.value
    ∙ ap (λ (ts : List Topic). subscribes ts c.args.scope c.args.event c.args.handling) c.self.view_is

pub returns-in-None-clause-ok : goal.returns-in-None-clause-ok
returns-in-None-clause-ok c =
    let topics = c.self.inside.topics.items in
    let none : position (is_topic c.args.scope c.args.event) topics ≡ None =
    sym (c.place_of.ensures ∙ ap (λ (ts : List Topic). position (is_topic c.args.scope c.args.event) ts) c.deref.ensures.value) ∙ c.in-None.is in
    let last = subscribed-none c.args.scope c.args.event c.args.handling topics none ∙ ap (λ (ts : List Topic). subscribes ts c.args.scope c.args.event c.args.handling) c.self.view_is in
    rw (← last) c.push.ensures.ok
