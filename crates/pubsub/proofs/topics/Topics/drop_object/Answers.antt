use Rattle.std.proofs.Common.{◌≡◌, List, length, rules, ap, subst, sym, ◌∙◌, arith}
use Rattle.std.specs.Prelude.{nat_eq, not}
use Rattle.std.proofs.lemmas.Fn.{filter_same}
use Rattle.world_plain.specs.World.{subscription_weight, total_weight}
use Rattle.world_plain.specs.declared.message.Subscription.{Subscription}
use Rattle.pubsub.specs.Topics.{AreLightSubscriptions, without_subscriber}
use Rattle.pubsub.proofs.Subscriptions.{filtered}
use Rattle.pubsub.specs.Held.{HoldsTopics}
use Rattle.pubsub.proofs.Indexed.{without_one, none_gone}
use Rattle.pubsub.proofs.topics.Topics.drop_object.Goals as goal

pub weight_of-self-inside-requires-clause-light : goal.weight_of-self-inside-requires-clause-light
weight_of-self-inside-requires-clause-light c =
    let left : c.retain.new.self.keys ≡ without_subscriber c.args.object c.self.inside.held.keys =
    filter_same _ (λ (s : Subscription). not (nat_eq s.object c.args.object)) _ (λ x b f' k. search rules) _ _ c.retain.ensures.filtered in
    let topics = filtered (λ (s : Subscription). not (nat_eq s.object c.args.object)) c.retain.new.self.keys c.self.inside.held.keys left c.self.invariant.topics in
    subst AreLightSubscriptions (sym c.as_slice.ensures.keys) topics.light

pub invariant_of-self : goal.invariant_of-self
invariant_of-self c =
    let was = c.self.inside in
    let new = c.retain.new.self.keys in
    let left : new ≡ without_subscriber c.args.object was.held.keys =
    filter_same _ (λ (s : Subscription). not (nat_eq s.object c.args.object)) _ (λ x b f' k. search rules) _ _ c.retain.ensures.filtered in
    let as_many : length new ≡ length was.held.keys = omega (arith, c.if-left-before.true, c.len-left.ensures.len, c.len-before.ensures.len) in
    subst (λ (l : List Subscription). HoldsTopics l was.index was.weight) (sym (none_gone c.args.object was.held.keys new left as_many)) c.self.invariant

pub returns-then-left-before-clause-topics : goal.returns-then-left-before-clause-topics
returns-then-left-before-clause-topics c =
    filter_same _ (λ (s : Subscription). not (nat_eq s.object c.args.object)) _ (λ x b f' k. search rules) _ _ c.retain.ensures.filtered
    ∙ ap (without_subscriber c.args.object) c.self.view_is

pub invariant_of-self-2 : goal.invariant_of-self-2
invariant_of-self-2 c =
    let was = c.self.inside in
    let new = c.retain.new.self.keys in
    let left : new ≡ without_subscriber c.args.object was.held.keys =
    filter_same _ (λ (s : Subscription). not (nat_eq s.object c.args.object)) _ (λ x b f' k. search rules) _ _ c.retain.ensures.filtered in
    without_one c.args.object was.held.keys new was.index c.remove_object.new.self was.weight c.weight_of-self-inside.result c.self.invariant left c.remove_object.ensures.found c.remove_object.ensures.tight
    (c.weight_of-self-inside.ensures ∙ ap (total_weight subscription_weight) c.as_slice.ensures.keys)

pub returns-clause-topics : goal.returns-clause-topics
returns-clause-topics c =
    filter_same _ (λ (s : Subscription). not (nat_eq s.object c.args.object)) _ (λ x b f' k. search rules) _ _ c.retain.ensures.filtered
    ∙ ap (without_subscriber c.args.object) c.self.view_is
