-- What is true of the parts of all topics.
use Rattle.std.specs.Prelude.{◌≡◌, ℕ, List}
use Rattle.world_plain.specs.World.{subscription_weight, total_weight}
use Rattle.world_plain.specs.declared.message.Subscription.{Subscription}
use Rattle.pubsub.specs.declared.index.TopicIndex.{TopicIndex}
use Rattle.pubsub.specs.Topics.{AreTopics}
use Rattle.pubsub.specs.Index.{IsIndexOf, IsTight}

-- the subscriptions are topics, the index finds who handles each and has no entry besides, and they weigh so much
pub record HoldsTopics (held : List Subscription) (index : TopicIndex) (weight : ℕ) : Type 0 where
  pub topics : AreTopics held
  pub indexed : IsIndexOf index held
  pub tight : IsTight index
  pub weighed : weight ≡ total_weight subscription_weight held
