use Rattle.std.proofs.Common.{◌≡◌, ◌+◌, drop}
use Rattle.world_plain.specs.World.{subscription_weight, total_weight}
use Rattle.pubsub.specs.Topics.{AreLightSubscriptions}
use Rattle.pubsub.proofs.subscription.weight_of.Given as goal

abbrev pub invariant-loop-subscription : goal.invariant-loop-subscription
invariant-loop-subscription l =
    let rest = drop l.subscription-index l.subscriptions in
    (l.sum + total_weight subscription_weight rest ≡ total_weight subscription_weight l.subscriptions) × AreLightSubscriptions rest
