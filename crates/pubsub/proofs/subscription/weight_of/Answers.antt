use Rattle.std.proofs.Common.{ap, arith}
use Rattle.world_plain.specs.World.{subscription_weight}
use Rattle.pubsub.proofs.Subscriptions.{total_bound, weight_at}
use Rattle.pubsub.proofs.subscription.weight_of.Goals as goal

pub overflow_add-sum : goal.overflow_add-sum
overflow_add-sum c =
    let all = c.args.subscriptions.now in
    let at = weight_at all c.loop-subscription.subscription-index c.subscription-item.result c.loop-subscription-test.true in
    omega (arith, at, ap subscription_weight c.subscription-item.is, c.subscription_weight-sum.ensures, c.loop-subscription.invariant.0, total_bound all c.requires.light, c.requires.few)
