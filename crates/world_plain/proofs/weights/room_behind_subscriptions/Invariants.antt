use Rattle.std.proofs.Common.{◌≡◌, ◌+◌, drop}
use Rattle.world_plain.specs.World.{subscription_weight, total_weight}
use Rattle.world_plain.proofs.weights.room_behind_subscriptions.Given as goal

abbrev pub invariant-loop-subscription : goal.invariant-loop-subscription
invariant-loop-subscription l = l.left + total_weight subscription_weight l.subscriptions ≡ l.room + total_weight subscription_weight (drop l.subscription-index l.subscriptions)
