use Rattle.std.proofs.Common.{◌≡◌, take}
use Rattle.world_plain.proofs.copies.copy_subscriptions.Given as goal

abbrev pub invariant-loop-subscription : goal.invariant-loop-subscription
invariant-loop-subscription l = l.copies.items ≡ take l.subscription-index l.subscriptions
