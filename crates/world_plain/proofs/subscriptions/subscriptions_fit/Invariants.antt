use Rattle.std.proofs.Common.{map, drop}
use Rattle.std.specs.Prelude.{◌↔◌}
use Rattle.world_plain.specs.Valid.{SubscriptionsFit}
use Rattle.world_plain.specs.World.{object_record}
use Rattle.world_plain.proofs.subscriptions.subscriptions_fit.Given as goal

abbrev pub invariant-loop-subscription : goal.invariant-loop-subscription
invariant-loop-subscription l = let objects = map object_record l.objects in SubscriptionsFit objects l.subscriptions ↔ SubscriptionsFit objects (drop l.subscription-index l.subscriptions)
