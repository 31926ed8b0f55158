use Rattle.std.proofs.Common.{◌≡◌, ◌≤◌, ◌++◌, drop}
use Rattle.std.specs.List.{flat_map, AllByRecursion}
use Rattle.world_plain.specs.World.{subscription_weight, total_weight, most_world_weight}
use Rattle.snapshot_codec.specs.Answer.{IsSubscription}
use Rattle.snapshot_codec.specs.Spelling.{subscription_spelling}
use Rattle.snapshot_codec.proofs.writing.put_subscriptions.Given as goal

abbrev pub invariant-loop-subscription : goal.invariant-loop-subscription
invariant-loop-subscription l = record {
  light : total_weight subscription_weight (drop l.subscription-index l.subscriptions) ≤ most_world_weight;
  held : AllByRecursion IsSubscription (drop l.subscription-index l.subscriptions) → AllByRecursion IsSubscription l.subscriptions;
  written : l.out ++ flat_map subscription_spelling (drop l.subscription-index l.subscriptions) ≡ l.initial.out ++ flat_map subscription_spelling l.subscriptions;
}
