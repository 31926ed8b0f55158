use Rattle.std.proofs.Common.{◌≡◌, ◌++◌, drop}
use Rattle.world.proofs.resuming.put_subscriptions.Given as goal

-- the subscriptions added so far, and behind them those that are left, are all
abbrev pub invariant-loop-subscription : goal.invariant-loop-subscription
invariant-loop-subscription l = l.topics ++ drop l.subscription-index l.subscription-items ≡ l.plain.subscriptions
