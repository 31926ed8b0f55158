use Rattle.std.proofs.Common.{◌+◌, drop}
use Rattle.world_plain.specs.World.{world_record}
use Rattle.world.proofs.PutBack.{next-subscription, put-next}
use Rattle.world.proofs.resuming.put_subscriptions.Goals as goal

pub put_subscription-requires-clause-new : goal.put_subscription-requires-clause-new
put_subscription-requires-clause-new c =
    (next-subscription (world_record c.args.plain.now) c.loop-subscription.topics c.as_slice-subscription-items.result.now c.loop-subscription.subscription-index c.subscription-item.result c.in_ok-copy_subscription.field-0 c.requires c.loop-subscription-test.true c.subscription-item.is c.in_ok-copy_subscription.ensures c.loop-subscription.invariant).new

pub put_subscription-requires-clause-few : goal.put_subscription-requires-clause-few
put_subscription-requires-clause-few c =
    (next-subscription (world_record c.args.plain.now) c.loop-subscription.topics c.as_slice-subscription-items.result.now c.loop-subscription.subscription-index c.subscription-item.result c.in_ok-copy_subscription.field-0 c.requires c.loop-subscription-test.true c.subscription-item.is c.in_ok-copy_subscription.ensures c.loop-subscription.invariant).few

pub put_subscription-requires-clause-light : goal.put_subscription-requires-clause-light
put_subscription-requires-clause-light c =
    (next-subscription (world_record c.args.plain.now) c.loop-subscription.topics c.as_slice-subscription-items.result.now c.loop-subscription.subscription-index c.subscription-item.result c.in_ok-copy_subscription.field-0 c.requires c.loop-subscription-test.true c.subscription-item.is c.in_ok-copy_subscription.ensures c.loop-subscription.invariant).light

pub loop-subscription-preserved : goal.loop-subscription-preserved
loop-subscription-preserved c =
    let one = next-subscription (world_record c.args.plain.now) c.loop-subscription.topics c.as_slice-subscription-items.result.now c.loop-subscription.subscription-index c.subscription-item.result c.in_ok-copy_subscription.field-0 c.requires c.loop-subscription-test.true c.subscription-item.is c.in_ok-copy_subscription.ensures c.loop-subscription.invariant in
    put-next c.loop-subscription.topics c.put_subscription.new.topics (drop (c.loop-subscription.subscription-index + 1) c.as_slice-subscription-items.result.now) (world_record c.args.plain.now).subscriptions c.in_ok-copy_subscription.field-0 one.whole c.in_ok-put_subscription.ensures
