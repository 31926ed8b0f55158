use Rattle.std.proofs.lemmas.Result.{err_from_is_err_and}
use Rattle.byte_fields.proofs.Loops.{goes_on, ends, is_done}
use Rattle.snapshot_codec.specs.Reading.{subscription_at}
use Rattle.snapshot_codec.proofs.parts.subscriptions_of.Goals as goal

pub returns-in_err-subscription : goal.returns-in_err-subscription
returns-in_err-subscription c =
    let p = err_from_is_err_and c.from_residual.result c.from_residual.ensures.1 in
    rw (p.1, p.2) (λ bad. ends (λ _. subscription_at) c.loop.subscriptions c.args.count c.loop.counter c.loop.rest.now _ c.loop-test.true (c.in_err-subscription.ensures bad) c.loop.invariant)

pub loop-preserved : goal.loop-preserved
loop-preserved c = rw c.in_ok-push.ensures.ok (goes_on (λ _. subscription_at) c.loop.subscriptions c.args.count c.loop.counter c.loop.rest.now c.in_ok-subscription.subscription c.in_ok-subscription.after.now _ c.loop-test.true c.in_ok-subscription.ensures c.loop.invariant)

pub returns : goal.returns
returns c = is_done (λ _. subscription_at) c.loop.subscriptions c.args.count c.loop.counter c.loop.rest.now _ c.loop-test.false c.loop.invariant
