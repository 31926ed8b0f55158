use Rattle.std.proofs.Common.{refl}
use Rattle.command_host.proofs.Names.{one_place}
use Rattle.command_host.proofs.hosting.log_places.Goals as goal

pub loop-place-preserved : goal.loop-place-preserved
loop-place-preserved c =
    one_place c.args.ids.now c.loop-place.place _ c.args.prefix.now _ c.loop-place.places _
    c.loop-place-test.true refl c.in_ok-log_place.ensures c.loop-place.invariant c.in_ok-push.ensures.ok
