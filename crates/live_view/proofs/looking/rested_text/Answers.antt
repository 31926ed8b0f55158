use Rattle.std.proofs.Common.{refl}
use Rattle.live_view.proofs.Looks.{rested_as}
use Rattle.live_view.proofs.Queues.{well}
use Rattle.live_view.proofs.looking.rested_text.Goals as goal

pub returns-clause-rests : goal.returns-clause-rests
returns-clause-rests c address lines =
    well c.world_text.result (rested_as c.args.place address lines c.args.watcher.now c.rest_joined.new.watcher refl (c.in_ok-rest_joined.ensures.rests address lines))
