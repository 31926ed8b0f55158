use Rattle.std.proofs.Common.{◌≡◌, arith}
use Rattle.view_shell.specs.Phases.{most_receives}
use Rattle.view_shell.proofs.Going.{alive_now, goes_or_stops_from, goes_or_stops_sent}
use Rattle.view_shell.proofs.sending.stay_alive.Goals as goal

pub returns-clause-talk : goal.returns-clause-talk
returns-clause-talk g c v frames task same =
    let due : v.receives ≡ most_receives = omega (arith, same, c.if-watcher-ne-MOST_RECEIVES.false) in
    goes_or_stops_from _ _ _ _ c.send.result _ _ (alive_now v frames task due)
    (goes_or_stops_sent _ _ v c.send.new.watcher.receives frames task c.send.result _ _ c.send.ensures.sent (c.send.ensures.talk v frames task tt))
