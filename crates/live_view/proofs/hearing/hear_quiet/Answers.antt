use Rattle.view_shell.specs.Phases.{heard_quiet}
use Rattle.view_shell.specs.Viewers.{viewer}
use Rattle.live_view.specs.Doing.{aim_of}
use Rattle.live_view.proofs.Leading.{quiet_on}
use Rattle.live_view.proofs.hearing.hear_quiet.Goals as goal

pub returns-clause-told : goal.returns-clause-told
returns-clause-told c address lines =
    quiet_on c.hear_on.result c.args.out.now c.hear_on.new.out (heard_quiet (viewer address c.args.watcher.now lines)) (viewer address c.hear_on.new.watcher lines) (aim_of c.args.goal)
    c.if-watcher-eq-MOST_QUIETS.false (c.hear_on.ensures.told address lines)
