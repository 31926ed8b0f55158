use Rattle.view_shell.specs.Viewers.{viewer}
use Rattle.live_view.specs.declared.input.Goal.TheVariants as aim
use Rattle.live_view.proofs.Leading.{goal_comes, join_waits, snap_waits}
use Rattle.live_view.specs.Doing.{votes_for}
use Rattle.live_view.proofs.Leading.{none_waits, see_waits}
use Rattle.live_view.proofs.doing.await_goal.Goals as goal

pub returns-in-Reach-clause-told : goal.returns-in-Reach-clause-told
returns-in-Reach-clause-told c address lines =
    goal_comes c.reach.result c.args.out.now c.reach.new.out (viewer address c.args.watcher.now lines) (viewer address c.reach.new.watcher lines) c.args.goal (aim.Reach c.in-Reach.time) c.in-Reach.is (c.reach.ensures.told address lines)

pub returns-in-Settle-clause-told : goal.returns-in-Settle-clause-told
returns-in-Settle-clause-told c address lines =
    goal_comes c.await_settled.result c.args.out.now c.await_settled.new.out (viewer address c.args.watcher.now lines) (viewer address c.await_settled.new.watcher lines) c.args.goal aim.Settle c.in-Settle.is (c.await_settled.ensures.told address lines)

pub returns-in-CatchUp-clause-told : goal.returns-in-CatchUp-clause-told
returns-in-CatchUp-clause-told c address lines =
    goal_comes c.catch_up.result c.args.out.now c.catch_up.new.out (viewer address c.args.watcher.now lines) (viewer address c.catch_up.new.watcher lines) c.args.goal aim.CatchUp c.in-CatchUp.is (c.catch_up.ensures.told address lines)

pub returns-in-Join-clause-told : goal.returns-in-Join-clause-told
returns-in-Join-clause-told c address lines = join_waits c.args.out.now (viewer address c.args.watcher.now lines) c.args.goal c.in-Join.field-0 c.in-Join.is

pub returns-in-Snap-clause-told : goal.returns-in-Snap-clause-told
returns-in-Snap-clause-told c address lines = snap_waits c.args.out.now (viewer address c.args.watcher.now lines) c.args.goal c.in-Snap.is

pub returns-in-See-clause-told : goal.returns-in-See-clause-told
returns-in-See-clause-told c address lines = see_waits c.args.out.now (viewer address c.args.watcher.now lines) c.args.goal c.in-See.field-0 c.in-See.is

pub returns-in-Reach-clause-waits : goal.returns-in-Reach-clause-waits
returns-in-Reach-clause-waits c = none_waits c.reach.result (votes_for c.args.goal) c.reach.ensures.waits

pub returns-in-Settle-clause-waits : goal.returns-in-Settle-clause-waits
returns-in-Settle-clause-waits c = none_waits c.await_settled.result (votes_for c.args.goal) c.await_settled.ensures.waits

pub returns-in-CatchUp-clause-waits : goal.returns-in-CatchUp-clause-waits
returns-in-CatchUp-clause-waits c = none_waits c.catch_up.result (votes_for c.args.goal) c.catch_up.ensures.waits
