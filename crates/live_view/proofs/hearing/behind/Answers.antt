use Rattle.std.proofs.Common.{refl}
use Rattle.wire_frames.specs.declared.frame.ServerFrame.TheVariants as server
use Rattle.view_shell.specs.Viewers.{viewer}
use Rattle.view_shell.specs.ViewText.{snapped_line, snap_refused_line}
use Rattle.live_view.specs.declared.input.Goal.TheVariants as aim
use Rattle.live_view.proofs.Leading.{heard_at, heard_on, heard_sync, heard_told}
use Rattle.std.proofs.Common.{◌≡◌, ◌+◌, ◌≤◌, arith, ap, subst, sym}
use Rattle.std.specs.Prelude.{IfOk, nat_le}
use Rattle.view_shell.specs.Phases.{after_entry, after_frame}
use Rattle.live_view.specs.declared.input.Goal.{Goal}
use Rattle.live_view.specs.Doing.{aim_of, votes_at, votes_for}
use Rattle.live_view.proofs.Leading.{comes_at, frame_at}
use Rattle.live_view.proofs.hearing.behind.Goals as goal

pub returns-in-Sync-clause-told : goal.returns-in-Sync-clause-told
returns-in-Sync-clause-told c address lines =
    heard_sync c.synced.result c.args.out.now c.synced.new.out (viewer address c.args.watcher.now lines) (viewer address c.synced.new.watcher lines) c.args.goal c.in-Join.how c.args.frame.now c.in-Sync.joined c.in-Sync.last c.in-Sync.from c.in-Sync.base c.in-Join.is c.in-Sync.is (c.synced.ensures.told address lines)

pub returns-in-Recv-clause-told : goal.returns-in-Recv-clause-told
returns-in-Recv-clause-told c address lines =
    heard_at c.hear_on.result c.args.out.now c.hear_on.new.out (viewer address c.args.watcher.now lines) (viewer address c.hear_on.new.watcher lines) c.args.goal (aim.Join c.in-Join.how) c.args.frame.now (server.Recv c.in-Recv.field-0) c.in-Join.is c.in-Recv.is refl (c.hear_on.ensures.told address lines)

pub returns-in-Tick-clause-told : goal.returns-in-Tick-clause-told
returns-in-Tick-clause-told c address lines =
    heard_at c.hear_on-in-Tick.result c.args.out.now c.hear_on-in-Tick.new.out (viewer address c.args.watcher.now lines) (viewer address c.hear_on-in-Tick.new.watcher lines) c.args.goal (aim.Join c.in-Join.how) c.args.frame.now (server.Tick c.in-Tick.field-0) c.in-Join.is c.in-Tick.is refl (c.hear_on-in-Tick.ensures.told address lines)

pub returns-in-Done-clause-told : goal.returns-in-Done-clause-told
returns-in-Done-clause-told c address lines =
    heard_at c.hear_on-in-Done.result c.args.out.now c.hear_on-in-Done.new.out (viewer address c.args.watcher.now lines) (viewer address c.hear_on-in-Done.new.watcher lines) c.args.goal (aim.Join c.in-Join.how) c.args.frame.now (server.Done c.in-Done.number c.in-Done.seq c.in-Done.time) c.in-Join.is c.in-Done.is refl (c.hear_on-in-Done.ensures.told address lines)

pub returns-in-Snapped-clause-told : goal.returns-in-Snapped-clause-told
returns-in-Snapped-clause-told c address lines =
    heard_at c.hear_on-in-Snapped.result c.args.out.now c.hear_on-in-Snapped.new.out (viewer address c.args.watcher.now lines) (viewer address c.hear_on-in-Snapped.new.watcher lines) c.args.goal (aim.Join c.in-Join.how) c.args.frame.now (server.Snapped c.in-Snapped.time) c.in-Join.is c.in-Snapped.is refl (c.hear_on-in-Snapped.ensures.told address lines)

pub returns-in-Refused-clause-told : goal.returns-in-Refused-clause-told
returns-in-Refused-clause-told c address lines =
    heard_at c.hear_on-in-Refused.result c.args.out.now c.hear_on-in-Refused.new.out (viewer address c.args.watcher.now lines) (viewer address c.hear_on-in-Refused.new.watcher lines) c.args.goal (aim.Join c.in-Join.how) c.args.frame.now (server.Refused c.in-Refused.about c.in-Refused.code c.in-Refused.kept c.in-Refused.more) c.in-Join.is c.in-Refused.is refl (c.hear_on-in-Refused.ensures.told address lines)

pub returns-in-Alive-clause-told : goal.returns-in-Alive-clause-told
returns-in-Alive-clause-told c address lines =
    heard_at c.hear_on-in-Alive.result c.args.out.now c.hear_on-in-Alive.new.out (viewer address c.args.watcher.now lines) (viewer address c.hear_on-in-Alive.new.watcher lines) c.args.goal (aim.Join c.in-Join.how) c.args.frame.now server.Alive c.in-Join.is c.in-Alive.is refl (c.hear_on-in-Alive.ensures.told address lines)

pub returns-in-Sync-frame-clause-told : goal.returns-in-Sync-frame-clause-told
returns-in-Sync-frame-clause-told c address lines =
    heard_on c.hear_on-in-Sync-frame.result c.args.out.now c.hear_on-in-Sync-frame.new.out (viewer address c.args.watcher.now lines) (viewer address c.hear_on-in-Sync-frame.new.watcher lines) c.args.goal aim.Snap c.args.frame.now (server.Sync c.in-Sync-frame.joined c.in-Sync-frame.last c.in-Sync-frame.from c.in-Sync-frame.base) c.in-Snap.is c.in-Sync-frame.is refl (c.hear_on-in-Sync-frame.ensures.told address lines)

pub returns-in-Recv-frame-clause-told : goal.returns-in-Recv-frame-clause-told
returns-in-Recv-frame-clause-told c address lines =
    heard_on c.hear_on-in-Recv-frame.result c.args.out.now c.hear_on-in-Recv-frame.new.out (viewer address c.args.watcher.now lines) (viewer address c.hear_on-in-Recv-frame.new.watcher lines) c.args.goal aim.Snap c.args.frame.now (server.Recv c.in-Recv-frame.field-0) c.in-Snap.is c.in-Recv-frame.is refl (c.hear_on-in-Recv-frame.ensures.told address lines)

pub returns-in-Tick-frame-clause-told : goal.returns-in-Tick-frame-clause-told
returns-in-Tick-frame-clause-told c address lines =
    heard_on c.hear_on-in-Tick-frame.result c.args.out.now c.hear_on-in-Tick-frame.new.out (viewer address c.args.watcher.now lines) (viewer address c.hear_on-in-Tick-frame.new.watcher lines) c.args.goal aim.Snap c.args.frame.now (server.Tick c.in-Tick-frame.field-0) c.in-Snap.is c.in-Tick-frame.is refl (c.hear_on-in-Tick-frame.ensures.told address lines)

pub returns-in-Done-frame-clause-told : goal.returns-in-Done-frame-clause-told
returns-in-Done-frame-clause-told c address lines =
    heard_on c.hear_on-in-Done-frame.result c.args.out.now c.hear_on-in-Done-frame.new.out (viewer address c.args.watcher.now lines) (viewer address c.hear_on-in-Done-frame.new.watcher lines) c.args.goal aim.Snap c.args.frame.now (server.Done c.in-Done-frame.number c.in-Done-frame.seq c.in-Done-frame.time) c.in-Snap.is c.in-Done-frame.is refl (c.hear_on-in-Done-frame.ensures.told address lines)

pub returns-in-Snapped-frame-clause-told : goal.returns-in-Snapped-frame-clause-told
returns-in-Snapped-frame-clause-told c address lines =
    heard_told c.snapped.result c.args.out.now c.snapped.new.out (viewer address c.args.watcher.now lines) (viewer address c.snapped.new.watcher lines) c.args.goal aim.Snap c.args.frame.now (server.Snapped c.in-Snapped-frame.time) (snapped_line c.in-Snapped-frame.time) c.in-Snap.is c.in-Snapped-frame.is refl (c.snapped.ensures.told address lines)

pub returns-in-Refused-frame-clause-told : goal.returns-in-Refused-frame-clause-told
returns-in-Refused-frame-clause-told c address lines =
    heard_told c.refused.result c.args.out.now c.refused.new.out (viewer address c.args.watcher.now lines) (viewer address c.refused.new.watcher lines) c.args.goal aim.Snap c.args.frame.now (server.Refused c.in-Refused-frame.about c.in-Refused-frame.code c.in-Refused-frame.kept c.in-Refused-frame.more) (snap_refused_line c.in-Refused-frame.code c.in-Refused-frame.kept) c.in-Snap.is c.in-Refused-frame.is refl (c.refused.ensures.told address lines)

pub returns-in-Alive-frame-clause-told : goal.returns-in-Alive-frame-clause-told
returns-in-Alive-frame-clause-told c address lines =
    heard_on c.hear_on-in-Alive-frame.result c.args.out.now c.hear_on-in-Alive-frame.new.out (viewer address c.args.watcher.now lines) (viewer address c.hear_on-in-Alive-frame.new.watcher lines) c.args.goal aim.Snap c.args.frame.now server.Alive c.in-Snap.is c.in-Alive-frame.is refl (c.hear_on-in-Alive-frame.ensures.told address lines)

pub returns-in-Reach-clause-told : goal.returns-in-Reach-clause-told
returns-in-Reach-clause-told c address lines =
    heard_on c.hear_on-in-Reach.result c.args.out.now c.hear_on-in-Reach.new.out (viewer address c.args.watcher.now lines) (viewer address c.hear_on-in-Reach.new.watcher lines) c.args.goal (aim.Reach c.in-Reach.field-0) c.args.frame.now c.args.frame.now c.in-Reach.is refl refl (c.hear_on-in-Reach.ensures.told address lines)

pub returns-in-Settle-clause-told : goal.returns-in-Settle-clause-told
returns-in-Settle-clause-told c address lines =
    heard_on c.hear_on-in-Settle.result c.args.out.now c.hear_on-in-Settle.new.out (viewer address c.args.watcher.now lines) (viewer address c.hear_on-in-Settle.new.watcher lines) c.args.goal aim.Settle c.args.frame.now c.args.frame.now c.in-Settle.is refl refl (c.hear_on-in-Settle.ensures.told address lines)

pub returns-in-CatchUp-clause-told : goal.returns-in-CatchUp-clause-told
returns-in-CatchUp-clause-told c address lines =
    heard_on c.hear_on-in-CatchUp.result c.args.out.now c.hear_on-in-CatchUp.new.out (viewer address c.args.watcher.now lines) (viewer address c.hear_on-in-CatchUp.new.watcher lines) c.args.goal aim.CatchUp c.args.frame.now c.args.frame.now c.in-CatchUp.is refl refl (c.hear_on-in-CatchUp.ensures.told address lines)

pub returns-in-See-clause-told : goal.returns-in-See-clause-told
returns-in-See-clause-told c address lines =
    let v = viewer address c.args.watcher.now lines in
    comes_at c.seen_on.result c.args.out.now c.seen_on.new.out (after_frame v (aim_of c.args.goal) c.args.frame.now) (after_entry (nat_le c.in-See.at v.replica.seen) v c.in-See.at) (viewer address c.seen_on.new.watcher lines)
    (frame_at v c.args.goal (aim.See c.in-See.at) c.args.frame.now c.args.frame.now _ c.in-See.is refl refl) (c.seen_on.ensures.told address lines)

pub seen_on-requires-clause-room : goal.seen_on-requires-clause-room
seen_on-requires-clause-room c =
    let one : votes_for c.args.goal ≡ 1 = ap votes_for c.in-See.is in
    let room = c.requires.room in
    omega (arith, one, room)

pub returns-in-See-clause-count : goal.returns-in-See-clause-count
returns-in-See-clause-count c =
    subst (λ (g : Goal). IfOk c.seen_on.result (λ place. c.seen_on.new.watcher.published + votes_at place ≤ c.args.watcher.now.published + votes_for g)) (sym c.in-See.is) c.seen_on.ensures.count

pub returns-in-Sync-clause-count : goal.returns-in-Sync-clause-count
returns-in-Sync-clause-count c = c.synced.ensures.count (votes_for c.args.goal)

pub returns-in-Snapped-frame-clause-count : goal.returns-in-Snapped-frame-clause-count
returns-in-Snapped-frame-clause-count c = c.snapped.ensures.count (votes_for c.args.goal)

pub returns-in-Refused-frame-clause-count : goal.returns-in-Refused-frame-clause-count
returns-in-Refused-frame-clause-count c = c.refused.ensures.count (votes_for c.args.goal)
