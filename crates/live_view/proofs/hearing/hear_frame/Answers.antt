use Rattle.std.proofs.Common.{Some}
use Rattle.byte_fields.specs.Fields.{whole}
use Rattle.wire_frames.specs.Reading.{server_at}
use Rattle.view_shell.specs.Phases.{after_frame, bad_base, heard_frame, reads}
use Rattle.view_shell.specs.Viewers.{viewer}
use Rattle.live_view.specs.Doing.{aim_of}
use Rattle.live_view.proofs.Leading.{comes_at, comes_from, gone_comes, gone_ready, stopped_as}
use Rattle.view_shell.specs.declared.hearing.Stop.TheVariants as stop
use Rattle.view_shell.specs.declared.watcher.Watcher.{Watcher}
use Rattle.std.proofs.Common.{◌≡◌, ap, arith}
use Rattle.live_view.specs.Doing.{votes_for}
use Rattle.live_view.proofs.Leading.{count_on_from, count_waits, none_waits}
use Rattle.live_view.proofs.hearing.hear_frame.Goals as goal

pub returns-in-Ok-clause-told : goal.returns-in-Ok-clause-told
returns-in-Ok-clause-told c address lines =
    let aim = aim_of c.args.goal in
    comes_at c.behind.result c.args.out.now c.behind.new.out (reads (heard_frame (viewer address c.args.watcher.now lines)) aim (whole server_at c.args.bytes.now)) (after_frame (viewer address c.take.new.watcher lines) aim c.in-Ok.frame) (viewer address c.behind.new.watcher lines)
    (c.in-Ok.ensures.taken address lines aim) (c.behind.ensures.told address lines)

pub returns-in-Err-End-clause-ready : goal.returns-in-Err-End-clause-ready
returns-in-Err-End-clause-ready c = gone_ready c.ended.result c.in-Err-End.end _ c.ended.ensures.at

pub returns-in-Err-End-clause-told : goal.returns-in-Err-End-clause-told
returns-in-Err-End-clause-told c address lines =
    let aim = aim_of c.args.goal in
    gone_comes c.ended.result c.args.out.now (reads (heard_frame (viewer address c.args.watcher.now lines)) aim (whole server_at c.args.bytes.now)) c.in-Err-End.end (viewer address c.take.new.watcher lines)
    c.ended.ensures.at c.ended.ensures.not
    (stopped_as c.in-Err-End.field-0 (stop.End c.in-Err-End.end) (reads (heard_frame (viewer address c.args.watcher.now lines)) aim (whole server_at c.args.bytes.now)) (viewer address c.take.new.watcher lines) aim c.in-Err-End.field-0-is (c.in-Err-End.ensures.taken address lines aim))

pub returns-in-Err-BadBase-clause-told : goal.returns-in-Err-BadBase-clause-told
returns-in-Err-BadBase-clause-told c address lines =
    let aim = aim_of c.args.goal in
    let v = viewer address c.take.new.watcher lines in
    comes_from c.args.out.now c.args.out.now (reads (heard_frame (viewer address c.args.watcher.now lines)) aim (whole server_at c.args.bytes.now)) (bad_base v aim) v (Some c.without_base.result)
    (stopped_as c.in-Err-BadBase.field-0 stop.BadBase (reads (heard_frame (viewer address c.args.watcher.now lines)) aim (whole server_at c.args.bytes.now)) v aim c.in-Err-BadBase.field-0-is (c.in-Err-BadBase.ensures.taken address lines aim)) (c.without_base.ensures.at v c.args.out.now)

pub behind-requires-clause-room : goal.behind-requires-clause-room
behind-requires-clause-room c =
    let same : c.take.new.watcher.published ≡ c.args.watcher.now.published = ap (λ (w : Watcher). w.published) c.take.ensures.kept in
    let room = c.requires.room in
    omega (arith, same, room)

pub returns-in-Ok-clause-count : goal.returns-in-Ok-clause-count
returns-in-Ok-clause-count c =
    count_on_from c.behind.result c.behind.new.watcher.published c.take.new.watcher.published c.args.watcher.now.published (votes_for c.args.goal) (ap (λ (w : Watcher). w.published) c.take.ensures.kept) c.behind.ensures.count

pub returns-in-Err-End-clause-count : goal.returns-in-Err-End-clause-count
returns-in-Err-End-clause-count c =
    count_waits c.ended.result c.take.new.watcher.published c.args.watcher.now.published (votes_for c.args.goal) (ap (λ (w : Watcher). w.published) c.take.ensures.kept)
    (none_waits c.ended.result (votes_for c.args.goal) c.ended.ensures.waits)

pub returns-in-Err-BadBase-clause-count : goal.returns-in-Err-BadBase-clause-count
returns-in-Err-BadBase-clause-count c =
    let same : c.take.new.watcher.published ≡ c.args.watcher.now.published = ap (λ (w : Watcher). w.published) c.take.ensures.kept in
    let none = c.without_base.ensures.waits in
    omega (arith, same, none)
