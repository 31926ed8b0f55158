use Rattle.std.proofs.Common.{ap}
use Rattle.byte_fields.specs.Fields.{whole}
use Rattle.wire_frames.specs.Reading.{server_at}
use Rattle.view_shell.specs.declared.ending.ViewEnd.TheVariants as ending
use Rattle.view_shell.specs.Phases.{heard_frame, heard_quiet, quiet, reads}
use Rattle.view_shell.specs.Viewers.{viewer}
use Rattle.live_view.specs.Doing.{aim_of}
use Rattle.live_view.specs.Live.{hears}
use Rattle.live_view.proofs.Leading.{comes_at, over_comes}
use Rattle.live_view.proofs.rows.hear.Goals as goal

pub returns-in-Frame-clause-told : goal.returns-in-Frame-clause-told
returns-in-Frame-clause-told c address lines =
    let v = viewer address c.args.watcher.now lines in
    let aim = aim_of c.args.goal in
    comes_at c.hear_frame.result c.args.out.now c.hear_frame.new.out (hears v aim c.args.heard.now) (reads (heard_frame v) aim (whole server_at c.in-Frame.bytes)) (viewer address c.hear_frame.new.watcher lines)
    (ap (hears v aim) c.in-Frame.is) (c.hear_frame.ensures.told address lines)

pub returns-in-Quiet-clause-told : goal.returns-in-Quiet-clause-told
returns-in-Quiet-clause-told c address lines =
    let v = viewer address c.args.watcher.now lines in
    let aim = aim_of c.args.goal in
    comes_at c.hear_quiet.result c.args.out.now c.hear_quiet.new.out (hears v aim c.args.heard.now) (quiet (heard_quiet v) aim) (viewer address c.hear_quiet.new.watcher lines)
    (ap (hears v aim) c.in-Quiet.is) (c.hear_quiet.ensures.told address lines)

pub returns-in-End-clause-told : goal.returns-in-End-clause-told
returns-in-End-clause-told c address lines =
    let v = viewer address c.args.watcher.now lines in
    over_comes c.args.out.now (hears v (aim_of c.args.goal) c.args.heard.now) ending.Ended v (ap (hears v (aim_of c.args.goal)) c.in-End.is)

pub returns-in-Failed-clause-told : goal.returns-in-Failed-clause-told
returns-in-Failed-clause-told c address lines =
    let v = viewer address c.args.watcher.now lines in
    over_comes c.args.out.now (hears v (aim_of c.args.goal) c.args.heard.now) ending.NetFault v (ap (hears v (aim_of c.args.goal)) c.in-Failed.is)
