use Rattle.std.proofs.Common.{◌∙◌}
use Rattle.view_shell.specs.Viewers.{viewer}
use Rattle.view_shell.proofs.Readiness.{viewer_at_rest}
use Rattle.live_view.proofs.Leading.{show_comes}
use Rattle.live_view.proofs.lines.show.Goals as goal

pub returns-clause-told : goal.returns-clause-told
returns-clause-told c address lines =
    let old = c.args.watcher.now in
    show_comes c.tell.result c.args.out.now c.tell.new.out (viewer address old lines) (viewer address c.rest.new.watcher lines) (viewer address c.tell.new.watcher lines) c.as_str.result.now
    (viewer_at_rest address lines old c.rest.new.watcher c.rest.ensures.kept c.in-Ok.ensures.rests) (c.as_str.ensures.value ∙ c.in_ok-text.ensures) (c.tell.ensures.told address lines)
