use Rattle.std.proofs.Common.{[], ap, ◌∙◌}
use Rattle.view_bridge.specs.Topics.{subscribes}
use Rattle.view_shell.specs.Viewers.{viewer}
use Rattle.live_view.proofs.Leading.{told_viewer}
use Rattle.live_view.proofs.lines.watch.Goals as goal

pub returns-clause-told : goal.returns-clause-told
returns-clause-told c address lines =
    let old = c.args.watcher.now in
    let v = viewer address old lines in
    let topics = c.in_ok-subscribe.ensures.ok ∙ ap (λ s. subscribes old.topics s c.in_ok-event.event c.args.handling) c.in_ok-scope.ensures ∙ ap (λ e. subscribes old.topics c.args.scope.now e c.args.handling) c.in_ok-event.ensures in
    told_viewer c.tell.result c.args.out.now c.tell.new.out (record v { topics = c.subscribe.new.self }) (record v { topics = subscribes old.topics c.args.scope.now c.args.event.now c.args.handling }) (viewer address c.tell.new.watcher lines) []
    (ap (λ t. record v { topics = t }) topics) (c.tell.ensures.told address lines)
