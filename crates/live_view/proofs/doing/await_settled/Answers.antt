use Rattle.std.proofs.Common.{◌∙◌}
use Rattle.view_shell.specs.Viewers.{viewer}
use Rattle.live_view.proofs.Leading.{settle_told, unsettled_waits}
use Rattle.live_view.proofs.doing.await_settled.Goals as goal

pub returns-then-not-is_settled-clause-told : goal.returns-then-not-is_settled-clause-told
returns-then-not-is_settled-clause-told c address lines =
    unsettled_waits c.args.out.now (viewer address c.args.watcher.now lines) (λ none. let yes = c.is_settled.ensures.1 none in let no = c.if-not-is_settled.true in cc)

pub returns-clause-told : goal.returns-clause-told
returns-clause-told c address lines =
    settle_told c.args.out.now c.tell.new.out (viewer address c.args.watcher.now lines) (viewer address c.tell.new.watcher lines) c.args.watcher.now.published c.as_str.result.now
    (c.is_settled.ensures.0 c.if-not-is_settled.false) c.requires.ready.knows.published (c.as_str.ensures.value ∙ c.in_ok-text.ensures) (c.in_ok-tell.ensures.told address lines)
