use Rattle.std.proofs.Common.{sym, ◌∙◌}
use Rattle.view_shell.specs.Viewers.{viewer}
use Rattle.live_view.proofs.Leading.{caught_comes, many_wait}
use Rattle.live_view.proofs.doing.catch_up.Goals as goal

pub returns-then-not-has_caught_up-clause-told : goal.returns-then-not-has_caught_up-clause-told
returns-then-not-has_caught_up-clause-told c address lines = many_wait c.args.out.now (viewer address c.args.watcher.now lines) (sym c.has_caught_up.ensures ∙ c.if-not-has_caught_up.true)

pub returns-clause-told : goal.returns-clause-told
returns-clause-told c address lines =
    caught_comes c.args.out.now c.tell.new.out (viewer address c.args.watcher.now lines) (viewer address c.tell.new.watcher lines) (sym c.has_caught_up.ensures ∙ c.if-not-has_caught_up.false) (c.in_ok-tell.ensures.told address lines)
