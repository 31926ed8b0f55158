use Rattle.std.proofs.Common.{◌∙◌}
use Rattle.view_shell.specs.Viewers.{viewer}
use Rattle.view_shell.specs.ViewText.{vote_missed_line}
use Rattle.live_view.proofs.Leading.{told_text}
use Rattle.live_view.proofs.lines.miss_vote.Goals as goal

pub returns-clause-told : goal.returns-clause-told
returns-clause-told c address lines =
    told_text c.tell.result c.args.out.now c.tell.new.out (viewer address c.args.watcher.now lines) (viewer address c.tell.new.watcher lines) c.as_str.result.now (vote_missed_line c.args.seen)
    (c.as_str.ensures.value ∙ c.in_ok-text.ensures) (c.tell.ensures.told address lines)
