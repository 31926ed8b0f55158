use Rattle.std.proofs.Common.{true, ap}
use Rattle.view_shell.specs.Phases.{Viewer, after_entry, give_vote}
use Rattle.view_shell.specs.Viewers.{viewer}
use Rattle.view_shell.proofs.Readiness.{viewer_published}
use Rattle.view_shell.proofs.Voting.{vote_bytes}
use Rattle.live_view.proofs.Leading.{comes_at, count_after_vote}
use Rattle.live_view.proofs.hearing.put_vote.Goals as goal

pub returns-clause-told : goal.returns-clause-told
returns-clause-told c address lines =
    let old = c.args.watcher.now in
    let v = viewer address c.vote.new.watcher lines in
    comes_at c.give_vote.result c.args.out.now c.give_vote.new.out (after_entry true (viewer address old lines) c.args.at) (give_vote v c.args.at) (viewer address c.give_vote.new.watcher lines)
    (ap (λ (u : Viewer). give_vote u c.args.at) (viewer_published address lines old c.vote.new.watcher (vote_bytes old c.args.at) c.vote.ensures.kept c.in-Ok.ensures.votes))
    (c.give_vote.ensures.told address lines)

pub returns-clause-count : goal.returns-clause-count
returns-clause-count c = count_after_vote c.give_vote.result c.give_vote.new.watcher.published c.vote.new.watcher.published c.args.watcher.now.published c.in-Ok.ensures.count (c.give_vote.ensures.count 0)
