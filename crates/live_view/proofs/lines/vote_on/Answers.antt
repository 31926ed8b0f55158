use Rattle.std.proofs.Common.{ℕ, ◌≤◌, ◌<◌, None, sym, ap, ◌∙◌, arith}
use Rattle.view_shell.specs.Phases.{finish, vote_on}
use Rattle.view_shell.specs.ViewText.{vote_missed_line}
use Rattle.view_shell.specs.Viewers.{viewer}
use Rattle.view_shell.proofs.Voting.{missed, not_missed}
use Rattle.live_view.specs.declared.input.Goal.TheVariants as aim
use Rattle.live_view.specs.declared.input.Place.TheVariants as at
use Rattle.live_view.specs.Live.{drive}
use Rattle.live_view.proofs.Leading.{comes_from, waits_there}
use Rattle.live_view.proofs.lines.vote_on.Goals as goal

pub returns-then-at-seen-clause-told : goal.returns-then-at-seen-clause-told
returns-then-at-seen-clause-told c address lines =
    let v = viewer address c.args.watcher.now lines in
    let late : c.args.at ≤ v.replica.seen = omega (arith, c.if-at-seen.true, c.seen_of-seen.ensures) in
    comes_from c.args.out.now c.miss_vote.new.out (vote_on v c.args.at) (finish v (vote_missed_line c.seen_of-seen.result)) (viewer address c.miss_vote.new.watcher lines) None
    (missed v c.args.at late ∙ ap (λ (n : ℕ). finish v (vote_missed_line n)) (sym c.seen_of-seen.ensures)) (c.in_ok-miss_vote.ensures.told address lines)

pub returns-clause-told : goal.returns-clause-told
returns-clause-told c address lines =
    let v = viewer address c.args.watcher.now lines in
    let early : v.replica.seen < c.args.at = omega (arith, c.if-at-seen.false, c.seen_of-seen.ensures) in
    waits_there c.args.out.now (vote_on v c.args.at) v (at.Hears (aim.See c.args.at)) (λ next. ap (drive next) (not_missed v c.args.at early))
