use Rattle.std.proofs.Common.{◌≡◌, ◌≤◌, ◌<◌, arith}
use Rattle.run_steps.specs.Outside.{Acts, links_tell, output_tells, link_side, link_side_tells}
use Rattle.view_shell.specs.Phases.{Receiving, ToSee, finish, vote_on}
use Rattle.view_shell.specs.ViewText.{vote_missed_line}
use Rattle.view_shell.specs.Viewers.{viewer}
use Rattle.view_shell.proofs.Flowing.{done_from, done_printing}
use Rattle.view_shell.proofs.Readiness.{viewer_finished}
use Rattle.view_shell.proofs.Voting.{missed, not_missed}
use Rattle.view_shell.specs.declared.watcher.Watcher.{Watcher}
use Rattle.std.proofs.Common.{ap}
use Rattle.view_shell.proofs.Voting.{count_most, if_well}
use Rattle.view_shell.proofs.lines.vote_on.Goals as goal

pub returns-then-at-seen-clause-talk : goal.returns-then-at-seen-clause-talk
returns-then-at-seen-clause-talk g c address lines =
    let out = output_tells g.W.Sink in
    let links = links_tell g.L.Link in
    let old = c.args.watcher.now in
    let v = viewer address old lines in
    let u = viewer address c.miss_vote.new.watcher lines in
    let late : c.args.at ≤ v.replica.seen = omega (arith, c.if-at-seen.true, c.seen.ensures.seen) in
    done_from (Acts (link_side_tells out links)) (vote_on v c.args.at) (finish v (vote_missed_line v.replica.seen)) u lines (link_side c.args.out.now c.args.link.now) (link_side c.miss_vote.new.out c.args.link.now) c.miss_vote.result
    (missed v c.args.at late)
    (done_printing out links c.args.link.now c.args.out.now c.miss_vote.new.out v u (vote_missed_line v.replica.seen) c.miss_vote.result
    (viewer_finished address lines old c.miss_vote.new.watcher c.miss_vote.result c.miss_vote.ensures.kept c.miss_vote.ensures.ok) (c.miss_vote.ensures.printed address lines) (c.miss_vote.ensures.err address lines))

pub returns-clause-talk : goal.returns-clause-talk
returns-clause-talk g c address lines =
    let out = output_tells g.W.Sink in
    let links = links_tell g.L.Link in
    let v = viewer address c.args.watcher.now lines in
    let early : v.replica.seen < c.args.at = omega (arith, c.if-at-seen.false, c.seen.ensures.seen) in
    done_from (Acts (link_side_tells out links)) (vote_on v c.args.at) (Receiving v (ToSee c.args.at)) (viewer address c.await_vote.new.watcher lines) lines (link_side c.args.out.now c.args.link.now) (link_side c.await_vote.new.out c.await_vote.new.link) c.await_vote.result
    (not_missed v c.args.at early) (c.await_vote.ensures.talk address lines)

pub returns-then-at-seen-clause-count : goal.returns-then-at-seen-clause-count
returns-then-at-seen-clause-count g c =
    let same : c.miss_vote.new.watcher.published ≡ c.args.watcher.now.published = ap (λ (w : Watcher). w.published) c.miss_vote.ensures.kept in
    if_well c.miss_vote.result (omega (arith, same))

pub returns-clause-count : goal.returns-clause-count
returns-clause-count g c = count_most c.await_vote.result c.await_vote.new.watcher.published c.args.watcher.now.published c.await_vote.ensures.count
