use Rattle.std.proofs.Common.{Some, None, ◌∷◌, ap}
use Rattle.model_value.specs.View.{plain}
use Rattle.view_script.specs.PlainLine.{PlainLine, Publish, Watch, Wait, WaitFor, Settle, Snap, Quit, Mark, Show, plain_line}
use Rattle.view_shell.specs.declared.ending.ViewEnd.TheVariants as ending
use Rattle.view_shell.specs.Phases.{run}
use Rattle.view_shell.specs.Viewers.{viewer}
use Rattle.live_view.specs.declared.input.Place.TheVariants as at
use Rattle.live_view.proofs.Leading.{comes_at, comes_from}
use Rattle.view_shell.specs.declared.watcher.Watcher.{Watcher}
use Rattle.std.proofs.Common.{◌+◌, ◌≤◌, subst, sym}
use Rattle.std.specs.Prelude.{IfOk}
use Rattle.view_script.specs.PlainLine.{Vote, line_publishes}
use Rattle.live_view.specs.Doing.{votes_at}
use Rattle.live_view.proofs.Leading.{count_line, count_none, none_awaited}
use Rattle.live_view.proofs.Queues.{well}
use Rattle.live_view.proofs.lines.run_line.Goals as goal

pub returns-in-Publish-clause-told : goal.returns-in-Publish-clause-told
returns-in-Publish-clause-told c address lines =
    let at_line = λ (l : PlainLine). run (viewer address c.args.watcher.now (l ∷ lines)) (l ∷ lines) in
    comes_at c.publish.result c.args.out.now c.publish.new.out (at_line (plain_line c.args.line.now)) (at_line (Publish c.in-Publish.scope c.in-Publish.event (plain c.in-Publish.value))) (viewer address c.publish.new.watcher lines)
    (ap (λ l. at_line (plain_line l)) c.in-Publish.is) (c.publish.ensures.told address lines)

pub returns-in_ok-watch-in-Watch-clause-told : goal.returns-in_ok-watch-in-Watch-clause-told
returns-in_ok-watch-in-Watch-clause-told c address lines =
    let at_line = λ (l : PlainLine). run (viewer address c.args.watcher.now (l ∷ lines)) (l ∷ lines) in
    comes_from c.args.out.now c.watch.new.out (at_line (plain_line c.args.line.now)) (at_line (Watch c.in-Watch.scope c.in-Watch.event c.in-Watch.handling)) (viewer address c.watch.new.watcher lines) None
    (ap (λ l. at_line (plain_line l)) c.in-Watch.is) (c.in_ok-watch-in-Watch.ensures.told address lines)

pub returns-in-Wait-clause-told : goal.returns-in-Wait-clause-told
returns-in-Wait-clause-told c address lines =
    let at_line = λ (l : PlainLine). run (viewer address c.args.watcher.now (l ∷ lines)) (l ∷ lines) in
    comes_at c.await_goal.result c.args.out.now c.await_goal.new.out (at_line (plain_line c.args.line.now)) (at_line (Wait c.in-Wait.time)) (viewer address c.await_goal.new.watcher lines)
    (ap (λ l. at_line (plain_line l)) c.in-Wait.is) (c.await_goal.ensures.told address lines)

pub returns-in-Settle-clause-told : goal.returns-in-Settle-clause-told
returns-in-Settle-clause-told c address lines =
    let at_line = λ (l : PlainLine). run (viewer address c.args.watcher.now (l ∷ lines)) (l ∷ lines) in
    comes_at c.settle.result c.args.out.now c.settle.new.out (at_line (plain_line c.args.line.now)) (at_line Settle) (viewer address c.settle.new.watcher lines)
    (ap (λ l. at_line (plain_line l)) c.in-Settle.is) (c.settle.ensures.told address lines)

pub returns-in-Snap-clause-told : goal.returns-in-Snap-clause-told
returns-in-Snap-clause-told c address lines =
    let at_line = λ (l : PlainLine). run (viewer address c.args.watcher.now (l ∷ lines)) (l ∷ lines) in
    comes_at c.offer.result c.args.out.now c.offer.new.out (at_line (plain_line c.args.line.now)) (at_line Snap) (viewer address c.offer.new.watcher lines)
    (ap (λ l. at_line (plain_line l)) c.in-Snap.is) (c.offer.ensures.told address lines)

pub returns-in_ok-leave-in-Quit-clause-told : goal.returns-in_ok-leave-in-Quit-clause-told
returns-in_ok-leave-in-Quit-clause-told c address lines =
    let at_line = λ (l : PlainLine). run (viewer address c.args.watcher.now (l ∷ lines)) (l ∷ lines) in
    comes_from c.args.out.now c.leave.new.out (at_line (plain_line c.args.line.now)) (at_line Quit) (viewer address c.leave.new.watcher lines) (Some (at.Gone ending.Done))
    (ap (λ l. at_line (plain_line l)) c.in-Quit.is) (c.in_ok-leave-in-Quit.ensures.told address lines)

pub returns-in-WaitFor-clause-told : goal.returns-in-WaitFor-clause-told
returns-in-WaitFor-clause-told c address lines =
    let at_line = λ (l : PlainLine). run (viewer address c.args.watcher.now (l ∷ lines)) (l ∷ lines) in
    comes_at c.wait_for.result c.args.out.now c.wait_for.new.out (at_line (plain_line c.args.line.now)) (at_line (WaitFor c.in-WaitFor.span)) (viewer address c.wait_for.new.watcher lines)
    (ap (λ l. at_line (plain_line l)) c.in-WaitFor.is) (c.wait_for.ensures.told address lines)

pub returns-in_ok-mark-in-Mark-clause-told : goal.returns-in_ok-mark-in-Mark-clause-told
returns-in_ok-mark-in-Mark-clause-told c address lines =
    let at_line = λ (l : PlainLine). run (viewer address c.args.watcher.now (l ∷ lines)) (l ∷ lines) in
    comes_from c.args.out.now c.mark.new.out (at_line (plain_line c.args.line.now)) (at_line (Mark c.in-Mark.word)) (viewer address c.mark.new.watcher lines) None
    (ap (λ l. at_line (plain_line l)) c.in-Mark.is) (c.in_ok-mark-in-Mark.ensures.told address lines)

pub returns-in_ok-show-in-Show-clause-told : goal.returns-in_ok-show-in-Show-clause-told
returns-in_ok-show-in-Show-clause-told c address lines =
    let at_line = λ (l : PlainLine). run (viewer address c.args.watcher.now (l ∷ lines)) (l ∷ lines) in
    comes_from c.args.out.now c.show.new.out (at_line (plain_line c.args.line.now)) (at_line Show) (viewer address c.show.new.watcher lines) None
    (ap (λ l. at_line (plain_line l)) c.in-Show.is) (c.in_ok-show-in-Show.ensures.told address lines)

pub returns-in-Vote-clause-told : goal.returns-in-Vote-clause-told
returns-in-Vote-clause-told c address lines =
    let at_line = λ (l : PlainLine). run (viewer address c.args.watcher.now (l ∷ lines)) (l ∷ lines) in
    comes_at c.vote_on.result c.args.out.now c.vote_on.new.out (at_line (plain_line c.args.line.now)) (at_line (Vote c.in-Vote.at)) (viewer address c.vote_on.new.watcher lines)
    (ap (λ l. at_line (plain_line l)) c.in-Vote.is) (c.vote_on.ensures.told address lines)

pub returns-in-Vote-clause-count : goal.returns-in-Vote-clause-count
returns-in-Vote-clause-count c =
    subst (λ l. IfOk c.vote_on.result (λ place. c.vote_on.new.watcher.published + votes_at place ≤ c.args.watcher.now.published + line_publishes (plain_line l))) (sym c.in-Vote.is)
    c.vote_on.ensures.count

pub returns-in-Publish-clause-count : goal.returns-in-Publish-clause-count
returns-in-Publish-clause-count c =
    subst (λ l. IfOk c.publish.result (λ place. c.publish.new.watcher.published + votes_at place ≤ c.args.watcher.now.published + line_publishes (plain_line l))) (sym c.in-Publish.is)
    (count_line c.publish.result c.publish.new.watcher.published c.args.watcher.now.published 1 c.publish.ensures.count c.publish.ensures.waits)

pub returns-in-Wait-clause-count : goal.returns-in-Wait-clause-count
returns-in-Wait-clause-count c =
    count_none c.await_goal.result c.await_goal.new.watcher.published c.args.watcher.now.published (line_publishes (plain_line c.args.line.now)) (well c.await_goal.result (ap (λ (w : Watcher). w.published) c.await_goal.ensures.kept)) (none_awaited c.await_goal.result c.await_goal.ensures.waits)

pub returns-in-WaitFor-clause-count : goal.returns-in-WaitFor-clause-count
returns-in-WaitFor-clause-count c =
    count_none c.wait_for.result c.wait_for.new.watcher.published c.args.watcher.now.published (line_publishes (plain_line c.args.line.now)) c.wait_for.ensures.count c.wait_for.ensures.waits

pub returns-in-Settle-clause-count : goal.returns-in-Settle-clause-count
returns-in-Settle-clause-count c =
    count_none c.settle.result c.settle.new.watcher.published c.args.watcher.now.published (line_publishes (plain_line c.args.line.now)) c.settle.ensures.count c.settle.ensures.waits

pub returns-in-Snap-clause-count : goal.returns-in-Snap-clause-count
returns-in-Snap-clause-count c =
    count_none c.offer.result c.offer.new.watcher.published c.args.watcher.now.published (line_publishes (plain_line c.args.line.now)) c.offer.ensures.count c.offer.ensures.waits
