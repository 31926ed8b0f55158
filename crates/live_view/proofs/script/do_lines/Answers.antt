use Rattle.std.proofs.Common.{◌+◌, [], Some, drop, refl, ap, arith, ◌∙◌}
use Rattle.view_shell.proofs.Scripts.{fits_here, room_now, room_on}
use Rattle.live_view.proofs.Leading.{end_leaves, end_rests, line_comes}
use Rattle.live_view.proofs.Queues.{count_end, count_on, none_left, some_left}
use Rattle.view_script.specs.PlainLine.{plain_lines}
use Rattle.view_shell.specs.Viewers.{viewer}
use Rattle.live_view.specs.Live.{lines_from}
use Rattle.live_view.specs.Doing.{after, came, votes_at}
use Rattle.live_view.proofs.script.do_lines.Goals as goal

pub run_line-requires-clause-fits : goal.run_line-requires-clause-fits
run_line-requires-clause-fits c = (fits_here c.args.lines.now c.loop-index.index c.index-lines-index.result c.loop-index-test.true c.index-lines-index.is c.loop-index.invariant.fit).0

pub run_line-requires-clause-room : goal.run_line-requires-clause-room
run_line-requires-clause-room c = room_now c.args.lines.now c.loop-index.index c.index-lines-index.result c.loop-index-test.true c.index-lines-index.is c.loop-index.watcher c.loop-index.invariant.room

pub returns-in-Some-clause-told : goal.returns-in-Some-clause-told
returns-in-Some-clause-told c address =
    let lines = c.args.lines.now in
    let i = c.loop-index.index in
    let more = plain_lines (drop (i + 1) lines) in
    let v = viewer address c.run_line.new.watcher more in
    line_comes c.args.closed address c.args.out.now c.loop-index.out c.run_line.new.out _ c.loop-index.watcher c.run_line.new.watcher lines i c.index-lines-index.result c.loop-index-test.true c.index-lines-index.is
    (c.loop-index.invariant.told address) c.in_ok-run_line.field-0 (c.in_ok-run_line.ensures.told address more)
    ∙ ap (λ place. after c.run_line.new.out (came (λ u. lines_from c.args.closed more u) v place)) c.in-Some.is

pub loop-index-preserved : goal.loop-index-preserved
loop-index-preserved c = record {
  ready = c.in_ok-run_line.ensures.ready;
  fit = (fits_here c.args.lines.now c.loop-index.index c.index-lines-index.result c.loop-index-test.true c.index-lines-index.is c.loop-index.invariant.fit).1;
  room = room_on c.args.lines.now c.loop-index.index c.index-lines-index.result c.loop-index-test.true c.index-lines-index.is c.loop-index.watcher c.run_line.new.watcher (none_left c.run_line.new.watcher.published _ c.in_ok-run_line.field-0 c.in-None.is c.in_ok-run_line.ensures.count) c.loop-index.invariant.room;
  count = count_on c.args.lines.now c.loop-index.index c.index-lines-index.result c.loop-index-test.true c.index-lines-index.is c.loop-index.watcher.published c.run_line.new.watcher.published _ (none_left c.run_line.new.watcher.published _ c.in_ok-run_line.field-0 c.in-None.is c.in_ok-run_line.ensures.count) c.loop-index.invariant.count;
  told = λ address.
      let lines = c.args.lines.now in
      let i = c.loop-index.index in
      let more = plain_lines (drop (i + 1) lines) in
      let v = viewer address c.run_line.new.watcher more in
      line_comes c.args.closed address c.args.out.now c.loop-index.out c.run_line.new.out _ c.loop-index.watcher c.run_line.new.watcher lines i c.index-lines-index.result c.loop-index-test.true c.index-lines-index.is
      (c.loop-index.invariant.told address) c.in_ok-run_line.field-0 (c.in_ok-run_line.ensures.told address more)
      ∙ ap (λ place. after c.run_line.new.out (came (λ u. lines_from c.args.closed more u) v place)) c.in-None.is;
}

pub returns-then-closed-clause-told : goal.returns-then-closed-clause-told
returns-then-closed-clause-told c address =
    end_leaves c.args.closed address c.args.out.now c.loop-index.out _ c.loop-index.watcher c.args.lines.now c.loop-index.index c.loop-index-test.false (c.loop-index.invariant.told address)
    c.leave.new.out (viewer address c.leave.new.watcher []) c.if-closed.true (c.in_ok-leave.ensures.told address [])

pub returns-clause-told : goal.returns-clause-told
returns-clause-told c address =
    end_rests c.args.closed address c.args.out.now c.loop-index.out _ c.loop-index.watcher c.args.lines.now c.loop-index.index c.loop-index-test.false (c.loop-index.invariant.told address)
    c.if-closed.false

pub returns-in-Some-clause-count : goal.returns-in-Some-clause-count
returns-in-Some-clause-count c =
    count_on c.args.lines.now c.loop-index.index c.index-lines-index.result c.loop-index-test.true c.index-lines-index.is c.loop-index.watcher.published (c.run_line.new.watcher.published + votes_at (Some c.in-Some.place)) _
    (some_left c.run_line.new.watcher.published _ c.in_ok-run_line.field-0 c.in-Some.place c.in-Some.is c.in_ok-run_line.ensures.count) c.loop-index.invariant.count

pub returns-then-closed-clause-count : goal.returns-then-closed-clause-count
returns-then-closed-clause-count c =
    let all = count_end c.args.lines.now c.loop-index.index c.loop-index.watcher.published c.leave.new.watcher.published _ c.loop-index-test.false c.in_ok-leave.ensures.count c.loop-index.invariant.count in omega (arith, all)

pub returns-clause-count : goal.returns-clause-count
returns-clause-count c =
    let all = count_end c.args.lines.now c.loop-index.index c.loop-index.watcher.published c.loop-index.watcher.published _ c.loop-index-test.false refl c.loop-index.invariant.count in omega (arith, all)
