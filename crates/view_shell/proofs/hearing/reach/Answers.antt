use Rattle.std.proofs.Common.{◌≤◌, ◌<◌, refl, arith}
use Rattle.view_shell.specs.ViewText.{reached_time_line}
use Rattle.view_shell.specs.Phases.{ToReach, Receiving, finish, receive}
use Rattle.view_shell.specs.Viewers.{viewer}
use Rattle.view_shell.proofs.Going.{goes_and_stops, goes_nowhere, goes_on, goes_to, handed_on, link_acts_behind}
use Rattle.view_shell.proofs.Reaching.{not_reached, reached, kept_on}
use Rattle.view_shell.proofs.hearing.reach.Goals as goal

pub loop-init : goal.loop-init
loop-init g c = record { kept = refl; ready = c.requires.ready; talk = λ address lines. goes_nowhere _ (receive (viewer address c.args.watcher.now lines) (ToReach c.args.time)) c.args.link.now }

pub returns-then-time-clause-talk : goal.returns-then-time-clause-talk
returns-then-time-clause-talk g c address lines =
    let v = viewer address c.loop.watcher lines in
    let late : c.args.time ≤ v.replica.world.time = omega (arith, c.if-time.true, c.time.ensures.time) in
    goes_to _ (receive (viewer address c.args.watcher.now lines) (ToReach c.args.time)) (receive v (ToReach c.args.time)) (finish v (reached_time_line v.replica.world.time)) c.args.link.now c.loop.link
    (reached v c.args.time late) (c.loop.invariant.talk address lines)

pub loop-preserved : goal.loop-preserved
loop-preserved g c = record {
  kept = kept_on c.args.watcher.now c.loop.watcher c.hear_on.new.watcher c.loop.invariant.kept c.hear_on.ensures.kept;
  ready = c.in_ok-hear_on.ensures.ready;
  talk = λ address lines.
      let v = viewer address c.loop.watcher lines in
      let early : v.replica.world.time < c.args.time = omega (arith, c.if-time.false, c.time.ensures.time) in
      let from = receive (viewer address c.args.watcher.now lines) (ToReach c.args.time) in
      goes_on _ (link_acts_behind _) from (Receiving v (ToReach c.args.time)) (receive (viewer address c.hear_on.new.watcher lines) (ToReach c.args.time)) c.args.link.now c.loop.link c.hear_on.new.link
      (goes_to _ from (receive v (ToReach c.args.time)) (Receiving v (ToReach c.args.time)) c.args.link.now c.loop.link (not_reached v c.args.time early) (c.loop.invariant.talk address lines))
      (c.in_ok-hear_on.ensures.talk address lines (ToReach c.args.time) tt);
}

pub returns-in_err-hear_on-clause-talk : goal.returns-in_err-hear_on-clause-talk
returns-in_err-hear_on-clause-talk g c address lines =
    let v = viewer address c.loop.watcher lines in
    let early : v.replica.world.time < c.args.time = omega (arith, c.if-time.false, c.time.ensures.time) in
    let from = receive (viewer address c.args.watcher.now lines) (ToReach c.args.time) in
    rw (handed_on c.from_residual.result c.in_err-hear_on.field-0.0 c.from_residual.ensures.1)
    (goes_and_stops _ (link_acts_behind _) from (Receiving v (ToReach c.args.time)) c.in_err-hear_on.field-0.0 c.args.link.now c.loop.link c.hear_on.new.link
    (goes_to _ from (receive v (ToReach c.args.time)) (Receiving v (ToReach c.args.time)) c.args.link.now c.loop.link (not_reached v c.args.time early) (c.loop.invariant.talk address lines))
    (c.in_err-hear_on.ensures.talk address lines (ToReach c.args.time) tt))
