use Rattle.std.proofs.Common.{refl}
use Rattle.view_shell.specs.ViewText.{settled_line}
use Rattle.view_shell.specs.Phases.{ToSettle, Receiving, finish, receive}
use Rattle.view_shell.specs.Viewers.{viewer}
use Rattle.view_shell.proofs.Going.{goes_and_stops, goes_nowhere, goes_on, goes_to, handed_on, link_acts_behind}
use Rattle.view_shell.proofs.Reaching.{settled, unsettled, kept_on}
use Rattle.view_shell.proofs.hearing.settle.Goals as goal

pub loop-init : goal.loop-init
loop-init g c = record { kept = refl; ready = c.requires.ready; talk = λ address lines. goes_nowhere _ (receive (viewer address c.args.watcher.now lines) ToSettle) c.args.link.now }

pub returns-then-settled-clause-talk : goal.returns-then-settled-clause-talk
returns-then-settled-clause-talk g c address lines =
    let v = viewer address c.loop.watcher lines in
    goes_to _ (receive (viewer address c.args.watcher.now lines) ToSettle) (receive v ToSettle) (finish v (settled_line c.loop.watcher.published)) c.args.link.now c.loop.link
    (settled v c.loop.watcher.published (c.settled.ensures.settled.0 c.if-settled.true) c.loop.invariant.ready.knows.published) (c.loop.invariant.talk address lines)

pub loop-preserved : goal.loop-preserved
loop-preserved g c = record {
  kept = kept_on c.args.watcher.now c.loop.watcher c.hear_on.new.watcher c.loop.invariant.kept c.hear_on.ensures.kept;
  ready = c.in_ok-hear_on.ensures.ready;
  talk = λ address lines.
      let v = viewer address c.loop.watcher lines in
      let from = receive (viewer address c.args.watcher.now lines) ToSettle in
      goes_on _ (link_acts_behind _) from (Receiving v ToSettle) (receive (viewer address c.hear_on.new.watcher lines) ToSettle) c.args.link.now c.loop.link c.hear_on.new.link
      (goes_to _ from (receive v ToSettle) (Receiving v ToSettle) c.args.link.now c.loop.link (unsettled v (λ none. let yes = c.settled.ensures.settled.1 none in absurd cc)) (c.loop.invariant.talk address lines))
      (c.in_ok-hear_on.ensures.talk address lines ToSettle tt);
}

pub returns-in_err-hear_on-clause-talk : goal.returns-in_err-hear_on-clause-talk
returns-in_err-hear_on-clause-talk g c address lines =
    let v = viewer address c.loop.watcher lines in
    let from = receive (viewer address c.args.watcher.now lines) ToSettle in
    rw (handed_on c.from_residual.result c.in_err-hear_on.field-0.0 c.from_residual.ensures.1)
    (goes_and_stops _ (link_acts_behind _) from (Receiving v ToSettle) c.in_err-hear_on.field-0.0 c.args.link.now c.loop.link c.hear_on.new.link
    (goes_to _ from (receive v ToSettle) (Receiving v ToSettle) c.args.link.now c.loop.link (unsettled v (λ none. let yes = c.settled.ensures.settled.1 none in absurd cc)) (c.loop.invariant.talk address lines))
    (c.in_err-hear_on.ensures.talk address lines ToSettle tt))
