use Rattle.std.proofs.Common.{refl, ap}
use Rattle.view_shell.specs.Phases.{ToSnap, Receiving, finish}
use Rattle.view_shell.specs.Viewers.{viewer}
use Rattle.view_shell.specs.Hearing.{answer_line, answered_phase}
use Rattle.view_shell.proofs.Going.{goes_and_stops, goes_nowhere, goes_on, goes_to, handed_on, link_acts_behind}
use Rattle.view_shell.proofs.Reaching.{kept_on}
use Rattle.view_shell.proofs.hearing.await_answer.Goals as goal

pub loop-init : goal.loop-init
loop-init g c = record { kept = refl; ready = c.requires.ready; talk = λ address lines. goes_nowhere _ (Receiving (viewer address c.args.watcher.now lines) ToSnap) c.args.link.now }

pub loop-preserved : goal.loop-preserved
loop-preserved g c = record {
  kept = kept_on c.args.watcher.now c.loop.watcher c.hear_answer.new.watcher c.loop.invariant.kept c.hear_answer.ensures.kept;
  ready = c.in_ok-answer.ensures.ready;
  talk = λ address lines.
      goes_on _ (link_acts_behind _) (Receiving (viewer address c.args.watcher.now lines) ToSnap) (Receiving (viewer address c.loop.watcher lines) ToSnap) (Receiving (viewer address c.hear_answer.new.watcher lines) ToSnap)
      c.args.link.now c.loop.link c.hear_answer.new.link (c.loop.invariant.talk address lines)
      (goes_to _ (Receiving (viewer address c.loop.watcher lines) ToSnap) (answered_phase (viewer address c.hear_answer.new.watcher lines) c.in_ok-answer.field-0) (Receiving (viewer address c.hear_answer.new.watcher lines) ToSnap) c.loop.link c.hear_answer.new.link
      (ap (answered_phase (viewer address c.hear_answer.new.watcher lines)) c.in_default.is) (c.in_ok-answer.ensures.talk address lines));
}

pub returns-in-Some-2-clause-talk : goal.returns-in-Some-2-clause-talk
returns-in-Some-2-clause-talk g c address lines =
    goes_on _ (link_acts_behind _) (Receiving (viewer address c.args.watcher.now lines) ToSnap) (Receiving (viewer address c.loop.watcher lines) ToSnap) (finish (viewer address c.hear_answer.new.watcher lines) (answer_line c.in-Some-2.answer))
    c.args.link.now c.loop.link c.hear_answer.new.link (c.loop.invariant.talk address lines)
    (goes_to _ (Receiving (viewer address c.loop.watcher lines) ToSnap) (answered_phase (viewer address c.hear_answer.new.watcher lines) c.in_ok-answer.field-0) (finish (viewer address c.hear_answer.new.watcher lines) (answer_line c.in-Some-2.answer)) c.loop.link c.hear_answer.new.link
    (ap (answered_phase (viewer address c.hear_answer.new.watcher lines)) c.in-Some-2.is) (c.in_ok-answer.ensures.talk address lines))

pub returns-in_err-answer-clause-talk : goal.returns-in_err-answer-clause-talk
returns-in_err-answer-clause-talk g c address lines =
    rw (handed_on c.from_residual.result c.in_err-answer.field-0.0 c.from_residual.ensures.1)
    (goes_and_stops _ (link_acts_behind _) (Receiving (viewer address c.args.watcher.now lines) ToSnap) (Receiving (viewer address c.loop.watcher lines) ToSnap) c.in_err-answer.field-0.0
    c.args.link.now c.loop.link c.hear_answer.new.link (c.loop.invariant.talk address lines) (c.in_err-answer.ensures.talk address lines))
