use Rattle.std.proofs.Common.{refl, ap}
use Rattle.view_shell.specs.Phases.{ToJoin, Receiving}
use Rattle.view_shell.specs.Viewers.{viewer}
use Rattle.view_shell.specs.Hearing.{joined_phase, synced_phase}
use Rattle.view_shell.proofs.Going.{goes_nowhere, goes_on, goes_to, handed_on, link_acts_behind}
use Rattle.view_shell.proofs.Hearings.{goes_and_hears}
use Rattle.view_shell.proofs.Reaching.{kept_on}
use Rattle.view_shell.proofs.hearing.await_sync.Goals as goal

pub loop-init : goal.loop-init
loop-init g c = record { kept = refl; ready = c.requires.ready; talk = λ address lines how. goes_nowhere _ (Receiving (viewer address c.args.watcher.now lines) (ToJoin how)) c.args.link.now }

pub loop-preserved : goal.loop-preserved
loop-preserved g c = record {
  kept = kept_on c.args.watcher.now c.loop.watcher c.hear_sync.new.watcher c.loop.invariant.kept c.hear_sync.ensures.kept;
  ready = c.in_ok-found.ensures.ready;
  talk = λ address lines how.
      goes_on _ (link_acts_behind _) (Receiving (viewer address c.args.watcher.now lines) (ToJoin how)) (Receiving (viewer address c.loop.watcher lines) (ToJoin how)) (Receiving (viewer address c.hear_sync.new.watcher lines) (ToJoin how))
      c.args.link.now c.loop.link c.hear_sync.new.link (c.loop.invariant.talk address lines how)
      (goes_to _ (Receiving (viewer address c.loop.watcher lines) (ToJoin how)) (joined_phase (viewer address c.hear_sync.new.watcher lines) how c.in_ok-found.field-0) (Receiving (viewer address c.hear_sync.new.watcher lines) (ToJoin how)) c.loop.link c.hear_sync.new.link
      (ap (joined_phase (viewer address c.hear_sync.new.watcher lines) how) c.in_default.is) (c.in_ok-found.ensures.talk address lines how));
}

pub returns-in-Some-2-clause-talk : goal.returns-in-Some-2-clause-talk
returns-in-Some-2-clause-talk g c address lines how =
    goes_on _ (link_acts_behind _) (Receiving (viewer address c.args.watcher.now lines) (ToJoin how)) (Receiving (viewer address c.loop.watcher lines) (ToJoin how)) (synced_phase (viewer address c.hear_sync.new.watcher lines) how c.in-Some-2.found)
    c.args.link.now c.loop.link c.hear_sync.new.link (c.loop.invariant.talk address lines how)
    (goes_to _ (Receiving (viewer address c.loop.watcher lines) (ToJoin how)) (joined_phase (viewer address c.hear_sync.new.watcher lines) how c.in_ok-found.field-0) (synced_phase (viewer address c.hear_sync.new.watcher lines) how c.in-Some-2.found) c.loop.link c.hear_sync.new.link
    (ap (joined_phase (viewer address c.hear_sync.new.watcher lines) how) c.in-Some-2.is) (c.in_ok-found.ensures.talk address lines how))

pub returns-in_err-found-clause-talk : goal.returns-in_err-found-clause-talk
returns-in_err-found-clause-talk g c address lines how =
    rw (handed_on c.from_residual.result c.in_err-found.field-0.0 c.from_residual.ensures.1)
    (goes_and_hears _ (link_acts_behind _) c.in_err-found.field-0.0 (Receiving (viewer address c.args.watcher.now lines) (ToJoin how)) (Receiving (viewer address c.loop.watcher lines) (ToJoin how)) (viewer address c.hear_sync.new.watcher lines) (ToJoin how)
    c.args.link.now c.loop.link c.hear_sync.new.link (c.loop.invariant.talk address lines how) (c.in_err-found.ensures.talk address lines how))
