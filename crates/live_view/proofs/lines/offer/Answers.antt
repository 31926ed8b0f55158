use Rattle.std.proofs.Common.{[], ap, sym, ◌∙◌}
use Rattle.wire_frames.specs.declared.frame.ClientFrame.{ClientFrame}
use Rattle.view_shell.specs.Phases.{Viewer, Receives, Receiving, Sending, ToSnap}
use Rattle.view_shell.specs.Viewers.{viewer}
use Rattle.view_shell.proofs.Readiness.{viewer_after_send}
use Rattle.live_view.specs.Doing.{after}
use Rattle.live_view.specs.Live.{drive, waits}
use Rattle.live_view.proofs.lines.offer.Goals as goal

pub returns-clause-told : goal.returns-clause-told
returns-clause-told c address lines = record {
  comes = λ next.
      let old = c.args.watcher.now in
      let v = viewer address old lines in
      ap (λ (f : ClientFrame). after c.args.out.now (drive next (Sending v f [] (Receives ToSnap)))) (sym c.in-Ok.ensures.frame)
      ∙ (c.in_ok-send.ensures.talk v [] (Receives ToSnap)).leads next
      ∙ ap (λ (u : Viewer). after c.send.new.out (waits (Receiving u ToSnap))) (viewer_after_send address lines old c.send.new.watcher c.send.ensures.kept c.in_ok-send.ensures.sent);
}
