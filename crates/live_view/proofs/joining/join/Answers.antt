use Rattle.std.proofs.Common.{[], ap, sym, ◌∙◌}
use Rattle.wire_frames.specs.declared.frame.ClientFrame.{ClientFrame}
use Rattle.view_shell.specs.Phases.{Viewer, Receives, Receiving, Sending, ToJoin, after_join}
use Rattle.view_shell.specs.Viewers.{viewer}
use Rattle.view_shell.proofs.Readiness.{viewer_joined}
use Rattle.live_view.specs.Doing.{after}
use Rattle.live_view.specs.Live.{drive, waits}
use Rattle.live_view.proofs.joining.join.Goals as goal

pub join-frame-requires : goal.join-frame-requires
join-frame-requires c = c.may_join.ensures c.if-not-may_join.false

pub returns-clause-told : goal.returns-clause-told
returns-clause-told c address lines = record {
  comes = λ next.
      let old = c.args.watcher.now in
      let how = c.args.how in
      let j = after_join (viewer address old lines) how in
      ap (λ (f : ClientFrame). after c.args.out.now (drive next (Sending j f [] (Receives (ToJoin how))))) (sym c.join-frame.ensures.frame)
      ∙ (c.in_ok-send.ensures.talk j [] (Receives (ToJoin how))).leads next
      ∙ ap (λ (u : Viewer). after c.send.new.out (waits (Receiving u (ToJoin how)))) (viewer_joined address lines old c.send.new.watcher c.join-frame.new.self how c.send.ensures.kept c.in_ok-send.ensures.sent c.join-frame.ensures.joins);
}
