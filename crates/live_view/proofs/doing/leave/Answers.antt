use Rattle.std.proofs.Common.{refl, ap, sym, ◌∙◌, ◌++◌, List, [], ℕ, string_bytes}
use Rattle.wire_frames.specs.declared.frame.ClientFrame.TheVariants as client
use Rattle.view_shell.specs.declared.watcher.Watcher.{Watcher}
use Rattle.view_shell.specs.declared.ending.ViewEnd.TheVariants as ending
use Rattle.view_shell.specs.Phases.{Viewer, Sending, Over, Leaves, finish}
use Rattle.view_shell.specs.Viewers.{viewer}
use Rattle.view_shell.specs.ViewText.{view_line}
use Rattle.view_shell.proofs.Readiness.{viewer_at_rest}
use Rattle.live_view.specs.Doing.{after}
use Rattle.live_view.specs.Live.{drive, waits}
use Rattle.live_view.proofs.Leading.{after_text, leave_begins}
use Rattle.live_view.proofs.doing.leave.Goals as goal

pub returns-clause-told : goal.returns-clause-told
returns-clause-told c address lines = record {
  comes = λ next.
      let old = c.args.watcher.now in
      let rested = viewer address c.rest.new.watcher lines in
      let told = viewer address c.tell.new.watcher lines in
      let then = λ (w : Viewer). drive next (Sending w client.Leave [] Leaves) in
      leave_begins c.args.out.now (viewer address old lines) next
      ∙ ap (λ (w : Viewer). after c.args.out.now (drive then (finish w []))) (sym (viewer_at_rest address lines old c.rest.new.watcher c.rest.ensures.kept c.in-Ok.ensures.rests))
      ∙ (c.in_ok-tell.ensures.told address lines).comes then
      ∙ (c.in_ok-send.ensures.talk told [] Leaves).leads next
      ∙ after_text c.send.new.out (record c.send.new.out { text = c.push_str.new.self }) (view_line c.tell.new.watcher.replica.plain) (waits (Over ending.Done)) refl
      (c.in_ok-push_str.ensures.bytes ∙ ap (λ (l : List ℕ). string_bytes c.send.new.out.text ++ l) (c.as_str.ensures.value ∙ c.in_ok-line.ensures ∙ ap (λ (w : Watcher). view_line w.replica.plain) c.send.ensures.kept));
}
