use Rattle.std.proofs.Common.{ℕ, ◌+◌, ◌<◌, length, drop, ap, sym, ◌∙◌, arith}
use Rattle.view_shell.specs.declared.watcher.Watcher.{Watcher}
use Rattle.view_shell.specs.Phases.{send_all}
use Rattle.view_shell.proofs.Going.{fits_at, frame_at}
use Rattle.view_shell.proofs.Readiness.{ready_again}
use Rattle.live_view.specs.Doing.{after}
use Rattle.live_view.specs.Live.{drive}
use Rattle.live_view.proofs.doing.send_frames.Goals as goal

pub send-requires : goal.send-requires
send-requires c =
    let within : c.loop-frame.frame-index < length c.args.frames.now = omega arith in
    fits_at c.args.frames.now c.loop-frame.frame-index c.frame-item.result c.requires within c.frame-item.is

pub loop-frame-preserved : goal.loop-frame-preserved
loop-frame-preserved c = record {
  kept = c.send.ensures.kept ∙ ap (λ (w : Watcher). record w { receives = c.send.new.watcher.receives }) c.loop-frame.invariant.kept;
  ready = λ ready. ready_again c.loop-frame.watcher c.send.new.watcher c.send.ensures.kept c.in_ok-send.ensures.sent (c.loop-frame.invariant.ready ready);
  talk = λ v task same. record {
    leads = λ next.
        let within : c.loop-frame.frame-index < length c.args.frames.now = omega arith in
        let w = record v { receives = c.loop-frame.watcher.receives } in
        let rest = drop (c.loop-frame.frame-index + 1) c.args.frames.now in
        (c.loop-frame.invariant.talk v task same).leads next
        ∙ ap (λ p. after c.loop-frame.out (drive next p)) (frame_at w c.args.frames.now c.loop-frame.frame-index c.frame-item.result task within c.frame-item.is)
        ∙ (c.in_ok-send.ensures.talk w rest task).leads next
        ∙ ap (λ (n : ℕ). after c.send.new.out (drive next (send_all (record v { receives = n }) rest task))) (sym c.in_ok-send.ensures.sent);
  };
}
