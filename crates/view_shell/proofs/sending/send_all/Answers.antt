use Rattle.std.proofs.Common.{ℕ, ◌+◌, ◌<◌, length, drop, ap, sym, ◌∙◌, arith}
use Rattle.view_shell.specs.declared.watcher.Watcher.{Watcher}
use Rattle.view_shell.specs.Phases.{send_all}
use Rattle.view_shell.proofs.Going.{fits_at, frame_at, goes_and_stops, goes_from, goes_on, goes_to, handed_on, link_acts_behind, read_at, stops_from}
use Rattle.view_shell.proofs.Readiness.{ready_again}
use Rattle.view_shell.proofs.sending.send_all.Goals as goal

pub send-requires : goal.send-requires
send-requires g c =
    let within : c.loop-frame.frame-index < length c.args.frames.now = omega arith in
    fits_at c.args.frames.now c.loop-frame.frame-index c.frame-item.result c.requires within c.frame-item.is

pub returns-in_err-send-clause-talk : goal.returns-in_err-send-clause-talk
returns-in_err-send-clause-talk g c v task same reads =
    let within : c.loop-frame.frame-index < length c.args.frames.now = omega arith in
    let w = record v { receives = c.loop-frame.watcher.receives } in
    let rest = drop (c.loop-frame.frame-index + 1) c.args.frames.now in
    rw (handed_on c.from_residual.result c.in_err-send.field-0.0 c.from_residual.ensures.1)
    (goes_and_stops _ (link_acts_behind _) _ _ _ _ _ _ (c.loop-frame.invariant.talk v task same reads)
    (stops_from _ _ _ _ _ _ (frame_at w c.args.frames.now c.loop-frame.frame-index c.frame-item.result task within c.frame-item.is) (c.in_err-send.ensures.talk w rest task (read_at v c.args.frames.now c.loop-frame.frame-index c.frame-item.result reads within c.frame-item.is))))

pub loop-frame-preserved : goal.loop-frame-preserved
loop-frame-preserved g c = record {
  kept = c.send.ensures.kept ∙ ap (λ (w : Watcher). record w { receives = c.send.new.watcher.receives }) c.loop-frame.invariant.kept;
  ready = λ ready. ready_again c.loop-frame.watcher c.send.new.watcher c.send.ensures.kept c.in_ok-send.ensures.sent (c.loop-frame.invariant.ready ready);
  talk = λ v task same reads.
      let within : c.loop-frame.frame-index < length c.args.frames.now = omega arith in
      let w = record v { receives = c.loop-frame.watcher.receives } in
      let rest = drop (c.loop-frame.frame-index + 1) c.args.frames.now in
      goes_on _ (link_acts_behind _) _ _ _ _ _ _ (c.loop-frame.invariant.talk v task same reads)
      (goes_from _ _ _ _ _ _ (frame_at w c.args.frames.now c.loop-frame.frame-index c.frame-item.result task within c.frame-item.is)
      (goes_to _ _ _ _ _ _ (ap (λ (n : ℕ). send_all (record v { receives = n }) rest task) (sym c.in_ok-send.ensures.sent)) (c.in_ok-send.ensures.talk w rest task (read_at v c.args.frames.now c.loop-frame.frame-index c.frame-item.result reads within c.frame-item.is))));
}
