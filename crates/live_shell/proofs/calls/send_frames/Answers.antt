use Rattle.std.proofs.Common.{ℕ, ◌<◌, List, length, Err, subst, arith}
use Rattle.std.specs.Prelude.{⊤}
use Rattle.std.proofs.lemmas.Result.{err_from_is_err_and}
use Rattle.run_steps.specs.Calls.{came_of}
use Rattle.run_steps.specs.Outside.{SendsFrame, Well, links_tell}
use Rattle.live_shell.proofs.Sendings.{sent_all, sent_more, sent_not}
use Rattle.live_shell.proofs.calls.send_frames.Goals as goal

pub loop-frame-init : goal.loop-frame-init
loop-frame-init g c = record { on = λ came new sent. sent }

pub returns-in_err-send_frame : goal.returns-in_err-send_frame
returns-in_err-send_frame g c =
    let links = links_tell g.L.Link in
    let within : c.loop-frame.frame-index < length c.args.frames.now = omega arith in
    let handed = err_from_is_err_and c.from_residual.result c.from_residual.ensures.1 in
    rw (handed.1, handed.2)
    (sent_not links c.args.frames.now c.loop-frame.frame-index c.frame-item.result c.in_err-send_frame.field-0.0 c.args.link.now c.loop-frame.link c.send_frame.new.link within c.frame-item.is c.loop-frame.invariant
    (subst (λ (f : List ℕ). SendsFrame links (came_of {T = ⊤} (Err c.in_err-send_frame.field-0.0)) f c.loop-frame.link c.send_frame.new.link) c.bytes.ensures c.in_err-send_frame.ensures))

pub loop-frame-preserved : goal.loop-frame-preserved
loop-frame-preserved g c =
    let links = links_tell g.L.Link in
    let within : c.loop-frame.frame-index < length c.args.frames.now = omega arith in
    sent_more links c.args.frames.now c.loop-frame.frame-index c.frame-item.result c.args.link.now c.loop-frame.link c.send_frame.new.link within c.frame-item.is c.loop-frame.invariant
    (subst (λ (f : List ℕ). SendsFrame links Well f c.loop-frame.link c.send_frame.new.link) c.bytes.ensures c.in_ok-send_frame.ensures)

pub returns : goal.returns
returns g c = sent_all _ c.args.frames.now c.loop-frame.frame-index c.args.link.now c.loop-frame.link (omega arith) c.loop-frame.invariant
