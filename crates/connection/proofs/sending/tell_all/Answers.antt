use Rattle.std.proofs.Common.{◌+◌, ◌<◌, ◌≤◌, length, drop, ap, sym, arith}
use Rattle.connection.specs.Phases.{telling_phase}
use Rattle.connection.proofs.Fitting.{fits_at}
use Rattle.connection.proofs.Talking.{drop_whole, frame_at, handed_on, talks_still, talks_then, talks_to}
use Rattle.connection.proofs.sending.tell_all.Goals as goal

pub tell-requires : goal.tell-requires
tell-requires g c =
    let within : c.loop-frame.frame-index < length c.args.frames.now = omega arith in
    fits_at c.args.frames.now c.loop-frame.frame-index c.frame-item.result c.requires within c.frame-item.is

pub loop-frame-init : goal.loop-frame-init
loop-frame-init g c pass next = talks_still _ _ _ _

pub returns-in_err-tell : goal.returns-in_err-tell
returns-in_err-tell g c pass next =
    let within : c.loop-frame.frame-index < length c.args.frames.now = omega arith in
    rw (handed_on c.from_residual.result c.in_err-tell.field-0.0 c.from_residual.ensures.1)
    (talks_then _ _ _ _ _ _ _ _
    (talks_to _ _ _ _ _ _ _ (sym (ap (λ frames. telling_phase c.args.cursor.now frames next) (frame_at c.args.frames.now c.loop-frame.frame-index c.frame-item.result within c.frame-item.is))) (c.loop-frame.invariant pass next))
    (c.in_err-tell.ensures pass (drop (c.loop-frame.frame-index + 1) c.args.frames.now) next))

pub loop-frame-preserved : goal.loop-frame-preserved
loop-frame-preserved g c pass next =
    let within : c.loop-frame.frame-index < length c.args.frames.now = omega arith in
    talks_then _ _ _ _ _ _ _ _
    (talks_to _ _ _ _ _ _ _ (sym (ap (λ frames. telling_phase c.args.cursor.now frames next) (frame_at c.args.frames.now c.loop-frame.frame-index c.frame-item.result within c.frame-item.is))) (c.loop-frame.invariant pass next))
    (c.in_ok-tell.ensures pass (drop (c.loop-frame.frame-index + 1) c.args.frames.now) next)

pub returns : goal.returns
returns g c pass next =
    let over : length c.args.frames.now ≤ c.loop-frame.frame-index = omega arith in
    talks_to _ _ _ _ _ _ _ (sym (ap (λ frames. telling_phase c.args.cursor.now frames next) (drop_whole c.args.frames.now c.loop-frame.frame-index over))) (c.loop-frame.invariant pass next)
