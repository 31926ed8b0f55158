use Rattle.std.proofs.Common.{sym, ◌∙◌, ◌+◌}
use Rattle.tea_io.specs.declared.link.Heard.TheVariants as heard
use Rattle.connection.proofs.Talking.{handed_on, hearing_row_on, hearing_row_over, hears_in, talks_then, talks_to}
use Rattle.connection.proofs.turns.receive.Goals as goal

pub returns-in_ok-take-in-Frame-clause-talk : goal.returns-in_ok-take-in-Frame-clause-talk
returns-in_ok-take-in-Frame-clause-talk g c =
    talks_then _ _ _ _ _ _ _ _
    (hears_in _ _ c.args.cursor.now c.args.quiets (heard.Frame c.in-Frame.bytes) _ _ _ (record { heard = c.in-Frame.ensures.heard; sent = c.in-Frame.ensures.sent; later = c.in-Frame.ensures.later; cause = c.in-Frame.ensures.cause }))
    c.in_ok-take-in-Frame.ensures.talk

pub returns-in_err-take-in-Frame-clause-talk : goal.returns-in_err-take-in-Frame-clause-talk
returns-in_err-take-in-Frame-clause-talk g c =
    rw (handed_on c.from_residual.result c.in_err-take-in-Frame.field-0.0 c.from_residual.ensures.1)
    (talks_then _ _ _ _ _ _ _ _
    (hears_in _ _ c.args.cursor.now c.args.quiets (heard.Frame c.in-Frame.bytes) _ _ _ (record { heard = c.in-Frame.ensures.heard; sent = c.in-Frame.ensures.sent; later = c.in-Frame.ensures.later; cause = c.in-Frame.ensures.cause }))
    c.in_err-take-in-Frame.ensures.talk)

pub returns-then-quiets-eq-MOST_QUIETS-clause-talk : goal.returns-then-quiets-eq-MOST_QUIETS-clause-talk
returns-then-quiets-eq-MOST_QUIETS-clause-talk g c =
    talks_to _ _ _ _ _ _ _ (c.leave_at.ensures ∙ sym (hearing_row_over c.args.cursor.now (c.args.quiets + 1) c.if-quiets-eq-MOST_QUIETS.true))
    (hears_in _ _ c.args.cursor.now c.args.quiets heard.Quiet _ _ _ (record { heard = c.in-Quiet.ensures.heard; sent = c.in-Quiet.ensures.sent; later = c.in-Quiet.ensures.later; cause = c.in-Quiet.ensures.cause }))

pub returns-else-quiets-eq-MOST_QUIETS-clause-talk : goal.returns-else-quiets-eq-MOST_QUIETS-clause-talk
returns-else-quiets-eq-MOST_QUIETS-clause-talk g c =
    talks_to _ _ _ _ _ _ _ (sym (hearing_row_on c.args.cursor.now (c.args.quiets + 1) c.if-quiets-eq-MOST_QUIETS.false))
    (hears_in _ _ c.args.cursor.now c.args.quiets heard.Quiet _ _ _ (record { heard = c.in-Quiet.ensures.heard; sent = c.in-Quiet.ensures.sent; later = c.in-Quiet.ensures.later; cause = c.in-Quiet.ensures.cause }))

pub returns-in-End-clause-talk : goal.returns-in-End-clause-talk
returns-in-End-clause-talk g c =
    talks_to _ _ _ _ _ _ _ c.leave_at-in-End.ensures
    (hears_in _ _ c.args.cursor.now c.args.quiets heard.End _ _ _ (record { heard = c.in-End.ensures.heard; sent = c.in-End.ensures.sent; later = c.in-End.ensures.later; cause = c.in-End.ensures.cause }))

pub returns-in-Failed-clause-talk : goal.returns-in-Failed-clause-talk
returns-in-Failed-clause-talk g c =
    talks_to _ _ _ _ _ _ _ c.leave_at-in-Failed.ensures
    (hears_in _ _ c.args.cursor.now c.args.quiets heard.Failed _ _ _ (record { heard = c.in-Failed.ensures.heard; sent = c.in-Failed.ensures.sent; later = c.in-Failed.ensures.later; cause = c.in-Failed.ensures.cause }))

pub returns-in-WantOfMemory-clause-talk : goal.returns-in-WantOfMemory-clause-talk
returns-in-WantOfMemory-clause-talk g c =
    talks_to _ _ _ _ _ _ _ c.leave_at-in-WantOfMemory.ensures
    (hears_in _ _ c.args.cursor.now c.args.quiets heard.WantOfMemory _ _ _ (record { heard = c.in-WantOfMemory.ensures.heard; sent = c.in-WantOfMemory.ensures.sent; later = c.in-WantOfMemory.ensures.later; cause = c.in-WantOfMemory.ensures.cause }))
