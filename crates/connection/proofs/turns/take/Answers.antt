use Rattle.std.proofs.Common.{[], ◌∷◌, refl, ap, sym, ◌∙◌}
use Rattle.connection.specs.Phases.{Taking, Ticking, Wants, read_phase, telling_phase}
use Rattle.connection.proofs.Counting.{none_falls}
use Rattle.connection.proofs.Talking.{has_no_reading, reads_either, talks_inwardly, talks_to}
use Rattle.connection.proofs.turns.take.Goals as goal

pub returns-in-Err-BadFrame-clause-talk : goal.returns-in-Err-BadFrame-clause-talk
returns-in-Err-BadFrame-clause-talk g c =
    reads_either _ _ 0 (Taking c.args.cursor.now c.args.bytes.now) (telling_phase c.args.cursor.now (c.unread_frame.result ∷ []) (Ticking c.args.cursor.now 0)) c.tell.result
    (λ _. Ticking c.args.cursor.now 0) _ _ refl refl
    (ap (λ frame. read_phase c.args.cursor.now frame 0)
    (has_no_reading c.in-Err-BadFrame.field-0 c.args.bytes.now c.bytes.result.now c.in-Err-BadFrame.field-0-is c.bytes.ensures c.in-Err-BadFrame.ensures.reads)
    ∙ ap (λ frame. telling_phase c.args.cursor.now (frame ∷ []) (Ticking c.args.cursor.now 0)) (sym c.unread_frame.ensures)) (c.tell.ensures _ [] (Ticking c.args.cursor.now 0))

pub returns-in-Err-WantOfMemory-clause-talk : goal.returns-in-Err-WantOfMemory-clause-talk
returns-in-Err-WantOfMemory-clause-talk g c =
    talks_to _ _ _ _ _ _ _ c.leave_at.ensures (talks_inwardly _ _ Wants (Taking c.args.cursor.now c.args.bytes.now) _ refl refl refl (none_falls _))
