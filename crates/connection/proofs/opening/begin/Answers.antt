use Rattle.std.proofs.Common.{refl, ap, sym, ◌∙◌}
use Rattle.connection.specs.Phases.{Beginning, Wants, opened_phase, refused_phase}
use Rattle.connection.proofs.Counting.{none_falls}
use Rattle.connection.proofs.Talking.{has_no_reading, reads_on, talks_inwardly}
use Rattle.connection.proofs.opening.begin.Goals as goal

pub returns-in-Err-BadFrame-clause-talk : goal.returns-in-Err-BadFrame-clause-talk
returns-in-Err-BadFrame-clause-talk g c =
    reads_on _ _ 0 (Beginning c.args.bytes.now) (refused_phase c.unread_frame.result) _ _ _ refl refl
    (ap (λ frame. opened_phase c.args.service.now.id frame 0)
    (has_no_reading c.in-Err-BadFrame.field-0 c.args.bytes.now c.bytes.result.now c.in-Err-BadFrame.field-0-is c.bytes.ensures c.in-Err-BadFrame.ensures.reads)
    ∙ ap refused_phase (sym c.unread_frame.ensures)) (c.refuse.ensures _)

pub returns-in-Err-WantOfMemory-clause-talk : goal.returns-in-Err-WantOfMemory-clause-talk
returns-in-Err-WantOfMemory-clause-talk g c = talks_inwardly _ _ Wants (Beginning c.args.bytes.now) _ refl refl refl (none_falls _)
