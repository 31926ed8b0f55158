use Rattle.std.proofs.Common.{Some, None, ap, ◌∙◌}
use Rattle.system_plain.specs.Turn.{answer_frames}
use Rattle.connection.specs.Phases.{Over, Ticking, answered_by}
use Rattle.connection.proofs.Talking.{talks_from, talks_still}
use Rattle.connection.proofs.turns.answer.Goals as goal

pub returns-in-None-None : goal.returns-in-None-None
returns-in-None-None g c pass =
    talks_from _ _ _ _ _ _ _
    (ap (λ ended. answered_by c.args.cursor.now ended (answer_frames c.args.answer)) c.in-None-None.is-0 ∙ ap (λ answer. answered_by c.args.cursor.now None (answer_frames answer)) c.in-None-None.is-1)
    (talks_still _ _ (Ticking c.args.cursor.now 0) _)

pub returns-in-Some-None : goal.returns-in-Some-None
returns-in-Some-None g c pass =
    talks_from _ _ _ _ _ _ _
    (ap (λ ended. answered_by c.args.cursor.now ended (answer_frames c.args.answer)) c.in-Some-None.is-0
    ∙ ap (λ answer. answered_by c.args.cursor.now (Some c.in-Some-None.ended) (answer_frames answer)) c.in-Some-None.is-1)
    (talks_still _ _ (Over c.in-Some-None.ended) _)
