use Rattle.std.proofs.Common.{[], ap, Some}
use Rattle.connection.specs.Phases.{Ticking, greeted_phase}
use Rattle.connection.proofs.Talking.{handed_on, talks_from}
use Rattle.connection.proofs.opening.greet.Goals as goal

pub returns-clause-talk : goal.returns-clause-talk
returns-clause-talk g c pass = talks_from _ _ _ _ _ _ _ (ap (λ cursor. greeted_phase cursor (Some c.args.frame.now)) c.in-Some.is) (c.in_ok-tell.ensures pass [] (Ticking c.in-Some.cursor 0))

pub returns-in_err-tell-clause-talk : goal.returns-in_err-tell-clause-talk
returns-in_err-tell-clause-talk g c pass =
    rw (handed_on c.from_residual.result c.in_err-tell.field-0.0 c.from_residual.ensures.1)
    (talks_from _ _ _ _ _ _ _ (ap (λ cursor. greeted_phase cursor (Some c.args.frame.now)) c.in-Some.is) (c.in_err-tell.ensures pass [] (Ticking c.in-Some.cursor 0)))
