use Rattle.connection.proofs.Talking.{talks_then}
use Rattle.connection.proofs.serving.talk_to_end.Goals as goal

pub returns-in-Leave-clause-talk : goal.returns-in-Leave-clause-talk
returns-in-Leave-clause-talk g c = talks_then _ _ _ _ _ _ _ _ c.in-Leave.ensures.talk (c.leave.ensures.talk c.in-Leave.ended _)
