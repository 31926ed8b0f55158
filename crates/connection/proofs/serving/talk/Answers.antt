use Rattle.connection.proofs.Talking.{talks_then}
use Rattle.connection.proofs.serving.talk.Goals as goal

pub returns-in-Ok-begin-clause-talk : goal.returns-in-Ok-begin-clause-talk
returns-in-Ok-begin-clause-talk g c = talks_then _ _ _ _ _ _ _ _ (c.in-Ok.ensures _) (talks_then _ _ _ _ _ _ _ _ c.in-Ok-begin.ensures.talk c.converse.ensures.talk)

pub returns-clause-talk : goal.returns-clause-talk
returns-clause-talk g c = talks_then _ _ _ _ _ _ _ _ (c.in-Ok.ensures _) c.in-Err-begin.ensures.talk
