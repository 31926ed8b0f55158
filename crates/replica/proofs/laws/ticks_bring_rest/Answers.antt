use Rattle.model_solved.specs.Founding.{founding_of}
use Rattle.replica_plain.proofs.FrameSteps.{tick_rests}
use Rattle.replica.specs.View.{worlds_of}
use Rattle.replica.proofs.laws.ticks_bring_rest.Goals as goal

pub returns : goal.returns
returns c = λ r t p. tick_rests (worlds_of r) (c.worlds_stand.ensures (founding_of r.program) r.id p) r.plain t
