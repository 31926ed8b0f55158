use Rattle.world.specs.Worlds.{field_counts}
use Rattle.world.proofs.Advancing.{advance-step}
use Rattle.world.proofs.Turn.{program-fits}
use Rattle.world.proofs.laws.advance_steps.Goals as goal

pub returns : goal.returns
returns c = λ program t a p v. advance-step (field_counts program) program t a (program-fits program p) v
