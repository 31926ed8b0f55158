use Rattle.world.specs.Worlds.{field_counts}
use Rattle.world.proofs.Advancing.{advance-twice}
use Rattle.world.proofs.Turn.{program-fits}
use Rattle.world.proofs.laws.advance_twice.Goals as goal

pub returns : goal.returns
returns c = λ program s t a p v le below. advance-twice (field_counts program) program s t (program-fits program p) le below a v
