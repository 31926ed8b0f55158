use Rattle.std.proofs.Common.{ap}
use Rattle.world.specs.Worlds.{field_counts}
use Rattle.world.proofs.Advancing.{advance-twice}
use Rattle.world.proofs.ByWorld.{arrived}
use Rattle.world.proofs.Turn.{program-fits}
use Rattle.world.proofs.laws.external_after.Goals as goal

pub returns : goal.returns
returns c = λ program s e a p v le below. ap (arrived program e) (advance-twice (field_counts program) program s e.time (program-fits program p) le below a v)
