use Rattle.world.proofs.ByWorld.{advance-by_world, external-by_world}
use Rattle.world.proofs.laws.world_decides.Goals as goal

pub returns-clause-advance : goal.returns-clause-advance
returns-clause-advance c = λ program t a. advance-by_world program t a

pub returns-clause-external : goal.returns-clause-external
returns-clause-external c = λ program e a. external-by_world program e a
