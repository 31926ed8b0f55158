use Rattle.world.specs.Worlds.{first_scene}
use Rattle.world.proofs.Folding.{replayed-folds, replayed-folds_world}
use Rattle.world.proofs.laws.replay_folds.Goals as goal

pub returns-clause-scene : goal.returns-clause-scene
returns-clause-scene c = λ founding id entries t. replayed-folds founding.tree t entries (first_scene founding id)

pub returns-clause-world : goal.returns-clause-world
returns-clause-world c = λ founding id entries t. replayed-folds_world founding.tree t entries (first_scene founding id)
