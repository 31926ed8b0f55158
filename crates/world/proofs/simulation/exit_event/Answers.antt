use Rattle.model_eval.proofs.Texts.{has_characters}
use Rattle.world.proofs.Texts.{exit-chars}
use Rattle.world.proofs.simulation.exit_event.Goals as goal

pub returns : goal.returns
returns c = has_characters c.copy.result _ _ c.copy.ensures.characters exit-chars
