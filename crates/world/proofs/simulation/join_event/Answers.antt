use Rattle.model_eval.proofs.Texts.{has_characters}
use Rattle.world.proofs.Texts.{join-chars}
use Rattle.world.proofs.simulation.join_event.Goals as goal

pub returns : goal.returns
returns c = has_characters c.copy.result _ _ c.copy.ensures.characters join-chars
