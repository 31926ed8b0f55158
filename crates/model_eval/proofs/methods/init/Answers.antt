use Rattle.model_eval.specs.Meaning.{init}
use Rattle.model_eval.proofs.Texts.{has_characters, init-chars}
use Rattle.model_eval.proofs.methods.init.Goals as goal

pub returns : goal.returns
returns c = has_characters c.copy.result _ init c.copy.ensures.characters init-chars
