use Rattle.reflector_core.proofs.GrowthLaws.{kept-others, kept-offer}
use Rattle.reflector_core.proofs.laws.offers_change_what_is_kept.Goals as goal

pub returns-clause-others : goal.returns-clause-others
returns-clause-others c = λ s request other. kept-others s request other

pub returns-clause-offers : goal.returns-clause-offers
returns-clause-offers c = λ s view joined time bytes. kept-offer s view joined time bytes
