use Rattle.reflector_core.proofs.GrowthLaws.{GrowsTo-answer, GrowsTo-after_all}
use Rattle.reflector_core.proofs.laws.log_grows.Goals as goal

pub returns-clause-answer : goal.returns-clause-answer
returns-clause-answer c = λ s request. GrowsTo-answer s request

pub returns-clause-requests : goal.returns-clause-requests
returns-clause-requests c = λ s requests. GrowsTo-after_all s requests
