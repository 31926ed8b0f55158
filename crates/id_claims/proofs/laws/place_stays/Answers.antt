use Rattle.id_claims.proofs.Places.{answer_stays}
use Rattle.id_claims.proofs.laws.place_stays.Goals as goal

pub returns : goal.returns
returns c = λ seen ids id place has begins few. answer_stays seen ids id place has begins few
