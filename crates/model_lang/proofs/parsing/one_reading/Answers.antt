use Rattle.model_lang.proofs.Readings.{one-reading, some-reading}
use Rattle.model_lang.proofs.parsing.one_reading.Goals as goal

pub returns-clause-one : goal.returns-clause-one
returns-clause-one c = one-reading c.one_division.ensures

pub returns-clause-some : goal.returns-clause-some
returns-clause-some c = some-reading
