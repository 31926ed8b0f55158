use Rattle.system_plain.proofs.StepRows.{publication_decided}
use Rattle.system_plain.proofs.laws.publication_is_decided.Goals as goal

pub returns : goal.returns
returns g c = publication_decided
