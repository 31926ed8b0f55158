use Rattle.model_print.proofs.Canonical.{canonical-short}
use Rattle.model_print.proofs.printing.is_shortest.Goals as goal

pub returns : goal.returns
returns c = canonical-short
