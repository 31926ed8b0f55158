use Rattle.session_log.proofs.StoredCodec.{same_stored}
use Rattle.session_log.proofs.laws.one_spelling.Goals as goal

pub returns : goal.returns
returns c = same_stored
