use Rattle.session_log.proofs.StoredBounds.{stored_most}
use Rattle.session_log.proofs.laws.stored_sessions_fit.Goals as goal

pub returns : goal.returns
returns c = stored_most
