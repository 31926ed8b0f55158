use Rattle.session_lock.proofs.Histories.{history_grows}
use Rattle.session_lock.proofs.laws.history_goes_on.Goals as goal

pub returns : goal.returns
returns c = λ opening beginning rest. history_grows opening beginning rest
