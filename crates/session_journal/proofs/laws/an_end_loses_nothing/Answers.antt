use Rattle.session_journal.proofs.KeeperLaws.{goes_on_from}
use Rattle.session_journal.proofs.laws.an_end_loses_nothing.Goals as goal

pub returns : goal.returns
returns c = goes_on_from
