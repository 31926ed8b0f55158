use Rattle.session_journal.proofs.KeeperLaws.{read_stored}
use Rattle.session_journal.proofs.laws.what_is_read_may_be_opened.Goals as goal

pub returns : goal.returns
returns c = read_stored
