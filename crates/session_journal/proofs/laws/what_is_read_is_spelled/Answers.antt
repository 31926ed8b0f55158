use Rattle.session_journal.proofs.JournalLaws.{is_spelled}
use Rattle.session_journal.proofs.laws.what_is_read_is_spelled.Goals as goal

pub returns : goal.returns
returns c = is_spelled
