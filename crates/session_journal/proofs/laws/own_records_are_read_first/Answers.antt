use Rattle.session_journal.proofs.JournalLaws.{reads_first}
use Rattle.session_journal.proofs.laws.own_records_are_read_first.Goals as goal

pub returns : goal.returns
returns c = reads_first
