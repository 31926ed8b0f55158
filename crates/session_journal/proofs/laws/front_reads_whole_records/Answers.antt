use Rattle.session_journal.proofs.JournalLaws.{reads_whole}
use Rattle.session_journal.proofs.laws.front_reads_whole_records.Goals as goal

pub returns : goal.returns
returns c = reads_whole
