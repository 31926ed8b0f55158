use Rattle.journal_store.proofs.SafeLaws.{safe_read}
use Rattle.journal_store.proofs.laws.safe_bytes_are_read.Goals as goal

pub returns : goal.returns
returns c = safe_read c.front_reads_whole_records.ensures
