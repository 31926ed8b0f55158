use Rattle.session_journal.proofs.FoundingLaws.{founding_is_read}
use Rattle.session_journal.proofs.laws.a_founding_is_read.Goals as goal

pub returns : goal.returns
returns c = founding_is_read
