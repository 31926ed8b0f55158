use Rattle.session_journal.proofs.KeeperLaws.{keeps_founded, writes_founded}
use Rattle.session_journal.proofs.laws.a_header_keeps_the_first_session.Goals as goal

pub returns-clause-kept : goal.returns-clause-kept
returns-clause-kept c = keeps_founded

pub returns-clause-written : goal.returns-clause-written
returns-clause-written c = writes_founded
