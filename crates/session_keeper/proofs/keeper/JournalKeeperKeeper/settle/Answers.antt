use Rattle.session_journal.proofs.KeeperLaws.{keeps_written}
use Rattle.session_keeper.proofs.keeper.JournalKeeperKeeper.settle.Goals as goal

-- all that is written then is safe
pub returns-in-Ok-clause-all : goal.returns-in-Ok-clause-all
returns-in-Ok-clause-all g c = λ held is.
    let clean = c.in-Ok.ensures.clean in
    record { state = is.state; is_kept = keeps_written _ _ _ _ is.state is.is_written clean.1 (is.is_written.all_safe clean.1 clean.0); same = is.same }
