use Rattle.session_journal.proofs.KeeperLaws.{lease_reaches}
use Rattle.session_journal.proofs.keeper.Journal.reach.Goals as goal

pub returns-clause-reached : goal.returns-clause-reached
returns-clause-reached g c = lease_reaches c.keep.result c.args.time c.keep.new.self.horizon (rw (← c.lease_of.ensures) c.keep.ensures.horizon)
