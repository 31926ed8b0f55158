use Rattle.std.proofs.Common.{refl}
use Rattle.session_journal.specs.Keeper.{keeper_state}
use Rattle.session_journal.proofs.KeeperLaws.{is_false, keeps_written}
use Rattle.session_journal.proofs.keeper.Journal.is_synced.Goals as goal

pub returns-then-self-clause-is : goal.returns-then-self-clause-is
returns-then-self-clause-is g c = rw c.if-self.true refl

pub returns-clause-is : goal.returns-clause-is
returns-clause-is g c = rw c.if-self.false refl

pub returns-clause-synced : goal.returns-clause-synced
returns-clause-synced g c = λ yes id s writes.
    keeps_written id (g.S.Store.bytes c.args.self.now.store) (g.S.Store.safe c.args.self.now.store) (keeper_state c.args.self.now) s writes c.if-self.false (writes.all_safe c.if-self.false (is_false c.args.self.now.dirty yes))
