use Rattle.std.proofs.Common.{refl}
use Rattle.session_journal.specs.Keeper.{keeper_state}
use Rattle.session_journal.proofs.KeeperLaws.{keeps_same, keeps_synced, keeps_written, writes_synced}
use Rattle.session_journal.proofs.keeper.Journal.sync.Goals as goal

pub returns-then-not-self-clause-synced : goal.returns-then-not-self-clause-synced
returns-then-not-self-clause-synced g c = λ id s writes.
    keeps_written id (g.S.Store.bytes c.args.self.now.store) (g.S.Store.safe c.args.self.now.store) (keeper_state c.args.self.now) s writes c.if-self.false (writes.all_safe c.if-self.false c.if-not-self.true)

pub returns-in-Ok-clause-synced : goal.returns-in-Ok-clause-synced
returns-in-Ok-clause-synced g c = λ id s writes.
    keeps_synced id (g.S.Store.bytes c.args.self.now.store) (g.S.Store.bytes c.sync.new.self) (g.S.Store.safe c.args.self.now.store) (g.S.Store.safe c.sync.new.self) (keeper_state c.args.self.now) s writes c.if-self.false
    c.sync.ensures.bytes c.in-Ok.ensures.ok

pub returns-in-Ok-clause-written : goal.returns-in-Ok-clause-written
returns-in-Ok-clause-written g c = λ id s writes.
    writes_synced id (g.S.Store.bytes c.args.self.now.store) (g.S.Store.bytes c.sync.new.self) (g.S.Store.safe c.args.self.now.store) (g.S.Store.safe c.sync.new.self) (keeper_state c.args.self.now) _ s writes c.if-self.false
    c.sync.ensures.bytes c.in-Ok.ensures.ok refl refl refl

pub returns-in-Err-clause-kept : goal.returns-in-Err-clause-kept
returns-in-Err-clause-kept g c = λ id s keeps.
    keeps_same id (g.S.Store.bytes c.args.self.now.store) (g.S.Store.bytes c.sync.new.self) (g.S.Store.safe c.args.self.now.store) (g.S.Store.safe c.sync.new.self) s keeps c.sync.ensures.bytes c.in-Err.ensures.err
