use Rattle.session_journal.specs.Reading.{read_place}
use Rattle.session_journal.proofs.KeeperLaws.{keeps_opened, writes_opened}
use Rattle.session_journal.proofs.keeper.Journal.open.Goals as goal

pub returns-in-Ok-clause-keeps : goal.returns-in-Ok-clause-keeps
returns-in-Ok-clause-keeps g c = λ id bytes tells fits is count.
    keeps_opened id bytes (g.S.Store.bytes c.args.store) (g.S.Store.bytes c.cut.new.self) (g.S.Store.safe c.cut.new.self) c.args.read.now.good (read_place c.args.read.now)
    tells fits is count c.in-Ok.ensures.ok c.in-Ok.ensures.safe

pub returns-in-Ok-clause-writes : goal.returns-in-Ok-clause-writes
returns-in-Ok-clause-writes g c = λ id bytes tells fits is count.
    writes_opened id bytes (g.S.Store.bytes c.args.store) (g.S.Store.bytes c.cut.new.self) (g.S.Store.safe c.cut.new.self) c.args.read.now.good (read_place c.args.read.now)
    tells fits is count c.in-Ok.ensures.ok c.in-Ok.ensures.safe
