use Rattle.tea_io.proofs.Writing.{GrowsWithin-nothing}
use Rattle.store_io.proofs.blown.BlownStore.append.Goals as goal

pub returns-then-self-eq0-clause-part : goal.returns-then-self-eq0-clause-part
returns-then-self-eq0-clause-part g c = GrowsWithin-nothing (g.S.Store.bytes c.args.self.now.inner) c.args.piece.now
