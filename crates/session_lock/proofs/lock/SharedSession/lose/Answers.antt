use Rattle.std.proofs.Common.{arith}
use Rattle.session_lock.specs.Keeping.{KeepsHoped}
use Rattle.session_lock.specs.Trusts.{IsTrusted}
use Rattle.session_lock.proofs.StepLaws.{loses_me}
use Rattle.session_lock.proofs.lock.SharedSession.lose.Goals as goal

pub load-requires : goal.load-requires
load-requires g c = (
  cc (c.requires.table, c.self.view_is),
  omega (arith, c.self.invariant.0),
  loses_me (IsTrusted g.T.Trust.allows c.self.inside.table.shared.key.1 c.self.inside.table.shared.key.0) (KeepsHoped g.K.Keeper.holds g.K.Keeper.writes g.K.Keeper.shut g.K.Keeper.faults (g.K.Keeper.faults c.self.inside.table.shared.key.2.me.0.keeper)) _ c.args.seat.now.id c.args.seat.now.me c.requires.holding,
)
