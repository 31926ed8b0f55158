use Rattle.std.proofs.Common.{arith}
use Rattle.session_lock.specs.Keeping.{KeepsHoped}
use Rattle.session_lock.specs.Trusts.{IsTrusted}
use Rattle.session_lock.proofs.StepLaws.{releases_me}
use Rattle.session_lock.proofs.TrustLaws.{release_inside}
use Rattle.session_lock.proofs.lock.SharedSession.release.Goals as goal

pub fetch_add-served-requires : goal.fetch_add-served-requires
fetch_add-served-requires g c = (
  cc (c.requires.table, c.self.view_is),
  omega (arith, c.self.invariant.0),
  releases_me (IsTrusted g.T.Trust.allows c.self.inside.table.shared.key.1 c.self.inside.table.shared.key.0) (KeepsHoped g.K.Keeper.holds g.K.Keeper.writes g.K.Keeper.shut g.K.Keeper.faults (g.K.Keeper.faults c.self.inside.table.shared.key.2.me.0.keeper)) _ c.args.seat.now.id c.args.seat.now.me c.self.invariant.1
      (release_inside g.T.Trust.allows c.self.inside.table.shared.table_id c.self.inside.table.shared.key (g.K.Keeper.faults c.self.inside.table.shared.key.2.me.0.keeper) c.args.self.now c.self.view_is g.K.Keeper.holds g.K.Keeper.writes g.K.Keeper.shut g.K.Keeper.faults g.J.Trusting.first c.args.seat.now.me c.requires.first c.requires.may),
)
