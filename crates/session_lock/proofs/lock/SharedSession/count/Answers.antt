use Rattle.std.proofs.Common.{arith}
use Rattle.session_lock.specs.Keeping.{KeepsHoped}
use Rattle.session_lock.specs.Trusts.{IsTrusted}
use Rattle.session_lock.proofs.StepLaws.{counts_me}
use Rattle.session_lock.proofs.TrustLaws.{trusted_outside}
use Rattle.session_lock.proofs.lock.SharedSession.count.Goals as goal

pub load-requires : goal.load-requires
load-requires g c = (
  cc (c.requires.table, c.self.view_is),
  omega (arith, c.self.invariant.0),
  counts_me (IsTrusted g.T.Trust.allows c.self.inside.table.shared.key.1 c.self.inside.table.shared.key.0) (KeepsHoped g.K.Keeper.holds g.K.Keeper.writes g.K.Keeper.shut g.K.Keeper.faults (g.K.Keeper.faults c.self.inside.table.shared.key.2.me.0.keeper)) g.J.Trusting.trusted
      (λ s h. c.requires.trusted s (trusted_outside g.T.Trust.allows c.self.inside.table.shared.table_id c.self.inside.table.shared.key (g.K.Keeper.faults c.self.inside.table.shared.key.2.me.0.keeper) c.args.self.now c.self.view_is s h)) _ c.args.seat.now.id c.args.seat.now.me c.requires.caller,
)
