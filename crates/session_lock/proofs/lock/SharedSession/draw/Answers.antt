use Rattle.std.proofs.Common.{◌<◌, length, sym, ap, ◌∙◌, subst, arith}
use Rattle.session_lock.specs.Steps.{M}
use Rattle.session_lock.specs.Keeping.{KeepsHoped}
use Rattle.session_lock.specs.Trusts.{IsTrusted}
use Rattle.session_lock.proofs.StepLaws.{draws}
use Rattle.session_lock.proofs.lock.SharedSession.draw.Goals as goal

pub compare_exchange-found-requires : goal.compare_exchange-found-requires
compare_exchange-found-requires g c = (
  cc (c.loop.invariant.0, c.requires.table, c.self.view_is),
  omega (arith, c.self.invariant.0),
  draws (IsTrusted g.T.Trust.allows c.self.inside.table.shared.key.1 c.self.inside.table.shared.key.0) (KeepsHoped g.K.Keeper.holds g.K.Keeper.writes g.K.Keeper.shut g.K.Keeper.faults (g.K.Keeper.faults c.self.inside.table.shared.key.2.me.0.keeper)) _ c.loop.seat.id c.loop.seat.me c.peek-next.result (ap (λ (m : M _). m.0.ticket) c.loop.invariant.1 ∙ c.requires.idle.0) (ap (λ (m : M _). m.0.holding) c.loop.invariant.1 ∙ c.requires.idle.1) (subst (λ (m : M _). 0 < length m.0.callers) (sym c.loop.invariant.1) c.requires.caller) (omega arith),
)
