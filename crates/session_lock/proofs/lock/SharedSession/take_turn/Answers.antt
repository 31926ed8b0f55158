use Rattle.std.proofs.Common.{ℕ, ◌<◌, length, sym, ap, ◌∙◌, subst, arith}
use Rattle.session_lock.specs.Steps.{M}
use Rattle.session_lock.specs.Keeping.{KeepsHoped}
use Rattle.session_lock.specs.Trusts.{IsTrusted}
use Rattle.session_lock.proofs.StepLaws.{looks_me}
use Rattle.session_lock.proofs.TrustLaws.{trusted_outside, first_inside}
use Rattle.session_lock.proofs.lock.SharedSession.take_turn.Goals as goal

pub load-found-requires : goal.load-found-requires
load-found-requires g c = (
  cc (c.loop.invariant.0, c.requires.table, c.self.view_is),
  omega (arith, c.self.invariant.0),
  looks_me (IsTrusted g.T.Trust.allows c.self.inside.table.shared.key.1 c.self.inside.table.shared.key.0) (KeepsHoped g.K.Keeper.holds g.K.Keeper.writes g.K.Keeper.shut g.K.Keeper.faults (g.K.Keeper.faults c.self.inside.table.shared.key.2.me.0.keeper)) g.J.Trusting.trusted (λ s h. c.requires.trusted s (trusted_outside g.T.Trust.allows c.self.inside.table.shared.table_id c.self.inside.table.shared.key (g.K.Keeper.faults c.self.inside.table.shared.key.2.me.0.keeper) c.args.self.now c.self.view_is s h)) (KeepsHoped g.K.Keeper.holds g.K.Keeper.writes g.K.Keeper.shut g.K.Keeper.faults g.J.Trusting.first)
      (λ o h p l k. subst (λ (n : ℕ). KeepsHoped g.K.Keeper.holds g.K.Keeper.writes g.K.Keeper.shut g.K.Keeper.faults n o h p l k) (first_inside g.T.Trust.allows c.self.inside.table.shared.table_id c.self.inside.table.shared.key (g.K.Keeper.faults c.self.inside.table.shared.key.2.me.0.keeper) c.args.self.now c.self.view_is g.J.Trusting.first c.requires.first)) _ c.loop.seat.id c.loop.seat.me c.args.ticket (ap (λ (m : M _). m.1) c.loop.invariant.1 ∙ c.requires.drawn.0) (ap (λ (m : M _). m.0.ticket) c.loop.invariant.1 ∙ c.requires.drawn.1)
      (ap (λ (m : M _). m.0.holding) c.loop.invariant.1 ∙ c.requires.drawn.2) (subst (λ (m : M _). 0 < length m.0.callers) (sym c.loop.invariant.1) c.requires.drawn.3),
)
