use Rattle.std.proofs.Common.{ap, ◌∙◌, sym, subst, refl}
use Rattle.reflector_core.specs.PlainSession.{PlainSession}
use Rattle.session_lock.specs.Keeping.{KeepsHoped}
use Rattle.session_lock.specs.Passes.{PassState, HoldsEach, numbers_held, own_calls}
use Rattle.session_lock.specs.History.{play_from, IsSoundThrough}
use Rattle.session_lock.specs.Trusts.{IsTrusted}
use Rattle.session_lock.proofs.Closing.{closed, keeps_closed, plays_closed, plays_events}
use Rattle.session_lock.proofs.TrustLaws.{trusted_outside, first_inside}
use Rattle.session_lock.proofs.lock.SharedSession.close_kept.Goals as goal

pub returns-clause-play : goal.returns-clause-play
returns-clause-play g c =
    let key = c.self.inside.table.shared.key in
    let t = closed (IsTrusted g.T.Trust.allows key.1 key.0) (KeepsHoped g.K.Keeper.holds g.K.Keeper.writes g.K.Keeper.shut g.K.Keeper.faults (g.K.Keeper.faults key.2.me.0.keeper)) c.pass.inside.seat.id c.pass.inside.seat.me.0 _ _ c.take-kept.result c.close_with-closed.ensures.values.2 (ap numbers_held c.pass.view_is ∙ c.requires.whole) c.pass.invariant.holding c.pass.invariant.hopes c.take-kept.ensures.value in
    c.into_parts.ensures.0 ∙ (plays_closed g.K.Keeper.holds g.K.Keeper.writes g.K.Keeper.shut g.K.Keeper.faults (g.K.Keeper.faults key.2.me.0.keeper) c.pass.inside.seat.me.0 t.lost c.take-kept.result t.keeps ∙ ap (λ (p : PassState). play_from p.opening p.seen) c.pass.view_is)

pub returns-clause-keeper : goal.returns-clause-keeper
returns-clause-keeper g c =
    let key = c.self.inside.table.shared.key in
    let t = closed (IsTrusted g.T.Trust.allows key.1 key.0) (KeepsHoped g.K.Keeper.holds g.K.Keeper.writes g.K.Keeper.shut g.K.Keeper.faults (g.K.Keeper.faults key.2.me.0.keeper)) c.pass.inside.seat.id c.pass.inside.seat.me.0 _ _ c.take-kept.result c.close_with-closed.ensures.values.2 (ap numbers_held c.pass.view_is ∙ c.requires.whole) c.pass.invariant.holding c.pass.invariant.hopes c.take-kept.ensures.value in
    keeps_closed g.K.Keeper.holds g.K.Keeper.writes g.K.Keeper.shut g.K.Keeper.faults (g.K.Keeper.faults key.2.me.0.keeper) c.args.self.faults c.pass.inside.seat.table_id c.pass.inside.seat.me.0 c.args.pass t.lost c.take-kept.result c.into_parts.result.1
    (first_inside g.T.Trust.allows c.self.inside.table.shared.table_id key (g.K.Keeper.faults c.self.inside.table.shared.key.2.me.0.keeper) c.args.self c.self.view_is c.args.self.faults refl) c.pass.view_is c.into_parts.ensures.1 t.keeps

pub returns-clause-calls : goal.returns-clause-calls
returns-clause-calls g c =
    let key = c.self.inside.table.shared.key in
    let t = closed (IsTrusted g.T.Trust.allows key.1 key.0) (KeepsHoped g.K.Keeper.holds g.K.Keeper.writes g.K.Keeper.shut g.K.Keeper.faults (g.K.Keeper.faults key.2.me.0.keeper)) c.pass.inside.seat.id c.pass.inside.seat.me.0 _ _ c.take-kept.result c.close_with-closed.ensures.values.2 (ap numbers_held c.pass.view_is ∙ c.requires.whole) c.pass.invariant.holding c.pass.invariant.hopes c.take-kept.ensures.value in
    ap own_calls (sym c.pass.view_is) ∙ (t.own ∙ ap (λ (p : PassState). p.seen) c.pass.view_is)

pub returns-clause-trusted : goal.returns-clause-trusted
returns-clause-trusted g c =
    let key = c.self.inside.table.shared.key in
    let t = closed (IsTrusted g.T.Trust.allows key.1 key.0) (KeepsHoped g.K.Keeper.holds g.K.Keeper.writes g.K.Keeper.shut g.K.Keeper.faults (g.K.Keeper.faults key.2.me.0.keeper)) c.pass.inside.seat.id c.pass.inside.seat.me.0 _ _ c.take-kept.result c.close_with-closed.ensures.values.2 (ap numbers_held c.pass.view_is ∙ c.requires.whole) c.pass.invariant.holding c.pass.invariant.hopes c.take-kept.ensures.value in
    trusted_outside g.T.Trust.allows c.self.inside.table.shared.table_id key (g.K.Keeper.faults c.self.inside.table.shared.key.2.me.0.keeper) c.args.self c.self.view_is c.into_parts.result.0.plain (subst (λ (s : PlainSession). IsTrusted g.T.Trust.allows key.1 key.0 s) (sym (c.into_parts.ensures.0 ∙ plays_closed g.K.Keeper.holds g.K.Keeper.writes g.K.Keeper.shut g.K.Keeper.faults (g.K.Keeper.faults key.2.me.0.keeper) c.pass.inside.seat.me.0 t.lost c.take-kept.result t.keeps)) t.well.0)

pub returns-clause-numbers : goal.returns-clause-numbers
returns-clause-numbers g c =
    let key = c.self.inside.table.shared.key in
    let t = closed (IsTrusted g.T.Trust.allows key.1 key.0) (KeepsHoped g.K.Keeper.holds g.K.Keeper.writes g.K.Keeper.shut g.K.Keeper.faults (g.K.Keeper.faults key.2.me.0.keeper)) c.pass.inside.seat.id c.pass.inside.seat.me.0 _ _ c.take-kept.result c.close_with-closed.ensures.values.2 (ap numbers_held c.pass.view_is ∙ c.requires.whole) c.pass.invariant.holding c.pass.invariant.hopes c.take-kept.ensures.value in
    subst HoldsEach c.pass.view_is t.holds

pub returns-clause-sound : goal.returns-clause-sound
returns-clause-sound g c =
    let key = c.self.inside.table.shared.key in
    let t = closed (IsTrusted g.T.Trust.allows key.1 key.0) (KeepsHoped g.K.Keeper.holds g.K.Keeper.writes g.K.Keeper.shut g.K.Keeper.faults (g.K.Keeper.faults key.2.me.0.keeper)) c.pass.inside.seat.id c.pass.inside.seat.me.0 _ _ c.take-kept.result c.close_with-closed.ensures.values.2 (ap numbers_held c.pass.view_is ∙ c.requires.whole) c.pass.invariant.holding c.pass.invariant.hopes c.take-kept.ensures.value in
    subst (λ (p : PassState). IsSoundThrough p.opening p.seen) c.pass.view_is t.well.1

pub returns-clause-events : goal.returns-clause-events
returns-clause-events g c =
    plays_events c.into_parts.result.0.plain c.args.pass.opening c.args.pass.seen (returns-clause-play g c) (returns-clause-sound g c)
