use Rattle.std.proofs.Common.{refl, ap, ◌∙◌, arith, length, ℕ, List, subst, sym, ◌++◌}
use Rattle.session_lock.specs.Steps.{IsIdle}
use Rattle.session_lock.specs.Keeping.{KeepsHoped}
use Rattle.session_lock.specs.Trusts.{IsTrusted}
use Rattle.session_lock.proofs.StepLaws.{settles_me}
use Rattle.session_lock.proofs.Shares.{merges}
use Rattle.session_lock.proofs.Contracts.{fits, put_together, merged_told, merged_count, merged_apart, merged_caller}
use Rattle.session_lock.proofs.lock.SharedSession.merge.Goals as goal

pub join_seat-requires : goal.join_seat-requires
join_seat-requires g c =
    let k = c.keep.invariant in
    let o = c.other.invariant in
    let some_caller = ap (λ (l : List ℕ). length l) k.callers in (
      fits c.keep.inside.seat.table_id c.self.inside.table.shared.table_id c.keep.inside.seat.me.0 c.self.inside.table.shared.key (g.K.Keeper.faults c.self.inside.table.shared.key.2.me.0.keeper) c.args.keep.now c.args.self.now c.keep.view_is c.requires.keep_session c.self.view_is,
      fits c.other.inside.seat.table_id c.self.inside.table.shared.table_id c.other.inside.seat.me.0 c.self.inside.table.shared.key (g.K.Keeper.faults c.self.inside.table.shared.key.2.me.0.keeper) c.args.other c.args.self.now c.other.view_is c.requires.other_session c.self.view_is,
      o.empty,
      omega (arith, c.self.invariant.0),
      merges (IsTrusted g.T.Trust.allows c.self.inside.table.shared.key.1 c.self.inside.table.shared.key.0) (KeepsHoped g.K.Keeper.holds g.K.Keeper.writes g.K.Keeper.shut g.K.Keeper.faults (g.K.Keeper.faults c.self.inside.table.shared.key.2.me.0.keeper)) c.keep.inside.seat.id c.other.inside.seat.id c.keep.inside.seat.me.0 c.other.inside.seat.me.0 k.ticket k.holding o.ticket o.holding o.hopes (omega (arith, some_caller)),
    )

pub load-requires : goal.load-requires
load-requires g c = (
  c.join_seat.ensures.0 ∙ fits c.keep.inside.seat.table_id c.self.inside.table.shared.table_id c.keep.inside.seat.me.0 c.self.inside.table.shared.key (g.K.Keeper.faults c.self.inside.table.shared.key.2.me.0.keeper) c.args.keep.now c.args.self.now c.keep.view_is c.requires.keep_session c.self.view_is,
  omega (arith, c.self.invariant.0),
  settles_me (IsTrusted g.T.Trust.allows c.self.inside.table.shared.key.1 c.self.inside.table.shared.key.0) (KeepsHoped g.K.Keeper.holds g.K.Keeper.writes g.K.Keeper.shut g.K.Keeper.faults (g.K.Keeper.faults c.self.inside.table.shared.key.2.me.0.keeper)) _ c.join_seat.new.seat.id c.join_seat.new.seat.me,
)

pub invariant_of-keep : goal.invariant_of-keep
invariant_of-keep g c =
    let k = c.keep.invariant in
    let t = put_together c.keep.inside.seat.me c.join_seat.new.seat.me c.load.new.seat.me c.other.inside.seat.me.0 c.join_seat.ensures.2 c.load.ensures.2 in
    subst IsIdle (sym t.0) (record {
      empty = k.empty;
      ticket = k.ticket;
      holding = k.holding;
      pending = k.pending;
      lost = k.lost;
      hopes = k.hopes;
      kept = refl;
      other = refl;
      first = k.first;
      others = k.others ++ c.other.inside.seat.me.0.callers;
      callers = ap (λ (l : List ℕ). l ++ c.other.inside.seat.me.0.callers) k.callers;
    })

pub returns-clause-merged : goal.returns-clause-merged
returns-clause-merged g c =
    merged_told c.keep.inside.seat.table_id c.other.inside.seat.table_id c.load.new.seat.table_id c.keep.inside.seat.me c.join_seat.new.seat.me c.load.new.seat.me c.other.inside.seat.me.0 c.args.keep.now c.args.other c.keep.view_is c.other.view_is
    (cc (c.load.ensures.0, c.join_seat.ensures.0)) c.join_seat.ensures.2 c.load.ensures.2

pub returns-clause-numbers : goal.returns-clause-numbers
returns-clause-numbers g c =
    merged_count c.keep.inside.seat.table_id c.other.inside.seat.table_id c.load.new.seat.table_id c.keep.inside.seat.me c.join_seat.new.seat.me c.load.new.seat.me c.other.inside.seat.me.0 c.args.keep.now c.args.other c.keep.view_is c.other.view_is
    c.join_seat.ensures.2 c.load.ensures.2

pub returns-clause-distinct : goal.returns-clause-distinct
returns-clause-distinct g c =
    merged_apart c.keep.inside.seat.table_id c.other.inside.seat.table_id c.keep.inside.seat.me c.join_seat.new.seat.me c.load.new.seat.me c.other.inside.seat.me.0 c.args.keep.now c.args.other c.keep.view_is c.other.view_is c.join_seat.ensures.2 c.load.ensures.2

pub returns-clause-caller : goal.returns-clause-caller
returns-clause-caller g c =
    merged_caller c.keep.inside.seat.table_id c.keep.inside.seat.me.0 c.args.keep.now c.args.other _ c.keep.invariant.first c.keep.invariant.others c.keep.view_is c.keep.invariant.callers (returns-clause-merged g c)
