-- A replica keeps its view and its base at an entry and at a tick.
use Rattle.std.proofs.Common.{◌≡◌, ◌+◌, ℕ, Bool, true, false, cond, eqb, nat_le, nat_lt, refl, sym, ◌∙◌, subst}
use Rattle.tea_base.specs.declared.entry.Entry.{Entry}
use Rattle.wire_frames.specs.declared.frame.ServerFrame.TheVariants.{Recv, Tick}
use Rattle.world_plain.specs.Messages.{PlainOutgoing}
use Rattle.world_plain.specs.World.{WorldRecord}
use Rattle.replica_plain.specs.declared.fault.ReplicaFault.TheVariants as cause
use Rattle.replica_plain.specs.Worlds.{Worlds}
use Rattle.replica_plain.specs.PlainReplica.{PlainReplica}
use Rattle.replica_plain.specs.Taking.{Taken, taken, takes, faults, out_of_order, next_seq, moves_to, take_entry, take_tick}
use Rattle.replica.specs.View.{ReplicaView, with_plain, worlds_of}
use Rattle.drill.specs.Ending.{IsOfView}
use Rattle.drill.specs.Taking.{HasTaken}

-- what both have, one of them has
pub either : {W O : Type 0} (P : PlainReplica W O → Type 0) (test : Bool) (one other : Taken W O) → P one.replica → P other.replica → P (cond test one other).replica
either P true one other of_one of_other = of_one
either P false one other of_one of_other = of_other

-- all but its world, what this published, and what it has seen
pub record SameView {W O : Type 0} (r other : PlainReplica W O) : Type 0 where
  pub view : other.view ≡ r.view
  pub base : other.base ≡ r.base
  pub outbox : other.outbox ≡ r.outbox
  pub acknowledged : other.acknowledged ≡ r.acknowledged
  pub given : other.given ≡ r.given

pub same_first : {W O : Type 0} (r : PlainReplica W O) → SameView r r
same_first r = record { view = refl; base = refl; outbox = refl; acknowledged = refl; given = refl }

pub same_then : {W O : Type 0} (a b c : PlainReplica W O) → SameView a b → SameView b c → SameView a c
same_then a b c one two = record {
  view = two.view ∙ one.view;
  base = two.base ∙ one.base;
  outbox = two.outbox ∙ one.outbox;
  acknowledged = two.acknowledged ∙ one.acknowledged;
  given = two.given ∙ one.given;
}

pub same_at_entry : {W O : Type 0} (m : Worlds W O) (r : PlainReplica W O) (entry : Entry) → SameView r (taken m r (Recv entry)).replica
same_at_entry m r entry =
    let same : SameView r r = same_first r in
    let moves = takes (moves_to r (m.external r.world entry) (m.external_out r.world entry r.out) (r.seen + 1)) in
    let back = faults r (cause.Back (m.time r.world)) in
    let other = out_of_order r (next_seq r) entry.seq in
    let timely = cond (nat_le entry.time (m.time r.world)) back moves in
    either (SameView r) r.synced (take_entry m r entry) (faults r cause.Unasked)
    (either (SameView r) r.broken (faults r cause.Broken) (cond (eqb entry.seq (r.seen + 1)) timely other) same
    (either (SameView r) (eqb entry.seq (r.seen + 1)) timely other (either (SameView r) (nat_le entry.time (m.time r.world)) back moves same (record { view = refl; base = refl; outbox = refl; acknowledged = refl; given = refl })) same)) same

pub same_at_tick : {W O : Type 0} (m : Worlds W O) (r : PlainReplica W O) (t : ℕ) → SameView r (taken m r (Tick t)).replica
same_at_tick m r t =
    let same : SameView r r = same_first r in
    let moves = takes (moves_to r (m.advance r.world t) (m.advance_out r.world t r.out) r.seen) in
    let back = faults r (cause.Back (m.time r.world)) in
    either (SameView r) r.synced (take_tick m r t) (faults r cause.Unasked)
    (either (SameView r) r.broken (faults r cause.Broken) (cond (nat_lt t (m.time r.world)) back moves) same
    (either (SameView r) (nat_lt t (m.time r.world)) back moves same (record { view = refl; base = refl; outbox = refl; acknowledged = refl; given = refl }))) same

-- the replica is of one view, and its world was made from one base
pub record IsKept (old new : ReplicaView) : Type 0 where
  pub view : IsOfView old new
  pub base : new.plain.base ≡ old.plain.base

pub kept_first : (r : ReplicaView) → IsKept r r
kept_first r = record { view = record { program = refl; id = refl; view = refl }; base = refl }

kept_on : (first r new : ReplicaView) → IsKept first r → IsKept r new → IsKept first new
kept_on first r new so_far more =
    record {
      view = record { program = more.view.program ∙ so_far.view.program; id = more.view.id ∙ so_far.view.id; view = more.view.view ∙ so_far.view.view };
      base = more.base ∙ so_far.base;
    }

kept_plain : (r : ReplicaView) (plain : PlainReplica WorldRecord PlainOutgoing) → SameView r.plain plain → IsKept r (with_plain r plain)
kept_plain r plain same = record { view = record { program = refl; id = refl; view = same.view }; base = same.base }

pub kept_entry : (first r new : ReplicaView) (entry : Entry) → IsKept first r → HasTaken r (Recv entry) new → IsKept first new
kept_entry first r new entry so_far took =
    kept_on first r new so_far (subst (IsKept r) (sym took.is) (kept_plain r (taken (worlds_of r) r.plain (Recv entry)).replica (same_at_entry (worlds_of r) r.plain entry)))

pub kept_tick : (first r new : ReplicaView) (t : ℕ) → IsKept first r → HasTaken r (Tick t) new → IsKept first new
kept_tick first r new t so_far took =
    kept_on first r new so_far (subst (IsKept r) (sym took.is) (kept_plain r (taken (worlds_of r) r.plain (Tick t)).replica (same_at_tick (worlds_of r) r.plain t)))
