-- What a Sync leaves of a replica, but for its world.
use Rattle.std.proofs.Common.{◌≡◌, ℕ, Bool, true, false, cond, eqb, nat_lt, [], Option, Some, None, refl}
use Rattle.wire_frames.specs.declared.start.Base.{Base}
use Rattle.wire_frames.specs.declared.frame.ServerFrame.TheVariants.{Sync}
use Rattle.reflector_core.specs.declared.request.Reply.TheVariants as reply
use Rattle.replica_plain.specs.declared.how.How.{How}
use Rattle.replica_plain.specs.declared.how.How.TheVariants.{Fresh, Whole, Resume}
use Rattle.replica_plain.specs.declared.fault.ReplicaFault.{ReplicaFault}
use Rattle.replica_plain.specs.declared.fault.ReplicaFault.TheVariants as cause
use Rattle.replica_plain.specs.Worlds.{Worlds}
use Rattle.replica_plain.specs.PlainReplica.{PlainReplica, published_count}
use Rattle.replica_plain.specs.Calls.{joining}
use Rattle.replica_plain.specs.Taking.{Taken, begins_anew, begins_with, begins_with_world, faults, goes_on_from, out_of_order, synced_with, taken, takes}
use Rattle.drill.specs.Turns.{base_after}

-- its view and its events stay, none counts as given, and its world was made from a base of this time
pub record Syncs {W O : Type 0} (old : PlainReplica W O) (time : Option ℕ) (new : PlainReplica W O) : Type 0 where
  pub view : new.view ≡ old.view
  pub outbox : new.outbox ≡ old.outbox
  pub acknowledged : new.acknowledged ≡ old.acknowledged
  pub given : new.given ≡ new.acknowledged
  pub base : new.base ≡ time

-- what is so of the replica if there is no fault
abbrev IfTaken : {W O : Type 0} → (PlainReplica W O → Type 0) → Taken W O → Type 0
IfTaken P t = t.fault ≡ None → P t.replica

at_fault : {W O : Type 0} (P : PlainReplica W O → Type 0) (r : PlainReplica W O) (fault : ReplicaFault) → IfTaken P (faults r fault)
at_fault P r fault none = absurd cc

either : {W O : Type 0} (P : PlainReplica W O → Type 0) (test : Bool) (one other : Taken W O) → IfTaken P one → IfTaken P other → IfTaken P (cond test one other)
either P true one other of_one of_other = of_one
either P false one other of_one of_other = of_other

module _ {W O : Type 0} (m : Worlds W O) (r : PlainReplica W O) (how : How) where
  abbrev joins : PlainReplica W O
  joins = joining r how

  begun_anew : (from : ℕ) → IfTaken (Syncs r None) (begins_anew m joins from)
  begun_anew from =
      either (Syncs r None) (eqb from 0) (takes (synced_with joins m.first m.first_out 0 None)) (out_of_order joins 0 from)
      (λ none. record { view = refl; outbox = refl; acknowledged = refl; given = refl; base = refl }) (at_fault (Syncs r None) joins (cause.OutOfOrder 0 from))

  gone_on : (from : ℕ) → IfTaken (Syncs r r.base) (goes_on_from joins from)
  gone_on from =
      either (Syncs r r.base) (eqb from r.seen) (takes (record joins { given = r.acknowledged; awaited = None; synced = true })) (out_of_order joins r.seen from)
      (λ none. record { view = refl; outbox = refl; acknowledged = refl; given = refl; base = refl }) (at_fault (Syncs r r.base) joins (cause.OutOfOrder r.seen from))

  begun_with_world : (from time : ℕ) (world : Option W) → IfTaken (Syncs r (Some time)) (begins_with_world m joins from time world)
  begun_with_world from time None = at_fault (Syncs r (Some time)) joins cause.BadBase
  begun_with_world from time (Some world) =
      either (Syncs r (Some time)) (eqb (m.time world) time) (takes (synced_with joins world [] from (Some time))) (faults joins cause.BadBase)
      (λ none. record { view = refl; outbox = refl; acknowledged = refl; given = refl; base = refl }) (at_fault (Syncs r (Some time)) joins cause.BadBase)

  none_with_base : (from : ℕ) (time : Option ℕ) → IfTaken (Syncs r time) (cond (eqb from r.seen) (faults joins cause.BadBase) (out_of_order joins r.seen from))
  none_with_base from time =
      either (Syncs r time) (eqb from r.seen) (faults joins cause.BadBase) (out_of_order joins r.seen from)
      (at_fault (Syncs r time) joins cause.BadBase) (at_fault (Syncs r time) joins (cause.OutOfOrder r.seen from))

begun : {W O : Type 0} (m : Worlds W O) (r : PlainReplica W O) (how : How) (seq time last from : ℕ) (base : Option Base)
    → IfTaken (Syncs r (base_after how r.base (reply.Joined seq time last from base))) (begins_with m (joining r how) how from base)
begun m r Fresh seq time last from None = begun_anew m r Fresh from
begun m r Fresh seq time last from (Some base) = begun_with_world m r Fresh from base.time (m.unsnap base.bytes)
begun m r Whole seq time last from None = begun_anew m r Whole from
begun m r Whole seq time last from (Some base) = at_fault (Syncs r None) (joining r Whole) cause.BadBase
begun m r Resume seq time last from None = gone_on m r Resume from
begun m r Resume seq time last from (Some base) = none_with_base m r Resume from r.base

-- the answer to its Join has no fault
pub sync_leaves : {W O : Type 0} (m : Worlds W O) (r : PlainReplica W O) (how : How) (seq time last from : ℕ) (base : Option Base) → (taken m (joining r how) (Sync seq last from base)).fault ≡ None
    → Syncs r (base_after how r.base (reply.Joined seq time last from base)) (taken m (joining r how) (Sync seq last from base)).replica
sync_leaves m r how seq time last from base =
    let left = Syncs r (base_after how r.base (reply.Joined seq time last from base)) in
    let joins = joining r how in
    let above = out_of_order joins (published_count joins) last in
    let below = out_of_order joins r.acknowledged last in
    let begins = begins_with m joins how from base in
    either left (nat_lt (published_count joins) last) above (cond (nat_lt last r.acknowledged) below begins) (at_fault left joins (cause.OutOfOrder (published_count joins) last))
    (either left (nat_lt last r.acknowledged) below begins (at_fault left joins (cause.OutOfOrder r.acknowledged last)) (begun m r how seq time last from base))
