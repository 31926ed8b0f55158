-- A replica that takes a frame keeps its view and the number of events that it published, and a whole one has no fault but one at a tick of its
-- own time.
use Rattle.std.proofs.Common.{◌≡◌, ℕ, suc, ◌+◌, ◌==◌, Bool, true, false, if◌then◌else◌, List, [], ◌∷◌, length, Option, Some, None, refl, sym, ap, subst, arith}
use Rattle.std.specs.Prelude.{nat_le, nat_lt, ⊤, Result, Ok, Err}
use Rattle.std.proofs.lemmas.Bool.Decides.{nat_tests}
use Rattle.std.proofs.lemmas.Option.{none-some, same_Some}
use Rattle.tea_base.specs.declared.entry.Entry.{Entry}
use Rattle.wire_frames.specs.declared.start.Base.{Base}
use Rattle.wire_frames.specs.declared.frame.ServerFrame.{ServerFrame}
use Rattle.wire_frames.specs.declared.frame.ServerFrame.TheVariants.{Sync, Recv, Tick, Done, Snapped, Refused, Alive}
use Rattle.wire_frames.specs.declared.tags.TheConstants.{JOIN_TAG, SNAP_TAG}
use Rattle.replica_plain.specs.declared.how.How.{How}
use Rattle.replica_plain.specs.declared.how.How.TheVariants.{Fresh, Whole, Resume}
use Rattle.replica_plain.specs.declared.fault.ReplicaFault.{ReplicaFault}
use Rattle.replica_plain.specs.declared.fault.ReplicaFault.TheVariants as cause
use Rattle.replica_plain.specs.Worlds.{Worlds}
use Rattle.replica_plain.specs.PlainReplica.{PlainReplica, published_count, breaks}
use Rattle.replica_plain.specs.Taking.{Taken, begins_anew, goes_on_from, begins_with_world, begins_with, take_sync, take_entry, take_tick, take_done, acknowledges, take_refused, when_synced, taken, lost_at, IsTaken}

pub record Keeps {W O : Type 0} (r other : PlainReplica W O) : Type 0 where
  pub view : other.view ≡ r.view
  pub published : published_count other ≡ published_count r

pub keeps_all : {W O : Type 0} (r : PlainReplica W O) → Keeps r r
keeps_all r = record { view = refl; published = refl }

if_keeps : {W O : Type 0} (r : PlainReplica W O) (test : Bool) (a b : Taken W O) → Keeps r a.replica → Keeps r b.replica → Keeps r (if test then a else b).replica
if_keeps r true a b first second = first
if_keeps r false a b first second = second

-- a frame that was not asked for
abbrev pub IsUnasked : ReplicaFault → Type 0
IsUnasked cause.Unasked = Unit {0}
IsUnasked other = ⊥

module _ {W O : Type 0} (m : Worlds W O) (r : PlainReplica W O) where
  anew_keeps : (from : ℕ) → Keeps r (begins_anew m r from).replica
  anew_keeps from = if_keeps r (from == 0) _ _ (record { view = refl; published = refl }) (keeps_all r)

  on_keeps : (from : ℕ) → Keeps r (goes_on_from r from).replica
  on_keeps from = if_keeps r (from == r.seen) _ _ (record { view = refl; published = refl }) (keeps_all r)

  world_keeps : (from time : ℕ) (world : Option W) → Keeps r (begins_with_world m r from time world).replica
  world_keeps from time None = keeps_all r
  world_keeps from time (Some world) = if_keeps r (m.time world == time) _ _ (record { view = refl; published = refl }) (keeps_all r)

  begins_keeps : (how : How) (from : ℕ) (base : Option Base) → Keeps r (begins_with m r how from base).replica
  begins_keeps Fresh from None = anew_keeps from
  begins_keeps Fresh from (Some base) = world_keeps from base.time (m.unsnap base.bytes)
  begins_keeps Whole from None = anew_keeps from
  begins_keeps Whole from (Some base) = keeps_all r
  begins_keeps Resume from None = on_keeps from
  begins_keeps Resume from (Some base) = if_keeps r (from == r.seen) _ _ (keeps_all r) (keeps_all r)

  sync_keeps : (awaited : Option How) (last from : ℕ) (base : Option Base) → Keeps r (take_sync m r awaited last from base).replica
  sync_keeps None last from base = keeps_all r
  sync_keeps (Some how) last from base =
      if_keeps r (nat_lt (published_count r) last) _ _ (keeps_all r) (if_keeps r (nat_lt last r.acknowledged) _ _ (keeps_all r) (begins_keeps how from base))

  entry_keeps : (entry : Entry) → Keeps r (take_entry m r entry).replica
  entry_keeps entry =
      if_keeps r r.broken _ _ (keeps_all r)
      (if_keeps r (entry.seq == r.seen + 1) _ _ (if_keeps r (nat_le entry.time (m.time r.world)) _ _ (keeps_all r) (record { view = refl; published = refl })) (keeps_all r))

  tick_keeps : (t : ℕ) → Keeps r (take_tick m r t).replica
  tick_keeps t = if_keeps r r.broken _ _ (keeps_all r) (if_keeps r (nat_lt t (m.time r.world)) _ _ (keeps_all r) (record { view = refl; published = refl }))

  acknowledged_count : (payload : List ℕ) (rest : List (List ℕ)) → r.outbox ≡ payload ∷ rest → published_count (acknowledges r rest) ≡ published_count r
  acknowledged_count payload rest is =
      let held : length r.outbox ≡ suc (length rest) = ap length is in
      omega arith

  done_keeps : (outbox : List (List ℕ)) (number : ℕ) → r.outbox ≡ outbox → Keeps r (take_done r outbox number).replica
  done_keeps [] number is = keeps_all r
  done_keeps (payload ∷ rest) number is =
      if_keeps r (number == r.acknowledged + 1) _ _ (record { view = refl; published = acknowledged_count payload rest is }) (keeps_all r)

  refused_keeps : (about code kept : ℕ) → Keeps r (take_refused r about code kept).replica
  refused_keeps about code kept = if_keeps r (about == SNAP_TAG) _ _ (keeps_all r) (if_keeps r (about == JOIN_TAG) _ _ (record { view = refl; published = refl }) (keeps_all r))

  synced_keeps : (t : Taken W O) → Keeps r t.replica → Keeps r (when_synced r t).replica
  synced_keeps t keeps = if_keeps r r.synced _ _ keeps (keeps_all r)

  pub taken_keeps : (frame : ServerFrame) → Keeps r (taken m r frame).replica
  taken_keeps (Sync joined last from base) = sync_keeps r.awaited last from base
  taken_keeps (Recv entry) = synced_keeps _ (entry_keeps entry)
  taken_keeps (Tick t) = synced_keeps _ (tick_keeps t)
  taken_keeps (Done number seq time) = synced_keeps _ (done_keeps r.outbox number refl)
  taken_keeps (Snapped time) = synced_keeps _ (keeps_all r)
  taken_keeps (Refused about code kept more) = refused_keeps about code kept
  taken_keeps Alive = keeps_all r

  lost_keeps : (frame : ServerFrame) (new : PlainReplica W O) → lost_at m r frame ≡ Some new → Keeps r new
  lost_keeps (Sync joined last from base) new lost = subst (λ (o : PlainReplica W O). Keeps r o) (same_Some r new lost) (keeps_all r)
  lost_keeps (Recv entry) new lost = subst (λ (o : PlainReplica W O). Keeps r o) (same_Some (breaks m r) new lost) (record { view = refl; published = refl })
  lost_keeps (Tick t) new lost = subst (λ (o : PlainReplica W O). Keeps r o) (same_Some (breaks m r) new lost) (record { view = refl; published = refl })
  lost_keeps (Done number seq time) new lost = absurd (none-some new lost)
  lost_keeps (Snapped time) new lost = absurd (none-some new lost)
  lost_keeps (Refused about code kept more) new lost = absurd (none-some new lost)
  lost_keeps Alive new lost = absurd (none-some new lost)

  from_table : (frame : ServerFrame) (new : PlainReplica W O) → new ≡ (taken m r frame).replica → Keeps r new
  from_table frame new is = subst (λ (o : PlainReplica W O). Keeps r o) (sym is) (taken_keeps frame)

  pub is_taken_keeps : (frame : ServerFrame) (new : PlainReplica W O) (result : Result ⊤ ReplicaFault) → IsTaken result (lost_at m r frame) new (taken m r frame) → Keeps r new
  is_taken_keeps frame new (Ok done) (faultless, is) = from_table frame new is
  is_taken_keeps frame new (Err cause.WantOfMemory) (may, lost) = lost_keeps frame new lost
  is_taken_keeps frame new (Err cause.Unasked) (faulty, is) = from_table frame new is
  is_taken_keeps frame new (Err (cause.OutOfOrder expected found)) (faulty, is) = from_table frame new is
  is_taken_keeps frame new (Err (cause.Back time)) (faulty, is) = from_table frame new is
  is_taken_keeps frame new (Err cause.BadBase) (faulty, is) = from_table frame new is
  is_taken_keeps frame new (Err cause.Broken) (faulty, is) = from_table frame new is
  is_taken_keeps frame new (Err (cause.Refused about code kept)) (faulty, is) = from_table frame new is

  tick_by : (synced : Bool) (fault : ReplicaFault) → r.synced ≡ synced → r.broken ≡ false → (taken m r (Tick (m.time r.world))).fault ≡ Some fault → fault ≡ cause.Unasked
  tick_by true fault is whole found =
      let back : nat_lt (m.time r.world) (m.time r.world) ≡ false = grind (arith, nat_tests) in
      absurd (none-some fault (rw (is, whole, back) at found))
  tick_by false fault is whole found = sym (same_Some cause.Unasked fault (rw is at found))

  -- a tick of a whole replica's own time has no fault but that the replica has not joined
  pub own_tick : (time : ℕ) (fault : ReplicaFault) → time ≡ m.time r.world → r.broken ≡ false → (taken m r (Tick time)).fault ≡ Some fault → IsUnasked fault
  own_tick time fault timed whole found =
      subst IsUnasked (sym (tick_by r.synced fault refl whole (subst (λ (t : ℕ). (taken m r (Tick t)).fault ≡ Some fault) timed found))) tt
