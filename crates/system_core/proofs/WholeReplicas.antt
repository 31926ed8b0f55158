-- No frame that is taken breaks a replica: want of memory alone does.
use Rattle.std.proofs.Common.{ℕ, ◌+◌, ◌≡◌, Bool, true, false, cond, eqb, List, [], ◌∷◌, Option, Some, None, nat_le, nat_lt, refl}
use Rattle.wire_frames.specs.declared.start.Base.{Base}
use Rattle.wire_frames.specs.declared.frame.ServerFrame.{ServerFrame}
use Rattle.wire_frames.specs.declared.frame.ServerFrame.TheVariants.{Sync, Recv, Tick, Done, Snapped, Refused, Alive}
use Rattle.wire_frames.specs.declared.tags.TheConstants.{JOIN_TAG, SNAP_TAG}
use Rattle.replica_plain.specs.declared.how.How.{How}
use Rattle.replica_plain.specs.declared.how.How.TheVariants.{Fresh, Whole, Resume}
use Rattle.replica_plain.specs.Worlds.{Worlds}
use Rattle.replica_plain.specs.PlainReplica.{PlainReplica, published_count}
use Rattle.replica_plain.specs.Taking.{Taken, begins_anew, begins_with, begins_with_world, take_done, take_sync, taken}

whole_if : {W O : Type 0} (test : Bool) (a b : Taken W O) → a.replica.broken ≡ false → b.replica.broken ≡ false → (cond test a b).replica.broken ≡ false
whole_if true a b held fell = held
whole_if false a b held fell = fell

anew_whole : {W O : Type 0} (m : Worlds W O) (r : PlainReplica W O) (from : ℕ) → r.broken ≡ false → (begins_anew m r from).replica.broken ≡ false
anew_whole m r from whole = whole_if (eqb from 0) _ _ refl whole

base_whole : {W O : Type 0} (m : Worlds W O) (r : PlainReplica W O) (from time : ℕ) (world : Option W) → r.broken ≡ false → (begins_with_world m r from time world).replica.broken ≡ false
base_whole m r from time None whole = whole
base_whole m r from time (Some world) whole = whole_if (eqb (m.time world) time) _ _ refl whole

begins_whole : {W O : Type 0} (m : Worlds W O) (r : PlainReplica W O) (how : How) (from : ℕ) (base : Option Base) → r.broken ≡ false → (begins_with m r how from base).replica.broken ≡ false
begins_whole m r Fresh from None whole = anew_whole m r from whole
begins_whole m r Whole from None whole = anew_whole m r from whole
begins_whole m r Resume from None whole = whole_if (eqb from r.seen) _ _ whole whole
begins_whole m r Fresh from (Some base) whole = base_whole m r from base.time (m.unsnap base.bytes) whole
begins_whole m r Whole from (Some base) whole = whole
begins_whole m r Resume from (Some base) whole = whole_if (eqb from r.seen) _ _ whole whole

sync_whole : {W O : Type 0} (m : Worlds W O) (r : PlainReplica W O) (awaited : Option How) (last from : ℕ) (base : Option Base) → r.broken ≡ false → (take_sync m r awaited last from base).replica.broken ≡ false
sync_whole m r None last from base whole = whole
sync_whole m r (Some how) last from base whole =
    whole_if (nat_lt (published_count r) last) _ _ whole (whole_if (nat_lt last r.acknowledged) _ _ whole (begins_whole m r how from base whole))

done_whole : {W O : Type 0} (r : PlainReplica W O) (outbox : List (List ℕ)) (number : ℕ) → r.broken ≡ false → (take_done r outbox number).replica.broken ≡ false
done_whole r [] number whole = whole
done_whole r (payload ∷ rest) number whole = whole_if (eqb number (r.acknowledged + 1)) _ _ whole whole

pub taken_whole : {W O : Type 0} (m : Worlds W O) (r : PlainReplica W O) (frame : ServerFrame) → r.broken ≡ false → (taken m r frame).replica.broken ≡ false
taken_whole m r (Sync joined last from base) whole = sync_whole m r r.awaited last from base whole
taken_whole m r (Recv entry) whole =
    whole_if r.synced _ _ (whole_if r.broken _ _ whole (whole_if (eqb entry.seq (r.seen + 1)) _ _ (whole_if (nat_le entry.time (m.time r.world)) _ _ whole whole) whole)) whole
taken_whole m r (Tick t) whole = whole_if r.synced _ _ (whole_if r.broken _ _ whole (whole_if (nat_lt t (m.time r.world)) _ _ whole whole)) whole
taken_whole m r (Done number seq time) whole = whole_if r.synced _ _ (done_whole r r.outbox number whole) whole
taken_whole m r (Snapped time) whole = whole_if r.synced _ _ whole whole
taken_whole m r (Refused about code kept more) whole = whole_if (eqb about SNAP_TAG) _ _ whole (whole_if (eqb about JOIN_TAG) _ _ whole whole)
taken_whole m r Alive whole = whole
