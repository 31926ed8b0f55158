-- The numbers of a replica's events keep their order.
use Rattle.std.proofs.Common.{ℕ, ◌+◌, ◌≡◌, ◌≤◌, ◌<◌, ◌⊎◌, inl, inr, Bool, true, false, cond, eqb, List, [], ◌∷◌, length, length-append, subst, sym, Option, Some, None, nat_le, nat_lt, refl, arith}
use Rattle.wire_frames.specs.declared.start.Base.{Base}
use Rattle.wire_frames.specs.declared.frame.ServerFrame.{ServerFrame}
use Rattle.wire_frames.specs.declared.frame.ServerFrame.TheVariants.{Sync, Recv, Tick, Done, Snapped, Refused, Alive}
use Rattle.wire_frames.specs.declared.tags.TheConstants.{JOIN_TAG, SNAP_TAG}
use Rattle.replica_plain.specs.declared.fault.ReplicaFault.{ReplicaFault}
use Rattle.replica_plain.specs.declared.fault.ReplicaFault.TheVariants as cause
use Rattle.replica_plain.specs.declared.how.How.{How}
use Rattle.replica_plain.specs.declared.how.How.TheVariants.{Fresh, Whole, Resume}
use Rattle.replica_plain.specs.Worlds.{Worlds}
use Rattle.replica_plain.specs.PlainReplica.{PlainReplica, AreCounted, published_count, most_published}
use Rattle.replica_plain.specs.Taking.{Taken, taken, faults, take_sync, begins_anew, begins_with, begins_with_world, take_done, take_refused, lost_at}
use Rattle.replica_plain.specs.Calls.{publishes, gives}

-- a replica with the same events, of which as many are acknowledged
counted_with : {W O : Type 0} (r other : PlainReplica W O) → other.acknowledged ≡ r.acknowledged → other.outbox ≡ r.outbox → r.acknowledged ≤ other.given → other.given ≤ published_count r → AreCounted r → AreCounted other
counted_with r other acknowledged outbox least few are = record { least = rw acknowledged least; few = rw (acknowledged, outbox) few; most = rw (acknowledged, outbox) are.most }

-- none of them was given
pub counted_anew : {W O : Type 0} (r other : PlainReplica W O) → other.acknowledged ≡ r.acknowledged → other.outbox ≡ r.outbox → other.given ≡ r.acknowledged → AreCounted r → AreCounted other
counted_anew r other acknowledged outbox given are = counted_with r other acknowledged outbox (omega arith) (omega arith) are

-- as many of them were given
pub counted_so : {W O : Type 0} (r other : PlainReplica W O) → other.acknowledged ≡ r.acknowledged → other.outbox ≡ r.outbox → other.given ≡ r.given → AreCounted r → AreCounted other
counted_so r other acknowledged outbox given are = counted_with r other acknowledged outbox (omega (arith, are.least)) (omega (arith, are.few)) are

counted_if : {W O : Type 0} (b : Bool) (one other : Taken W O) → AreCounted one.replica → AreCounted other.replica → AreCounted (cond b one other).replica
counted_if true one other are are_too = are
counted_if false one other are are_too = are_too

-- ---- a Sync

-- the replica took a Sync: none of the same events was given since
pub record BeginsEvents {W O : Type 0} (r other : PlainReplica W O) : Type 0 where
  pub acknowledged : other.acknowledged ≡ r.acknowledged
  pub outbox : other.outbox ≡ r.outbox
  pub given : other.given ≡ r.acknowledged
  pub synced : other.synced ≡ true

-- it is refused and changes nothing, or it is taken
abbrev pub SyncAnswers : {W O : Type 0} → PlainReplica W O → Taken W O → Type 0
SyncAnswers r taken = ((fault : ReplicaFault) × (taken ≡ faults r fault)) ⊎ BeginsEvents r taken.replica

refuses : {W O : Type 0} (r : PlainReplica W O) (fault : ReplicaFault) → SyncAnswers r (faults r fault)
refuses r fault = inl (fault, refl)

answers_if : {W O : Type 0} (r : PlainReplica W O) (b : Bool) (one other : Taken W O) → SyncAnswers r one → SyncAnswers r other → SyncAnswers r (cond b one other)
answers_if r true one other answers answers_too = answers
answers_if r false one other answers answers_too = answers_too

anew_answers : {W O : Type 0} (m : Worlds W O) (r : PlainReplica W O) (from : ℕ) → SyncAnswers r (begins_anew m r from)
anew_answers m r from = answers_if r (eqb from 0) _ _ (inr (record { acknowledged = refl; outbox = refl; given = refl; synced = refl })) (refuses r (cause.OutOfOrder 0 from))

with_world_answers : {W O : Type 0} (m : Worlds W O) (r : PlainReplica W O) (from time : ℕ) (world : Option W) → SyncAnswers r (begins_with_world m r from time world)
with_world_answers m r from time None = refuses r cause.BadBase
with_world_answers m r from time (Some world) =
    answers_if r (eqb (m.time world) time) _ _ (inr (record { acknowledged = refl; outbox = refl; given = refl; synced = refl })) (refuses r cause.BadBase)

begin_answers : {W O : Type 0} (m : Worlds W O) (r : PlainReplica W O) (how : How) (from : ℕ) (base : Option Base) → SyncAnswers r (begins_with m r how from base)
begin_answers m r Fresh from None = anew_answers m r from
begin_answers m r Fresh from (Some base) = with_world_answers m r from base.time (m.unsnap base.bytes)
begin_answers m r Whole from None = anew_answers m r from
begin_answers m r Whole from (Some base) = refuses r cause.BadBase
begin_answers m r Resume from None =
    answers_if r (eqb from r.seen) _ _ (inr (record { acknowledged = refl; outbox = refl; given = refl; synced = refl })) (refuses r (cause.OutOfOrder r.seen from))
begin_answers m r Resume from (Some base) = answers_if r (eqb from r.seen) _ _ (refuses r cause.BadBase) (refuses r (cause.OutOfOrder r.seen from))

pub sync_answers : {W O : Type 0} (m : Worlds W O) (r : PlainReplica W O) (awaited : Option How) (last from : ℕ) (base : Option Base) → SyncAnswers r (take_sync m r awaited last from base)
sync_answers m r None last from base = refuses r cause.Unasked
sync_answers m r (Some how) last from base =
    answers_if r (nat_lt (published_count r) last) _ _ (refuses r (cause.OutOfOrder (published_count r) last))
    (answers_if r (nat_lt last r.acknowledged) _ _ (refuses r (cause.OutOfOrder r.acknowledged last)) (begin_answers m r how from base))

counted_by : {W O : Type 0} (r : PlainReplica W O) (taken : Taken W O) → SyncAnswers r taken → AreCounted r → AreCounted taken.replica
counted_by r taken (inl refused) are = subst (λ t. AreCounted t.replica) (sym refused.1) are
counted_by r taken (inr begins) are = counted_anew r taken.replica begins.acknowledged begins.outbox begins.given are

-- ---- the other frames

done_counted : {W O : Type 0} (r : PlainReplica W O) (outbox : List (List ℕ)) (number : ℕ) → r.outbox ≡ outbox → AreCounted r → AreCounted (take_done r outbox number).replica
done_counted r [] number held are = are
done_counted r (payload ∷ rest) number held are =
    let few : r.given ≤ r.acknowledged + length (payload ∷ rest) = rw held at are.few in
    let most : r.acknowledged + length (payload ∷ rest) ≤ most_published = rw held at are.most in
    counted_if (eqb number (r.acknowledged + 1)) _ _ (record { least = grind arith; few = grind arith; most = omega arith }) are

refused_counted : {W O : Type 0} (r : PlainReplica W O) (about code kept : ℕ) → AreCounted r → AreCounted (take_refused r about code kept).replica
refused_counted r about code kept are = counted_if (eqb about SNAP_TAG) _ _ are (counted_if (eqb about JOIN_TAG) _ _ (counted_so r _ refl refl refl are) are)

pub taken_counted : {W O : Type 0} (m : Worlds W O) (r : PlainReplica W O) (frame : ServerFrame) → AreCounted r → AreCounted (taken m r frame).replica
taken_counted m r (Sync joined last from base) are = counted_by r _ (sync_answers m r r.awaited last from base) are
taken_counted m r (Recv entry) are =
    counted_if r.synced _ _
    (counted_if r.broken _ _ are (counted_if (eqb entry.seq (r.seen + 1)) _ _ (counted_if (nat_le entry.time (m.time r.world)) _ _ are (counted_so r _ refl refl refl are)) are)) are
taken_counted m r (Tick t) are = counted_if r.synced _ _ (counted_if r.broken _ _ are (counted_if (nat_lt t (m.time r.world)) _ _ are (counted_so r _ refl refl refl are))) are
taken_counted m r (Done number seq time) are = counted_if r.synced _ _ (done_counted r r.outbox number refl are) are
taken_counted m r (Snapped time) are = counted_if r.synced _ _ are are
taken_counted m r (Refused about code kept more) are = refused_counted r about code kept are
taken_counted m r Alive are = are

-- ---- want of memory, and calls

pub lost_counted : {W O : Type 0} (m : Worlds W O) (r new : PlainReplica W O) (frame : ServerFrame) → AreCounted r → lost_at m r frame ≡ Some new → AreCounted new
lost_counted m r new (Sync joined last from base) are lost = counted_so r new (cc) (cc) (cc) are
lost_counted m r new (Recv entry) are lost = counted_so r new (cc) (cc) (cc) are
lost_counted m r new (Tick t) are lost = counted_so r new (cc) (cc) (cc) are
lost_counted m r new (Done number seq time) are lost = absurd cc
lost_counted m r new (Snapped time) are lost = absurd cc
lost_counted m r new (Refused about code kept more) are lost = absurd cc
lost_counted m r new Alive are lost = absurd cc

pub publishes_counted : {W O : Type 0} (r : PlainReplica W O) (payload : List ℕ) → AreCounted r → published_count r < most_published → AreCounted (publishes r payload)
publishes_counted r payload are few =
    let one = length-append r.outbox (payload ∷ []) in
    record { least = are.least; few = omega (arith, are.few); most = omega arith }

gives_counted_if : {W O : Type 0} (r : PlainReplica W O) (synced : Bool) → AreCounted r → AreCounted (record r { given = cond synced (published_count r) r.given })
gives_counted_if r true are = counted_with r _ refl refl (omega (arith, are.least, are.few)) (omega arith) are
gives_counted_if r false are = are

pub gives_counted : {W O : Type 0} (r : PlainReplica W O) → AreCounted r → AreCounted (gives r)
gives_counted r are = gives_counted_if r r.synced are
