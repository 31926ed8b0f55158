-- Which events are to be given.
use Rattle.std.proofs.Common.{ℕ, ◌+◌, ◌-◌, ◌≡◌, ◌≤◌, ◌<◌, inl, inr, Bool, true, false, cond, if◌then◌else◌, List, [], ◌∷◌, ◌++◌, length, drop, Option, None, ap, ◌∙◌, eqb, max, suc, refl, arith}
use Rattle.std.proofs.Math.Seq.{drop-length}
use Rattle.std.proofs.lemmas.List.{drop-append-le, length-drop}
use Rattle.wire_frames.specs.declared.start.Base.{Base}
use Rattle.wire_frames.specs.declared.frame.ClientFrame.TheVariants.{Send}
use Rattle.wire_frames.specs.declared.frame.ServerFrame.TheVariants.{Sync, Done}
use Rattle.replica_plain.specs.declared.fault.ReplicaFault.{ReplicaFault}
use Rattle.replica_plain.specs.declared.fault.ReplicaFault.TheVariants as cause
use Rattle.replica_plain.specs.Worlds.{Worlds}
use Rattle.replica_plain.specs.PlainReplica.{PlainReplica, AreCounted, published_count}
use Rattle.replica_plain.specs.Taking.{Taken, taken, takes, faults, take_done, acknowledges}
use Rattle.replica_plain.specs.Calls.{publishes, gives, unsent, sends_after}
use Rattle.replica_plain.proofs.Numbers.{SyncAnswers, sync_answers}

unsent_if : {W O : Type 0} (r : PlainReplica W O) → r.synced ≡ true → unsent r ≡ sends_after r.given (drop (r.given - r.acknowledged) r.outbox)
unsent_if r synced = rw synced refl

-- a Sync that is taken makes each event that is not acknowledged one to be given
unsent_by : {W O : Type 0} (r : PlainReplica W O) (taken : Taken W O) → SyncAnswers r taken → taken.fault ≡ None → unsent taken.replica ≡ sends_after r.acknowledged r.outbox
unsent_by r taken (inl refused) fine = absurd cc
unsent_by r taken (inr begins) fine =
    let none : r.acknowledged - r.acknowledged ≡ 0 = omega arith in
    unsent_if taken.replica begins.synced ∙ rw (begins.given, begins.acknowledged, begins.outbox, none) refl

pub synced_unsent : {W O : Type 0} (m : Worlds W O) (r : PlainReplica W O) (joined last from : ℕ) (base : Option Base) → (taken m r (Sync joined last from base)).fault ≡ None
    → unsent (taken m r (Sync joined last from base)).replica ≡ sends_after r.acknowledged r.outbox
synced_unsent m r joined last from base fine = unsent_by r _ (sync_answers m r r.awaited last from base) fine

gives_unsent_if : {W O : Type 0} (r : PlainReplica W O) (synced : Bool) → (if synced then sends_after (cond synced (published_count r) r.given) (drop (cond synced (published_count r) r.given - r.acknowledged) r.outbox) else []) ≡ []
gives_unsent_if r true =
    let all : published_count r - r.acknowledged ≡ length r.outbox = omega arith in
    rw (all, drop-length r.outbox) refl
gives_unsent_if r false = refl

pub gives_unsent : {W O : Type 0} (r : PlainReplica W O) → unsent (gives r) ≡ []
gives_unsent r = gives_unsent_if r r.synced

sends_after-append : (number : ℕ) (front : List (List ℕ)) (payload : List ℕ) → sends_after number (front ++ payload ∷ []) ≡ sends_after number front ++ Send (number + length front + 1) payload ∷ []
sends_after-append number [] payload = let e : number + 0 + 1 ≡ number + 1 = omega arith in rw e refl
sends_after-append number (first ∷ front) payload =
    let e : number + length (first ∷ front) + 1 ≡ number + 1 + length front + 1 = omega arith in
    rw e (ap (λ rest. Send (number + 1) first ∷ rest) (sends_after-append (number + 1) front payload))

pub publishes_unsent : {W O : Type 0} (r : PlainReplica W O) (payload : List ℕ) → AreCounted r → r.synced ≡ true → unsent (publishes r payload) ≡ unsent r ++ Send (published_count r + 1) payload ∷ []
publishes_unsent r payload are synced =
    let few = are.few in
    let least = are.least in
    let short : r.given - r.acknowledged ≤ length r.outbox = omega arith in
    let number : r.given + length (drop (r.given - r.acknowledged) r.outbox) + 1 ≡ published_count r + 1 = omega (arith, length-drop (r.given - r.acknowledged) r.outbox) in
    rw (synced, drop-append-le (r.given - r.acknowledged) r.outbox (payload ∷ []), sends_after-append r.given (drop (r.given - r.acknowledged) r.outbox) payload, number) refl

done_unsent_if : {W O : Type 0} (r : PlainReplica W O) (payload : List ℕ) (rest : List (List ℕ)) (fits : Bool) (fault : ReplicaFault) → r.outbox ≡ payload ∷ rest → r.acknowledged < r.given
    → unsent (cond fits (takes (acknowledges r rest)) (faults r fault)).replica ≡ unsent r
done_unsent_if r payload rest true fault held given =
    let greatest : max r.given (r.acknowledged + 1) ≡ r.given = grind arith in
    let one : r.given - r.acknowledged ≡ suc (r.given - (r.acknowledged + 1)) = omega arith in
    rw (held, greatest, one) refl
done_unsent_if r payload rest false fault held given = refl

done_unsent_of : {W O : Type 0} (r : PlainReplica W O) (outbox : List (List ℕ)) (number : ℕ) → r.outbox ≡ outbox → r.acknowledged < r.given → unsent (take_done r outbox number).replica ≡ unsent r
done_unsent_of r [] number held given = refl
done_unsent_of r (payload ∷ rest) number held given = done_unsent_if r payload rest (eqb number (r.acknowledged + 1)) (cause.OutOfOrder (r.acknowledged + 1) number) held given

unsent_when_synced : {W O : Type 0} (r : PlainReplica W O) (synced : Bool) (taken other : Taken W O) → unsent taken.replica ≡ unsent r → unsent other.replica ≡ unsent r → unsent (cond synced taken other).replica ≡ unsent r
unsent_when_synced r true taken other same same_too = same
unsent_when_synced r false taken other same same_too = same_too

-- an answer to an event that was given changes nothing of what is to be given
pub done_unsent : {W O : Type 0} (m : Worlds W O) (r : PlainReplica W O) (number seq time : ℕ) → r.acknowledged < r.given → unsent (taken m r (Done number seq time)).replica ≡ unsent r
done_unsent m r number seq time given = unsent_when_synced r r.synced _ _ (done_unsent_of r r.outbox number refl given) refl
