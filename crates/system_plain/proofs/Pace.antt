-- The numbers of SENDs and DONEs in flight, that their order suffices, and when a SEND makes no DONE.
use Rattle.std.proofs.Common.{ℕ, ◌+◌, ◌-◌, ◌≡◌, ◌≤◌, ◌<◌, Bool, true, false, cond, eqb, List, [], ◌∷◌, Some, length, slice_get, refl, arith, ap, ◌∙◌, sym, subst}
use Rattle.std.proofs.lemmas.Bool.Decides.{nat_tests}
use Rattle.std.proofs.lemmas.List.{length-drop}
use Rattle.tea_base.specs.Limits.{most_payload}
use Rattle.tea_base.specs.Readings.{last_number}
use Rattle.wire_frames.specs.declared.frame.ClientFrame.{ClientFrame}
use Rattle.wire_frames.specs.declared.frame.ClientFrame.TheVariants as up
use Rattle.wire_frames.specs.declared.frame.ServerFrame.{ServerFrame}
use Rattle.wire_frames.specs.declared.frame.ServerFrame.TheVariants.{Done}
use Rattle.reflector_core.specs.Answer.{SessionOutcome, is_stale, send_event}
use Rattle.reflector_core.specs.PlainSession.{PlainSession}
use Rattle.replica_plain.specs.PlainReplica.{PlainReplica}
use Rattle.replica_plain.specs.Taking.{Taken, acknowledges, take_done, taken, takes}
use Rattle.replica_plain.specs.Worlds.{Worlds}
use Rattle.replica_plain.proofs.FrameSteps.{when_synced_is}
use Rattle.system_plain.specs.Schedule.{ViewPayloads}
use Rattle.system_plain.proofs.Events.{IsNoDoneReply}
use Rattle.system_plain.proofs.Numbers.{DonesWithin, LogNumbers, ReplicaNumbers}

-- the numbers of the DONEs go on from a number, one by one
abbrev pub DonesRise : ℕ → List ServerFrame → Type 0
DonesRise k [] = Unit {0}
DonesRise k (Done number seq time ∷ rest) = (number ≡ k + 1) × DonesRise (k + 1) rest
DonesRise k (frame ∷ rest) = DonesRise k rest

-- the number of the last one
abbrev pub dones_end : ℕ → List ServerFrame → ℕ
dones_end k [] = k
dones_end k (Done number seq time ∷ rest) = dones_end (k + 1) rest
dones_end k (frame ∷ rest) = dones_end k rest

abbrev pub SendsRise : ℕ → List ClientFrame → Type 0
SendsRise k [] = Unit {0}
SendsRise k (up.Send number payload ∷ rest) = (number ≡ k + 1) × SendsRise (k + 1) rest
SendsRise k (frame ∷ rest) = SendsRise k rest

abbrev pub sends_end : ℕ → List ClientFrame → ℕ
sends_end k [] = k
sends_end k (up.Send number payload ∷ rest) = sends_end (k + 1) rest
sends_end k (frame ∷ rest) = sends_end k rest

-- the numbers of the SENDs are above a number
abbrev pub SendsAbove : ℕ → List ClientFrame → Type 0
SendsAbove k [] = Unit {0}
SendsAbove k (up.Send number payload ∷ rest) = (k < number) × SendsAbove k rest
SendsAbove k (frame ∷ rest) = SendsAbove k rest

-- what is published is short
abbrev pub AreShortPayloads : (ℕ → List (List ℕ)) → Type 0
AreShortPayloads published = (view k : ℕ) (payload : List ℕ) → slice_get (published view) k ≡ Some payload → length payload ≤ most_payload

-- it is taken: the least event that is not acknowledged leaves the outbox
abbrev pub DoneIsTaken : {W O : Type 0} → PlainReplica W O → Taken W O → Type 0
DoneIsTaken r made = (payload : List ℕ) × (left : List (List ℕ)) × (r.outbox ≡ payload ∷ left) × (made ≡ takes (acknowledges r left))

done_by : {W O : Type 0} (r : PlainReplica W O) (outbox : List (List ℕ)) (number : ℕ) → r.outbox ≡ outbox → 0 < length outbox → number ≡ r.acknowledged + 1 → DoneIsTaken r (take_done r outbox number)
done_by r [] number held some next = absurd (omega arith)
done_by r (payload ∷ left) number held some next =
    let fits : eqb number (r.acknowledged + 1) ≡ true = grind (arith, nat_tests) in
    (payload, left, held, rw fits refl)

-- the next DONE names the least event that is not acknowledged
pub done_is_taken : {W O : Type 0} (m : Worlds W O) (published : ViewPayloads) (s : PlainSession) (r : PlainReplica W O) (number seq time : ℕ) (rest : List ServerFrame) → r.synced ≡ true → ReplicaNumbers published s r → LogNumbers published s → DonesWithin (last_number s.log r.view) (Done number seq time ∷ rest)
    → DonesRise r.acknowledged (Done number seq time ∷ rest) → DoneIsTaken r (taken m r (Done number seq time))
done_is_taken m published s r number seq time rest synced box prefixes within rise =
    let next = rise.0 in
    let bound = within.0 in
    let enough = prefixes.enough r.view in
    let long : length r.outbox ≡ length (published r.view) - r.acknowledged = ap length box.outbox ∙ length-drop r.acknowledged (published r.view) in
    subst (DoneIsTaken r) (sym (when_synced_is r (take_done r r.outbox number) synced)) (done_by r r.outbox number refl (omega arith) next)

-- a SEND above the next number is answered no DONE
no_done_if : (test : Bool) (a b : SessionOutcome) → (test ≡ true → IsNoDoneReply a.reply) → (test ≡ false → IsNoDoneReply b.reply) → IsNoDoneReply (cond test a b).reply
no_done_if true a b held fell = held refl
no_done_if false a b held fell = fell refl

pub stale_no_done : (s : PlainSession) (view joined number : ℕ) (payload : List ℕ) (now : ℕ) → is_stale s.log view joined ≡ true → IsNoDoneReply (send_event s view joined number payload now).reply
stale_no_done s view joined number payload now stale = no_done_if (is_stale s.log view joined) _ _ (λ h. tt) (λ fresh. absurd cc)
