-- The events that are not acknowledged, as they leave.
use Rattle.std.proofs.Common.{◌≡◌, ◌≤◌, ℕ, ◌+◌, ◌*◌, ◌-◌, List, [], ◌∷◌, All, length, sum_by, Result, Ok, Err, IfOk, subst, sym, arith}
use Rattle.std.specs.List.{AllByRecursion}
use Rattle.std.proofs.lemmas.List.Elements.{All-tail, recursion_from_All}
use Rattle.std.proofs.lemmas.List.Sums.{sum_by-cons, sum_by-le}
use Rattle.tea_base.specs.Limits.{most_payload}
use Rattle.wire_frames.specs.Frames.{FitsClient}
use Rattle.wire_frames.specs.declared.frame.ClientFrame.{ClientFrame}
use Rattle.replica_plain.specs.Calls.{sends_after}
use Rattle.replica_plain.specs.PlainReplica.{most_published}
use Rattle.replica.specs.Outbox.{HoldsOutbox}

-- so many payloads have at most so many bytes
pub bytes_below : (payloads : List (List ℕ)) (bytes : ℕ) → HoldsOutbox payloads bytes → bytes ≤ most_published * most_payload
bytes_below payloads bytes holds =
    let each : sum_by length payloads ≤ length payloads * most_payload = sum_by-le length most_payload payloads holds.short in
    omega (arith, each, holds.total, holds.few)

-- the first payload leaves
pub holds_rest : (payload : List ℕ) (rest : List (List ℕ)) (bytes : ℕ) → HoldsOutbox (payload ∷ rest) bytes → HoldsOutbox rest (bytes - length payload)
holds_rest payload rest bytes holds = record {
  total = omega (arith, holds.total, sum_by-cons length payload rest);
  short = All-tail (λ p. length p ≤ most_payload) payload rest holds.short;
  few = omega (arith, holds.few);
}

-- the SENDs of short payloads fit their fields
sends_fit : (number : ℕ) (payloads : List (List ℕ)) → AllByRecursion (λ p. length p ≤ most_payload) payloads → AllByRecursion FitsClient (sends_after number payloads)
sends_fit number [] short = tt
sends_fit number (payload ∷ rest) short = (omega (arith, short.0), sends_fit (number + 1) rest short.1)

pub sent_fit : {E : Type 0} (result : Result (List ClientFrame) E) (number : ℕ) (payloads : List (List ℕ)) → All (λ p. length p ≤ most_payload) payloads
    → IfOk result (λ frames. frames ≡ sends_after number payloads) → IfOk result (λ frames. AllByRecursion FitsClient frames)
sent_fit (Ok frames) number payloads short is =
    subst (AllByRecursion FitsClient) (sym is) (sends_fit number payloads (recursion_from_All (λ p. length p ≤ most_payload) payloads short))
sent_fit (Err fault) number payloads short is = tt
