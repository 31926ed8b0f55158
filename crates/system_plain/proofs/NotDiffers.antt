-- No SEND is answered Differs.
use Rattle.std.proofs.Common.{ℕ, ◌+◌, ◌-◌, ◌≡◌, ◌<◌, Bool, true, false, cond, eqb, nat_lt, nat_le, ◌||◌, List, [], ◌∷◌, Option, Some, None, zero, suc, length, map, take, slice_get, refl, arith, sym, ap, ◌∙◌}
use Rattle.std.specs.Str.{bytes_eq}
use Rattle.std.proofs.lemmas.Slice.Eq.{bytes_eq-Decides}
use Rattle.std.proofs.lemmas.Bool.Decides.{nat_tests}
use Rattle.tea_base.specs.declared.entry.Entry.{Entry}
use Rattle.tea_base.specs.Limits.{end_of_time, most_bytes, most_payload}
use Rattle.tea_base.specs.Readings.{event_payload, last_number, payload_bytes, view_event, view_events}
use Rattle.tea_base.proofs.LogLaws.{event-counted}
use Rattle.reflector_core.specs.declared.request.Refusal.TheVariants as refusal
use Rattle.reflector_core.specs.declared.request.Reply.TheVariants as reply
use Rattle.reflector_core.specs.Answer.{SessionOutcome, is_closed, is_stale, repeats, send_event}
use Rattle.reflector_core.specs.PlainSession.{PlainSession}
use Rattle.system_plain.specs.Schedule.{IsNotDiffers, ViewPayloads, view_payloads}
use Rattle.system_plain.proofs.Numbers.{LogNumbers}

not_differs_if : (test : Bool) (a b : SessionOutcome) → (test ≡ true → IsNotDiffers a.reply) → (test ≡ false → IsNotDiffers b.reply) → IsNotDiffers (cond test a b).reply
not_differs_if true a b held fell = held refl
not_differs_if false a b held fell = fell refl

pub bytes_same : (a b : List ℕ) → a ≡ b → bytes_eq a b ≡ true
bytes_same a b same = (bytes_eq-Decides a b).1 same

-- an element among the first ones
pub got_of_taken : (xs : List (List ℕ)) (n k : ℕ) → k < n → slice_get (take n xs) k ≡ slice_get xs k
got_of_taken xs zero k below = absurd (omega arith)
got_of_taken [] (suc n) k below = refl
got_of_taken (x ∷ xs) (suc n) zero below = refl
got_of_taken (x ∷ xs) (suc n) (suc k) below = got_of_taken xs n k (omega arith)

event_payload_at : (log : List Entry) (k : ℕ) (entry : Entry) → slice_get log k ≡ Some entry → slice_get (map (λ (e : Entry). event_payload e.what) log) k ≡ Some (event_payload entry.what)
event_payload_at [] k entry at = absurd cc
event_payload_at (first ∷ rest) zero entry at = let same : first ≡ entry = cc in ap (λ (e : Entry). Some (event_payload e.what)) same
event_payload_at (first ∷ rest) (suc k) entry at = event_payload_at rest k entry at

again : (s : PlainSession) (payload : List ℕ) (found : Option Entry) (number : ℕ) → ((entry : Entry) → found ≡ Some entry → event_payload entry.what ≡ payload) → IsNotDiffers (repeats s payload found (reply.Refused (refusal.Gap number)))
again s payload None number same = tt
again s payload (Some entry) number same = rw (bytes_same (event_payload entry.what) payload (same entry refl)) tt

pub no_send_differs : (published : ViewPayloads) (s : PlainSession) (view joined number : ℕ) (payload : List ℕ) (now : ℕ) → LogNumbers published s → (0 < number) × (slice_get (published view) (number - 1) ≡ Some payload) → IsNotDiffers (send_event s view joined number payload now).reply
no_send_differs published s view joined number payload now prefixes meant =
    let next = last_number s.log view + 1 in
    not_differs_if (is_stale s.log view joined) _ _ (λ h. tt) λ fresh.
    not_differs_if (nat_lt most_payload (length payload)) _ _ (λ h. tt) λ short.
    not_differs_if (eqb number 0) _ _ (λ h. tt) λ named.
    not_differs_if (nat_lt number next) _ _ (λ old. again s payload (view_event s.log view number) next (λ entry is.
    let positive = meant.0 in
    let below : number - 1 < last_number s.log view = grind (arith, nat_tests) in
    let held : slice_get (view_payloads s.log view) (number - 1) ≡ Some (event_payload entry.what) = event_payload_at (view_events s.log view) (number - 1) entry (sym (event-counted s.log view number positive) ∙ is) in
    let taken : slice_get (take (last_number s.log view) (published view)) (number - 1) ≡ Some (event_payload entry.what) = rw (prefixes.events view) at held in
    let there : slice_get (published view) (number - 1) ≡ Some (event_payload entry.what) = sym (got_of_taken (published view) (last_number s.log view) (number - 1) below) ∙ taken in
    let both : Some (event_payload entry.what) ≡ Some payload = sym there ∙ meant.1 in
    cc)) λ new.
    not_differs_if (nat_lt next number) _ _ (λ h. tt) λ no_gap.
    not_differs_if (is_closed s.log || nat_lt most_bytes (payload_bytes s.log + length payload)) _ _ (λ h. tt) λ room.
    not_differs_if (nat_le end_of_time s.horizon) _ _ (λ h. tt) (λ before_end. tt)
