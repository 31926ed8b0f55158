-- The answer to an Event that was sent before.
use Rattle.std.proofs.Common.{ℕ, ◌-◌, ◌≡◌, ◌≤◌, ◌<◌, Bool, true, false, cond, List, Option, Some, None, option_map, length, slice_get, ◌≢◌, sym, refl, arith, Decides}
use Rattle.std.specs.Str.{bytes_eq}
use Rattle.std.proofs.lemmas.Slice.Eq.{bytes_eq-Decides}
use Rattle.std.proofs.lemmas.Bool.Decides.{same_from_decides}
use Rattle.tea_base.specs.declared.entry.Entry.{Entry}
use Rattle.tea_base.specs.declared.entry.What.{What}
use Rattle.tea_base.specs.declared.entry.What.TheVariants.{Join, Exit, Event}
use Rattle.tea_base.specs.Readings.{is_event, is_event_of, event_payload, IsEventOf, view_event}
use Rattle.tea_base.specs.Legal.{IsLegal}
use Rattle.tea_base.proofs.LogLaws.{event_stands}
use Rattle.session_log.specs.LogState.{HasPayloadAt}
use Rattle.reflector_core.specs.PlainSession.{PlainSession}
use Rattle.reflector_core.specs.declared.request.Reply.{Reply}
use Rattle.reflector_core.specs.declared.request.Reply.TheVariants.{Again, Refused}
use Rattle.reflector_core.specs.declared.request.Refusal.TheVariants.{Differs}
use Rattle.reflector_core.specs.Answer.{repeats}

-- a test of an Event's payload is the test of the definition
payload_test : (what : What) (payload : List ℕ) (same : Bool) → is_event what ≡ true → Decides same (IsEventOf what payload) → same ≡ bytes_eq (event_payload what) payload
payload_test Join payload same is test = cc
payload_test Exit payload same is test = cc
payload_test (Event number held) payload same is test = same_from_decides same (bytes_eq held payload) test (bytes_eq-Decides held payload)

-- the seq that was found is one of the log
seq_of_found : (log : List Entry) (view number seq : ℕ) (found : Option Entry) → IsLegal log → view_event log view number ≡ found → Some seq ≡ option_map (λ (e : Entry). e.seq) found → (0 < seq) × (seq ≤ length log)
seq_of_found log view number seq None legal is named = absurd cc
seq_of_found log view number seq (Some entry) legal is named =
    let stands = (event_stands log view number entry legal is).0 in
    let same : seq ≡ entry.seq = cc in
    (omega (arith, stands.above), omega (arith, stands.within))

pub found_seq : (log : List Entry) (view number seq : ℕ) → IsLegal log → Some seq ≡ option_map (λ (e : Entry). e.seq) (view_event log view number) → (0 < seq) × (seq ≤ length log)
found_seq log view number seq legal named = seq_of_found log view number seq (view_event log view number) legal refl named

is_event-of : (view : ℕ) (entry : Entry) → is_event_of view entry ≡ true → is_event entry.what ≡ true
is_event-of view entry is = grind arith

repeats_of_found : (s : PlainSession) (view number seq time : ℕ) (payload : List ℕ) (same : Bool) (otherwise : Reply) (found : Option Entry) → IsLegal s.log → view_event s.log view number ≡ found → Some seq ≡ option_map (λ (e : Entry). e.seq) found → option_map (λ (e : Entry). e.time) (slice_get s.log (seq - 1)) ≡ Some time → Decides same (HasPayloadAt s.log seq payload) → cond same (Again seq time) (Refused (Differs seq)) ≡ repeats s payload found otherwise
repeats_of_found s view number seq time payload same otherwise None legal is named timed test = absurd cc
repeats_of_found s view number seq time payload same otherwise (Some entry) legal is named timed test =
    let stands = event_stands s.log view number entry legal is in
    let seq_is : seq ≡ entry.seq = cc in
    let place : entry.seq - 1 - 0 ≡ seq - 1 = omega arith in
    let at : slice_get s.log (seq - 1) ≡ Some entry = rw place at stands.0.at in
    let time_is : time ≡ entry.time = let h = rw at at timed in cc in
    let there : seq ≢ 0 = omega (arith, stands.0.above) in
    let test_at = rw at at test in
    let same_is = payload_test entry.what payload same (is_event-of view entry stands.1) (λ h. (test_at.0 h).1, λ h. test_at.1 (there, h)) in
    rw (seq_is, time_is, same_is) refl

pub repeats_found : (s : PlainSession) (view number seq time : ℕ) (payload : List ℕ) (same : Bool) (otherwise : Reply) → IsLegal s.log → Some seq ≡ option_map (λ (e : Entry). e.seq) (view_event s.log view number) → option_map (λ (e : Entry). e.time) (slice_get s.log (seq - 1)) ≡ Some time → Decides same (HasPayloadAt s.log seq payload) → cond same (Again seq time) (Refused (Differs seq)) ≡ repeats s payload (view_event s.log view number) otherwise
repeats_found s view number seq time payload same otherwise legal named timed test = repeats_of_found s view number seq time payload same otherwise (view_event s.log view number) legal refl named timed test

-- the seq and the payload alone tell what differs
pub differs_found : (s : PlainSession) (view number seq : ℕ) (payload : List ℕ) (otherwise : Reply) (found : Option Entry) → IsLegal s.log → view_event s.log view number ≡ found → Some seq ≡ option_map (λ (e : Entry). e.seq) found → (HasPayloadAt s.log seq payload → ⊥) → Refused (Differs seq) ≡ repeats s payload found otherwise
differs_found s view number seq payload otherwise None legal is named test = absurd cc
differs_found s view number seq payload otherwise (Some entry) legal is named test =
    let stands = event_stands s.log view number entry legal is in
    let seq_is : seq ≡ entry.seq = cc in
    let place : entry.seq - 1 - 0 ≡ seq - 1 = omega arith in
    let at : slice_get s.log (seq - 1) ≡ Some entry = rw place at stands.0.at in
    let there : seq ≢ 0 = omega (arith, stands.0.above) in
    let differs = rw at at test in
    let test_at : IsEventOf entry.what payload → ⊥ = λ h. differs (there, h) in
    let same_is = payload_test entry.what payload false (is_event-of view entry stands.1) (λ h. cc, λ h. absurd (test_at h)) in
    rw (seq_is, sym same_is) refl
