-- What a SEND in its turn is answered, and that a stale connection stays stale: the two lemmas on which the order of DONEs rests.
use Rattle.std.proofs.Common.{ℕ, ◌+◌, ◌-◌, ◌≡◌, ◌≤◌, ◌<◌, ◌⊎◌, inl, inr, Bool, true, false, cond, eqb, not, nat_lt, nat_le, ◌||◌, List, [], ◌∷◌, ◌++◌, Option, Some, None, option_map, length, slice_get, refl, arith, sym, ap, ◌∙◌, subst}
use Rattle.std.proofs.lemmas.Option.{slice_get-map}
use Rattle.std.proofs.lemmas.Bool.Decides.{nat_tests}
use Rattle.tea_base.specs.declared.entry.Entry.{Entry}
use Rattle.tea_base.specs.Limits.{end_of_time, most_bytes, most_payload}
use Rattle.tea_base.specs.Readings.{event_payload, is_presence_of, is_some_join, last_entry, last_number, payload_bytes, presence, seq_or_zero, view_event, view_events}
use Rattle.tea_base.proofs.LogLaws.{event-counted, last_presence-push}
use Rattle.reflector_core.specs.declared.request.Refusal.TheVariants as refusal
use Rattle.reflector_core.specs.declared.request.Reply.{Reply}
use Rattle.reflector_core.specs.declared.request.Reply.TheVariants as reply
use Rattle.reflector_core.specs.Answer.{SessionOutcome, is_closed, is_stale, repeats, send_event}
use Rattle.reflector_core.specs.PlainSession.{PlainSession}
use Rattle.system_plain.specs.Schedule.{ViewPayloads}
use Rattle.system_plain.proofs.Events.{IsNoDoneReply}
use Rattle.system_plain.proofs.NotDiffers.{bytes_same, got_of_taken}
use Rattle.system_plain.proofs.Numbers.{LogNumbers}

-- the reply makes a DONE
abbrev pub IsDoneReply : Reply → Type 0
IsDoneReply (reply.Stamped seq time) = Unit {0}
IsDoneReply (reply.Again seq time) = Unit {0}
IsDoneReply other = ⊥

-- a SEND in its turn is answered DONE, or the view's next Event stays out
abbrev pub InTurn : PlainSession → ℕ → ℕ → SessionOutcome → Type 0
InTurn s view number o = IsDoneReply o.reply ⊎ (IsNoDoneReply o.reply × (o.session ≡ s) × (last_number s.log view < number))

turn_if : (s : PlainSession) (view number : ℕ) (test : Bool) (a b : SessionOutcome) → (test ≡ true → InTurn s view number a) → (test ≡ false → InTurn s view number b) → InTurn s view number (cond test a b)
turn_if s view number true a b held fell = held refl
turn_if s view number false a b held fell = fell refl

repeated : (s : PlainSession) (payload : List ℕ) (found : Option Entry) (otherwise : Reply) → option_map (λ (e : Entry). event_payload e.what) found ≡ Some payload → IsDoneReply (repeats s payload found otherwise)
repeated s payload None otherwise is = absurd cc
repeated s payload (Some entry) otherwise is = let same : event_payload entry.what ≡ payload = cc in rw (bytes_same (event_payload entry.what) payload same) tt

pub send_in_turn : (published : ViewPayloads) (s : PlainSession) (view joined number : ℕ) (payload : List ℕ) (now : ℕ) → LogNumbers published s → is_stale s.log view joined ≡ false → length payload ≤ most_payload → 0 < number → number ≤ last_number s.log view + 1 → slice_get (published view) (number - 1) ≡ Some payload
    → InTurn s view number (send_event s view joined number payload now)
send_in_turn published s view joined number payload now prefixes fresh short positive turn meant =
    let next = last_number s.log view + 1 in
    turn_if s view number (is_stale s.log view joined) _ _ (λ h. absurd cc) λ f.
    turn_if s view number (nat_lt most_payload (length payload)) _ _ (λ h. absurd (grind (arith, nat_tests))) λ g.
    turn_if s view number (eqb number 0) _ _ (λ h. absurd (grind (arith, nat_tests))) λ named.
    turn_if s view number (nat_lt number next) _ _ (λ old. inl (repeated s payload (view_event s.log view number) (reply.Refused (refusal.Gap next))
    (let below : number - 1 < last_number s.log view = grind (arith, nat_tests) in
    ap (option_map (λ (e : Entry). event_payload e.what)) (event-counted s.log view number positive) ∙ sym (slice_get-map (λ (e : Entry). event_payload e.what) (view_events s.log view) (number - 1)) ∙ ap (λ (l : List (List ℕ)). slice_get l (number - 1)) (prefixes.events view) ∙ got_of_taken (published view) (last_number s.log view) (number - 1) below ∙ meant))) λ new.
    turn_if s view number (nat_lt next number) _ _ (λ h. absurd (grind (arith, nat_tests))) λ no_gap.
    let above : last_number s.log view < number = grind (arith, nat_tests) in
    turn_if s view number (is_closed s.log || nat_lt most_bytes (payload_bytes s.log + length payload)) _ _ (λ h. inr (tt, refl, above)) λ room.
    turn_if s view number (nat_le end_of_time s.horizon) _ _ (λ h. inr (tt, refl, above)) (λ before_end. inl tt)

stale_if : (test : Bool) (entry : Entry) (before : Option Entry) (joined : ℕ) → joined < entry.seq → (not (eqb (seq_or_zero before) joined) || not (is_some_join before)) ≡ true → (not (eqb (seq_or_zero (cond test (Some entry) before)) joined) || not (is_some_join (cond test (Some entry) before))) ≡ true
stale_if true entry before joined later stale = let far : eqb entry.seq joined ≡ false = grind (arith, nat_tests) in rw far refl
stale_if false entry before joined later stale = stale

-- whatever comes into the log, a stale connection stays stale
pub stale_stays : (log : List Entry) (entry : Entry) (view joined : ℕ) → joined ≤ length log → entry.seq ≡ length log + 1 → is_stale log view joined ≡ true → is_stale (log ++ entry ∷ []) view joined ≡ true
stale_stays log entry view joined within seq stale =
    subst (λ (found : Option Entry). (not (eqb (seq_or_zero found) joined) || not (is_some_join found)) ≡ true) (sym (last_presence-push log entry view))
    (stale_if (is_presence_of view entry) entry (last_entry (presence log view)) joined (omega arith) stale)
