-- What a view's own requests come to.
use Rattle.std.proofs.Common.{ℕ, ◌+◌, ◌-◌, ◌≡◌, ◌≢◌, ◌≤◌, ◌⊎◌, inl, inr, Bool, true, false, ◌&&◌, ◌||◌, ◌==◌, not, List, [], ◌∷◌, ◌++◌, Option, Some, None, length, map, slice_get, ap, ◌∙◌, refl, sym, arith, if◌then◌else◌, nat_le, nat_lt, append_assoc}
use Rattle.std.proofs.lemmas.Bool.{eq-eqb}
use Rattle.std.proofs.lemmas.Bool.Decides.{nat_tests}
use Rattle.std.proofs.lemmas.Slice.Eq.{bytes_eq-Decides}
use Rattle.tea_base.specs.declared.entry.Entry.{Entry}
use Rattle.tea_base.specs.declared.entry.What.{What}
use Rattle.tea_base.specs.declared.entry.What.TheVariants as what
use Rattle.tea_base.specs.Readings.{current, event_payload, here_count, is_event_of, is_here, is_some_join, last_entry, last_number, payload_bytes, presence, seq_or_zero, view_event, view_events}
use Rattle.tea_base.specs.Limits.{end_of_time, most_bytes, most_here, most_payload, most_snapshot}
use Rattle.tea_base.proofs.LogLaws.{event-counted}
use Rattle.session_log.specs.LogState.{next_entry}
use Rattle.wire_frames.specs.declared.start.Base.{Base}
use Rattle.wire_frames.specs.declared.start.Want.{Want}
use Rattle.reflector_core.specs.PlainSession.{PlainSession}
use Rattle.reflector_core.specs.Answer.{SessionOutcome, answer, base_for, from_for, is_ahead, is_closed, is_older, is_stale, joins, refuses, repeats, stamp, stamps, with_reply}
use Rattle.reflector_core.specs.declared.request.Request.TheVariants.{Join, Send, Tick, Leave, Offer, Pull}
use Rattle.reflector_core.specs.declared.request.Reply.{Reply}
use Rattle.reflector_core.specs.declared.request.Reply.TheVariants.{Joined, Stamped, Again, Refused}
use Rattle.reflector_core.specs.declared.request.Refusal.TheVariants.{Differs, Gap, TimeEnd}
use Rattle.drill.specs.Asking.{most_short}
use Rattle.drill.specs.Doing.{HasDone, HasFinished, HasSent, IsHereBy, KeepsFrom, WasSentBy}
use Rattle.drill.specs.Drilled.{done_by, entries_by}
use Rattle.drill.proofs.Histories.{HasRoom}
use Rattle.drill.proofs.Outcomes.{if_is, log_after}
use Rattle.drill.proofs.Readings.{done_push_own, events_push_own, last_push_none, last_push_own, number_push_none, number_push_own, presence_same, slice_get_push}

-- ---- one more entry

and_never : (b : Bool) → (b && false) ≡ false
and_never true = refl
and_never false = refl

own_view : (view : ℕ) → (view == view) ≡ true
own_view view = eq-eqb view view refl

done_push : (log : List Entry) (entry : Entry) (view number : ℕ) (left whole : List What) → (entry.view == view) ≡ true → last_number (log ++ entry ∷ []) view ≡ number
    → done_by view log ++ entry.what ∷ left ≡ whole → HasDone (log ++ entry ∷ []) view number left whole
done_push log entry view number left whole own sent done = record {
  sent = sent;
  done = ap (λ (l : List What). l ++ left) (done_push_own log entry view own) ∙ append_assoc (done_by view log) (entry.what ∷ []) left ∙ done;
}

-- who is here is not stale
fresh : (log : List Entry) (view joined : ℕ) → IsHereBy log view joined → is_stale log view joined ≡ false
fresh log view joined by = ap (λ (b : Bool). not b || not (is_here log view)) (eq-eqb (current log view) joined by.current) ∙ ap not by.here

-- ---- a Join

pub record IsJoined (s : PlainSession) (view number : ℕ) (left whole : List What) (want : Want) (o : SessionOutcome) : Type 0 where
  pub seq : ℕ
  pub time : ℕ
  pub from : ℕ
  pub base : Option Base
  pub reply : o.reply ≡ Joined seq time number from base
  pub based : base ≡ base_for want s.kept
  pub done : HasDone o.session.log view number left whole
  pub here : IsHereBy o.session.log view seq

is_joined : (s : PlainSession) (view now number : ℕ) (want : Want) (left whole : List What) → HasDone s.log view number (what.Join ∷ left) whole
    → IsJoined s view number left whole want (joins s view now want)
is_joined s view now number want left whole done =
    let entry : Entry = next_entry s.log (stamp s.horizon now) view what.Join in
    let last : last_entry (presence (s.log ++ entry ∷ []) view) ≡ Some entry = last_push_own s.log entry view (ap (λ (b : Bool). b && true) (own_view view)) in
    record {
      seq = length s.log + 1;
      time = stamp s.horizon now;
      from = from_for s.log want s.kept;
      base = base_for want s.kept;
      reply = ap (λ (n : ℕ). Joined (length s.log + 1) (stamp s.horizon now) n (from_for s.log want s.kept) (base_for want s.kept)) done.sent;
      based = refl;
      done = done_push s.log entry view number left whole (own_view view) (number_push_none s.log entry view (and_never (view == view)) ∙ done.sent) done.done;
      here = record { here = ap is_some_join last; current = ap seq_or_zero last };
    }

pub join_row : (s : PlainSession) (view now number : ℕ) (want : Want) (left whole : List What) → HasRoom s → 1 ≤ view → is_ahead s.horizon want ≡ false
    → HasDone s.log view number (what.Join ∷ left) whole
    → ((end_of_time ≤ s.horizon) × (answer s (Join view now want) ≡ refuses s (TimeEnd s.horizon))) ⊎ IsJoined s view number left whole want (answer s (Join view now want))
join_row s view now number want left whole room named come done =
    let P : SessionOutcome → Type 0 = λ o. ((end_of_time ≤ s.horizon) × (o ≡ refuses s (TimeEnd s.horizon))) ⊎ IsJoined s view number left whole want o in
    if_is P (view == 0) (λ unnamed. absurd (grind (arith, nat_tests))) (λ _.
    if_is P (is_ahead s.horizon want) (λ ahead. absurd (cc (ahead, come))) (λ _.
    if_is P (not (is_here s.log view) && nat_le most_here (here_count s.log)) (λ full. absurd (grind (arith, nat_tests, room.here))) (λ _.
    if_is P (is_closed s.log) (λ closed. absurd (grind (arith, nat_tests, room.entries))) (λ _.
    if_is P (nat_le end_of_time s.horizon) (λ end. inl (grind (arith, nat_tests), refl)) (λ _. inr (is_joined s view now number want left whole done))))))

-- ---- a Send

pub record IsStamped (s : PlainSession) (view joined number : ℕ) (payload : List ℕ) (left whole : List What) (o : SessionOutcome) : Type 0 where
  pub seq : ℕ
  pub time : ℕ
  pub reply : o.reply ≡ Stamped seq time
  pub done : HasDone o.session.log view (number + 1) left whole
  pub here : IsHereBy o.session.log view joined
  pub sent : HasSent o.session.log view (number + 1) payload
  pub early : WasSentBy o.session.log view (number + 1) o.session.horizon

is_stamped : (s : PlainSession) (view joined now number : ℕ) (payload : List ℕ) (left whole : List What) → IsHereBy s.log view joined
    → HasDone s.log view number (what.Event (number + 1) payload ∷ left) whole → IsStamped s view joined number payload left whole (stamps s view (number + 1) payload now)
is_stamped s view joined now number payload left whole by done =
    let entry : Entry = next_entry s.log (stamp s.horizon now) view (what.Event (number + 1) payload) in
    let own : is_event_of view entry ≡ true = ap (λ (b : Bool). b && true) (own_view view) in
    let last : last_entry (presence (s.log ++ entry ∷ []) view) ≡ last_entry (presence s.log view) = last_push_none s.log entry view (and_never (view == view)) in
    let place : number + 1 - 1 ≡ number = omega arith in
    let at : view_event (s.log ++ entry ∷ []) view (number + 1) ≡ Some entry =
    event-counted (s.log ++ entry ∷ []) view (number + 1) (omega arith)
    ∙ (ap (λ (n : ℕ). slice_get (view_events (s.log ++ entry ∷ []) view) n) place
    ∙ (ap (λ (l : List Entry). slice_get l number) (events_push_own s.log entry view own)
    ∙ (ap (λ (n : ℕ). slice_get (view_events s.log view ++ entry ∷ []) n) (sym done.sent) ∙ slice_get_push (view_events s.log view) entry))) in
    record {
      seq = length s.log + 1;
      time = stamp s.horizon now;
      reply = refl;
      done = done_push s.log entry view (number + 1) left whole (own_view view) (number_push_own s.log entry view own ∙ ap (λ (n : ℕ). n + 1) done.sent) done.done;
      here = record { here = ap is_some_join last ∙ by.here; current = ap seq_or_zero last ∙ by.current };
      sent = record { entry = entry; at = at; carries = refl };
      early = record { entry = entry; at = at; early = omega arith };
    }

pub send_row : (s : PlainSession) (view joined now number : ℕ) (payload : List ℕ) (left whole : List What) → HasRoom s → IsHereBy s.log view joined
    → HasDone s.log view number (what.Event (number + 1) payload ∷ left) whole → length payload ≤ most_short
    → ((end_of_time ≤ s.horizon) × (answer s (Send view joined (number + 1) payload now) ≡ refuses s (TimeEnd s.horizon)))
    ⊎ IsStamped s view joined number payload left whole (answer s (Send view joined (number + 1) payload now))
send_row s view joined now number payload left whole room by done short =
    let P : SessionOutcome → Type 0 = λ o. ((end_of_time ≤ s.horizon) × (o ≡ refuses s (TimeEnd s.horizon))) ⊎ IsStamped s view joined number payload left whole o in
    let next = last_number s.log view + 1 in
    let sent = done.sent in
    if_is P (is_stale s.log view joined) (λ stale. absurd (cc (stale, fresh s.log view joined by))) (λ _.
    if_is P (nat_lt most_payload (length payload)) (λ long. absurd (grind (arith, nat_tests))) (λ _.
    if_is P (number + 1 == 0) (λ none. absurd (grind (arith, nat_tests))) (λ _.
    if_is P (nat_lt (number + 1) next) (λ old. absurd (grind (arith, nat_tests))) (λ _.
    if_is P (nat_lt next (number + 1)) (λ gap. absurd (grind (arith, nat_tests))) (λ _.
    if_is P (is_closed s.log || nat_lt most_bytes (payload_bytes s.log + length payload)) (λ full. absurd (grind (arith, nat_tests, room.entries, room.bytes))) (λ _.
    if_is P (nat_le end_of_time s.horizon) (λ end. inl (grind (arith, nat_tests), refl)) (λ _. inr (is_stamped s view joined now number payload left whole by done))))))))

again : (s : PlainSession) (payload : List ℕ) (at : Option Entry) (entry : Entry) (otherwise : Reply) → at ≡ Some entry → event_payload entry.what ≡ payload
    → repeats s payload at otherwise ≡ Again entry.seq entry.time
again s payload at entry otherwise is carries =
    ap (λ (found : Option Entry). repeats s payload found otherwise) is
    ∙ ap (λ (b : Bool). if b then Again entry.seq entry.time else Refused (Differs entry.seq)) ((bytes_eq-Decides (event_payload entry.what) payload).1 carries)

-- what was sent before is answered by its entry
pub resend_row : (s : PlainSession) (view joined now number : ℕ) (payload : List ℕ) (left whole : List What) → IsHereBy s.log view joined → HasDone s.log view number left whole
    → 1 ≤ number → HasSent s.log view number payload → length payload ≤ most_short
    → (seq : ℕ) × (time : ℕ) × (answer s (Send view joined number payload now) ≡ with_reply s (Again seq time))
resend_row s view joined now number payload left whole by done counted held short =
    let P : SessionOutcome → Type 0 = λ o. (seq : ℕ) × (time : ℕ) × (o ≡ with_reply s (Again seq time)) in
    let next = last_number s.log view + 1 in
    let sent = done.sent in
    if_is P (is_stale s.log view joined) (λ stale. absurd (cc (stale, fresh s.log view joined by))) (λ _.
    if_is P (nat_lt most_payload (length payload)) (λ long. absurd (grind (arith, nat_tests))) (λ _.
    if_is P (number == 0) (λ none. absurd (grind (arith, nat_tests))) (λ _.
    if_is P (nat_lt number next)
    (λ _. (held.entry.seq, held.entry.time, ap (with_reply s) (again s payload (view_event s.log view number) held.entry (Refused (Gap next)) held.at held.carries)))
    (λ new. absurd (grind (arith, nat_tests))))))

-- ---- an Exit

pub record HasLeft (s : PlainSession) (view : ℕ) (o : SessionOutcome) : Type 0 where
  pub done : done_by view o.session.log ≡ done_by view s.log ++ what.Exit ∷ []
  pub sent : last_number o.session.log view ≡ last_number s.log view
  pub horizon : s.horizon ≤ o.session.horizon

pub leave_row : (s : PlainSession) (view joined now : ℕ) → IsHereBy s.log view joined → HasLeft s view (answer s (Leave view joined now))
leave_row s view joined now by =
    let entry : Entry = next_entry s.log (stamp s.horizon now) view what.Exit in
    if_is (HasLeft s view) (is_stale s.log view joined) (λ stale. absurd (cc (stale, fresh s.log view joined by))) (λ _. record {
      done = done_push_own s.log entry view (own_view view);
      sent = number_push_none s.log entry view (and_never (view == view));
      horizon = omega arith;
    })

-- ---- an Offer, a Tick and a Pull

kept_already : (time : ℕ) (kept : Option Base) → is_older time kept ≡ true → KeepsFrom time kept
kept_already time None older = absurd cc
kept_already time (Some base) older = grind (arith, nat_tests)

pub offer_row : (s : PlainSession) (view joined time : ℕ) (bytes : List ℕ) → IsHereBy s.log view joined → length bytes ≤ most_snapshot → time ≤ s.horizon
    → KeepsFrom time (answer s (Offer view joined time bytes)).session.kept
offer_row s view joined time bytes by short come =
    let P : SessionOutcome → Type 0 = λ o. KeepsFrom time o.session.kept in
    if_is P (is_stale s.log view joined) (λ stale. absurd (cc (stale, fresh s.log view joined by))) (λ _.
    if_is P (nat_lt most_snapshot (length bytes)) (λ long. absurd (grind (arith, nat_tests))) (λ _.
    if_is P (nat_lt s.horizon time) (λ ahead. absurd (grind (arith, nat_tests))) (λ _.
    if_is P (is_older time s.kept) (λ older. kept_already time s.kept older) (λ _. omega arith))))

-- none of these puts anything into the log
pub tick_log : (s : PlainSession) (now : ℕ) → (answer s (Tick now)).session.log ≡ s.log
tick_log s now = refl

pub pull_session : (s : PlainSession) (after limit : ℕ) → (answer s (Pull after limit)).session ≡ s
pull_session s after limit = if_is (λ o. o.session ≡ s) (nat_lt (length s.log) after) (λ _. refl) (λ _. refl)

pub offer_log : (s : PlainSession) (view joined time : ℕ) (bytes : List ℕ) → (answer s (Offer view joined time bytes)).session.log ≡ s.log
offer_log s view joined time bytes = log_after (λ log. log ≡ s.log) s (Offer view joined time bytes) refl tt

-- ---- how a view ends

pub finished_whole : (s new : PlainSession) (view number : ℕ) (whole : List What) → HasDone s.log view number (what.Exit ∷ []) whole
    → done_by view new.log ≡ done_by view s.log ++ what.Exit ∷ [] → HasFinished new view whole
finished_whole s new view number whole done left = inl (left ∙ done.done)

none_before : {A B : Type 0} (f : A → B) (xs : List A) → map f xs ≡ [] → xs ≡ []
none_before f [] none = refl
none_before f (x ∷ xs) none = absurd cc

-- who is here has done something
here_done : (log : List Entry) (view : ℕ) → is_here log view ≡ true → done_by view log ≢ []
here_done log view here none =
    let entries : entries_by view log ≡ [] = none_before (λ (e : Entry). e.what) (entries_by view log) none in
    let away : is_here log view ≡ is_here [] view = ap (λ (es : List Entry). is_some_join (last_entry es)) (presence_same [] log view entries) in
    cc (here, away)

pub finished_early : (s new : PlainSession) (view number joined : ℕ) (left whole : List What) → IsHereBy s.log view joined → HasDone s.log view number left whole
    → (left ≡ [] → ⊥) → end_of_time ≤ new.horizon → done_by view new.log ≡ done_by view s.log ++ what.Exit ∷ [] → HasFinished new view whole
finished_early s new view number joined left whole by done more end exited =
    inr (end, inr (done_by view s.log, left, here_done s.log view by.here, more, sym done.done, exited))
