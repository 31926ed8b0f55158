-- What a request adds to a view's Events.
use Rattle.std.proofs.Common.{ℕ, ◌+◌, ◌≡◌, ◌⊎◌, inl, inr, ◌≤◌, Bool, true, false, cond, eqb, not, nat_lt, nat_le, ◌&&◌, ◌||◌, List, [], ◌∷◌, ◌++◌, length, map, refl, arith, sym, ap, ◌∙◌}
use Rattle.std.proofs.lemmas.Bool.Decides.{nat_tests}
use Rattle.std.proofs.lemmas.List.{append-nil, map-append, length-map}
use Rattle.tea_base.specs.declared.entry.Entry.{Entry}
use Rattle.tea_base.specs.declared.entry.What.{What}
use Rattle.tea_base.specs.declared.entry.What.TheVariants as what
use Rattle.tea_base.specs.Limits.{end_of_time, most_bytes, most_here, most_payload, most_snapshot}
use Rattle.tea_base.specs.Readings.{event_payload, here_count, is_event_of, is_here, last_number, payload_bytes, view_events}
use Rattle.tea_base.proofs.LogLaws.{sent-push}
use Rattle.session_log.specs.LogState.{next_entry}
use Rattle.wire_frames.specs.declared.start.Want.{Want}
use Rattle.reflector_core.specs.declared.request.Reply.{Reply}
use Rattle.reflector_core.specs.declared.request.Reply.TheVariants as reply
use Rattle.reflector_core.specs.Answer.{SessionOutcome, append_entry, is_ahead, is_closed, is_older, is_stale, join, leave, offer, send_event, stamp}
use Rattle.reflector_core.specs.PlainSession.{PlainSession}
use Rattle.system_plain.specs.Schedule.{view_payloads}

pub length-view_payloads : (log : List Entry) (view : ℕ) → length (view_payloads log view) ≡ last_number log view
length-view_payloads log view = length-map (view_events log view) (λ (e : Entry). event_payload e.what)

-- the reply makes no DONE
abbrev pub IsNoDoneReply : Reply → Type 0
IsNoDoneReply (reply.Stamped seq time) = ⊥
IsNoDoneReply (reply.Again seq time) = ⊥
IsNoDoneReply other = Unit {0}

-- a Send changes nothing and makes no DONE, or repeats an Event, or appends the next one
abbrev pub SendOutcome : PlainSession → ℕ → ℕ → List ℕ → SessionOutcome → Type 0
SendOutcome s view number payload o =
    ((o.session ≡ s) × IsNoDoneReply o.reply) ⊎ (((o.session ≡ s) × (number ≤ last_number s.log view)) ⊎ ((time : ℕ) × (number ≡ last_number s.log view + 1) × (o.session ≡ append_entry s time view (what.Event number payload))))

send_if : (s : PlainSession) (view number : ℕ) (payload : List ℕ) (test : Bool) (a b : SessionOutcome) → (test ≡ true → SendOutcome s view number payload a) → (test ≡ false → SendOutcome s view number payload b) → SendOutcome s view number payload (cond test a b)
send_if s view number payload true a b held fell = held refl
send_if s view number payload false a b held fell = fell refl

pub send_outcome : (s : PlainSession) (view joined number : ℕ) (payload : List ℕ) (now : ℕ) → SendOutcome s view number payload (send_event s view joined number payload now)
send_outcome s view joined number payload now =
    let next = last_number s.log view + 1 in
    send_if s view number payload (is_stale s.log view joined) _ _ (λ h. inl (refl, tt)) λ fresh.
    send_if s view number payload (nat_lt most_payload (length payload)) _ _ (λ h. inl (refl, tt)) λ short.
    send_if s view number payload (eqb number 0) _ _ (λ h. inl (refl, tt)) λ named.
    send_if s view number payload (nat_lt number next) _ _ (λ h. inr (inl (refl, grind (arith, nat_tests)))) λ new.
    send_if s view number payload (nat_lt next number) _ _ (λ h. inl (refl, tt)) λ no_gap.
    send_if s view number payload (is_closed s.log || nat_lt most_bytes (payload_bytes s.log + length payload)) _ _ (λ h. inl (refl, tt)) λ room.
    send_if s view number payload (nat_le end_of_time s.horizon) _ _ (λ h. inl (refl, tt)) λ before_end.
    inr (inr (stamp s.horizon now, grind (arith, nat_tests), refl))

-- the Events of every view stay
abbrev pub SameEvents : PlainSession → PlainSession → Type 0
SameEvents s new = (view : ℕ) → view_payloads new.log view ≡ view_payloads s.log view

and_false : (b : Bool) → (b && false) ≡ false
and_false true = refl
and_false false = refl

plain_entry : (s : PlainSession) (time view : ℕ) (what : What) → ((other : ℕ) → is_event_of other (next_entry s.log time view what) ≡ false) → SameEvents s (append_entry s time view what)
plain_entry s time view what plain other =
    ap (map (λ (e : Entry). event_payload e.what)) (sent-push s.log (next_entry s.log time view what) other ∙ ap (λ (b : Bool). view_events s.log other ++ cond b (next_entry s.log time view what ∷ []) []) (plain other) ∙ append-nil (view_events s.log other))

same_if : (s : PlainSession) (test : Bool) (a b : SessionOutcome) → SameEvents s a.session → SameEvents s b.session → SameEvents s (cond test a b).session
same_if s true a b held fell = held
same_if s false a b held fell = fell

-- a Join and an Exit are no Event
pub join_entry_same : (s : PlainSession) (time view : ℕ) → SameEvents s (append_entry s time view what.Join)
join_entry_same s time view = plain_entry s time view what.Join (λ other. and_false (eqb view other))

pub exit_entry_same : (s : PlainSession) (time view : ℕ) → SameEvents s (append_entry s time view what.Exit)
exit_entry_same s time view = plain_entry s time view what.Exit (λ other. and_false (eqb view other))

pub join_same : (s : PlainSession) (view now : ℕ) (want : Want) → SameEvents s (join s view now want).session
join_same s view now want =
    let same : SameEvents s s = λ v. refl in
    same_if s (eqb view 0) _ _ same (same_if s (is_ahead s.horizon want) _ _ same (same_if s (not (is_here s.log view) && nat_le most_here (here_count s.log)) _ _ same
    (same_if s (is_closed s.log) _ _ same (same_if s (nat_le end_of_time s.horizon) _ _ same (plain_entry s (stamp s.horizon now) view what.Join (λ other. and_false (eqb view other)))))))

pub leave_same : (s : PlainSession) (view joined now : ℕ) → SameEvents s (leave s view joined now).session
leave_same s view joined now = same_if s (is_stale s.log view joined) _ _ (λ v. refl) (plain_entry s (stamp s.horizon now) view what.Exit (λ other. and_false (eqb view other)))

pub offer_same : (s : PlainSession) (view joined time : ℕ) (snapshot : List ℕ) → SameEvents s (offer s view joined time snapshot).session
offer_same s view joined time snapshot =
    let same : SameEvents s s = λ v. refl in
    same_if s (is_stale s.log view joined) _ _ same (same_if s (nat_lt most_snapshot (length snapshot)) _ _ same (same_if s (nat_lt s.horizon time) _ _ same (same_if s (is_older time s.kept) _ _ same (λ v. refl))))

-- an Event that is appended is its view's last one
event_entry_if : (s : PlainSession) (time view number : ℕ) (payload : List ℕ) (other : ℕ) (test : Bool) → eqb view other ≡ test → view_payloads (append_entry s time view (what.Event number payload)).log other ≡ view_payloads s.log other ++ cond test (payload ∷ []) []
event_entry_if s time view number payload other true is =
    ap (map (λ (e : Entry). event_payload e.what)) (sent-push s.log (next_entry s.log time view (what.Event number payload)) other ∙ ap (λ (b : Bool). view_events s.log other ++ cond (b && true) (next_entry s.log time view (what.Event number payload) ∷ []) []) is)
    ∙ map-append (λ (e : Entry). event_payload e.what) (view_events s.log other) (next_entry s.log time view (what.Event number payload) ∷ [])
event_entry_if s time view number payload other false is =
    ap (map (λ (e : Entry). event_payload e.what)) (sent-push s.log (next_entry s.log time view (what.Event number payload)) other ∙ ap (λ (b : Bool). view_events s.log other ++ cond (b && true) (next_entry s.log time view (what.Event number payload) ∷ []) []) is ∙ append-nil (view_events s.log other))
    ∙ sym (append-nil (view_payloads s.log other))

pub event_entry : (s : PlainSession) (time view number : ℕ) (payload : List ℕ) (other : ℕ) → view_payloads (append_entry s time view (what.Event number payload)).log other ≡ view_payloads s.log other ++ cond (eqb view other) (payload ∷ []) []
event_entry s time view number payload other = event_entry_if s time view number payload other (eqb view other) refl
