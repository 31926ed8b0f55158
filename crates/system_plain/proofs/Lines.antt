-- What a connection is sent is served by the log.
use Rattle.std.proofs.Common.{Ok, Err, suc, zero, ℕ, ◌+◌, ◌-◌, ◌≡◌, ◌≤◌, ◌<◌, ◌⊎◌, inl, inr, Bool, true, false, cond, eqb, not, nat_lt, nat_le, ◌&&◌, ◌||◌, List, [], ◌∷◌, ◌++◌, Option, Some, None, is_none, length, length-append, take, slice_get, refl, arith, sym, ap, ◌∙◌, subst}
use Rattle.std.specs.Str.{bytes_eq}
use Rattle.std.proofs.lemmas.Slice.Eq.{bytes_eq-Decides}
use Rattle.std.proofs.lemmas.Bool.Decides.{nat_tests}
use Rattle.std.proofs.lemmas.List.{take-append-le, take_all, append-nil}
use Rattle.tea_base.specs.declared.entry.Entry.{Entry}
use Rattle.tea_base.specs.declared.entry.SessionId.{SessionId}
use Rattle.tea_base.specs.declared.entry.What.{What}
use Rattle.tea_base.specs.declared.entry.What.TheVariants as what
use Rattle.tea_base.specs.Legal.{AreNumberedFrom, HasNumber, IsLegal}
use Rattle.tea_base.specs.Limits.{end_of_time, most_bytes, most_here, most_payload, most_snapshot}
use Rattle.tea_base.specs.Readings.{current, event_payload, here_count, is_here, last_number, payload_bytes, view_event, view_events}
use Rattle.tea_base.proofs.LogLaws.{EachCountsItsEvents-legal, event-counted, event_stands}
use Rattle.session_log.specs.LogState.{next_entry}
use Rattle.wire_frames.specs.declared.frame.ClientFrame.{ClientFrame}
use Rattle.wire_frames.specs.declared.frame.ClientFrame.TheVariants as up
use Rattle.wire_frames.specs.declared.frame.ServerFrame.{ServerFrame}
use Rattle.wire_frames.specs.declared.frame.ServerFrame.TheVariants.{Alive, Done, Recv, Refused, Snapped, Sync, Tick}
use Rattle.wire_frames.specs.declared.start.Base.{Base}
use Rattle.wire_frames.specs.declared.start.Want.{Want}
use Rattle.wire_frames.specs.declared.tags.TheConstants.{JOIN_TAG, SEND_TAG, SNAP_TAG, LEAVE_TAG}
use Rattle.wire_frames.specs.Codes.{code_number}
use Rattle.wire_frames.specs.Served.{AnswersFrame, AnswersInOrder, AnswersJoin, IsEventAt, Place, Served, answers_of}
use Rattle.wire_frames.specs.Spelling.{client_tag}
use Rattle.reflector_core.specs.declared.request.Refusal.{Refusal}
use Rattle.reflector_core.specs.declared.request.Refusal.TheVariants as refusal
use Rattle.reflector_core.specs.declared.request.Reply.{Reply}
use Rattle.reflector_core.specs.declared.request.Reply.TheVariants as reply
use Rattle.reflector_core.specs.declared.request.Request.{Request}
use Rattle.reflector_core.specs.declared.request.Request.TheVariants as request
use Rattle.reflector_core.specs.Answer.{SessionOutcome, answer, append_entry, base_for, base_time_or_zero, from_for, is_ahead, is_closed, is_older, is_stale, join, leave, log_full, offer, repeats, reply_length, send_event, stamp, tick}
use Rattle.reflector_core.specs.PlainSession.{IsSoundSession, PlainSession}
use Rattle.join_sync.specs.declared.cursor.Cursor.{Cursor}
use Rattle.join_sync.specs.declared.early.Early.{Early}
use Rattle.join_sync.specs.declared.early.Early.TheVariants.{NotJoined, OtherSession}
use Rattle.join_sync.specs.Answers.{answer_frame, first_cursor, join_answer}
use Rattle.join_sync.specs.Batches.{entry_frames, most_pulled, newer_tick, next_cursor, next_frames, tick_frames}
use Rattle.join_sync.specs.Refusals.{early_code, early_frame, refused_frame, second_join_frame}
use Rattle.join_sync.specs.Requests.{act_on, first_request}
use Rattle.join_sync.specs.Standing.{StandsAt as CursorStands}
use Rattle.join_sync.proofs.Openings.{joined_stands}
use Rattle.system_plain.specs.ConnectionLine.{AreSoundTurns, ConnectionLine, Hears, LineTurn, Others, Pulls, after_turn, after_turns, first_line, hears, line_behind, pulls}
use Rattle.system_plain.specs.Steps.{found}
use Rattle.system_plain.specs.Turn.{Turn, answer_frames, batch_told, ends_connection, unread_frame}
use Rattle.system_plain.proofs.AnswerFrames.{refused_form}
use Rattle.system_plain.proofs.Facts.{FlowsFrom, Meets}
use Rattle.system_plain.proofs.FactsGrow.{begins_grow, flows_grow}
use Rattle.system_plain.proofs.Openings.{based_on, batch_goes_on, begins_for, begins_later, kept_or_none}
use Rattle.system_plain.proofs.Sessions.{Grows, Grows-answer, Grows-entry, kept_is_based, slice_get-grown}
use Rattle.system_plain.proofs.Takes.{AreAnswers, GoOn, flows_put, replies_go_on}
use Rattle.system_plain.proofs.Turns.{hears_act, hears_first}

-- what is answered stays an answer when the log grows
answers_grow : (log rest : List Entry) (view : ℕ) (frame : Option ClientFrame) (answer : ServerFrame) → AnswersFrame log view frame answer → AnswersFrame (log ++ rest) view frame answer
answers_grow log rest view (Some (up.Send number payload)) (Done done seq time) are = (are.0, slice_get-grown log rest (seq - 1) _ are.1)
answers_grow log rest view frame answer are = are

in_order_grows : (log rest : List Entry) (view : ℕ) (given : List (Option ClientFrame)) (answers : List ServerFrame) → AnswersInOrder log view given answers → AnswersInOrder (log ++ rest) view given answers
in_order_grows log rest view given [] are = tt
in_order_grows log rest view [] (answer ∷ answers) are = absurd are
in_order_grows log rest view (frame ∷ given) (answer ∷ answers) are = elim are [
  | inl answered ↦ inl (answers_grow log rest view frame answer answered.0, in_order_grows log rest view given answers answered.1)
  | inr skipped ↦ inr (skipped.0, in_order_grows log rest view given (answer ∷ answers) skipped.1)
]

pub in_order_more : (log : List Entry) (view : ℕ) (given more : List (Option ClientFrame)) (answers : List ServerFrame) → AnswersInOrder log view given answers → AnswersInOrder log view (given ++ more) answers
in_order_more log view given more [] are = tt
in_order_more log view [] more (answer ∷ answers) are = absurd are
in_order_more log view (frame ∷ given) more (answer ∷ answers) are = elim are [
  | inl answered ↦ inl (answered.0, in_order_more log view given more answers answered.1)
  | inr skipped ↦ inr (skipped.0, in_order_more log view given more (answer ∷ answers) skipped.1)
]

-- no more frames are answered than were given
in_order_few : (log : List Entry) (view : ℕ) (given : List (Option ClientFrame)) (answers : List ServerFrame) → AnswersInOrder log view given answers → length answers ≤ length given
in_order_few log view given [] are = omega arith
in_order_few log view [] (answer ∷ answers) are = absurd are
in_order_few log view (frame ∷ given) (answer ∷ answers) are = elim are [
  | inl answered ↦ omega (arith, in_order_few log view given answers answered.1)
  | inr skipped ↦ omega (arith, in_order_few log view given (answer ∷ answers) skipped.1)
]

in_order_next : (log : List Entry) (view : ℕ) (given : List (Option ClientFrame)) (answers : List ServerFrame) (frame : Option ClientFrame) (answer : ServerFrame) → AnswersInOrder log view given answers → length answers ≡ length given → AnswersFrame log view frame answer
    → AnswersInOrder log view (given ++ frame ∷ []) (answers ++ answer ∷ [])
in_order_next log view [] [] frame answer are whole next = inl (next, tt)
in_order_next log view [] (other ∷ answers) frame answer are whole next = absurd are
in_order_next log view (first ∷ given) [] frame answer are whole next = absurd (omega (arith, whole))
in_order_next log view (first ∷ given) (other ∷ answers) frame answer are whole next = elim are [
  | inl answered ↦ inl (answered.0, in_order_next log view given answers frame answer answered.1 (omega (arith, whole)) next)
  | inr skipped ↦ absurd (omega (arith, whole, in_order_few log view given (other ∷ answers) skipped.1))
]

pub answers_of-append : (frames more : List ServerFrame) → answers_of (frames ++ more) ≡ answers_of frames ++ answers_of more
answers_of-append [] more = refl
answers_of-append (Recv entry ∷ rest) more = answers_of-append rest more
answers_of-append (Tick t ∷ rest) more = answers_of-append rest more
answers_of-append (Sync joined last from base ∷ rest) more = ap (λ (l : List ServerFrame). Sync joined last from base ∷ l) (answers_of-append rest more)
answers_of-append (Done number seq time ∷ rest) more = ap (λ (l : List ServerFrame). Done number seq time ∷ l) (answers_of-append rest more)
answers_of-append (Snapped time ∷ rest) more = ap (λ (l : List ServerFrame). Snapped time ∷ l) (answers_of-append rest more)
answers_of-append (Refused about code kept again ∷ rest) more = ap (λ (l : List ServerFrame). Refused about code kept again ∷ l) (answers_of-append rest more)
answers_of-append (Alive ∷ rest) more = ap (λ (l : List ServerFrame). Alive ∷ l) (answers_of-append rest more)

no_answers : (last : ℕ) (entries : List Entry) (tick : Option ℕ) → answers_of (entry_frames entries ++ tick_frames (newer_tick last tick)) ≡ []
no_answers last (entry ∷ rest) tick = no_answers last rest tick
no_answers last [] None = refl
no_answers last [] (Some t) = tick_if (nat_lt last t)
  where
    tick_if : (test : Bool) → answers_of (tick_frames (cond test (Some t) None)) ≡ []
    tick_if true = refl
    tick_if false = refl

join_grows : (s new : PlainSession) (view : ℕ) (want : Want) (joined last from time : ℕ) (base : Option Base) → Grows s new → 0 < joined → joined ≤ length s.log → time ≤ s.horizon → AnswersJoin s.log view want joined last from time base → AnswersJoin new.log view want joined last from time base
join_grows s new view want joined last from time base grows positive within le answers = record {
  entry = rw grows.log (slice_get-grown s.log grows.rest (joined - 1) _ answers.entry);
  counted = answers.counted ∙ sym (ap (λ (l : List Entry). last_number (take (joined - 1) l) view) grows.log ∙ ap (λ (l : List Entry). last_number l view) (take-append-le (joined - 1) s.log grows.rest (omega arith)));
  begins = begins_grow s new want time from base grows le answers.begins;
}

-- what was sent by a connection that has a cursor
pub record LineSends (s : PlainSession) (closed : Bool) (cursor : Cursor) (over : Bool) (given : List (Option ClientFrame)) (sent : List ServerFrame) : Type 0 where
  pub want : Want
  pub last : ℕ
  pub from : ℕ
  pub time : ℕ
  pub base : Option Base
  pub more : List (Option ClientFrame)
  pub rest : List ServerFrame
  pub session : SessionId
  pub given_is : given ≡ Some (up.Join session cursor.view want) ∷ more
  pub sent_is : sent ≡ Sync cursor.joined last from base ∷ rest
  pub positive : 0 < cursor.joined
  pub within : cursor.joined ≤ length s.log
  pub by : time ≤ s.horizon
  pub answers : AnswersJoin s.log cursor.view want cursor.joined last from time base
  pub flows : FlowsFrom s (record { seen = from; least = time }) rest closed (Some cursor)
  pub replies : AnswersInOrder s.log cursor.view more (answers_of rest)
  pub whole : over ≡ false → length (answers_of rest) ≡ length more

-- no cursor: nothing was heard, or what was heard was refused
abbrev pub Stands : PlainSession → Option Cursor → Bool → List (Option ClientFrame) → List ServerFrame → Type 0
Stands s None false given sent = (given ≡ []) × (sent ≡ [])
Stands s None true given sent = (about : ℕ) × (code : ℕ) × (kept : ℕ) × (more : ℕ) × (sent ≡ Refused about code kept more ∷ [])
Stands s (Some cursor) over given sent = LineSends s false cursor over given sent

-- what was asked and first answered stays, and what is said of the frames behind it is given
pub sends_with : (s new : PlainSession) (closed ends : Bool) (cursor : Cursor) (over done : Bool) (given : List (Option ClientFrame)) (sent : List ServerFrame)
    → (sends : LineSends s closed cursor over given sent) → cursor.joined ≤ length new.log → sends.time ≤ new.horizon → AnswersJoin new.log cursor.view sends.want cursor.joined sends.last sends.from sends.time sends.base
    → FlowsFrom new (record { seen = sends.from; least = sends.time }) sends.rest ends (Some cursor) → AnswersInOrder new.log cursor.view sends.more (answers_of sends.rest) → (done ≡ false → length (answers_of sends.rest) ≡ length sends.more)
    → LineSends new ends cursor done given sent
sends_with s new closed ends cursor over done given sent sends within by answers flows replies whole = record {
  want = sends.want;
  last = sends.last;
  from = sends.from;
  time = sends.time;
  base = sends.base;
  more = sends.more;
  rest = sends.rest;
  session = sends.session;
  given_is = sends.given_is;
  sent_is = sends.sent_is;
  positive = sends.positive;
  within = within;
  by = by;
  answers = answers;
  flows = flows;
  replies = replies;
  whole = whole;
}

pub sends_grow : (s new : PlainSession) (closed : Bool) (cursor : Cursor) (over : Bool) (given : List (Option ClientFrame)) (sent : List ServerFrame) → Grows s new → LineSends s closed cursor over given sent → LineSends new closed cursor over given sent
sends_grow s new closed cursor over given sent grows sends =
    sends_with s new closed closed cursor over over given sent sends
    (let long = ap length grows.log in let h = sends.within in omega (arith, length-append s.log grows.rest))
    (let a = sends.by in let b = grows.horizon in omega arith)
    (join_grows s new cursor.view sends.want cursor.joined sends.last sends.from sends.time sends.base grows sends.positive sends.within sends.by sends.answers)
    (flows_grow s new _ sends.rest closed (Some cursor) grows sends.flows)
    (rw grows.log (in_order_grows s.log grows.rest cursor.view sends.more (answers_of sends.rest) sends.replies))
    sends.whole

pub line_stands_grow : (s new : PlainSession) (cursor : Option Cursor) (over : Bool) (given : List (Option ClientFrame)) (sent : List ServerFrame) → Grows s new → Stands s cursor over given sent → Stands new cursor over given sent
line_stands_grow s new None false given sent grows stands = stands
line_stands_grow s new None true given sent grows stands = stands
line_stands_grow s new (Some cursor) over given sent grows stands = sends_grow s new false cursor over given sent grows stands

-- more frames are sent, after the frames heard
sends_more : (s : PlainSession) (before after : Cursor) (over : Bool) (given heard : List (Option ClientFrame)) (sent frames : List ServerFrame) → after.view ≡ before.view → after.joined ≡ before.joined → ((place : Place) → Meets s place (Some before) → GoOn s place frames (Some after))
    → (sends : LineSends s false before false given sent) → AnswersInOrder s.log before.view (sends.more ++ heard) (answers_of sends.rest ++ answers_of frames) → (over ≡ false → length (answers_of frames) ≡ length heard)
    → LineSends s false after over (given ++ heard) (sent ++ frames)
sends_more s before after over given heard sent frames same_view same_joined go sends order same = record {
  want = sends.want;
  last = sends.last;
  from = sends.from;
  time = sends.time;
  base = sends.base;
  more = sends.more ++ heard;
  rest = sends.rest ++ frames;
  session = sends.session;
  given_is = rw same_view (ap (λ (l : List (Option ClientFrame)). l ++ heard) sends.given_is);
  sent_is = rw same_joined (ap (λ (l : List ServerFrame). l ++ frames) sends.sent_is);
  positive = rw same_joined sends.positive;
  within = rw same_joined sends.within;
  by = sends.by;
  answers = rw (same_view, same_joined) sends.answers;
  flows = flows_put s _ sends.rest frames false (Some before) (Some after) (go _) sends.flows;
  replies = rw (same_view, answers_of-append sends.rest frames) order;
  whole = λ still. let a = sends.whole refl in let b = same still in rw (answers_of-append sends.rest frames) (omega (arith, length-append (answers_of sends.rest) (answers_of frames), length-append sends.more heard));
}

-- a frame is heard and answered by one frame
sends_answer : (s : PlainSession) (cursor : Cursor) (over : Bool) (given : List (Option ClientFrame)) (sent : List ServerFrame) (frame : Option ClientFrame) (answer : ServerFrame) → AreAnswers (answer ∷ []) → answers_of (answer ∷ []) ≡ answer ∷ [] → AnswersFrame s.log cursor.view frame answer → LineSends s false cursor false given sent → LineSends s false cursor over (given ++ frame ∷ []) (sent ++ answer ∷ [])
sends_answer s cursor over given sent frame answer are is answers sends =
    sends_more s cursor cursor over given (frame ∷ []) sent (answer ∷ []) refl refl (replies_go_on s cursor (answer ∷ []) are) sends
    (rw is (in_order_next s.log cursor.view sends.more (answers_of sends.rest) frame answer sends.replies (sends.whole refl) answers)) (λ still. ap length is)

-- the one frame that answers a frame, by the reply to its request
abbrev AnsweredBy : ℕ → ClientFrame → Request → SessionOutcome → Type 0
AnsweredBy view frame asked o = (f : ServerFrame) × (answer_frame asked o.reply ≡ Some f) × (AreAnswers (f ∷ [])) × (answers_of (f ∷ []) ≡ f ∷ []) × AnswersFrame o.session.log view (Some frame) f

answered_if : (view : ℕ) (frame : ClientFrame) (asked : Request) (test : Bool) (a b : SessionOutcome) → (test ≡ true → AnsweredBy view frame asked a) → (test ≡ false → AnsweredBy view frame asked b) → AnsweredBy view frame asked (cond test a b)
answered_if view frame asked true a b held fell = held refl
answered_if view frame asked false a b held fell = fell refl

-- a refusal answers the frame that it is about
answered_refusal : (s : PlainSession) (view tag : ℕ) (frame : ClientFrame) (asked : Request) (why : Refusal) → answer_frame asked (reply.Refused why) ≡ Some (refused_frame tag why) → ((code kept more : ℕ) → AnswersFrame s.log view (Some frame) (Refused tag code kept more))
    → AnsweredBy view frame asked (record { session = s; reply = reply.Refused why })
answered_refusal s view tag frame asked why is answers =
    let form = refused_form tag why in
    (Refused tag form.0 form.1 form.2, is ∙ ap (λ (f : ServerFrame). Some f) form.3, tt, refl, answers form.0 form.1 form.2)

get_last : (log : List Entry) (entry : Entry) → slice_get (log ++ entry ∷ []) (length log) ≡ Some entry
get_last [] entry = refl
get_last (first ∷ rest) entry = get_last rest entry

stamped_with : (s : PlainSession) (time view number : ℕ) (payload : List ℕ) → IsEventAt (append_entry s time view (what.Event number payload)).log (length s.log + 1) time view number payload
stamped_with s time view number payload =
    let entry = next_entry s.log time view (what.Event number payload) in
    let place : length s.log + 1 - 1 ≡ length s.log = omega arith in
    ap (λ (k : ℕ). slice_get (s.log ++ entry ∷ []) k) place ∙ get_last s.log entry

-- ---- an Event that was sent before

numbered_at : (first : ℕ) (entries : List Entry) (k : ℕ) (entry : Entry) → AreNumberedFrom first entries → slice_get entries k ≡ Some entry → HasNumber (first + k) entry.what
numbered_at first [] k entry are at = absurd cc
numbered_at first (e ∷ rest) zero entry are at =
    let same : e ≡ entry = cc in
    let place : first + 0 ≡ first = omega arith in
    rw place (subst (λ (x : Entry). HasNumber first x.what) same are.0)
numbered_at first (e ∷ rest) (suc k) entry are at =
    let place : first + suc k ≡ first + 1 + k = omega arith in
    rw place (numbered_at (first + 1) rest k entry are.1 at)

event_with : (held : What) (number : ℕ) (payload : List ℕ) → HasNumber number held → event_payload held ≡ payload → held ≡ what.Event number payload
event_with what.Join number payload has is = absurd has
event_with what.Exit number payload has is = absurd has
event_with (what.Event found bytes) number payload has is = ap (λ (n : ℕ). what.Event n bytes) has ∙ ap (λ (b : List ℕ). what.Event number b) is

entry_with : (entry : Entry) (view : ℕ) (held : What) → entry.view ≡ view → entry.what ≡ held → entry ≡ record { seq = entry.seq; time = entry.time; view = view; what = held }
entry_with entry view held named is = ap (λ (v : ℕ). record entry { view = v }) named ∙ ap (λ (w : What). record entry { view = view; what = w }) is

-- the Event that is found has the number, and stands in the log
event_is_at : (log : List Entry) (view number : ℕ) (payload : List ℕ) (entry : Entry) → IsLegal log → 0 < number → view_event log view number ≡ Some entry → event_payload entry.what ≡ payload → IsEventAt log entry.seq entry.time view number payload
event_is_at log view number payload entry legal positive found same =
    let stands = event_stands log view number entry legal found in
    let place : entry.seq - 1 - 0 ≡ entry.seq - 1 = omega arith in
    let at : slice_get log (entry.seq - 1) ≡ Some entry = rw place at stands.0.at in
    let named : entry.view ≡ view = grind (arith, nat_tests, stands.1) in
    let counted : slice_get (view_events log view) (number - 1) ≡ Some entry = sym (event-counted log view number positive) ∙ found in
    let which : 1 + (number - 1) ≡ number = omega arith in
    let has : HasNumber number entry.what = rw which at (numbered_at 1 (view_events log view) (number - 1) entry (EachCountsItsEvents-legal log legal view) counted) in
    at ∙ ap (λ (e : Entry). Some e) (entry_with entry view (what.Event number payload) named (event_with entry.what number payload has same))

again_if : (s : PlainSession) (view joined number now : ℕ) (payload : List ℕ) (entry : Entry) (test : Bool) → IsLegal s.log → 0 < number → view_event s.log view number ≡ Some entry → bytes_eq (event_payload entry.what) payload ≡ test
    → AnsweredBy view (up.Send number payload) (request.Send view joined number payload now) (record { session = s; reply = cond test (reply.Again entry.seq entry.time) (reply.Refused (refusal.Differs entry.seq)) })
again_if s view joined number now payload entry true legal positive found is =
    (Done number entry.seq entry.time, refl, tt, refl, (refl, event_is_at s.log view number payload entry legal positive found ((bytes_eq-Decides (event_payload entry.what) payload).0 is)))
again_if s view joined number now payload entry false legal positive found is =
    answered_refusal s view SEND_TAG (up.Send number payload) (request.Send view joined number payload now) (refusal.Differs entry.seq) refl (λ code kept more. refl)

repeats_answered : (s : PlainSession) (view joined number now next : ℕ) (payload : List ℕ) (found : Option Entry) → IsLegal s.log → 0 < number → view_event s.log view number ≡ found
    → AnsweredBy view (up.Send number payload) (request.Send view joined number payload now) (record { session = s; reply = repeats s payload found (reply.Refused (refusal.Gap next)) })
repeats_answered s view joined number now next payload None legal positive is =
    answered_refusal s view SEND_TAG (up.Send number payload) (request.Send view joined number payload now) (refusal.Gap next) refl (λ code kept more. refl)
repeats_answered s view joined number now next payload (Some entry) legal positive is = again_if s view joined number now payload entry (bytes_eq (event_payload entry.what) payload) legal positive is refl

-- ---- each request of a frame is answered

send_answered : (s : PlainSession) (view joined number : ℕ) (payload : List ℕ) (now : ℕ) → IsLegal s.log → AnsweredBy view (up.Send number payload) (request.Send view joined number payload now) (send_event s view joined number payload now)
send_answered s view joined number payload now legal =
    let frame = up.Send number payload in
    let asked = request.Send view joined number payload now in
    let next = last_number s.log view + 1 in
    let no : (why : Refusal) → AnsweredBy view frame asked (record { session = s; reply = reply.Refused why }) = λ why. answered_refusal s view SEND_TAG frame asked why refl (λ code kept more. refl) in
    answered_if view frame asked (is_stale s.log view joined) _ _ (λ h. no (refusal.Stale (current s.log view))) λ fresh.
    answered_if view frame asked (nat_lt most_payload (length payload)) _ _ (λ h. no (refusal.TooLong (reply_length (length payload)))) λ short.
    answered_if view frame asked (eqb number 0) _ _ (λ h. no (refusal.Gap next)) λ named.
    answered_if view frame asked (nat_lt number next) _ _ (λ old. repeats_answered s view joined number now next payload (view_event s.log view number) legal (grind (arith, nat_tests)) refl) λ new.
    answered_if view frame asked (nat_lt next number) _ _ (λ h. no (refusal.Gap next)) λ no_gap.
    answered_if view frame asked (is_closed s.log || nat_lt most_bytes (payload_bytes s.log + length payload)) _ _ (λ h. no (log_full s.log)) λ room.
    answered_if view frame asked (nat_le end_of_time s.horizon) _ _ (λ h. no (refusal.TimeEnd s.horizon)) λ before_end.
    (Done number (length s.log + 1) (stamp s.horizon now), refl, tt, refl, (refl, stamped_with s (stamp s.horizon now) view number payload))

offer_answered : (s : PlainSession) (view joined time : ℕ) (snapshot : List ℕ) → AnsweredBy view (up.Snap time snapshot) (request.Offer view joined time snapshot) (offer s view joined time snapshot)
offer_answered s view joined time snapshot =
    let frame = up.Snap time snapshot in
    let asked = request.Offer view joined time snapshot in
    let no : (why : Refusal) → AnsweredBy view frame asked (record { session = s; reply = reply.Refused why }) = λ why. answered_refusal s view SNAP_TAG frame asked why refl (λ code kept more. refl) in
    answered_if view frame asked (is_stale s.log view joined) _ _ (λ h. no (refusal.Stale (current s.log view))) λ a.
    answered_if view frame asked (nat_lt most_snapshot (length snapshot)) _ _ (λ h. no (refusal.TooLong (reply_length (length snapshot)))) λ b.
    answered_if view frame asked (nat_lt s.horizon time) _ _ (λ h. no (refusal.Ahead s.horizon)) λ c.
    answered_if view frame asked (is_older time s.kept) _ _ (λ h. no (refusal.Older (base_time_or_zero s.kept))) λ d. (Snapped time, refl, tt, refl, refl)

-- a Leave is answered, or ends the connection with nothing said
abbrev LeaveAnswered : ℕ → Request → SessionOutcome → Type 0
LeaveAnswered view asked o = AnsweredBy view up.Leave asked o ⊎ ((answer_frame asked o.reply ≡ None) × (ends_connection o.reply ≡ true))

left_if : (view : ℕ) (asked : Request) (test : Bool) (a b : SessionOutcome) → LeaveAnswered view asked a → LeaveAnswered view asked b → LeaveAnswered view asked (cond test a b)
left_if view asked true a b held fell = held
left_if view asked false a b held fell = fell

leave_answered : (s : PlainSession) (view joined now : ℕ) → LeaveAnswered view (request.Leave view joined now) (leave s view joined now)
leave_answered s view joined now =
    left_if view (request.Leave view joined now) (is_stale s.log view joined) _ _
    (inl (answered_refusal s view LEAVE_TAG up.Leave (request.Leave view joined now) (refusal.Stale (current s.log view)) refl (λ code kept more. refl))) (inr (refl, refl))

-- ---- frames that are heard

-- a frame makes a request
called_sends : (s : PlainSession) (cursor : Cursor) (frame : ClientFrame) (asked : Request) (given : List (Option ClientFrame)) (sent : List ServerFrame) → IsSoundSession (answer s asked).session → AnsweredBy cursor.view frame asked (answer s asked) → LineSends s false cursor false given sent
    → LineSends (answer s asked).session false cursor (ends_connection (answer s asked).reply) (given ++ Some frame ∷ []) (sent ++ answer_frames (answer_frame asked (answer s asked).reply))
called_sends s cursor frame asked given sent sound answered sends =
    let o = answer s asked in
    subst (λ (f : Option ServerFrame). LineSends o.session false cursor (ends_connection o.reply) (given ++ Some frame ∷ []) (sent ++ answer_frames f)) (sym answered.1)
    (sends_answer o.session cursor (ends_connection o.reply) given sent (Some frame) answered.0 answered.2 answered.3 answered.4 (sends_grow s o.session false cursor false given sent (Grows-answer s asked sound) sends))

left_sends : (s : PlainSession) (cursor : Cursor) (now : ℕ) (given : List (Option ClientFrame)) (sent : List ServerFrame) → IsSoundSession (answer s (request.Leave cursor.view cursor.joined now)).session → LineSends s false cursor false given sent
    → LineSends (answer s (request.Leave cursor.view cursor.joined now)).session false cursor (ends_connection (answer s (request.Leave cursor.view cursor.joined now)).reply) (given ++ Some up.Leave ∷ [])
    (sent ++ answer_frames (answer_frame (request.Leave cursor.view cursor.joined now) (answer s (request.Leave cursor.view cursor.joined now)).reply))
left_sends s cursor now given sent sound sends =
    let asked = request.Leave cursor.view cursor.joined now in
    let o = answer s asked in
    let grown = sends_grow s o.session false cursor false given sent (Grows-answer s asked sound) sends in
    elim (leave_answered s cursor.view cursor.joined now) [
      | inl answered ↦ called_sends s cursor up.Leave asked given sent sound answered sends
      | inr left ↦ subst (λ (f : Option ServerFrame). LineSends o.session false cursor (ends_connection o.reply) (given ++ Some up.Leave ∷ []) (sent ++ answer_frames f)) (sym left.0)
          (sends_more o.session cursor cursor (ends_connection o.reply) given (Some up.Leave ∷ []) sent [] refl refl (replies_go_on o.session cursor [] tt) grown
          (rw append-nil (in_order_more o.session.log cursor.view grown.more (Some up.Leave ∷ []) (answers_of grown.rest) grown.replies)) (λ still. let ended = left.1 in absurd cc))
    ]

-- all that is true of a line
pub record LineStands (line : ConnectionLine) : Type 0 where
  pub sound : IsSoundSession line.session
  pub stands : Stands line.session line.cursor line.over line.given line.sent

acted_stands : (line : ConnectionLine) (cursor : Cursor) (frame : ClientFrame) (now : ℕ) → IsSoundSession line.session → IsSoundSession (hears_act line cursor (Some frame) (act_on cursor frame now)).session → LineSends line.session false cursor false line.given line.sent → LineStands (hears_act line cursor (Some frame) (act_on cursor frame now))
acted_stands line cursor (up.Send number payload) now old sound sends = record {
  sound = sound;
  stands = called_sends line.session cursor (up.Send number payload) (request.Send cursor.view cursor.joined number payload now) line.given line.sent sound (send_answered line.session cursor.view cursor.joined number payload now old.legal) sends;
}
acted_stands line cursor (up.Snap time snapshot) now old sound sends = record {
  sound = sound;
  stands = called_sends line.session cursor (up.Snap time snapshot) (request.Offer cursor.view cursor.joined time snapshot) line.given line.sent sound (offer_answered line.session cursor.view cursor.joined time snapshot) sends;
}
acted_stands line cursor up.Leave now old sound sends = record { sound = sound; stands = left_sends line.session cursor now line.given line.sent sound sends }
acted_stands line cursor (up.Join session view want) now old sound sends = record { sound = sound; stands = sends_answer line.session cursor false line.given line.sent (Some (up.Join session view want)) second_join_frame tt refl (refl, refl) sends }
acted_stands line cursor up.Alive now old sound sends = record { sound = sound; stands = sends_answer line.session cursor false line.given line.sent (Some up.Alive) Alive tt refl tt sends }

-- what a Join that is answered Joined says of the log after it
record JoinServes (s : PlainSession) (view : ℕ) (want : Want) (o : SessionOutcome) : Type 0 where
  pub time : ℕ
  pub last : ℕ
  pub from : ℕ
  pub base : Option Base
  pub reply : o.reply ≡ reply.Joined (length s.log + 1) time last from base
  pub long : length o.session.log ≡ length s.log + 1
  pub horizon : o.session.horizon ≡ time
  pub answers : AnswersJoin o.session.log view want (length s.log + 1) last from time base

abbrev JoinServed : PlainSession → ℕ → Want → SessionOutcome → Type 0
JoinServed s view want o = ((why : Refusal) × (o.reply ≡ reply.Refused why)) ⊎ JoinServes s view want o

served_if : (s : PlainSession) (view : ℕ) (want : Want) (test : Bool) (why : Refusal) (a b : SessionOutcome) → a.reply ≡ reply.Refused why → (test ≡ false → JoinServed s view want b) → JoinServed s view want (cond test a b)
served_if s view want true why a b is fell = inl (why, is)
served_if s view want false why a b is fell = fell refl

join_served : (s : PlainSession) (view now : ℕ) (want : Want) → IsSoundSession s → JoinServed s view want (join s view now want)
join_served s view now want sound =
    let time = stamp s.horizon now in
    let new = append_entry s time view what.Join in
    let entry = next_entry s.log time view what.Join in
    let kept = kept_is_based s.horizon s.kept sound.kept in
    let place : length s.log + 1 - 1 ≡ length s.log = omega arith in
    served_if s view want (eqb view 0) _ _ _ refl λ named.
    served_if s view want (is_ahead s.horizon want) _ _ _ refl λ here.
    served_if s view want (not (is_here s.log view) && nat_le most_here (here_count s.log)) _ _ _ refl λ room.
    served_if s view want (is_closed s.log) _ _ _ refl λ still_open.
    served_if s view want (nat_le end_of_time s.horizon) _ _ _ refl λ before_end.
    inr (record {
      time = time;
      last = last_number s.log view;
      from = from_for s.log want s.kept;
      base = base_for want s.kept;
      reply = refl;
      long = length-append s.log (entry ∷ []);
      horizon = refl;
      answers = record {
        entry = ap (λ (k : ℕ). slice_get new.log k) place ∙ get_last s.log entry;
        counted = sym (ap (λ (k : ℕ). last_number (take k (s.log ++ entry ∷ [])) view) place ∙ ap (λ (l : List Entry). last_number l view) (take-append-le (length s.log) s.log (entry ∷ []) (omega arith) ∙ take_all (length s.log) s.log (omega arith)));
        begins = begins_later s new want time (from_for s.log want s.kept) (base_for want s.kept) (Grows-entry s time view what.Join (omega arith)) (kept_or_none s.horizon (base_for want s.kept) s.kept (based_on want s.kept) kept) here
            (begins_for s.log s.horizon time want s.kept kept (omega arith) here);
      };
    })

-- the line after the reply to its JOIN
abbrev Opened : PlainSession → SessionId → ℕ → Want → Reply → List (Option ClientFrame) → List ServerFrame → Type 0
Opened new session view want answered given sent =
    Stands new (first_cursor view answered) (is_none (first_cursor view answered)) (given ++ Some (up.Join session view want) ∷ []) (sent ++ answer_frames (join_answer answered))

opened_stands : (s new : PlainSession) (session : SessionId) (view now : ℕ) (want : Want) (answered : Reply) (given : List (Option ClientFrame)) (sent : List ServerFrame) → given ≡ [] → sent ≡ [] → new ≡ (join s view now want).session → answered ≡ (join s view now want).reply
    → ((why : Refusal) × (answered ≡ reply.Refused why)) ⊎ JoinServes s view want (record { session = new; reply = answered }) → Opened new session view want answered given sent
opened_stands s new session view now want answered given sent none_given none_sent same_new same_reply served = elim served [
  | inl no_join ↦
      let form = refused_form 1 no_join.0 in
      subst (λ (r : Reply). Opened new session view want r given sent) (sym no_join.1)
      (JOIN_TAG, form.0, form.1, form.2, ap (λ (l : List ServerFrame). l ++ refused_frame JOIN_TAG no_join.0 ∷ []) none_sent ∙ ap (λ (f : ServerFrame). f ∷ []) form.3)
  | inr with ↦
      let horizon = with.horizon in
      let long = with.long in
      let cursor : Cursor = record { view = view; joined = length s.log + 1; after = with.from; last_tick = 0 } in
      subst (λ (r : Reply). Opened new session view want r given sent) (sym with.reply)
      (record {
        want = want;
        last = with.last;
        from = with.from;
        time = with.time;
        base = with.base;
        more = [];
        rest = [];
        session = session;
        given_is = ap (λ (l : List (Option ClientFrame)). l ++ Some (up.Join session view want) ∷ []) none_given;
        sent_is = ap (λ (l : List ServerFrame). l ++ Sync (length s.log + 1) with.last with.from with.base ∷ []) none_sent;
        positive = omega arith;
        within = omega arith;
        by = omega arith;
        answers = with.answers;
        flows = record {
          streams = tt;
          ticks = tt;
          meets = λ ready. subst (λ (x : PlainSession). CursorStands x (record { seen = with.from; least = with.time }) cursor) (sym same_new)
              (joined_stands s view now want (length s.log + 1) with.time with.last with.from with.base cursor (sym same_reply ∙ with.reply) refl);
        };
        replies = tt;
        whole = λ still. refl;
      })
]

-- a first frame that is refused before the session is asked
early_stands : (line : ConnectionLine) (frame : ClientFrame) (early : Early) → IsSoundSession line.session → line.sent ≡ [] → LineStands (hears_first line frame (Err early))
early_stands line frame early sound nothing = record { sound = sound; stands = (client_tag frame, code_number (early_code early), 0, 0, ap (λ (l : List ServerFrame). l ++ early_frame early frame ∷ []) nothing) }

join_stands_if : (line : ConnectionLine) (session : SessionId) (view : ℕ) (want : Want) (now : ℕ) (own : Bool) → IsSoundSession line.session → IsSoundSession (hears_first line (up.Join session view want) (cond own (Ok (request.Join view now want)) (Err OtherSession))).session → (line.given ≡ []) × (line.sent ≡ [])
    → LineStands (hears_first line (up.Join session view want) (cond own (Ok (request.Join view now want)) (Err OtherSession)))
join_stands_if line session view want now false old sound nothing = early_stands line (up.Join session view want) OtherSession old nothing.1
join_stands_if line session view want now true old sound nothing = record {
  sound = sound;
  stands = opened_stands line.session (join line.session view now want).session session view now want (join line.session view now want).reply line.given line.sent nothing.0 nothing.1 refl refl (join_served line.session view now want old);
}

first_stands : (id : SessionId) (line : ConnectionLine) (frame : ClientFrame) (now : ℕ) → IsSoundSession line.session → IsSoundSession (hears_first line frame (first_request frame id now)).session → (line.given ≡ []) × (line.sent ≡ []) → LineStands (hears_first line frame (first_request frame id now))
first_stands id line (up.Join session view want) now old sound nothing = join_stands_if line session view want now (bytes_eq session.0 id.0) old sound nothing
first_stands id line (up.Send number payload) now old sound nothing = early_stands line (up.Send number payload) NotJoined old nothing.1
first_stands id line (up.Snap time snapshot) now old sound nothing = early_stands line (up.Snap time snapshot) NotJoined old nothing.1
first_stands id line up.Leave now old sound nothing = early_stands line up.Leave NotJoined old nothing.1
first_stands id line up.Alive now old sound nothing = early_stands line up.Alive NotJoined old nothing.1

pub hears_stands : (id : SessionId) (line : ConnectionLine) (cursor : Option Cursor) (frame : Option ClientFrame) (now : ℕ) → IsSoundSession line.session → IsSoundSession (hears id line cursor frame now).session → Stands line.session cursor false line.given line.sent → LineStands (hears id line cursor frame now)
hears_stands id line None None now old sound stands = record { sound = old; stands = (0, 13, 0, 0, ap (λ (l : List ServerFrame). l ++ unread_frame ∷ []) stands.1) }
hears_stands id line None (Some frame) now old sound stands = first_stands id line frame now old sound stands
hears_stands id line (Some cursor) None now old sound stands = record { sound = old; stands = sends_answer line.session cursor false line.given line.sent None unread_frame tt refl (refl, refl) stands }
hears_stands id line (Some cursor) (Some frame) now old sound stands = acted_stands line cursor frame now old sound stands

-- ---- what is new is sent

-- a line that was told what a Pull brought
abbrev pulled : ConnectionLine → Cursor → Reply → ConnectionLine
pulled line cursor answered = line_behind line line.given (let turn : Turn = record { session = line.session; told = batch_told cursor answered } in turn)

nothing_sent : (line : ConnectionLine) (cursor : Cursor) → IsSoundSession line.session → LineSends line.session false cursor false line.given line.sent
    → LineStands (record { session = line.session; cursor = Some cursor; over = false; given = line.given; sent = line.sent ++ [] })
nothing_sent line cursor sound sends = record { sound = sound; stands = subst (LineSends line.session false cursor false line.given) (sym (append-nil line.sent)) sends }

batch_sends : (line : ConnectionLine) (cursor : Cursor) (answered : Reply) → IsSoundSession line.session → LineSends line.session false cursor false line.given line.sent → ((place : Place) → Meets line.session place (Some cursor) → GoOn line.session place (next_frames cursor answered) (Some (next_cursor cursor answered)))
    → LineStands (pulled line cursor answered)
batch_sends line cursor (reply.Batch entries tick) sound sends go =
    let batch = reply.Batch entries tick in
    let none = no_answers cursor.last_tick entries tick in
    record {
      sound = sound;
      stands = subst (λ (l : List (Option ClientFrame)). LineSends line.session false (next_cursor cursor batch) false l (line.sent ++ next_frames cursor batch)) (append-nil line.given)
          (sends_more line.session cursor (next_cursor cursor batch) false line.given [] line.sent (next_frames cursor batch) refl refl go sends
          (rw (none, append-nil sends.more, append-nil (answers_of sends.rest)) sends.replies) (λ still. ap length none));
    }
batch_sends line cursor (reply.Joined seq time last from base) sound sends go = nothing_sent line cursor sound sends
batch_sends line cursor (reply.Stamped seq time) sound sends go = nothing_sent line cursor sound sends
batch_sends line cursor (reply.Again seq time) sound sends go = nothing_sent line cursor sound sends
batch_sends line cursor (reply.Ticked time) sound sends go = nothing_sent line cursor sound sends
batch_sends line cursor (reply.Left seq time) sound sends go = nothing_sent line cursor sound sends
batch_sends line cursor reply.Kept sound sends go = nothing_sent line cursor sound sends
batch_sends line cursor (reply.Refused why) sound sends go = nothing_sent line cursor sound sends

pub pulls_stands : (line : ConnectionLine) (cursor : Option Cursor) → line.cursor ≡ cursor → line.over ≡ false → IsSoundSession line.session → Stands line.session cursor false line.given line.sent → LineStands (pulls line cursor)
pulls_stands line None is going sound stands = record { sound = sound; stands = subst (λ (c : Option Cursor). Stands line.session c line.over line.given line.sent) (sym is) (subst (λ (o : Bool). Stands line.session None o line.given line.sent) (sym going) stands) }
pulls_stands line (Some cursor) is going sound stands = batch_sends line cursor _ sound stands (batch_goes_on line.session cursor most_pulled sound)

-- ---- turns

line_stands_if : (over : Bool) (a b : ConnectionLine) → IsSoundSession (cond over a b).session → LineStands a → (over ≡ false → IsSoundSession b.session → LineStands b) → LineStands (cond over a b)
line_stands_if true a b sound held fell = held
line_stands_if false a b sound held fell = fell refl sound

turn_stands : (id : SessionId) (line : ConnectionLine) (next : LineTurn) → IsSoundSession (after_turn id line next).session → LineStands line → LineStands (after_turn id line next)
turn_stands id line (Hears frame now) sound is =
    line_stands_if line.over _ _ sound is (λ going new. hears_stands id line line.cursor frame now is.sound new (subst (λ (o : Bool). Stands line.session line.cursor o line.given line.sent) going is.stands))
turn_stands id line Pulls sound is =
    line_stands_if line.over _ _ sound is (λ going new. pulls_stands line line.cursor refl going is.sound (subst (λ (o : Bool). Stands line.session line.cursor o line.given line.sent) going is.stands))
turn_stands id line (Others asked) sound is =
    record { sound = sound; stands = line_stands_grow line.session (answer line.session asked).session line.cursor line.over line.given line.sent (Grows-answer line.session asked sound) is.stands }

sound_now : (id : SessionId) (line : ConnectionLine) (turns : List LineTurn) → AreSoundTurns id line turns → IsSoundSession line.session
sound_now id line [] are = are
sound_now id line (next ∷ rest) are = are.0

turns_stand : (id : SessionId) (line : ConnectionLine) (turns : List LineTurn) → AreSoundTurns id line turns → LineStands line → LineStands (after_turns id line turns)
turns_stand id line [] are is = is
turns_stand id line (next ∷ rest) are is = turns_stand id (after_turn id line next) rest are.1 (turn_stands id line next (sound_now id (after_turn id line next) rest are.1) is)

pub served_of : (s : PlainSession) (cursor : Option Cursor) (over : Bool) (given : List (Option ClientFrame)) (sent : List ServerFrame) → Stands s cursor over given sent → Served s.log given sent
served_of s None false given sent stands = rw stands.1 tt
served_of s None true given sent stands = rw stands.4 refl
served_of s (Some cursor) over given sent sends = rw (sends.given_is, sends.sent_is) (sends.time, sends.answers, record { streams = sends.flows.streams; answers = sends.replies })

-- whatever is heard, and whatever others do
pub served_by : (id : SessionId) (s : PlainSession) (turns : List LineTurn) → AreSoundTurns id (first_line s) turns
    → Served (after_turns id (first_line s) turns).session.log (after_turns id (first_line s) turns).given (after_turns id (first_line s) turns).sent
served_by id s turns are =
    let line = after_turns id (first_line s) turns in
    served_of line.session line.cursor line.over line.given line.sent (turns_stand id (first_line s) turns are (record { sound = sound_now id (first_line s) turns are; stands = (refl, refl) })).stands
