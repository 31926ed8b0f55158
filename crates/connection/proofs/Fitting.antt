-- Each frame that a sound session has a connection send fits its fields.
use Rattle.std.proofs.Common.{ℕ, zero, suc, ◌+◌, ◌-◌, ◌<◌, ◌≤◌, ◌≡◌, ◌==◌, Bool, true, false, not, ◌&&◌, ◌||◌, nat_le, nat_lt, if◌then◌else◌, List, [], ◌∷◌, ◌++◌, length, take, drop, slice_get, get_or, Option, Some, None, refl, sym, ap, ◌∙◌, subst, arith}
use Rattle.std.specs.Prelude.{IfSome}
use Rattle.std.specs.List.{AllByRecursion}
use Rattle.std.specs.Str.{bytes_eq}
use Rattle.std.proofs.lemmas.Bool.Decides.{nat_tests}
use Rattle.std.proofs.lemmas.List.Elements.{All-append, All-drop, All-filter, All-from_recursion, All-map, All-take, recursion_from_All}
use Rattle.tea_base.specs.declared.entry.Entry.{Entry}
use Rattle.tea_base.specs.declared.entry.What.{What}
use Rattle.tea_base.specs.declared.entry.What.TheVariants as what
use Rattle.tea_base.specs.Legal.{IsLegalAfter, LogAllows, MayFollow}
use Rattle.tea_base.specs.Limits.{end_of_time, most_bytes, most_here, most_payload, most_snapshot, time_limit}
use Rattle.tea_base.specs.Readings.{current, event_payload, here_count, is_event_of, is_here, last_number, payload_bytes, view_event, view_events}
use Rattle.entry_fields.specs.Spelling.{FitsWhat}
use Rattle.wire_frames.specs.Frames.{FitsBase, FitsServer}
use Rattle.wire_frames.specs.declared.frame.ClientFrame.{ClientFrame}
use Rattle.wire_frames.specs.declared.frame.ClientFrame.TheVariants as client
use Rattle.wire_frames.specs.declared.frame.ServerFrame.{ServerFrame}
use Rattle.wire_frames.specs.declared.frame.ServerFrame.TheVariants as server
use Rattle.wire_frames.specs.declared.start.Base.{Base}
use Rattle.wire_frames.specs.declared.start.Want.{Want}
use Rattle.wire_frames.specs.declared.start.Want.TheVariants as want
use Rattle.wire_frames.specs.declared.tags.TheConstants.{JOIN_TAG, SEND_TAG, SNAP_TAG, LEAVE_TAG}
use Rattle.reflector_core.specs.PlainSession.{PlainSession, IsKeptBy, IsSoundSession}
use Rattle.reflector_core.specs.Answer.{SessionOutcome, answer, base_for, base_time_or_zero, is_ahead, is_closed, is_older, is_stale, join, leave, log_full, offer, pull, repeats, reply_length, send_event, stamp}
use Rattle.reflector_core.specs.declared.request.Refusal.{Refusal}
use Rattle.reflector_core.specs.declared.request.Refusal.TheVariants as refusal
use Rattle.reflector_core.specs.declared.request.Reply.{Reply}
use Rattle.reflector_core.specs.declared.request.Reply.TheVariants as reply
use Rattle.reflector_core.specs.declared.request.Request.{Request}
use Rattle.reflector_core.specs.declared.request.Request.TheVariants as request
use Rattle.join_sync.specs.Answers.{answer_frame, join_answer, leave_answer, send_answer, snap_answer}
use Rattle.join_sync.specs.Batches.{entry_frames, newer_tick, next_frames, tick_frames}
use Rattle.join_sync.specs.Refusals.{refused_frame, second_join_frame}
use Rattle.join_sync.specs.Requests.{IsJoin, act_on}
use Rattle.join_sync.specs.declared.act.Act.TheVariants.{Answer}
use Rattle.join_sync.specs.declared.cursor.Cursor.{Cursor}
use Rattle.connection.specs.Standing.{IsAnsweredAt}

-- ---- the entries of a legal log

what_fits : (log : List Entry) (view : ℕ) (recorded : What) → LogAllows log view recorded → FitsWhat recorded
what_fits log view what.Join allowed = tt
what_fits log view what.Exit allowed = tt
what_fits log view (what.Event number payload) allowed = omega (arith, allowed.2)

abbrev EntryFits : Entry → Type 0
EntryFits entry = FitsServer (server.Recv entry)

entries_fit : (before log : List Entry) → IsLegalAfter before log → AllByRecursion EntryFits log
entries_fit before [] legal = tt
entries_fit before (entry ∷ rest) legal =
    let may : MayFollow before entry = legal.0 in
    ((may.time_bound, what_fits before entry.view entry.what may.allowed), entries_fit (before ++ entry ∷ []) rest legal.1)

log_fits : (s : PlainSession) → IsSoundSession s → AllByRecursion EntryFits s.log
log_fits s sound = entries_fit [] s.log sound.legal

below_limit : (s : PlainSession) → IsSoundSession s → s.horizon < time_limit
below_limit s sound = let bounded = sound.bounded in omega (arith, bounded)

-- ---- refusals

refused_fits : (about : ℕ) (why : Refusal) → FitsServer (refused_frame about why)
refused_fits about (refusal.Stale current) = tt
refused_fits about (refusal.TooLong len) = tt
refused_fits about (refusal.Differs seq) = tt
refused_fits about (refusal.Gap expected) = tt
refused_fits about (refusal.LogFull entries bytes) = tt
refused_fits about (refusal.TimeEnd horizon) = tt
refused_fits about (refusal.ViewsFull here) = tt
refused_fits about refusal.BadView = tt
refused_fits about (refusal.Ahead horizon) = tt
refused_fits about (refusal.Older kept) = tt
refused_fits about (refusal.NoSuchSeq len) = tt

-- ---- the answer to a frame

-- where a test holds, and where it does not
either : {A : Type 0} (P : A → Type 0) (test : Bool) (a b : A) → P a → (test ≡ false → P b) → P (if test then a else b)
either P true a b held fell = held
either P false a b held fell = fell refl

-- the frame that is made of the reply fits, if one is
abbrev OutcomeFits : (Reply → Option ServerFrame) → SessionOutcome → Type 0
OutcomeFits frame_of outcome = IfSome (frame_of outcome.reply) FitsServer

base_fits : (asked : Want) (s : PlainSession) (kept : Option Base) → IsSoundSession s → IsKeptBy s.horizon kept → FitsBase (base_for asked kept)
base_fits want.Fresh s None sound is = tt
base_fits want.Fresh s (Some base) sound is =
    let below = below_limit s sound in
    let time = is.0 in
    let short = is.1 in
    (omega (arith, below, time), omega (arith, short))
base_fits want.Whole s kept sound is = tt
base_fits (want.After time) s kept sound is = tt

join_fits : (s : PlainSession) (view now : ℕ) (asked : Want) → IsSoundSession s → OutcomeFits join_answer (join s view now asked)
join_fits s view now asked sound =
    let P = OutcomeFits join_answer in
    either P (view == 0) _ _ (refused_fits JOIN_TAG refusal.BadView) (λ _.
    either P (is_ahead s.horizon asked) _ _ (refused_fits JOIN_TAG (refusal.Ahead s.horizon)) (λ _.
    either P (not (is_here s.log view) && nat_le most_here (here_count s.log)) _ _ (refused_fits JOIN_TAG (refusal.ViewsFull (here_count s.log))) (λ _.
    either P (is_closed s.log) _ _ (refused_fits JOIN_TAG (log_full s.log)) (λ _.
    either P (nat_le end_of_time s.horizon) _ _ (refused_fits JOIN_TAG (refusal.TimeEnd s.horizon)) (λ _.
    base_fits asked s s.kept sound sound.kept)))))

got_fits : (entries : List Entry) (place : ℕ) → AllByRecursion EntryFits entries → IfSome (slice_get entries place) EntryFits
got_fits [] place fit = tt
got_fits (entry ∷ rest) zero fit = fit.0
got_fits (entry ∷ rest) (suc place) fit = got_fits rest place fit.1

event_fits : (log : List Entry) (view number : ℕ) → AllByRecursion EntryFits log → IfSome (view_event log view number) EntryFits
event_fits log view number fit =
    either (λ (found : Option Entry). IfSome found EntryFits) (number == 0) None (slice_get (view_events log view) (number - 1)) tt (λ _.
    got_fits (view_events log view) (number - 1)
    (recursion_from_All EntryFits (view_events log view) (All-filter (is_event_of view) EntryFits log (All-from_recursion EntryFits log fit))))

repeat_fits : (s : PlainSession) (number : ℕ) (payload : List ℕ) (found : Option Entry) (next : ℕ) → IfSome found EntryFits → IfSome (send_answer number (repeats s payload found (reply.Refused (refusal.Gap next)))) FitsServer
repeat_fits s number payload None next fits = tt
repeat_fits s number payload (Some entry) next fits =
    either (λ (given : Reply). IfSome (send_answer number given) FitsServer) (bytes_eq (event_payload entry.what) payload) (reply.Again entry.seq entry.time) (reply.Refused (refusal.Differs entry.seq)) fits.0 (λ _. tt)

-- an entry that is stamped has a time of TeaTime
stamp_fits : (s : PlainSession) (now : ℕ) → nat_le end_of_time s.horizon ≡ false → stamp s.horizon now < time_limit
stamp_fits s now before_end =
    let early : s.horizon < end_of_time = grind (arith, nat_tests) in
    omega (arith, early)

send_fits : (s : PlainSession) (view joined number : ℕ) (payload : List ℕ) (now : ℕ) → IsSoundSession s → OutcomeFits (send_answer number) (send_event s view joined number payload now)
send_fits s view joined number payload now sound =
    let P = OutcomeFits (send_answer number) in
    let next = last_number s.log view + 1 in
    either P (is_stale s.log view joined) _ _ (refused_fits SEND_TAG (refusal.Stale (current s.log view))) (λ _.
    either P (nat_lt most_payload (length payload)) _ _ (refused_fits SEND_TAG (refusal.TooLong (reply_length (length payload)))) (λ _.
    either P (number == 0) _ _ (refused_fits SEND_TAG (refusal.Gap next)) (λ _.
    either P (nat_lt number next) _ _ (repeat_fits s number payload (view_event s.log view number) next (event_fits s.log view number (log_fits s sound))) (λ _.
    either P (nat_lt next number) _ _ (refused_fits SEND_TAG (refusal.Gap next)) (λ _.
    either P (is_closed s.log || nat_lt most_bytes (payload_bytes s.log + length payload)) _ _ (refused_fits SEND_TAG (log_full s.log)) (λ _.
    either P (nat_le end_of_time s.horizon) _ _ (refused_fits SEND_TAG (refusal.TimeEnd s.horizon)) (λ before_end.
    stamp_fits s now before_end)))))))

leave_fits : (s : PlainSession) (view joined now : ℕ) → OutcomeFits leave_answer (leave s view joined now)
leave_fits s view joined now = either (OutcomeFits leave_answer) (is_stale s.log view joined) _ _ (refused_fits LEAVE_TAG (refusal.Stale (current s.log view))) (λ _. tt)

offer_fits : (s : PlainSession) (view joined time : ℕ) (bytes : List ℕ) → IsSoundSession s → OutcomeFits (snap_answer time) (offer s view joined time bytes)
offer_fits s view joined time bytes sound =
    let P = OutcomeFits (snap_answer time) in
    let below = below_limit s sound in
    either P (is_stale s.log view joined) _ _ (refused_fits SNAP_TAG (refusal.Stale (current s.log view))) (λ _.
    either P (nat_lt most_snapshot (length bytes)) _ _ (refused_fits SNAP_TAG (refusal.TooLong (reply_length (length bytes)))) (λ _.
    either P (nat_lt s.horizon time) _ _ (refused_fits SNAP_TAG (refusal.Ahead s.horizon)) (λ come.
    either P (is_older time s.kept) _ _ (refused_fits SNAP_TAG (refusal.Older (base_time_or_zero s.kept))) (λ _.
    let within : time ≤ s.horizon = grind (arith, nat_tests, come) in
    let fits : time < time_limit = omega (arith, within, below) in
    fits))))

answer_fits : (s : PlainSession) (asked : Request) → IsSoundSession s → IfSome (answer_frame asked (answer s asked).reply) FitsServer
answer_fits s (request.Join view now asked) sound = join_fits s view now asked sound
answer_fits s (request.Send view joined number payload now) sound = send_fits s view joined number payload now sound
answer_fits s (request.Tick now) sound = tt
answer_fits s (request.Leave view joined now) sound = leave_fits s view joined now
answer_fits s (request.Offer view joined time bytes) sound = offer_fits s view joined time bytes sound
answer_fits s (request.Pull after limit) sound = tt

-- ---- a batch

ticks_fit : (last : ℕ) (tick : Option ℕ) → IfSome tick (λ time. time < time_limit) → AllByRecursion FitsServer (tick_frames (newer_tick last tick))
ticks_fit last None fits = tt
ticks_fit last (Some time) fits =
    either (λ (newer : Option ℕ). AllByRecursion FitsServer (tick_frames newer)) (nat_lt last time) (Some time) None (fits, tt) (λ _. tt)

batch_fits : (s : PlainSession) (cursor : Cursor) (after limit : ℕ) → IsSoundSession s → AllByRecursion FitsServer (next_frames cursor (pull s after limit).reply)
batch_fits s cursor after limit sound =
    let entries = take limit (drop after s.log) in
    let tick = if nat_le (length s.log) (after + limit) then Some s.horizon else None in
    let timely = either (λ (told : Option ℕ). IfSome told (λ time. time < time_limit)) (nat_le (length s.log) (after + limit)) (Some s.horizon) None (below_limit s sound) (λ _. tt) in
    let told = All-take EntryFits limit (drop after s.log) (All-drop EntryFits after s.log (All-from_recursion EntryFits s.log (log_fits s sound))) in
    let ticks = All-from_recursion FitsServer (tick_frames (newer_tick cursor.last_tick tick)) (ticks_fit cursor.last_tick tick timely) in
    either (λ (outcome : SessionOutcome). AllByRecursion FitsServer (next_frames cursor outcome.reply)) (nat_lt (length s.log) after) _ _ tt (λ _.
    recursion_from_All FitsServer (entry_frames entries ++ tick_frames (newer_tick cursor.last_tick tick))
    (All-append FitsServer (entry_frames entries) (tick_frames (newer_tick cursor.last_tick tick)) (All-map FitsServer server.Recv entries told) ticks))

-- ---- what calls tell

-- the answer to a request of a frame
pub answer_fits_at : (before at now : PlainSession) (asked : Request) (given : Reply) (frame : Option ServerFrame) → IsAnsweredAt before at now asked given → frame ≡ answer_frame asked given → IfSome frame FitsServer
answer_fits_at before at now asked given frame told is =
    subst (λ (f : Option ServerFrame). IfSome f FitsServer) (sym (is ∙ ap (answer_frame asked) told.replied)) (answer_fits at asked told.sound)

-- the answer to a Join
pub join_fits_at : (before at now : PlainSession) (asked : Request) (given : Reply) (frame : ServerFrame) → IsJoin asked → IsAnsweredAt before at now asked given → Some frame ≡ join_answer given → FitsServer frame
join_fits_at before at now (request.Join view time wanted) given frame is told made = answer_fits_at before at now (request.Join view time wanted) given (Some frame) told made
join_fits_at before at now (request.Send view joined number payload time) given frame is told made = absurd is
join_fits_at before at now (request.Tick time) given frame is told made = absurd is
join_fits_at before at now (request.Leave view joined time) given frame is told made = absurd is
join_fits_at before at now (request.Offer view joined time bytes) given frame is told made = absurd is
join_fits_at before at now (request.Pull after limit) given frame is told made = absurd is

-- the frames of a batch
pub batch_fits_at : (before at now : PlainSession) (cursor : Cursor) (limit : ℕ) (given : Reply) → IsAnsweredAt before at now (request.Pull cursor.after limit) given → AllByRecursion FitsServer (next_frames cursor given)
batch_fits_at before at now cursor limit given told =
    subst (λ (r : Reply). AllByRecursion FitsServer (next_frames cursor r)) (sym told.replied) (batch_fits at cursor cursor.after limit told.sound)

-- ---- frames for which nothing is asked

pub act_fits : (cursor : Cursor) (frame : ClientFrame) (now : ℕ) (told : ServerFrame) → act_on cursor frame now ≡ Answer told → FitsServer told
act_fits cursor (client.Join session view wanted) now told is = let same : second_join_frame ≡ told = cc in subst FitsServer same tt
act_fits cursor (client.Send number payload) now told is = absurd cc
act_fits cursor (client.Snap time bytes) now told is = absurd cc
act_fits cursor client.Leave now told is = absurd cc
act_fits cursor client.Alive now told is = let same : server.Alive ≡ told = cc in subst FitsServer same tt

-- the next of frames that fit
pub fits_at : (frames : List ServerFrame) (i : ℕ) (frame : ServerFrame) → AllByRecursion FitsServer frames → i < length frames → frame ≡ get_or frames i frame → FitsServer frame
fits_at [] i frame fit within is = absurd (omega (arith, within))
fits_at (first ∷ rest) zero frame fit within is = subst FitsServer (sym is) fit.0
fits_at (first ∷ rest) (suc i) frame fit within is = fits_at rest i frame fit.1 (omega (arith, within)) is
