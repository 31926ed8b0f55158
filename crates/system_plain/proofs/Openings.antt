-- The first frame of a connection, the end of one, and Tick and Pull keep the facts.
use Rattle.std.proofs.lemmas.Slice.Eq.{bytes_eq-Decides}
use Rattle.std.specs.Str.{bytes_eq}
use Rattle.std.proofs.Common.{IfSome, Ok, Err, ◌^◌, ℕ, ◌+◌, ◌≡◌, ◌≤◌, ◌<◌, ◌⊎◌, inl, inr, Bool, true, false, cond, eqb, not, nat_lt, nat_le, ◌&&◌, ◌||◌, List, [], ◌∷◌, ◌++◌, Option, Some, None, is_none, length, take, drop, slice_get, refl, arith, sym, ap, ◌∙◌, subst}
use Rattle.std.proofs.lemmas.Bool.Decides.{nat_tests}
use Rattle.tea_base.specs.declared.entry.Entry.{Entry}
use Rattle.tea_base.specs.declared.entry.SessionId.{SessionId}
use Rattle.tea_base.specs.Limits.{end_of_time, most_here}
use Rattle.tea_base.specs.Readings.{here_count, is_here, last_number}
use Rattle.wire_frames.specs.declared.frame.ClientFrame.{ClientFrame}
use Rattle.wire_frames.specs.declared.frame.ClientFrame.TheVariants as up
use Rattle.wire_frames.specs.declared.frame.ServerFrame.{ServerFrame}
use Rattle.wire_frames.specs.declared.frame.ServerFrame.TheVariants.{Alive, Done, Recv, Refused, Snapped, Sync, Tick}
use Rattle.wire_frames.specs.declared.start.Base.{Base}
use Rattle.wire_frames.specs.declared.start.Want.{Want}
use Rattle.wire_frames.specs.declared.start.Want.TheVariants as want
use Rattle.wire_frames.specs.declared.tags.TheConstants.{JOIN_TAG}
use Rattle.wire_frames.specs.Served.{BeginsFor, Place}
use Rattle.reflector_core.specs.declared.request.Refusal.{Refusal}
use Rattle.reflector_core.specs.declared.request.Refusal.TheVariants as refusal
use Rattle.reflector_core.specs.declared.request.Reply.{Reply}
use Rattle.reflector_core.specs.declared.request.Reply.TheVariants as reply
use Rattle.reflector_core.specs.declared.request.Request.TheVariants as request
use Rattle.reflector_core.specs.Answer.{SessionOutcome, answer, base_for, from_for, is_ahead, is_closed, join, pull, stamp, tick}
use Rattle.reflector_core.specs.PlainSession.{IsSoundSession, PlainSession}
use Rattle.replica_plain.specs.Following.{IsHonestBase}
use Rattle.replica_plain.specs.PlainReplica.{PlainReplica}
use Rattle.replica_plain.specs.Worlds.{Worlds}
use Rattle.join_sync.specs.declared.cursor.Cursor.{Cursor}
use Rattle.join_sync.specs.declared.early.Early.{Early}
use Rattle.join_sync.specs.declared.early.Early.TheVariants.{NotJoined, OtherSession}
use Rattle.join_sync.specs.Answers.{first_cursor, join_answer}
use Rattle.join_sync.specs.Batches.{entry_frames, most_pulled, newer_tick, next_cursor, next_frames, tick_frames}
use Rattle.join_sync.specs.Refusals.{early_frame, refused_frame}
use Rattle.join_sync.specs.Requests.{first_request}
use Rattle.join_sync.proofs.Openings.{joined_stands}
use Rattle.join_sync.proofs.Pulls.{batch_stands, batch_streams}
use Rattle.system_plain.specs.Steps.{after_joined, after_leave, after_next, pull_on, take_on, told_connection, with_both}
use Rattle.system_plain.specs.System.{Connection, System, over_if, put_down, with_cursor, with_up}
use Rattle.system_plain.specs.Turn.{answer_frames, batch_told, frame_told}
use Rattle.system_plain.proofs.AnswerFrames.{of_refusal}
use Rattle.system_plain.proofs.Changes.{connection_changes}
use Rattle.system_plain.proofs.Facts.{AnswersAwaited, AsksFor, AsksForItsView, CursorMeant, EventsStand, JoinsMeant, Meets, NewestStands, SnapsHonest, TicksWithin, WaitsForSync, WorldsStand}
use Rattle.system_plain.proofs.FactsGrow.{base_grows, count_stays, joined_grows, lives_grow, snaps_grow}
use Rattle.system_plain.proofs.Lookups.{client_view}
use Rattle.system_plain.proofs.Numbers.{counted}
use Rattle.system_plain.proofs.Sessions.{Grows, Grows-same, IsBasedBy, kept_is_based, session_goes_on}
use Rattle.system_plain.proofs.Takes.{GoOn, act_keeps_worlds, kept_honest, sends_on, ticks_append}
use Rattle.system_plain.proofs.Turns.{both_if, rests, take_first, take_frame}

-- what a Join that is answered Joined says
pub record JoinsWith (s : PlainSession) (view : ℕ) (want : Want) (o : SessionOutcome) : Type 0 where
  pub seq : ℕ
  pub time : ℕ
  pub last : ℕ
  pub from : ℕ
  pub base : Option Base
  pub reply : o.reply ≡ reply.Joined seq time last from base
  pub counted : last ≡ last_number s.log view
  pub begins : BeginsFor s.log want time from base
  pub horizon : o.session.horizon ≡ time
  pub later : s.horizon < time
  pub based : (base ≡ s.kept) ⊎ (base ≡ None)

abbrev JoinAnswer : PlainSession → ℕ → Want → SessionOutcome → Type 0
JoinAnswer s view want o = ((why : Refusal) × (o.reply ≡ reply.Refused why)) ⊎ JoinsWith s view want o

pub begins_for : (log : List Entry) (horizon time : ℕ) (want : Want) (kept : Option Base) → IsBasedBy horizon kept → horizon < time → is_ahead horizon want ≡ false → BeginsFor log want time (from_for log want kept) (base_for want kept)
begins_for log horizon time want.Fresh None kept later here = refl
begins_for log horizon time want.Fresh (Some base) kept later here = (omega arith, refl)
begins_for log horizon time want.Whole None kept later here = refl
begins_for log horizon time want.Whole (Some base) kept later here = refl
begins_for log horizon time (want.After after) None kept later here = (grind (arith, nat_tests), refl)
begins_for log horizon time (want.After after) (Some base) kept later here = (grind (arith, nat_tests), refl)

pub based_on : (want : Want) (kept : Option Base) → (base_for want kept ≡ kept) ⊎ (base_for want kept ≡ None)
based_on want.Fresh kept = inl refl
based_on want.Whole kept = inr refl
based_on (want.After after) kept = inr refl

answer_if : (s : PlainSession) (view : ℕ) (want : Want) (test : Bool) (why : Refusal) (a b : SessionOutcome) → a.reply ≡ reply.Refused why → (test ≡ false → JoinAnswer s view want b) → JoinAnswer s view want (cond test a b)
answer_if s view want true why a b is fell = inl (why, is)
answer_if s view want false why a b is fell = fell refl

join_answers : (s : PlainSession) (view now : ℕ) (want : Want) → IsSoundSession s → JoinAnswer s view want (join s view now want)
join_answers s view now want sound =
    answer_if s view want (eqb view 0) _ _ _ refl λ named.
    answer_if s view want (is_ahead s.horizon want) _ _ _ refl λ here.
    answer_if s view want (not (is_here s.log view) && nat_le most_here (here_count s.log)) _ _ _ refl λ room.
    answer_if s view want (is_closed s.log) _ _ _ refl λ still_open.
    answer_if s view want (nat_le end_of_time s.horizon) _ _ _ refl λ before_end.
    inr (record {
      seq = length s.log + 1;
      time = stamp s.horizon now;
      last = last_number s.log view;
      from = from_for s.log want s.kept;
      base = base_for want s.kept;
      reply = refl;
      counted = refl;
      begins = begins_for s.log s.horizon (stamp s.horizon now) want s.kept (kept_is_based s.horizon s.kept sound.kept) (omega arith) here;
      horizon = refl;
      later = omega arith;
      based = based_on want s.kept;
    })

-- the connection after the reply to its JOIN
abbrev opened_connection : Connection → List ClientFrame → ℕ → Reply → Connection
opened_connection c rest view answered =
    let cursor = first_cursor view answered in
    over_if (is_none cursor) (put_down (with_cursor (with_up c rest) cursor) (answer_frames (join_answer answered)))

refused_waits : {W O : Type 0} (m : Worlds W O) (s : PlainSession) (r : PlainReplica W O) (why : Refusal) → WaitsForSync m s r false true None (refused_frame JOIN_TAG why ∷ [])
refused_waits m s r why = of_refusal (WaitsForSync m s r false true None) (λ about code kept more. (refl, refl)) JOIN_TAG why

refused_waits_if : {W O : Type 0} (m : Worlds W O) (s : PlainSession) (r : PlainReplica W O) (closed over : Bool) (why : Refusal) → WaitsForSync m s r closed (over || true) None (cond closed [] (refused_frame JOIN_TAG why ∷ []))
refused_waits_if m s r true over why = λ ready going. absurd cc
refused_waits_if m s r false true why = refused_waits m s r why
refused_waits_if m s r false false why = refused_waits m s r why

pub or_true : (b : Bool) → (b || true) ≡ true
or_true true = refl
or_true false = refl

opened_refused : {W O : Type 0} (m : Worlds W O) (s : PlainSession) (r : PlainReplica W O) (c : Connection) (rest : List ClientFrame) (view : ℕ) (why : Refusal) → c.view ≡ r.view → c.down ≡ [] → r.synced ≡ false → NewestStands m s r (opened_connection c rest view (reply.Refused why))
opened_refused m s r c rest view why owned nothing waiting = record {
  owned = owned;
  opens = λ fresh going. absurd (let h = or_true c.over in cc);
  waits = λ h. subst (λ (down : List ServerFrame). WaitsForSync m s r c.closed (c.over || true) None (cond c.closed down (down ++ refused_frame JOIN_TAG why ∷ []))) (sym nothing) (refused_waits_if m s r c.closed c.over why);
  begun = λ synced. absurd cc;
}

synced_waits_if : {W O : Type 0} (m : Worlds W O) (s : PlainSession) (r : PlainReplica W O) (closed over : Bool) (joined last from : ℕ) (base : Option Base) (cursor : Cursor) → AnswersAwaited m s r last from base [] closed (Some cursor) → WaitsForSync m s r closed over (Some cursor) (cond closed [] (Sync joined last from base ∷ []))
synced_waits_if m s r true over joined last from base cursor syncs = λ ready going. absurd cc
synced_waits_if m s r false over joined last from base cursor syncs = syncs

opened_joined : {W O : Type 0} (m : Worlds W O) (s : PlainSession) (r : PlainReplica W O) (c : Connection) (rest : List ClientFrame) (view seq time last from : ℕ) (base : Option Base) → c.view ≡ r.view → c.down ≡ [] → r.synced ≡ false
    → AnswersAwaited m s r last from base [] c.closed (Some (record { view = view; joined = seq; after = from; last_tick = 0 })) → NewestStands m s r (opened_connection c rest view (reply.Joined seq time last from base))
opened_joined m s r c rest view seq time last from base owned nothing waiting syncs = record {
  owned = owned;
  opens = λ fresh going. absurd cc;
  waits = λ h. subst (λ (down : List ServerFrame). WaitsForSync m s r c.closed (c.over || false) (Some (record { view = view; joined = seq; after = from; last_tick = 0 })) (cond c.closed down (down ++ Sync seq last from base ∷ []))) (sym nothing)
      (synced_waits_if m s r c.closed (c.over || false) seq last from base (record { view = view; joined = seq; after = from; last_tick = 0 }) syncs);
  begun = λ synced. absurd cc;
}

pub begins_later : (s new : PlainSession) (want : Want) (time from : ℕ) (base : Option Base) → Grows s new → IsBasedBy s.horizon base → is_ahead s.horizon want ≡ false → BeginsFor s.log want time from base → BeginsFor new.log want time from base
begins_later s new want.Fresh time from None grows kept here begins = begins
begins_later s new want.Fresh time from (Some base) grows kept here begins = (begins.0, begins.1 ∙ sym (count_stays s new base.time grows kept))
begins_later s new want.Whole time from base grows kept here begins = whole base begins
  where
    whole : (base : Option Base) → BeginsFor s.log want.Whole time from base → BeginsFor new.log want.Whole time from base
    whole None begins = begins
    whole (Some base) begins = begins
begins_later s new (want.After after) time from None grows kept here begins = (begins.0, begins.1 ∙ sym (count_stays s new after grows (grind (arith, nat_tests))))
begins_later s new (want.After after) time from (Some base) grows kept here begins = begins

-- a Join that is answered Joined is not ahead
joined_here : (s : PlainSession) (view now : ℕ) (want : Want) (seq time last from : ℕ) (base : Option Base) → (join s view now want).reply ≡ reply.Joined seq time last from base → is_ahead s.horizon want ≡ false
joined_here s view now want seq time last from base is = go (eqb view 0) (is_ahead s.horizon want) _ _ _ refl refl is
  where
    go : (named ahead : Bool) (a b d : SessionOutcome) → a.reply ≡ reply.Refused refusal.BadView → b.reply ≡ reply.Refused (refusal.Ahead s.horizon) → (cond named a (cond ahead b d)).reply ≡ reply.Joined seq time last from base → ahead ≡ false
    go true ahead a b d first second is = absurd cc
    go false true a b d first second is = absurd cc
    go false false a b d first second is = refl

pub kept_or_none : (horizon : ℕ) (base kept : Option Base) → (base ≡ kept) ⊎ (base ≡ None) → IsBasedBy horizon kept → IsBasedBy horizon base
kept_or_none horizon base kept based within = elim based [ inl same ↦ rw same within | inr none ↦ rw none tt ]

honest_or_none : {W O : Type 0} (m : Worlds W O) (log : List Entry) (base kept : Option Base) → (base ≡ kept) ⊎ (base ≡ None) → IsHonestBase m log kept → IsHonestBase m log base
honest_or_none m log base kept based honest = elim based [ inl same ↦ rw same honest | inr none ↦ rw none tt ]

open_keeps_worlds : {W O : Type 0} (m : Worlds W O) (s : System W O) (number : ℕ) (c : Connection) (session : SessionId) (view : ℕ) (want : Want) (rest : List ClientFrame) (now : ℕ) → WorldsStand m s → EventsStand s → slice_get s.connections number ≡ Some c → c.over ≡ false → c.cursor ≡ None → c.up ≡ up.Join session view want ∷ rest → view < 2 ^ 32 → SnapsHonest m s.session rest → WorldsStand m (take_first s number (with_up c rest) (up.Join session view want) (Ok (request.Join view now want)))
open_keeps_worlds m s number c session view want rest now fine counted at going fresh ups bound snaps =
    let asked = request.Join view now want in
    let on = session_goes_on s.session asked fine.sound bound in
    let o = join s.session view now want in
    let new = o.session in
    connection_changes m s new number c (opened_connection c rest view o.reply) fine at on.grows on.sound (kept_honest m s.session new asked fine.sound fine.kept tt on) (snaps_grow m s.session new rest on.grows snaps)
    (λ v client is_client same joined.
    let r = client.replica in
    let opens = joined.opens fresh going in
    let asks = rw ups at opens.asks in
    let view_is : v ≡ view = sym (client_view s.clients v client is_client) ∙ sym asks.3 in
    elim (join_answers s.session view now want fine.sound) [
      | inl no_join ↦ subst (λ (x : Reply). NewestStands m new r (opened_connection c rest view x)) (sym no_join.1) (opened_refused m new r c rest view no_join.0 joined.owned opens.nothing opens.waiting)
      | inr with ↦
          let kept = kept_or_none s.session.horizon with.base s.session.kept with.based (kept_is_based s.session.horizon s.session.kept fine.sound.kept) in
          let least = counted.least v client is_client in
          let most = counted.most v client is_client in
          let last_is : with.last ≡ last_number s.session.log v = with.counted ∙ ap (last_number s.session.log) (sym view_is) in
          subst (λ (x : Reply). NewestStands m new r (opened_connection c rest view x)) (sym with.reply)
          (opened_joined m new r c rest view with.seq with.time with.last with.from with.base joined.owned opens.nothing opens.waiting
          (record {
            how = asks.0;
            time = with.time;
            awaited = asks.1;
            begins = subst (λ (x : Want). BeginsFor new.log x with.time with.from with.base) asks.4 (begins_later s.session new want with.time with.from with.base on.grows kept (joined_here s.session view now want with.seq with.time with.last with.from with.base with.reply) with.begins);
            within = omega (arith, with.horizon);
            honest = base_grows m s.session new with.base on.grows kept (honest_or_none m s.session.log with.base s.session.kept with.based fine.kept);
            least = omega arith;
            most = omega arith;
            flows = record { streams = tt; ticks = tt; meets = λ ready. joined_stands s.session view now want with.seq with.time with.last with.from with.base (record { view = view; joined = with.seq; after = with.from; last_tick = 0 }) with.reply refl };
          }))
    ])

-- a connection that no replica reads any more refuses what is no JOIN of the session
early_keeps_worlds : {W O : Type 0} (m : Worlds W O) (s : System W O) (number : ℕ) (c : Connection) (frame : ClientFrame) (rest : List ClientFrame) (early : Early) → WorldsStand m s → slice_get s.connections number ≡ Some c → c.over ≡ false → c.cursor ≡ None → c.up ≡ frame ∷ rest → SnapsHonest m s.session rest
    → ((r : PlainReplica W O) → AsksFor m r c.closed (frame ∷ rest) → ⊥) → WorldsStand m (take_first s number (with_up c rest) frame (Err early))
early_keeps_worlds m s number c frame rest early fine at going fresh ups snaps no_join =
    connection_changes m s s.session number c (told_connection (with_up c rest) (frame_told None (early_frame early frame))) fine at (Grows-same s.session) fine.sound fine.kept snaps
    (λ v client is_client same joined. absurd (no_join client.replica (rw ups at (joined.opens fresh going).asks)))

join_if : {W O : Type 0} (m : Worlds W O) (s : System W O) (number : ℕ) (c : Connection) (session : SessionId) (view : ℕ) (want : Want) (rest : List ClientFrame) (now : ℕ) (own : Bool) → bytes_eq session.0 m.session ≡ own → WorldsStand m s → EventsStand s → slice_get s.connections number ≡ Some c → c.over ≡ false → c.cursor ≡ None
    → c.up ≡ up.Join session view want ∷ rest → view < 2 ^ 32 → SnapsHonest m s.session rest → WorldsStand m (take_first s number (with_up c rest) (up.Join session view want) (cond own (Ok (request.Join view now want)) (Err OtherSession)))
join_if m s number c session view want rest now true own fine counted at going fresh ups bound snaps = open_keeps_worlds m s number c session view want rest now fine counted at going fresh ups bound snaps
join_if m s number c session view want rest now false own fine counted at going fresh ups bound snaps =
    early_keeps_worlds m s number c (up.Join session view want) rest OtherSession fine at going fresh ups snaps
    (λ r asks. absurd (let same = (bytes_eq-Decides session.0 m.session).1 (ap (λ (id : SessionId). id.0) asks.2) in cc))

-- the first frame of a connection is taken
first_keeps_worlds : {W O : Type 0} (m : Worlds W O) (s : System W O) (number : ℕ) (c : Connection) (frame : ClientFrame) (rest : List ClientFrame) (now : ℕ) → WorldsStand m s → EventsStand s → slice_get s.connections number ≡ Some c → c.over ≡ false → c.cursor ≡ None → c.up ≡ frame ∷ rest → SnapsHonest m s.session (frame ∷ rest)
    → WorldsStand m (take_first s number (with_up c rest) frame (first_request frame (record { 0 = m.session }) now))
first_keeps_worlds m s number c (up.Join session view want) rest now fine counted at going fresh ups snaps =
    let named = counted.named number c at in
    let same = (subst (JoinsMeant c.view) ups named.joins).0 in
    join_if m s number c session view want rest now (bytes_eq session.0 m.session) refl fine counted at going fresh ups (subst (λ (v : ℕ). v < 2 ^ 32) (sym same) named.bound) snaps
first_keeps_worlds m s number c (up.Send k payload) rest now fine counted at going fresh ups snaps = early_keeps_worlds m s number c (up.Send k payload) rest NotJoined fine at going fresh ups snaps (λ r asks. asks)
first_keeps_worlds m s number c (up.Snap time bytes) rest now fine counted at going fresh ups snaps = early_keeps_worlds m s number c (up.Snap time bytes) rest NotJoined fine at going fresh ups snaps.1 (λ r asks. asks)
first_keeps_worlds m s number c up.Leave rest now fine counted at going fresh ups snaps = early_keeps_worlds m s number c up.Leave rest NotJoined fine at going fresh ups snaps (λ r asks. asks)
first_keeps_worlds m s number c up.Alive rest now fine counted at going fresh ups snaps = early_keeps_worlds m s number c up.Alive rest NotJoined fine at going fresh ups snaps (λ r asks. asks)

-- what a cursor asks is asked for the connection's view
cursor_bound : (c : Connection) (cursor : Cursor) → AsksForItsView c → c.cursor ≡ Some cursor → cursor.view < 2 ^ 32
cursor_bound c cursor named is = subst (λ (v : ℕ). v < 2 ^ 32) (sym (subst (CursorMeant c.view) is named.cursor)) named.bound

frame_keeps_worlds : {W O : Type 0} (m : Worlds W O) (s : System W O) (number : ℕ) (c : Connection) (cursor : Option Cursor) (frame : ClientFrame) (rest : List ClientFrame) (now : ℕ) → WorldsStand m s → EventsStand s → slice_get s.connections number ≡ Some c → c.over ≡ false → c.cursor ≡ cursor → c.up ≡ frame ∷ rest → SnapsHonest m s.session (frame ∷ rest) → WorldsStand m (take_frame m s number (with_up c rest) cursor frame now)
frame_keeps_worlds m s number c None frame rest now fine counted at going is ups snaps = first_keeps_worlds m s number c frame rest now fine counted at going is ups snaps
frame_keeps_worlds m s number c (Some cursor) frame rest now fine counted at going is ups snaps = act_keeps_worlds m s number c cursor frame rest now fine at going is (cursor_bound c cursor (counted.named number c at) is) snaps

-- a connection that is over and closed sends nothing more
over_waits : {W O : Type 0} (m : Worlds W O) (s : PlainSession) (r : PlainReplica W O) (closed over : Bool) (cursor : Option Cursor) (frames : List ServerFrame) → WaitsForSync m s r closed over cursor frames → WaitsForSync m s r closed (over || true) cursor frames
over_waits m s r closed over cursor [] waits = λ ready going. absurd (let h = or_true over in cc)
over_waits m s r closed over cursor (Sync joined last from base ∷ rest) waits = waits
over_waits m s r closed over cursor (Refused about code kept more ∷ rest) waits = (waits.0, or_true over)
over_waits m s r closed over cursor (Recv entry ∷ rest) waits = waits
over_waits m s r closed over cursor (Tick t ∷ rest) waits = waits
over_waits m s r closed over cursor (Done number seq time ∷ rest) waits = waits
over_waits m s r closed over cursor (Snapped time ∷ rest) waits = waits
over_waits m s r closed over cursor (Alive ∷ rest) waits = waits

joined_over : {W O : Type 0} (m : Worlds W O) (s : PlainSession) (r : PlainReplica W O) (c : Connection) → NewestStands m s r c → NewestStands m s r (over_if true c)
joined_over m s r c joined = record {
  owned = joined.owned;
  opens = λ fresh going. absurd (let h = or_true c.over in cc);
  waits = λ waiting. over_waits m s r c.closed c.over c.cursor c.down (joined.waits waiting);
  begun = joined.begun;
}

leave_keeps_worlds : {W O : Type 0} (m : Worlds W O) (s : System W O) (number : ℕ) (c : Connection) (cursor : Option Cursor) (now : ℕ) → WorldsStand m s → EventsStand s → slice_get s.connections number ≡ Some c → c.cursor ≡ cursor
    → WorldsStand m (with_both s number (after_leave s.session c cursor now))
leave_keeps_worlds m s number c None now fine counted at is = rests (WorldsStand m) s number c at fine
leave_keeps_worlds m s number c (Some cursor) now fine counted at is =
    let asked = request.Leave cursor.view cursor.joined now in
    let on = session_goes_on s.session asked fine.sound (cursor_bound c cursor (counted.named number c at) is) in
    let new = (answer s.session asked).session in
    both_if (WorldsStand m) s number c.closed (new, over_if true c) (s.session, c)
    (λ closed. connection_changes m s new number c (over_if true c) fine at on.grows on.sound (kept_honest m s.session new asked fine.sound fine.kept tt on) (snaps_grow m s.session new c.up on.grows (fine.snaps number c at))
    (λ view client is_client same joined. joined_over m new client.replica c (joined_grows m s.session new client.replica c on.grows (fine.lives view client is_client) joined)))
    (λ stays. rests (WorldsStand m) s number c at fine)

next_keeps_worlds : {W O : Type 0} (m : Worlds W O) (s : System W O) (number : ℕ) (c : Connection) (ups : List ClientFrame) (now : ℕ) → WorldsStand m s → EventsStand s → slice_get s.connections number ≡ Some c → c.over ≡ false → c.up ≡ ups
    → WorldsStand m (with_both s number (after_next (record { 0 = m.session }) s.session c ups now))
next_keeps_worlds m s number c [] now fine counted at going ups = leave_keeps_worlds m s number c c.cursor now fine counted at refl
next_keeps_worlds m s number c (frame ∷ rest) now fine counted at going ups =
    frame_keeps_worlds m s number c c.cursor frame rest now fine counted at going refl ups (subst (SnapsHonest m s.session) ups (fine.snaps number c at))

pub take_keeps_worlds : {W O : Type 0} (m : Worlds W O) (s : System W O) (number : ℕ) (found : Option Connection) (now : ℕ) → WorldsStand m s → EventsStand s → slice_get s.connections number ≡ found → WorldsStand m (take_on m s number found now)
take_keeps_worlds m s number None now fine counted at = fine
take_keeps_worlds m s number (Some c) now fine counted at =
    both_if (WorldsStand m) s number c.over (s.session, c) (after_next (record { 0 = m.session }) s.session c c.up now) (λ over. rests (WorldsStand m) s number c at fine) (λ going. next_keeps_worlds m s number c c.up now fine counted at going refl)

recvs_ticks : (horizon : ℕ) (entries : List Entry) → TicksWithin horizon (entry_frames entries)
recvs_ticks horizon [] = tt
recvs_ticks horizon (entry ∷ rest) = recvs_ticks horizon rest

newer_within : (last horizon : ℕ) (tick : Option ℕ) → IfSome tick (λ t. t ≤ horizon) → TicksWithin horizon (tick_frames (newer_tick last tick))
newer_within last horizon None within = tt
newer_within last horizon (Some t) within = tick_if (nat_lt last t)
  where
    tick_if : (newer : Bool) → TicksWithin horizon (tick_frames (cond newer (Some t) None))
    tick_if true = (within, tt)
    tick_if false = tt

-- the tick of a batch is at most the horizon
batch_ticks : (horizon : ℕ) (cursor : Cursor) (beyond whole : Bool) (why : Refusal) (s : PlainSession) (entries : List Entry) → TicksWithin horizon (next_frames cursor (cond {A = SessionOutcome} beyond (record { session = s; reply = reply.Refused why }) (record { session = s; reply = reply.Batch entries (cond whole (Some horizon) None) })).reply)
batch_ticks horizon cursor true whole why s entries = tt
batch_ticks horizon cursor false true why s entries = ticks_append horizon (entry_frames entries) _ (recvs_ticks horizon entries) (newer_within cursor.last_tick horizon (Some horizon) (omega arith))
batch_ticks horizon cursor false false why s entries = ticks_append horizon (entry_frames entries) _ (recvs_ticks horizon entries) tt

-- what is pulled behind a cursor goes on from where it stands
pub batch_goes_on : (s : PlainSession) (cursor : Cursor) (n : ℕ) → IsSoundSession s → (place : Place) → Meets s place (Some cursor) → GoOn s place (next_frames cursor (pull s cursor.after n).reply) (Some (next_cursor cursor (pull s cursor.after n).reply))
batch_goes_on s cursor n sound place meets = record {
  streams = batch_streams s place cursor n sound meets;
  ticks = batch_ticks s.horizon cursor (nat_lt (length s.log) cursor.after) (nat_le (length s.log) (cursor.after + n)) (refusal.NoSuchSeq (length s.log)) s (take n (drop cursor.after s.log));
  meets = batch_stands s place cursor n sound meets;
}

-- the session alone goes on
session_changes : {W O : Type 0} (m : Worlds W O) (s : System W O) (new : PlainSession) → WorldsStand m s → Grows s.session new → IsSoundSession new → IsHonestBase m new.log new.kept → WorldsStand m (record { session = new; clients = s.clients; connections = s.connections })
session_changes m s new fine grows sound kept = record {
  sound = sound;
  kept = kept;
  snaps = λ k c at. snaps_grow m s.session new c.up grows (fine.snaps k c at);
  lives = λ view client is. lives_grow m s.session new client.replica grows (fine.lives view client is);
  connected = fine.connected;
  joined = λ view client c is at. joined_grows m s.session new client.replica c grows (fine.lives view client is) (fine.joined view client c is at);
}

pub tick_keeps_worlds : {W O : Type 0} (m : Worlds W O) (s : System W O) (now : ℕ) → WorldsStand m s → WorldsStand m (record s { session = (answer s.session (request.Tick now)).session })
tick_keeps_worlds m s now fine =
    let asked = request.Tick now in
    let on = session_goes_on s.session asked fine.sound tt in
    let new = (answer s.session asked).session in
    session_changes m s new fine on.grows on.sound (kept_honest m s.session new asked fine.sound fine.kept tt on)

-- its frames are put down
joined_keeps_worlds : {W O : Type 0} (m : Worlds W O) (s : System W O) (number : ℕ) (c : Connection) (cursor : Option Cursor) → WorldsStand m s → slice_get s.connections number ≡ Some c → c.over ≡ false → c.cursor ≡ cursor → WorldsStand m (with_both s number (after_joined s.session c cursor))
joined_keeps_worlds m s number c None fine at going is = rests (WorldsStand m) s number c at fine
joined_keeps_worlds m s number c (Some cursor) fine at going is =
    let answered = (pull s.session cursor.after most_pulled).reply in
    connection_changes m s s.session number c (told_connection c (batch_told cursor answered)) fine at (Grows-same s.session) fine.sound fine.kept (fine.snaps number c at)
    (λ view client is_client same joined. sends_on m s.session client.replica c cursor (next_cursor cursor answered) c.up (next_frames cursor answered) false going is (batch_goes_on s.session cursor most_pulled fine.sound) joined)

pub pull_keeps_worlds : {W O : Type 0} (m : Worlds W O) (s : System W O) (number : ℕ) (found : Option Connection) → WorldsStand m s → slice_get s.connections number ≡ found → WorldsStand m (pull_on s number found)
pull_keeps_worlds m s number None fine at = fine
pull_keeps_worlds m s number (Some c) fine at =
    both_if (WorldsStand m) s number c.over (s.session, c) (after_joined s.session c c.cursor) (λ over. rests (WorldsStand m) s number c at fine) (λ going. joined_keeps_worlds m s number c c.cursor fine at going refl)
