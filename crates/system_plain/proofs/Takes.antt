-- The answers to later frames keep the facts.
use Rattle.std.proofs.Common.{ℕ, ◌≡◌, ◌≤◌, ◌<◌, ◌^◌, inl, inr, Bool, true, false, cond, ◌||◌, List, [], ◌∷◌, ◌++◌, Option, Some, slice_get, refl, ap, subst}
use Rattle.tea_base.specs.declared.entry.Entry.{Entry}
use Rattle.wire_frames.specs.declared.frame.ClientFrame.{ClientFrame}
use Rattle.wire_frames.specs.declared.frame.ClientFrame.TheVariants as up
use Rattle.wire_frames.specs.declared.frame.ServerFrame.{ServerFrame}
use Rattle.wire_frames.specs.declared.frame.ServerFrame.TheVariants.{Alive, Done, Recv, Refused, Snapped, Sync, Tick}
use Rattle.wire_frames.specs.declared.tags.TheConstants.{SEND_TAG}
use Rattle.wire_frames.specs.Served.{Place, Streams, place_after, place_after_all}
use Rattle.wire_frames.proofs.Streams.{Streams-append}
use Rattle.reflector_core.specs.declared.request.Refusal.{Refusal}
use Rattle.reflector_core.specs.declared.request.Reply.{Reply}
use Rattle.reflector_core.specs.declared.request.Reply.TheVariants as reply
use Rattle.reflector_core.specs.declared.request.Request.{Request}
use Rattle.reflector_core.specs.declared.request.Request.TheVariants as request
use Rattle.reflector_core.specs.Answer.{answer, tick}
use Rattle.reflector_core.specs.PlainSession.{IsSoundSession, PlainSession}
use Rattle.reflector_core.proofs.SoundLaws.{IsBounded}
use Rattle.replica_plain.specs.Following.{IsHonestBase}
use Rattle.replica_plain.specs.PlainReplica.{PlainReplica}
use Rattle.replica_plain.specs.Worlds.{IsHonest, Worlds}
use Rattle.join_sync.specs.declared.act.Act.TheVariants.{Answer, Call}
use Rattle.join_sync.specs.declared.cursor.Cursor.{Cursor}
use Rattle.join_sync.specs.Answers.{answer_frame, leave_answer, send_answer, snap_answer}
use Rattle.join_sync.specs.Refusals.{refused_frame, second_join_frame}
use Rattle.join_sync.specs.Requests.{act_on}
use Rattle.system_plain.specs.Steps.{told_connection}
use Rattle.system_plain.specs.System.{Connection, System, over_if, put_down, with_cursor, with_up}
use Rattle.system_plain.specs.Turn.{answer_frames, ask_told, ends_connection, frame_told}
use Rattle.system_plain.proofs.AnswerFrames.{of_leave_answer, of_refusal, of_snap_answer}
use Rattle.system_plain.proofs.Changes.{connection_changes}
use Rattle.system_plain.proofs.Facts.{FlowsFrom, Meets, NewestStands, SnapsHonest, TicksWithin, WaitsForSync, WorldsStand, awaited_flows}
use Rattle.system_plain.proofs.FactsGrow.{base_grows, joined_grows, snaps_grow}
use Rattle.system_plain.proofs.Sessions.{Grows-same, SessionGoesOn, kept_is_based, session_goes_on}
use Rattle.system_plain.proofs.Turns.{take_act}

-- the frames say nothing of the log
abbrev pub AreAnswers : List ServerFrame → Type 0
AreAnswers [] = Unit {0}
AreAnswers (Recv entry ∷ rest) = ⊥
AreAnswers (Tick t ∷ rest) = ⊥
AreAnswers (Sync joined last from base ∷ rest) = ⊥
AreAnswers (Done number seq time ∷ rest) = AreAnswers rest
AreAnswers (Snapped time ∷ rest) = AreAnswers rest
AreAnswers (Refused about code kept more ∷ rest) = AreAnswers rest
AreAnswers (Alive ∷ rest) = AreAnswers rest

refusal_replies : (about : ℕ) (why : Refusal) → AreAnswers (refused_frame about why ∷ [])
refusal_replies about why = of_refusal AreAnswers (λ about code kept more. tt) about why

pub send_replies : (number : ℕ) (answered : Reply) → AreAnswers (answer_frames (send_answer number answered))
send_replies number (reply.Stamped seq time) = tt
send_replies number (reply.Again seq time) = tt
send_replies number (reply.Refused why) = refusal_replies SEND_TAG why
send_replies number reply.Kept = tt
send_replies number (reply.Left seq time) = tt
send_replies number (reply.Joined seq time last from base) = tt
send_replies number (reply.Ticked time) = tt
send_replies number (reply.Batch entries tick) = tt

pub snap_replies : (time : ℕ) (answered : Reply) → AreAnswers (answer_frames (snap_answer time answered))
snap_replies time answered = of_snap_answer AreAnswers tt (λ at. tt) (λ about code kept more. tt) time answered

pub leave_replies : (answered : Reply) → AreAnswers (answer_frames (leave_answer answered))
leave_replies answered = of_leave_answer AreAnswers tt (λ about code kept more. tt) answered

replies_stream : (log : List Entry) (place : Place) (frames : List ServerFrame) → AreAnswers frames → Streams log place frames × (place_after_all place frames ≡ place)
replies_stream log place [] are = (tt, refl)
replies_stream log place (Done number seq time ∷ rest) are = let more = replies_stream log place rest are in ((tt, more.0), more.1)
replies_stream log place (Snapped time ∷ rest) are = let more = replies_stream log place rest are in ((tt, more.0), more.1)
replies_stream log place (Refused about code kept more ∷ rest) are = let then = replies_stream log place rest are in ((tt, then.0), then.1)
replies_stream log place (Alive ∷ rest) are = let more = replies_stream log place rest are in ((tt, more.0), more.1)
replies_stream log place (Recv entry ∷ rest) are = absurd are
replies_stream log place (Tick t ∷ rest) are = absurd are
replies_stream log place (Sync joined last from base ∷ rest) are = absurd are

replies_ticks : (horizon : ℕ) (frames : List ServerFrame) → AreAnswers frames → TicksWithin horizon frames
replies_ticks horizon [] are = tt
replies_ticks horizon (Done number seq time ∷ rest) are = replies_ticks horizon rest are
replies_ticks horizon (Snapped time ∷ rest) are = replies_ticks horizon rest are
replies_ticks horizon (Refused about code kept more ∷ rest) are = replies_ticks horizon rest are
replies_ticks horizon (Alive ∷ rest) are = replies_ticks horizon rest are
replies_ticks horizon (Recv entry ∷ rest) are = absurd are
replies_ticks horizon (Tick t ∷ rest) are = absurd are
replies_ticks horizon (Sync joined last from base ∷ rest) are = absurd are

pub ticks_append : (horizon : ℕ) (frames more : List ServerFrame) → TicksWithin horizon frames → TicksWithin horizon more → TicksWithin horizon (frames ++ more)
ticks_append horizon [] more first then = then
ticks_append horizon (Tick t ∷ rest) more first then = (first.0, ticks_append horizon rest more first.1 then)
ticks_append horizon (Recv entry ∷ rest) more first then = ticks_append horizon rest more first then
ticks_append horizon (Sync joined last from base ∷ rest) more first then = ticks_append horizon rest more first then
ticks_append horizon (Done number seq time ∷ rest) more first then = ticks_append horizon rest more first then
ticks_append horizon (Snapped time ∷ rest) more first then = ticks_append horizon rest more first then
ticks_append horizon (Refused about code kept again ∷ rest) more first then = ticks_append horizon rest more first then
ticks_append horizon (Alive ∷ rest) more first then = ticks_append horizon rest more first then

pub place_after-append : (place : Place) (frames more : List ServerFrame) → place_after_all place (frames ++ more) ≡ place_after_all (place_after_all place frames) more
place_after-append place [] more = refl
place_after-append place (frame ∷ rest) more = place_after-append (place_after place frame) rest more

-- frames that go on where the others stop
pub record GoOn (s : PlainSession) (place : Place) (more : List ServerFrame) (cursor : Option Cursor) : Type 0 where
  pub streams : Streams s.log place more
  pub ticks : TicksWithin s.horizon more
  pub meets : Meets s (place_after_all place more) cursor

pub flows_put : (s : PlainSession) (place : Place) (frames more : List ServerFrame) (closed : Bool) (before after : Option Cursor) → (Meets s (place_after_all place frames) before → GoOn s (place_after_all place frames) more after) → FlowsFrom s place frames closed before → FlowsFrom s place (cond closed frames (frames ++ more)) closed after
flows_put s place frames more true before after go flows = record { streams = flows.streams; ticks = flows.ticks; meets = λ ready. absurd cc }
flows_put s place frames more false before after go flows =
    let on = go (flows.meets refl) in
    record {
      streams = Streams-append s.log place frames more flows.streams on.streams;
      ticks = ticks_append s.horizon frames more flows.ticks on.ticks;
      meets = λ ready. rw (place_after-append place frames more) on.meets;
    }

-- a connection with a cursor that sends on
waits_put : {W O : Type 0} (m : Worlds W O) (s : PlainSession) (r : PlainReplica W O) (closed over : Bool) (before : Cursor) (after : Option Cursor) (frames more : List ServerFrame)
    → ((place : Place) → Meets s place (Some before) → GoOn s place more after) → WaitsForSync m s r closed false (Some before) frames → WaitsForSync m s r closed over after (cond closed frames (frames ++ more))
waits_put m s r true over before after [] more go waits = λ ready going. absurd cc
waits_put m s r false over before after [] more go waits = absurd (let h = waits refl refl in cc)
waits_put m s r closed over before after (Refused about code kept again ∷ rest) more go waits = absurd (let h = waits.1 in cc)
waits_put m s r closed over before after (Recv entry ∷ rest) more go waits = absurd waits
waits_put m s r closed over before after (Tick t ∷ rest) more go waits = absurd waits
waits_put m s r closed over before after (Done number seq time ∷ rest) more go waits = absurd waits
waits_put m s r closed over before after (Snapped time ∷ rest) more go waits = absurd waits
waits_put m s r closed over before after (Alive ∷ rest) more go waits = absurd waits
waits_put m s r true over before after (Sync joined last from base ∷ rest) more go waits =
    awaited_flows m s r last from base rest rest true true (Some before) after waits (flows_put s _ rest more true (Some before) after (go _) waits.flows)
waits_put m s r false over before after (Sync joined last from base ∷ rest) more go waits =
    awaited_flows m s r last from base rest (rest ++ more) false false (Some before) after waits (flows_put s _ rest more false (Some before) after (go _) waits.flows)

pub sends_on : {W O : Type 0} (m : Worlds W O) (s : PlainSession) (r : PlainReplica W O) (c : Connection) (before after : Cursor) (ups : List ClientFrame) (more : List ServerFrame) (over : Bool)
    → c.over ≡ false → c.cursor ≡ Some before → ((place : Place) → Meets s place (Some before) → GoOn s place more (Some after)) → NewestStands m s r c → NewestStands m s r (over_if over (put_down (with_cursor (with_up c ups) (Some after)) more))
sends_on m s r c before after ups more over going is go joined = record {
  owned = joined.owned;
  opens = λ fresh still. absurd cc;
  waits = λ waiting. waits_put m s r c.closed (c.over || over) before (Some after) c.down more go (subst (λ (x : Option Cursor). WaitsForSync m s r c.closed false x c.down) is (subst (λ (x : Bool). WaitsForSync m s r c.closed x c.cursor c.down) going (joined.waits waiting)));
  begun = λ synced. let begun = joined.begun synced in record {
    place = begun.place;
    stands = begun.stands;
    flows = flows_put s begun.place c.down more c.closed c.cursor (Some after) (λ meets. go _ (rw is at meets)) begun.flows;
  };
}

pub replies_go_on : (s : PlainSession) (cursor : Cursor) (more : List ServerFrame) → AreAnswers more → (place : Place) → Meets s place (Some cursor) → GoOn s place more (Some cursor)
replies_go_on s cursor more are place meets = let on = replies_stream s.log place more are in record { streams = on.0; ticks = replies_ticks s.horizon more are; meets = rw on.1 meets }

-- replies that are put down on a connection with a cursor
replies_on : {W O : Type 0} (m : Worlds W O) (s : PlainSession) (r : PlainReplica W O) (c : Connection) (cursor : Cursor) (ups : List ClientFrame) (more : List ServerFrame) (over : Bool) → c.over ≡ false → c.cursor ≡ Some cursor → AreAnswers more → NewestStands m s r c
    → NewestStands m s r (over_if over (put_down (with_cursor (with_up c ups) (Some cursor)) more))
replies_on m s r c cursor ups more over going is are joined = sends_on m s r c cursor cursor ups more over going is (replies_go_on s cursor more are) joined

-- what is kept after a request is honest, if what is offered is
abbrev OffersHonest : {W O : Type 0} → Worlds W O → PlainSession → Request → Type 0
OffersHonest m s (request.Offer view joined time bytes) = IsHonest m s.log time bytes × (time ≤ s.horizon)
OffersHonest m s (request.Join view now want) = Unit {0}
OffersHonest m s (request.Send view joined number payload now) = Unit {0}
OffersHonest m s (request.Tick now) = Unit {0}
OffersHonest m s (request.Leave view joined now) = Unit {0}
OffersHonest m s (request.Pull after limit) = Unit {0}

pub kept_honest : {W O : Type 0} (m : Worlds W O) (s new : PlainSession) (asked : Request) → IsSoundSession s → IsHonestBase m s.log s.kept → OffersHonest m s asked → SessionGoesOn s asked new → IsHonestBase m new.log new.kept
kept_honest m s new (request.Offer view joined time bytes) sound kept offers on = elim on.kept [
  | inl same ↦ rw same (base_grows m s new s.kept on.grows (kept_is_based s.horizon s.kept sound.kept) kept)
  | inr fresh ↦ rw fresh (base_grows m s new (Some (record { time = time; bytes = bytes })) on.grows offers.1 offers.0)
]
kept_honest m s new (request.Join view now want) sound kept offers on = rw on.kept (base_grows m s new s.kept on.grows (kept_is_based s.horizon s.kept sound.kept) kept)
kept_honest m s new (request.Send view joined number payload now) sound kept offers on = rw on.kept (base_grows m s new s.kept on.grows (kept_is_based s.horizon s.kept sound.kept) kept)
kept_honest m s new (request.Tick now) sound kept offers on = rw on.kept (base_grows m s new s.kept on.grows (kept_is_based s.horizon s.kept sound.kept) kept)
kept_honest m s new (request.Leave view joined now) sound kept offers on = rw on.kept (base_grows m s new s.kept on.grows (kept_is_based s.horizon s.kept sound.kept) kept)
kept_honest m s new (request.Pull after limit) sound kept offers on = rw on.kept (base_grows m s new s.kept on.grows (kept_is_based s.horizon s.kept sound.kept) kept)

-- a later frame makes a request
calls_keeps_worlds : {W O : Type 0} (m : Worlds W O) (s : System W O) (number : ℕ) (c : Connection) (cursor : Cursor) (rest : List ClientFrame) (asked : Request) → WorldsStand m s → slice_get s.connections number ≡ Some c → c.over ≡ false → c.cursor ≡ Some cursor → SnapsHonest m s.session rest → OffersHonest m s.session asked → IsBounded asked
    → AreAnswers (answer_frames (answer_frame asked (answer s.session asked).reply)) → WorldsStand m (take_act s number (with_up c rest) cursor (Call asked))
calls_keeps_worlds m s number c cursor rest asked fine at going is snaps offers bound are =
    let on = session_goes_on s.session asked fine.sound bound in
    let new = (answer s.session asked).session in
    let answered = (answer s.session asked).reply in
    connection_changes m s new number c (told_connection (with_up c rest) (ask_told cursor asked answered)) fine at on.grows on.sound (kept_honest m s.session new asked fine.sound fine.kept offers on) (snaps_grow m s.session new rest on.grows snaps)
    (λ view client is_client same joined. replies_on m new client.replica c cursor rest (answer_frames (answer_frame asked answered)) (ends_connection answered) going is are
    (joined_grows m s.session new client.replica c on.grows (fine.lives view client is_client) joined))

or_false : (b : Bool) → (b || false) ≡ b
or_false true = refl
or_false false = refl

pub over_stays : (d : Connection) → over_if false d ≡ d
over_stays d = ap (λ (b : Bool). record { view = d.view; up = d.up; down = d.down; cursor = d.cursor; closed = d.closed; over = b }) (or_false d.over)

-- it is answered at once
answers_keeps_worlds : {W O : Type 0} (m : Worlds W O) (s : System W O) (number : ℕ) (c : Connection) (cursor : Cursor) (rest : List ClientFrame) (frame : ServerFrame) → WorldsStand m s → slice_get s.connections number ≡ Some c → c.over ≡ false → c.cursor ≡ Some cursor → SnapsHonest m s.session rest → AreAnswers (frame ∷ [])
    → WorldsStand m (take_act s number (with_up c rest) cursor (Answer frame))
answers_keeps_worlds m s number c cursor rest frame fine at going is snaps are =
    connection_changes m s s.session number c (told_connection (with_up c rest) (frame_told (Some cursor) frame)) fine at (Grows-same s.session) fine.sound fine.kept snaps
    (λ view client is_client same joined. replies_on m s.session client.replica c cursor rest (frame ∷ []) false going is are joined)

pub act_keeps_worlds : {W O : Type 0} (m : Worlds W O) (s : System W O) (number : ℕ) (c : Connection) (cursor : Cursor) (frame : ClientFrame) (rest : List ClientFrame) (now : ℕ) → WorldsStand m s → slice_get s.connections number ≡ Some c → c.over ≡ false → c.cursor ≡ Some cursor → cursor.view < 2 ^ 32 → SnapsHonest m s.session (frame ∷ rest) → WorldsStand m (take_act s number (with_up c rest) cursor (act_on cursor frame now))
act_keeps_worlds m s number c cursor (up.Join session view want) rest now fine at going is bound snaps = answers_keeps_worlds m s number c cursor rest second_join_frame fine at going is snaps tt
act_keeps_worlds m s number c cursor (up.Send k payload) rest now fine at going is bound snaps = calls_keeps_worlds m s number c cursor rest (request.Send cursor.view cursor.joined k payload now) fine at going is snaps tt bound (send_replies k _)
act_keeps_worlds m s number c cursor (up.Snap time bytes) rest now fine at going is bound snaps = calls_keeps_worlds m s number c cursor rest (request.Offer cursor.view cursor.joined time bytes) fine at going is snaps.1 snaps.0 bound (snap_replies time _)
act_keeps_worlds m s number c cursor up.Leave rest now fine at going is bound snaps = calls_keeps_worlds m s number c cursor rest (request.Leave cursor.view cursor.joined now) fine at going is snaps tt bound (leave_replies _)
act_keeps_worlds m s number c cursor up.Alive rest now fine at going is bound snaps = answers_keeps_worlds m s number c cursor rest Alive fine at going is snaps tt
