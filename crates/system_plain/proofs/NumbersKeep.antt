-- Each step keeps the facts of the numbers.
use Rattle.std.specs.Str.{bytes_eq}
use Rattle.std.proofs.Common.{Ok, Err, ℕ, ◌≡◌, inl, inr, Bool, true, false, cond, nat_lt, List, [], ◌∷◌, ◌++◌, Option, Some, None, is_none, map, set, slice_get, refl, sym, ◌∙◌, subst}
use Rattle.tea_base.specs.declared.entry.Entry.{Entry}
use Rattle.tea_base.specs.declared.entry.SessionId.{SessionId}
use Rattle.tea_base.specs.Readings.{last_number}
use Rattle.wire_frames.specs.declared.frame.ClientFrame.{ClientFrame}
use Rattle.wire_frames.specs.declared.frame.ClientFrame.TheVariants as up
use Rattle.wire_frames.specs.declared.frame.ServerFrame.{ServerFrame}
use Rattle.wire_frames.specs.declared.frame.ServerFrame.TheVariants.{Alive, Recv}
use Rattle.wire_frames.specs.declared.start.Want.{Want}
use Rattle.wire_frames.specs.declared.tags.TheConstants.{JOIN_TAG}
use Rattle.reflector_core.specs.declared.request.Reply.{Reply}
use Rattle.reflector_core.specs.declared.request.Reply.TheVariants as reply
use Rattle.reflector_core.specs.declared.request.Request.TheVariants as request
use Rattle.reflector_core.specs.Answer.{answer, join, joins, send_event, tick}
use Rattle.reflector_core.specs.PlainSession.{PlainSession}
use Rattle.replica_plain.specs.Worlds.{Worlds}
use Rattle.join_sync.specs.declared.cursor.Cursor.{Cursor}
use Rattle.join_sync.specs.declared.early.Early.{Early}
use Rattle.join_sync.specs.declared.early.Early.TheVariants.{NotJoined, OtherSession}
use Rattle.join_sync.specs.Answers.{answer_frame, first_cursor, join_answer}
use Rattle.join_sync.specs.Batches.{newer_tick, next_cursor, next_frames, tick_frames}
use Rattle.join_sync.specs.Refusals.{early_frame, second_join_frame}
use Rattle.join_sync.specs.Requests.{act_on, first_request}
use Rattle.system_plain.specs.Schedule.{ViewPayloads}
use Rattle.system_plain.specs.Steps.{after_joined, after_leave, after_next, pull_on, take_on, with_both}
use Rattle.system_plain.specs.System.{Connection, System, over_if, put_down, with_cursor, with_up}
use Rattle.system_plain.specs.Turn.{answer_frames, ends_connection, pull_request}
use Rattle.system_plain.proofs.Events.{join_same, leave_same, offer_same}
use Rattle.system_plain.proofs.Facts.{CursorMeant, JoinsMeant}
use Rattle.system_plain.proofs.Lookups.{get_set}
use Rattle.system_plain.proofs.Numbers.{ConnectionNumbers, DonesWithin, KeepsCounts, NumbersStand, SendsMeant, box_later, dones_of_answer, dones_of_leave, dones_of_refusal, dones_of_snap, dones_put, link_later, same_counts, send_counts}
use Rattle.system_plain.proofs.Turns.{both_if, next_same, rests, take_act, take_first, take_frame}

-- the session goes on and a connection changes
link_changes : {W O : Type 0} (published : ViewPayloads) (s : System W O) (new : PlainSession) (number : ℕ) (changed : Connection) → NumbersStand published s → KeepsCounts published s.session new → ConnectionNumbers published new changed → NumbersStand published (record { session = new; clients = s.clients; connections = set s.connections number changed })
link_changes published s new number changed numbered counts link = record {
  prefixes = counts.prefixes;
  links = λ k c at. elim (get_set s.connections number k changed c at) [
    | inl hit ↦ subst (ConnectionNumbers published new) (sym hit.1) link
    | inr miss ↦ link_later published s.session new c counts (numbered.links k c miss.1)
  ];
  boxes = λ view client is. box_later published s.session new client.replica counts (numbered.boxes view client is);
  unknown = numbered.unknown;
}

session_counts : {W O : Type 0} (published : ViewPayloads) (s : System W O) (new : PlainSession) → NumbersStand published s → KeepsCounts published s.session new → NumbersStand published (record { session = new; clients = s.clients; connections = s.connections })
session_counts published s new numbered counts = record {
  prefixes = counts.prefixes;
  links = λ k c at. link_later published s.session new c counts (numbered.links k c at);
  boxes = λ view client is. box_later published s.session new client.replica counts (numbered.boxes view client is);
  unknown = numbered.unknown;
}

-- frames put down that hold no DONE but of Events of the log
link_put : (published : ViewPayloads) (s new : PlainSession) (c : Connection) (ups : List ClientFrame) (cursor : Option Cursor) (more : List ServerFrame) (over : Bool) → KeepsCounts published s new → ConnectionNumbers published s c → SendsMeant (published c.view) ups → JoinsMeant c.view ups → CursorMeant c.view cursor → DonesWithin (last_number new.log c.view) more → ConnectionNumbers published new (over_if over (put_down (with_cursor (with_up c ups) cursor) more))
link_put published s new c ups cursor more over counts link sends joins meant dones = record {
  bound = link.bound;
  sends = sends;
  joins = joins;
  cursor = meant;
  dones = dones_put (last_number new.log c.view) c.closed c.down more (link_later published s new c counts link).dones dones;
}

put_keeps : {W O : Type 0} (published : ViewPayloads) (s : System W O) (new : PlainSession) (number : ℕ) (c : Connection) (ups : List ClientFrame) (cursor : Option Cursor) (more : List ServerFrame) (over : Bool) → NumbersStand published s → slice_get s.connections number ≡ Some c → KeepsCounts published s.session new → SendsMeant (published c.view) ups → JoinsMeant c.view ups → CursorMeant c.view cursor → DonesWithin (last_number new.log c.view) more
    → NumbersStand published (record { session = new; clients = s.clients; connections = set s.connections number (over_if over (put_down (with_cursor (with_up c ups) cursor) more)) })
put_keeps published s new number c ups cursor more over numbered at counts sends joins meant dones =
    link_changes published s new number (over_if over (put_down (with_cursor (with_up c ups) cursor) more)) numbered counts (link_put published s.session new c ups cursor more over counts (numbered.links number c at) sends joins meant dones)

at_once_keeps_numbers : {W O : Type 0} (published : ViewPayloads) (s : System W O) (number : ℕ) (c : Connection) (cursor : Option Cursor) (frame : ServerFrame) (rest : List ClientFrame) (over : Bool) → NumbersStand published s → slice_get s.connections number ≡ Some c → SendsMeant (published c.view) rest → JoinsMeant c.view rest → CursorMeant c.view cursor → ((bound : ℕ) → DonesWithin bound (frame ∷ []))
    → NumbersStand published (with_both s number (s.session, over_if over (put_down (with_cursor (with_up c rest) cursor) (frame ∷ []))))
at_once_keeps_numbers published s number c cursor frame rest over numbered at sends joins meant dones =
    put_keeps published s s.session number c rest cursor (frame ∷ []) over numbered at (same_counts published s.session s.session (λ v. refl) numbered.prefixes) sends joins meant (dones _)

early_keeps_numbers : {W O : Type 0} (published : ViewPayloads) (s : System W O) (number : ℕ) (c : Connection) (frame : ClientFrame) (rest : List ClientFrame) (early : Early) → NumbersStand published s → slice_get s.connections number ≡ Some c → SendsMeant (published c.view) rest → JoinsMeant c.view rest → NumbersStand published (take_first s number (with_up c rest) frame (Err early))
early_keeps_numbers published s number c frame rest early numbered at sends joins = at_once_keeps_numbers published s number c None (early_frame early frame) rest true numbered at sends joins tt (λ bound. tt)

-- a later frame
act_keeps_numbers : {W O : Type 0} (published : ViewPayloads) (s : System W O) (number : ℕ) (c : Connection) (cursor : Cursor) (frame : ClientFrame) (rest : List ClientFrame) (now : ℕ) → NumbersStand published s → slice_get s.connections number ≡ Some c → cursor.view ≡ c.view → SendsMeant (published c.view) (frame ∷ rest) → JoinsMeant c.view (frame ∷ rest) → NumbersStand published (take_act s number (with_up c rest) cursor (act_on cursor frame now))
act_keeps_numbers published s number c cursor (up.Send k payload) rest now numbered at named sends joins =
    let asked = request.Send cursor.view cursor.joined k payload now in
    let o = send_event s.session cursor.view cursor.joined k payload now in
    let counts = send_counts published s.session cursor.view cursor.joined k payload now numbered.prefixes (rw named sends.0) in
    put_keeps published s o.session number c rest (Some cursor) (answer_frames (answer_frame asked o.reply)) (ends_connection o.reply) numbered at counts.counts sends.1 joins named
    (subst (λ (v : ℕ). DonesWithin (last_number o.session.log v) (answer_frames (answer_frame asked o.reply))) named (dones_of_answer (last_number o.session.log cursor.view) cursor.view cursor.joined k payload now o.reply counts.done))
act_keeps_numbers published s number c cursor (up.Snap time bytes) rest now numbered at named sends joins =
    let asked = request.Offer cursor.view cursor.joined time bytes in
    let o = answer s.session asked in
    put_keeps published s o.session number c rest (Some cursor) (answer_frames (answer_frame asked o.reply)) (ends_connection o.reply) numbered at (same_counts published s.session o.session (offer_same s.session cursor.view cursor.joined time bytes) numbered.prefixes) sends joins named (dones_of_snap _ time o.reply)
act_keeps_numbers published s number c cursor up.Leave rest now numbered at named sends joins =
    let asked = request.Leave cursor.view cursor.joined now in
    let o = answer s.session asked in
    put_keeps published s o.session number c rest (Some cursor) (answer_frames (answer_frame asked o.reply)) (ends_connection o.reply) numbered at (same_counts published s.session o.session (leave_same s.session cursor.view cursor.joined now) numbered.prefixes) sends joins named (dones_of_leave _ o.reply)
act_keeps_numbers published s number c cursor (up.Join session view want) rest now numbered at named sends joins = at_once_keeps_numbers published s number c (Some cursor) second_join_frame rest false numbered at sends joins.1 named (λ bound. tt)
act_keeps_numbers published s number c cursor up.Alive rest now numbered at named sends joins = at_once_keeps_numbers published s number c (Some cursor) Alive rest false numbered at sends joins named (λ bound. tt)

-- the first frame
dones_of_join : (bound : ℕ) (answered : Reply) → DonesWithin bound (answer_frames (join_answer answered))
dones_of_join bound (reply.Joined seq time last from base) = tt
dones_of_join bound (reply.Refused why) = dones_of_refusal bound JOIN_TAG why
dones_of_join bound (reply.Stamped seq time) = tt
dones_of_join bound (reply.Again seq time) = tt
dones_of_join bound (reply.Ticked time) = tt
dones_of_join bound (reply.Left seq time) = tt
dones_of_join bound reply.Kept = tt
dones_of_join bound (reply.Batch entries tick) = tt

cursor_of_join : (view : ℕ) (answered : Reply) → CursorMeant view (first_cursor view answered)
cursor_of_join view (reply.Joined seq time last from base) = refl
cursor_of_join view (reply.Refused why) = tt
cursor_of_join view (reply.Stamped seq time) = tt
cursor_of_join view (reply.Again seq time) = tt
cursor_of_join view (reply.Ticked time) = tt
cursor_of_join view (reply.Left seq time) = tt
cursor_of_join view reply.Kept = tt
cursor_of_join view (reply.Batch entries tick) = tt

join_keeps_numbers_if : {W O : Type 0} (published : ViewPayloads) (s : System W O) (number : ℕ) (c : Connection) (session : SessionId) (view : ℕ) (want : Want) (rest : List ClientFrame) (now : ℕ) (own : Bool) → NumbersStand published s → slice_get s.connections number ≡ Some c → SendsMeant (published c.view) rest → view ≡ c.view → JoinsMeant c.view rest
    → NumbersStand published (take_first s number (with_up c rest) (up.Join session view want) (cond own (Ok (request.Join view now want)) (Err OtherSession)))
join_keeps_numbers_if published s number c session view want rest now false numbered at sends named joins = early_keeps_numbers published s number c (up.Join session view want) rest OtherSession numbered at sends joins
join_keeps_numbers_if published s number c session view want rest now true numbered at sends named joins =
    let o = join s.session view now want in
    let cursor = first_cursor view o.reply in
    put_keeps published s o.session number c rest cursor (answer_frames (join_answer o.reply)) (is_none cursor) numbered at (same_counts published s.session o.session (join_same s.session view now want) numbered.prefixes) sends joins (subst (λ (v : ℕ). CursorMeant v cursor) named (cursor_of_join view o.reply)) (dones_of_join _ o.reply)

first_keeps_numbers : {W O : Type 0} (m : Worlds W O) (published : ViewPayloads) (s : System W O) (number : ℕ) (c : Connection) (frame : ClientFrame) (rest : List ClientFrame) (now : ℕ) → NumbersStand published s → slice_get s.connections number ≡ Some c → SendsMeant (published c.view) (frame ∷ rest) → JoinsMeant c.view (frame ∷ rest)
    → NumbersStand published (take_first s number (with_up c rest) frame (first_request frame (record { 0 = m.session }) now))
first_keeps_numbers m published s number c (up.Join session view want) rest now numbered at sends joins = join_keeps_numbers_if published s number c session view want rest now (bytes_eq session.0 m.session) numbered at sends joins.0 joins.1
first_keeps_numbers m published s number c (up.Send k payload) rest now numbered at sends joins = early_keeps_numbers published s number c (up.Send k payload) rest NotJoined numbered at sends.1 joins
first_keeps_numbers m published s number c (up.Snap time bytes) rest now numbered at sends joins = early_keeps_numbers published s number c (up.Snap time bytes) rest NotJoined numbered at sends joins
first_keeps_numbers m published s number c up.Leave rest now numbered at sends joins = early_keeps_numbers published s number c up.Leave rest NotJoined numbered at sends joins
first_keeps_numbers m published s number c up.Alive rest now numbered at sends joins = early_keeps_numbers published s number c up.Alive rest NotJoined numbered at sends joins

frame_keeps_numbers : {W O : Type 0} (m : Worlds W O) (published : ViewPayloads) (s : System W O) (number : ℕ) (c : Connection) (cursor : Option Cursor) (frame : ClientFrame) (rest : List ClientFrame) (now : ℕ) → NumbersStand published s → slice_get s.connections number ≡ Some c → CursorMeant c.view cursor → SendsMeant (published c.view) (frame ∷ rest) → JoinsMeant c.view (frame ∷ rest)
    → NumbersStand published (take_frame m s number (with_up c rest) cursor frame now)
frame_keeps_numbers m published s number c None frame rest now numbered at named sends joins = first_keeps_numbers m published s number c frame rest now numbered at sends joins
frame_keeps_numbers m published s number c (Some cursor) frame rest now numbered at named sends joins = act_keeps_numbers published s number c cursor frame rest now numbered at named sends joins

pub numbered_if : {W O : Type 0} (published : ViewPayloads) (test : Bool) (a b : System W O) → NumbersStand published a → NumbersStand published b → NumbersStand published (cond test a b)
numbered_if published true a b held fell = held
numbered_if published false a b held fell = fell

leave_keeps_numbers : {W O : Type 0} (published : ViewPayloads) (s : System W O) (number : ℕ) (c : Connection) (cursor : Option Cursor) (now : ℕ) → NumbersStand published s → slice_get s.connections number ≡ Some c → NumbersStand published (with_both s number (after_leave s.session c cursor now))
leave_keeps_numbers published s number c None now numbered at = rests (NumbersStand published) s number c at numbered
leave_keeps_numbers published s number c (Some cursor) now numbered at =
    let new = (answer s.session (request.Leave cursor.view cursor.joined now)).session in
    let counts = same_counts published s.session new (leave_same s.session cursor.view cursor.joined now) numbered.prefixes in
    let link = link_later published s.session new c counts (numbered.links number c at) in
    both_if (NumbersStand published) s number c.closed (new, over_if true c) (s.session, c)
    (λ closed. link_changes published s new number (over_if true c) numbered counts (record { bound = link.bound; sends = link.sends; joins = link.joins; cursor = link.cursor; dones = link.dones }))
    (λ stays. rests (NumbersStand published) s number c at numbered)

next_keeps_numbers : {W O : Type 0} (m : Worlds W O) (published : ViewPayloads) (s : System W O) (number : ℕ) (c : Connection) (ups : List ClientFrame) (now : ℕ) → NumbersStand published s → slice_get s.connections number ≡ Some c → c.up ≡ ups → NumbersStand published (with_both s number (after_next (record { 0 = m.session }) s.session c ups now))
next_keeps_numbers m published s number c [] now numbered at is = leave_keeps_numbers published s number c c.cursor now numbered at
next_keeps_numbers m published s number c (frame ∷ rest) now numbered at is =
    let link = numbered.links number c at in
    frame_keeps_numbers m published s number c c.cursor frame rest now numbered at link.cursor (subst (SendsMeant (published c.view)) is link.sends) (subst (JoinsMeant c.view) is link.joins)

pub take_keeps_numbers : {W O : Type 0} (m : Worlds W O) (published : ViewPayloads) (s : System W O) (number : ℕ) (found : Option Connection) (now : ℕ) → NumbersStand published s → slice_get s.connections number ≡ found → NumbersStand published (take_on m s number found now)
take_keeps_numbers m published s number None now numbered at = numbered
take_keeps_numbers m published s number (Some c) now numbered at =
    both_if (NumbersStand published) s number c.over (s.session, c) (after_next (record { 0 = m.session }) s.session c c.up now) (λ over. rests (NumbersStand published) s number c at numbered) (λ going. next_keeps_numbers m published s number c c.up now numbered at refl)

-- Tick and Pull
pub tick_keeps_numbers : {W O : Type 0} (published : ViewPayloads) (s : System W O) (now : ℕ) → NumbersStand published s → NumbersStand published (record s { session = (answer s.session (request.Tick now)).session })
tick_keeps_numbers published s now numbered = session_counts published s (answer s.session (request.Tick now)).session numbered (same_counts published s.session (answer s.session (request.Tick now)).session (λ v. refl) numbered.prefixes)

dones_of_recvs : (bound last : ℕ) (entries : List Entry) (tick : Option ℕ) → DonesWithin bound (map (λ (e : Entry). Recv e) entries ++ tick_frames (newer_tick last tick))
dones_of_recvs bound last (entry ∷ rest) tick = dones_of_recvs bound last rest tick
dones_of_recvs bound last [] None = tt
dones_of_recvs bound last [] (Some t) = tick_dones (nat_lt last t)
  where
    tick_dones : (test : Bool) → DonesWithin bound (tick_frames (cond test (Some t) None))
    tick_dones true = tt
    tick_dones false = tt

dones_of_batch : (bound : ℕ) (cursor : Cursor) (answered : Reply) → DonesWithin bound (next_frames cursor answered)
dones_of_batch bound cursor (reply.Batch entries tick) = dones_of_recvs bound cursor.last_tick entries tick
dones_of_batch bound cursor (reply.Joined seq time last from base) = tt
dones_of_batch bound cursor (reply.Stamped seq time) = tt
dones_of_batch bound cursor (reply.Again seq time) = tt
dones_of_batch bound cursor (reply.Ticked time) = tt
dones_of_batch bound cursor (reply.Left seq time) = tt
dones_of_batch bound cursor reply.Kept = tt
dones_of_batch bound cursor (reply.Refused why) = tt

joined_keeps_numbers : {W O : Type 0} (published : ViewPayloads) (s : System W O) (number : ℕ) (c : Connection) (cursor : Option Cursor) → NumbersStand published s → slice_get s.connections number ≡ Some c → CursorMeant c.view cursor → NumbersStand published (with_both s number (after_joined s.session c cursor))
joined_keeps_numbers published s number c None numbered at named = rests (NumbersStand published) s number c at numbered
joined_keeps_numbers published s number c (Some cursor) numbered at named =
    let answered = (answer s.session (pull_request cursor)).reply in
    let link = numbered.links number c at in
    put_keeps published s s.session number c c.up (Some (next_cursor cursor answered)) (next_frames cursor answered) false numbered at (same_counts published s.session s.session (λ v. refl) numbered.prefixes) link.sends link.joins ((next_same cursor answered).view ∙ named) (dones_of_batch _ cursor answered)

pub pull_keeps_numbers : {W O : Type 0} (published : ViewPayloads) (s : System W O) (number : ℕ) (found : Option Connection) → NumbersStand published s → slice_get s.connections number ≡ found → NumbersStand published (pull_on s number found)
pull_keeps_numbers published s number None numbered at = numbered
pull_keeps_numbers published s number (Some c) numbered at =
    both_if (NumbersStand published) s number c.over (s.session, c) (after_joined s.session c c.cursor) (λ over. rests (NumbersStand published) s number c at numbered) (λ going. joined_keeps_numbers published s number c c.cursor numbered at (numbered.links number c at).cursor)
