-- Take, Tick and Pull keep the order of SENDs and DONEs.
use Rattle.std.specs.Str.{bytes_eq}
use Rattle.std.proofs.Common.{Ok, Err, ℕ, ◌+◌, ◌-◌, ◌≡◌, ◌≤◌, ◌<◌, inl, inr, Bool, true, false, cond, eqb, not, nat_lt, nat_le, ◌&&◌, List, [], ◌∷◌, ◌++◌, Option, Some, None, is_none, length, length-append, map, set, slice_get, refl, arith, sym, ap, ◌∙◌, subst}
use Rattle.tea_base.specs.declared.entry.Entry.{Entry}
use Rattle.tea_base.specs.declared.entry.SessionId.{SessionId}
use Rattle.tea_base.specs.declared.entry.What.TheVariants as what
use Rattle.tea_base.specs.Limits.{end_of_time, most_here, most_snapshot}
use Rattle.tea_base.specs.Readings.{here_count, is_here, last_number}
use Rattle.session_log.specs.LogState.{next_entry}
use Rattle.wire_frames.specs.declared.frame.ClientFrame.{ClientFrame}
use Rattle.wire_frames.specs.declared.frame.ClientFrame.TheVariants as up
use Rattle.wire_frames.specs.declared.frame.ServerFrame.{ServerFrame}
use Rattle.wire_frames.specs.declared.frame.ServerFrame.TheVariants.{Alive, Done, Recv, Refused, Snapped, Sync, Tick}
use Rattle.wire_frames.specs.declared.start.Want.{Want}
use Rattle.wire_frames.specs.declared.tags.TheConstants.{JOIN_TAG}
use Rattle.reflector_core.specs.declared.request.Refusal.{Refusal}
use Rattle.reflector_core.specs.declared.request.Reply.{Reply}
use Rattle.reflector_core.specs.declared.request.Reply.TheVariants as reply
use Rattle.reflector_core.specs.declared.request.Request.TheVariants as request
use Rattle.reflector_core.specs.Answer.{SessionOutcome, answer, is_ahead, is_closed, is_older, is_stale, join, offer, send_event, stamp, tick}
use Rattle.reflector_core.specs.PlainSession.{PlainSession}
use Rattle.replica_plain.specs.PlainReplica.{PlainReplica}
use Rattle.replica_plain.specs.Worlds.{Worlds}
use Rattle.join_sync.specs.declared.act.Act.TheVariants.{Answer}
use Rattle.join_sync.specs.declared.cursor.Cursor.{Cursor}
use Rattle.join_sync.specs.declared.early.Early.{Early}
use Rattle.join_sync.specs.declared.early.Early.TheVariants.{NotJoined, OtherSession}
use Rattle.join_sync.specs.Answers.{answer_frame, first_cursor, join_answer, leave_answer, snap_answer}
use Rattle.join_sync.specs.Batches.{newer_tick, next_cursor, next_frames, tick_frames}
use Rattle.join_sync.specs.Refusals.{early_frame, refused_frame, second_join_frame}
use Rattle.join_sync.specs.Requests.{act_on, first_request}
use Rattle.system_plain.specs.Schedule.{ViewPayloads}
use Rattle.system_plain.specs.Steps.{after_joined, after_leave, after_next, pull_on, take_on, with_both}
use Rattle.system_plain.specs.System.{Client, Connection, System, over_if, put_down, view_client, with_cursor, with_up}
use Rattle.system_plain.specs.Turn.{answer_frames, ends_connection, pull_request}
use Rattle.system_plain.proofs.AnswerFrames.{of_leave_answer, of_refusal, of_snap_answer}
use Rattle.system_plain.proofs.Events.{SameEvents, exit_entry_same, join_entry_same, leave_same, offer_same}
use Rattle.system_plain.proofs.Facts.{WorldsStand}
use Rattle.system_plain.proofs.Numbers.{DonesWithin, NumbersStand, SendsMeant}
use Rattle.system_plain.proofs.Order.{IsStale, NoDones, NoSends, OrderStands, RunsInOrder, Sending, SessionMoves, join_moves, leave_moves, moves_if, moves_same, same_numbers, send_moves}
use Rattle.system_plain.proofs.OrderQuiet.{waiting_runs}
use Rattle.system_plain.proofs.OrderTake.{Answered, dones_if, none_append, none_rises, order_changes, runs_answered, send_in_order, sending_put}
use Rattle.system_plain.proofs.Pace.{DonesRise, SendsAbove, SendsRise, dones_end, sends_end}
use Rattle.system_plain.proofs.Takes.{over_stays}
use Rattle.system_plain.proofs.Turns.{NextSame, as_told, both_if, next_same, rests, take_act, take_first, take_frame}

-- frames with no DONE
refusal_none : (asked : ℕ) (why : Refusal) → NoDones (refused_frame asked why ∷ [])
refusal_none asked why = of_refusal NoDones (λ about code kept more. tt) asked why

snap_none : (time : ℕ) (answered : Reply) → NoDones (answer_frames (snap_answer time answered))
snap_none time answered = of_snap_answer NoDones tt (λ at. tt) (λ about code kept more. tt) time answered

leave_none : (answered : Reply) → NoDones (answer_frames (leave_answer answered))
leave_none answered = of_leave_answer NoDones tt (λ about code kept more. tt) answered

join_none : (answered : Reply) → NoDones (answer_frames (join_answer answered))
join_none (reply.Joined seq time last from base) = tt
join_none (reply.Refused why) = refusal_none JOIN_TAG why
join_none (reply.Stamped seq time) = tt
join_none (reply.Again seq time) = tt
join_none (reply.Ticked time) = tt
join_none (reply.Left seq time) = tt
join_none reply.Kept = tt
join_none (reply.Batch entries tick) = tt

none_put : (closed : Bool) (down frames : List ServerFrame) → NoDones down → NoDones frames → NoDones (cond closed down (down ++ frames))
none_put true down frames first then = first
none_put false down frames first then = none_append down frames first then

-- what goes up without its first frame, which is no SEND
record DropsNoSend (before rest : List ClientFrame) : Type 0 where
  pub rise : (k : ℕ) → SendsRise k before → SendsRise k rest
  pub end : (k : ℕ) → sends_end k before ≡ sends_end k rest
  pub above : (k : ℕ) → SendsAbove k before → SendsAbove k rest
  pub none : NoSends before → NoSends rest

sending_leaves : (log : List Entry) (view first given : ℕ) (before rest : List ClientFrame) (cursor : Option Cursor) → DropsNoSend before rest → Sending log view first given before cursor → Sending log view first given rest cursor
sending_leaves log view first given before rest cursor leaves sending = elim sending [
  | inl flowing ↦ inl (record { rise = leaves.rise first flowing.rise; whole = sym (leaves.end first) ∙ flowing.whole })
  | inr others ↦ elim others [
    | inl blocked ↦ inr (inl (record { number = blocked.number; missing = blocked.missing; above = leaves.above blocked.number blocked.above; within = blocked.within }))
    | inr stale ↦ inr (inr stale)
  ]
]

-- a request of the connection's own that is no Send
own_stale : (s new : PlainSession) (cursor : Option Cursor) → SessionMoves s new cursor → ((b : Cursor) → cursor ≡ Some b → b.joined ≤ length s.log) → IsStale s.log cursor → IsStale new.log cursor
own_stale s new None moves within stale = tt
own_stale s new (Some b) moves within stale = moves.stale b.view b.joined (within b refl) stale

sending_own : (s new : PlainSession) (view first given : ℕ) (ups : List ClientFrame) (cursor : Option Cursor) → SameEvents s new → SessionMoves s new cursor → ((b : Cursor) → cursor ≡ Some b → b.joined ≤ length s.log) → Sending s.log view first given ups cursor → Sending new.log view first given ups cursor
sending_own s new view first given ups cursor same moves within sending = elim sending [
  | inl flowing ↦ inl flowing
  | inr others ↦ elim others [
    | inl blocked ↦ let same_count = same_numbers s new same view in inr (inl (record { number = blocked.number; missing = let h = blocked.missing in omega arith; above = blocked.above; within = blocked.within }))
    | inr stale ↦ inr (inr (own_stale s new cursor moves within stale))
  ]
]

-- a frame that is answered with no DONE
plain_runs : {W O : Type 0} (s new : PlainSession) (r : PlainReplica W O) (c : Connection) (before rest : List ClientFrame) (frames : List ServerFrame) (over : Bool) → c.over ≡ false → c.up ≡ before → DropsNoSend before rest → NoDones frames → SameEvents s new → SessionMoves s new c.cursor → ((b : Cursor) → c.cursor ≡ Some b → b.joined ≤ length s.log) → RunsInOrder s.log r c
    → RunsInOrder new.log r (over_if over (put_down (with_up c rest) frames))
plain_runs s new r c before rest frames over going ups leaves none same moves within runs =
    runs_answered new.log s.log r c rest frames over going runs
    (λ waiting. (leaves.none (subst NoSends ups (runs.none_up waiting)), none))
    (λ synced ready. inr (
      none,
      sending_own s new r.view _ r.given rest c.cursor same moves within (sending_leaves s.log r.view _ r.given before rest c.cursor leaves
          (subst (λ (u : List ClientFrame). Sending s.log r.view (dones_end r.acknowledged c.down) r.given u c.cursor) ups (runs.sends synced ready going))),
    ))

plain_changes : {W O : Type 0} (m : Worlds W O) (published : ViewPayloads) (s : System W O) (new : PlainSession) (number : ℕ) (c : Connection) (before rest : List ClientFrame) (frames : List ServerFrame) (over : Bool) → WorldsStand m s → NumbersStand published s → OrderStands published s → slice_get s.connections number ≡ Some c → c.over ≡ false → c.up ≡ before → DropsNoSend before rest → NoDones frames → SameEvents s.session new → SessionMoves s.session new c.cursor
    → OrderStands published (record { session = new; clients = s.clients; connections = set s.connections number (over_if over (put_down (with_up c rest) frames)) })
plain_changes m published s new number c before rest frames over fine numbered ordered at going ups leaves none same moves =
    order_changes m published s new number c (over_if over (put_down (with_up c rest) frames)) fine numbered ordered at moves (λ cursor is. inl (cursor, is, refl))
    (λ view client is_client newest runs. plain_runs s.session new client.replica c before rest frames over going ups leaves none same moves (λ b is. ordered.within number c b at is) runs)

at_once_order : {W O : Type 0} (m : Worlds W O) (published : ViewPayloads) (s : System W O) (number : ℕ) (c : Connection) (cursor : Cursor) (before rest : List ClientFrame) (frame : ServerFrame) → WorldsStand m s → NumbersStand published s → OrderStands published s → slice_get s.connections number ≡ Some c → c.over ≡ false → c.cursor ≡ Some cursor → c.up ≡ before → DropsNoSend before rest → NoDones (frame ∷ [])
    → OrderStands published (take_act s number (with_up c rest) cursor (Answer frame))
at_once_order m published s number c cursor before rest frame fine numbered ordered at going is ups leaves none =
    as_told (OrderStands published) s number s.session (with_up c rest) (Some cursor) (frame ∷ []) false is
    (plain_changes m published s s.session number c before rest (frame ∷ []) false fine numbered ordered at going ups leaves none (λ v. refl) (moves_same s.session c.cursor))

offer_moves : (s : PlainSession) (actor : Option Cursor) (view joined time : ℕ) (bytes : List ℕ) → SessionMoves s (offer s view joined time bytes).session actor
offer_moves s actor view joined time bytes =
    let stay = moves_same s actor in
    moves_if s actor (is_stale s.log view joined) _ _ (λ h. stay) λ a.
    moves_if s actor (nat_lt most_snapshot (length bytes)) _ _ (λ h. stay) λ b.
    moves_if s actor (nat_lt s.horizon time) _ _ (λ h. stay) λ c.
    moves_if s actor (is_older time s.kept) _ _ (λ h. stay) λ d. record { longer = omega arith; stale = λ v j le stale. stale; events = λ v. inl refl }

-- a SEND is taken
dones_end_within : (k bound : ℕ) (frames : List ServerFrame) → k ≤ bound → DonesRise k frames → DonesWithin bound frames → dones_end k frames ≤ bound
dones_end_within k bound [] le rise within = le
dones_end_within k bound (Done number seq time ∷ rest) le rise within = dones_end_within (k + 1) bound rest (omega (arith, rise.0, within.0)) rise.1 within.1
dones_end_within k bound (Recv entry ∷ rest) le rise within = dones_end_within k bound rest le rise within
dones_end_within k bound (Tick t ∷ rest) le rise within = dones_end_within k bound rest le rise within
dones_end_within k bound (Sync joined last from base ∷ rest) le rise within = dones_end_within k bound rest le rise within
dones_end_within k bound (Snapped time ∷ rest) le rise within = dones_end_within k bound rest le rise within
dones_end_within k bound (Refused about code kept more ∷ rest) le rise within = dones_end_within k bound rest le rise within
dones_end_within k bound (Alive ∷ rest) le rise within = dones_end_within k bound rest le rise within

send_keeps_order : {W O : Type 0} (m : Worlds W O) (published : ViewPayloads) (s : System W O) (number : ℕ) (c : Connection) (cursor : Cursor) (k : ℕ) (payload : List ℕ) (rest : List ClientFrame) (now : ℕ) → WorldsStand m s → NumbersStand published s → OrderStands published s → slice_get s.connections number ≡ Some c → c.over ≡ false → c.cursor ≡ Some cursor → cursor.view ≡ c.view → c.up ≡ up.Send k payload ∷ rest
    → OrderStands published (take_act s number (with_up c rest) cursor (act_on cursor (up.Send k payload) now))
send_keeps_order m published s number c cursor k payload rest now fine numbered ordered at going is named ups =
    let asked = request.Send cursor.view cursor.joined k payload now in
    let o = send_event s.session cursor.view cursor.joined k payload now in
    let frames = answer_frames (answer_frame asked o.reply) in
    let link = numbered.links number c at in
    let meant : (0 < k) × (slice_get (published cursor.view) (k - 1) ≡ Some payload) = rw named (subst (SendsMeant (published c.view)) ups link.sends).0 in
    let short = ordered.short cursor.view (k - 1) payload meant.1 in
    as_told (OrderStands published) s number o.session (with_up c rest) (Some cursor) frames (ends_connection o.reply) is
    (order_changes m published s o.session number c (over_if (ends_connection o.reply) (put_down (with_up c rest) frames)) fine numbered ordered at
    (subst (SessionMoves s.session o.session) (sym is) (send_moves s.session cursor k payload now)) (λ b is_b. inl (b, is_b, refl))
    (λ view client is_client newest runs.
    let r = client.replica in
    let owned : c.view ≡ r.view = (fine.joined view client c is_client (subst (λ (j : ℕ). slice_get s.connections j ≡ Some c) (sym newest) at)).owned in
    let own : cursor.view ≡ r.view = named ∙ owned in
    let first = dones_end r.acknowledged c.down in
    let acked : r.acknowledged ≤ last_number s.session.log r.view = (numbered.boxes view client is_client).acked in
    let within : DonesWithin (last_number s.session.log r.view) c.down = subst (λ (v : ℕ). DonesWithin (last_number s.session.log v) c.down) owned link.dones in
    runs_answered o.session.log s.session.log r c rest frames (ends_connection o.reply) going runs
    (λ waiting. absurd (subst NoSends ups (runs.none_up waiting)))
    (λ synced ready.
    let sending = subst (λ (u : List ClientFrame). Sending s.session.log r.view first r.given u c.cursor) ups (runs.sends synced ready going) in
    let bound : first ≤ last_number s.session.log r.view = dones_end_within r.acknowledged (last_number s.session.log r.view) c.down acked (runs.dones synced) within in
    subst (λ (x : Option Cursor). Answered o.session.log r.view first r.given rest x frames) (sym is)
    (subst (λ (v : ℕ). Answered o.session.log v first r.given rest (Some cursor) frames) own
    (send_in_order published s.session cursor first r.given k payload rest now numbered.prefixes short meant (rw own bound) (ordered.within number c cursor at is)
    (subst (λ (v : ℕ). Sending s.session.log v first r.given (up.Send k payload ∷ rest) (Some cursor)) (sym own) (subst (λ (x : Option Cursor). Sending s.session.log r.view first r.given (up.Send k payload ∷ rest) x) is sending)))))))

-- a later frame
act_keeps_order : {W O : Type 0} (m : Worlds W O) (published : ViewPayloads) (s : System W O) (number : ℕ) (c : Connection) (cursor : Cursor) (frame : ClientFrame) (rest : List ClientFrame) (now : ℕ) → WorldsStand m s → NumbersStand published s → OrderStands published s → slice_get s.connections number ≡ Some c → c.over ≡ false → c.cursor ≡ Some cursor → cursor.view ≡ c.view → c.up ≡ frame ∷ rest
    → OrderStands published (take_act s number (with_up c rest) cursor (act_on cursor frame now))
act_keeps_order m published s number c cursor (up.Send k payload) rest now fine numbered ordered at going is named ups = send_keeps_order m published s number c cursor k payload rest now fine numbered ordered at going is named ups
act_keeps_order m published s number c cursor (up.Snap time bytes) rest now fine numbered ordered at going is named ups =
    let asked = request.Offer cursor.view cursor.joined time bytes in
    let o = answer s.session asked in
    as_told (OrderStands published) s number o.session (with_up c rest) (Some cursor) (answer_frames (answer_frame asked o.reply)) (ends_connection o.reply) is
    (plain_changes m published s o.session number c (up.Snap time bytes ∷ rest) rest (answer_frames (answer_frame asked o.reply)) (ends_connection o.reply) fine numbered ordered at going ups (record { rise = λ k h. h; end = λ k. refl; above = λ k h. h; none = λ h. h })
    (snap_none time o.reply) (offer_same s.session cursor.view cursor.joined time bytes) (offer_moves s.session c.cursor cursor.view cursor.joined time bytes))
act_keeps_order m published s number c cursor up.Leave rest now fine numbered ordered at going is named ups =
    let asked = request.Leave cursor.view cursor.joined now in
    let o = answer s.session asked in
    as_told (OrderStands published) s number o.session (with_up c rest) (Some cursor) (answer_frames (answer_frame asked o.reply)) (ends_connection o.reply) is
    (plain_changes m published s o.session number c (up.Leave ∷ rest) rest (answer_frames (answer_frame asked o.reply)) (ends_connection o.reply) fine numbered ordered at going ups (record { rise = λ k h. h; end = λ k. refl; above = λ k h. h; none = λ h. h })
    (leave_none o.reply) (leave_same s.session cursor.view cursor.joined now)
    (leave_moves s.session c.cursor cursor.view cursor.joined now (λ time. exit_entry_same s.session time cursor.view)))
act_keeps_order m published s number c cursor (up.Join session view want) rest now fine numbered ordered at going is named ups =
    at_once_order m published s number c cursor (up.Join session view want ∷ rest) rest second_join_frame fine numbered ordered at going is ups (record { rise = λ k h. h; end = λ k. refl; above = λ k h. h; none = λ h. h }) tt
act_keeps_order m published s number c cursor up.Alive rest now fine numbered ordered at going is named ups =
    at_once_order m published s number c cursor (up.Alive ∷ rest) rest Alive fine numbered ordered at going is ups (record { rise = λ k h. h; end = λ k. refl; above = λ k h. h; none = λ h. h }) tt

-- the first frame: the replica waits for its Sync
unjoined : {W O : Type 0} (m : Worlds W O) (s : System W O) (view : ℕ) (client : Client W O) (number : ℕ) (c : Connection) → WorldsStand m s → view_client s.clients view ≡ Some client → client.newest ≡ number → slice_get s.connections number ≡ Some c → c.cursor ≡ None → c.over ≡ false → client.replica.synced ≡ false
unjoined m s view client number c fine is_client newest at is going = ((fine.joined view client c is_client (subst (λ (j : ℕ). slice_get s.connections j ≡ Some c) (sym newest) at)).opens is going).waiting

early_keeps_order : {W O : Type 0} (m : Worlds W O) (published : ViewPayloads) (s : System W O) (number : ℕ) (c : Connection) (frame : ClientFrame) (rest : List ClientFrame) (early : Early) → WorldsStand m s → NumbersStand published s → OrderStands published s → slice_get s.connections number ≡ Some c → c.over ≡ false → c.cursor ≡ None → c.up ≡ frame ∷ rest → (NoSends (frame ∷ rest) → NoSends rest)
    → OrderStands published (take_first s number (with_up c rest) frame (Err early))
early_keeps_order m published s number c frame rest early fine numbered ordered at going is ups none =
    let changed = over_if true (put_down (with_up c rest) (early_frame early frame ∷ [])) in
    as_told (OrderStands published) s number s.session (with_up c rest) None (early_frame early frame ∷ []) true is
    (order_changes m published s s.session number c changed fine numbered ordered at (moves_same s.session c.cursor) (λ b is_b. inl (b, is_b, refl))
    (λ view client is_client newest runs.
    let waiting = unjoined m s view client number c fine is_client newest at is going in
    waiting_runs s.session.log client.replica changed waiting (none (subst NoSends ups (runs.none_up waiting))) (none_put c.closed c.down (early_frame early frame ∷ []) (runs.none_down waiting) tt) runs.given))

-- a cursor is opened by a Join that is appended
abbrev OpensNext : PlainSession → ℕ → SessionOutcome → Type 0
OpensNext s view o = (cursor : Cursor) → first_cursor view o.reply ≡ Some cursor → (cursor.joined ≡ length s.log + 1) × (length o.session.log ≡ length s.log + 1)

opens_if : (s : PlainSession) (view : ℕ) (test : Bool) (a b : SessionOutcome) → OpensNext s view a → OpensNext s view b → OpensNext s view (cond test a b)
opens_if s view true a b held fell = held
opens_if s view false a b held fell = fell

join_opens : (s : PlainSession) (view now : ℕ) (want : Want) → OpensNext s view (join s view now want)
join_opens s view now want =
    opens_if s view (eqb view 0) _ _ (λ cursor is. absurd cc) (opens_if s view (is_ahead s.horizon want) _ _ (λ cursor is. absurd cc)
    (opens_if s view (not (is_here s.log view) && nat_le most_here (here_count s.log)) _ _ (λ cursor is. absurd cc) (opens_if s view (is_closed s.log) _ _ (λ cursor is. absurd cc) (opens_if s view (nat_le end_of_time s.horizon) _ _ (λ cursor is. absurd cc)
    (λ cursor is. (let same : length s.log + 1 ≡ cursor.joined = cc in sym same, length-append s.log (next_entry s.log (stamp s.horizon now) view what.Join ∷ [])))))))

join_keeps_order_if : {W O : Type 0} (m : Worlds W O) (published : ViewPayloads) (s : System W O) (number : ℕ) (c : Connection) (session : SessionId) (view : ℕ) (want : Want) (rest : List ClientFrame) (now : ℕ) (own : Bool) → WorldsStand m s → NumbersStand published s → OrderStands published s → slice_get s.connections number ≡ Some c → c.over ≡ false → c.cursor ≡ None → c.up ≡ up.Join session view want ∷ rest
    → OrderStands published (take_first s number (with_up c rest) (up.Join session view want) (cond own (Ok (request.Join view now want)) (Err OtherSession)))
join_keeps_order_if m published s number c session view want rest now false fine numbered ordered at going is ups = early_keeps_order m published s number c (up.Join session view want) rest OtherSession fine numbered ordered at going is ups (λ none. none)
join_keeps_order_if m published s number c session view want rest now true fine numbered ordered at going is ups =
    let o = join s.session view now want in
    let cursor = first_cursor view o.reply in
    let changed = over_if (is_none cursor) (put_down (with_cursor (with_up c rest) cursor) (answer_frames (join_answer o.reply))) in
    order_changes m published s o.session number c changed fine numbered ordered at (join_moves s.session c.cursor view now want (λ time. join_entry_same s.session time view))
    (λ made is_cursor. inr (join_opens s.session view now want made is_cursor))
    (λ other client is_client newest runs.
    let waiting = unjoined m s other client number c fine is_client newest at is going in
    waiting_runs o.session.log client.replica changed waiting (subst NoSends ups (runs.none_up waiting)) (none_put c.closed c.down (answer_frames (join_answer o.reply)) (runs.none_down waiting) (join_none o.reply)) runs.given)

first_keeps_order : {W O : Type 0} (m : Worlds W O) (published : ViewPayloads) (s : System W O) (number : ℕ) (c : Connection) (frame : ClientFrame) (rest : List ClientFrame) (now : ℕ) → WorldsStand m s → NumbersStand published s → OrderStands published s → slice_get s.connections number ≡ Some c → c.over ≡ false → c.cursor ≡ None → c.up ≡ frame ∷ rest
    → OrderStands published (take_first s number (with_up c rest) frame (first_request frame (record { 0 = m.session }) now))
first_keeps_order m published s number c (up.Join session view want) rest now fine numbered ordered at going is ups = join_keeps_order_if m published s number c session view want rest now (bytes_eq session.0 m.session) fine numbered ordered at going is ups
first_keeps_order m published s number c (up.Send k payload) rest now fine numbered ordered at going is ups = early_keeps_order m published s number c (up.Send k payload) rest NotJoined fine numbered ordered at going is ups (λ none. absurd none)
first_keeps_order m published s number c (up.Snap time bytes) rest now fine numbered ordered at going is ups = early_keeps_order m published s number c (up.Snap time bytes) rest NotJoined fine numbered ordered at going is ups (λ none. none)
first_keeps_order m published s number c up.Leave rest now fine numbered ordered at going is ups = early_keeps_order m published s number c up.Leave rest NotJoined fine numbered ordered at going is ups (λ none. none)
first_keeps_order m published s number c up.Alive rest now fine numbered ordered at going is ups = early_keeps_order m published s number c up.Alive rest NotJoined fine numbered ordered at going is ups (λ none. none)

frame_keeps_order : {W O : Type 0} (m : Worlds W O) (published : ViewPayloads) (s : System W O) (number : ℕ) (c : Connection) (cursor : Option Cursor) (frame : ClientFrame) (rest : List ClientFrame) (now : ℕ) → WorldsStand m s → NumbersStand published s → OrderStands published s → slice_get s.connections number ≡ Some c → c.over ≡ false → c.cursor ≡ cursor → c.up ≡ frame ∷ rest
    → OrderStands published (take_frame m s number (with_up c rest) cursor frame now)
frame_keeps_order m published s number c None frame rest now fine numbered ordered at going is ups = first_keeps_order m published s number c frame rest now fine numbered ordered at going is ups
frame_keeps_order m published s number c (Some cursor) frame rest now fine numbered ordered at going is ups = act_keeps_order m published s number c cursor frame rest now fine numbered ordered at going is (rw is at (numbered.links number c at).cursor) ups

leave_keeps_order : {W O : Type 0} (m : Worlds W O) (published : ViewPayloads) (s : System W O) (number : ℕ) (c : Connection) (cursor : Option Cursor) (now : ℕ) → WorldsStand m s → NumbersStand published s → OrderStands published s → slice_get s.connections number ≡ Some c
    → OrderStands published (with_both s number (after_leave s.session c cursor now))
leave_keeps_order m published s number c None now fine numbered ordered at = rests (OrderStands published) s number c at ordered
leave_keeps_order m published s number c (Some cursor) now fine numbered ordered at =
    let new = (answer s.session (request.Leave cursor.view cursor.joined now)).session in
    both_if (OrderStands published) s number c.closed (new, over_if true c) (s.session, c)
    (λ closed. order_changes m published s new number c (over_if true c) fine numbered ordered at (leave_moves s.session c.cursor cursor.view cursor.joined now (λ time. exit_entry_same s.session time cursor.view)) (λ b is_b. inl (b, is_b, refl))
    (λ view client is_client newest runs. record { dones = runs.dones; sends = λ synced ready going. absurd cc; none_up = runs.none_up; none_down = runs.none_down; given = runs.given }))
    (λ stays. rests (OrderStands published) s number c at ordered)

next_keeps_order : {W O : Type 0} (m : Worlds W O) (published : ViewPayloads) (s : System W O) (number : ℕ) (c : Connection) (ups : List ClientFrame) (now : ℕ) → WorldsStand m s → NumbersStand published s → OrderStands published s → slice_get s.connections number ≡ Some c → c.over ≡ false → c.up ≡ ups
    → OrderStands published (with_both s number (after_next (record { 0 = m.session }) s.session c ups now))
next_keeps_order m published s number c [] now fine numbered ordered at going is = leave_keeps_order m published s number c c.cursor now fine numbered ordered at
next_keeps_order m published s number c (frame ∷ rest) now fine numbered ordered at going is = frame_keeps_order m published s number c c.cursor frame rest now fine numbered ordered at going refl is

pub take_keeps_order : {W O : Type 0} (m : Worlds W O) (published : ViewPayloads) (s : System W O) (number : ℕ) (found : Option Connection) (now : ℕ) → WorldsStand m s → NumbersStand published s → OrderStands published s → slice_get s.connections number ≡ found → OrderStands published (take_on m s number found now)
take_keeps_order m published s number None now fine numbered ordered at = ordered
take_keeps_order m published s number (Some c) now fine numbered ordered at =
    both_if (OrderStands published) s number c.over (s.session, c) (after_next (record { 0 = m.session }) s.session c c.up now)
    (λ over. rests (OrderStands published) s number c at ordered) (λ going. next_keeps_order m published s number c c.up now fine numbered ordered at going refl)

-- Tick and Pull
recvs_none : (last : ℕ) (entries : List Entry) (tick : Option ℕ) → NoDones (map (λ (e : Entry). Recv e) entries ++ tick_frames (newer_tick last tick))
recvs_none last (entry ∷ rest) tick = recvs_none last rest tick
recvs_none last [] None = tt
recvs_none last [] (Some t) = tick_none (nat_lt last t)
  where
    tick_none : (test : Bool) → NoDones (tick_frames (cond test (Some t) None))
    tick_none true = tt
    tick_none false = tt

sending_as : (log : List Entry) (view first given : ℕ) (ups : List ClientFrame) (a b : Option Cursor) → (IsStale log a → IsStale log b) → Sending log view first given ups a → Sending log view first given ups b
sending_as log view first given ups a b line_stays sending = elim sending [ inl flowing ↦ inl flowing | inr others ↦ elim others [ inl blocked ↦ inr (inl blocked) | inr stale ↦ inr (inr (line_stays stale)) ] ]

pub tick_keeps_order : {W O : Type 0} (published : ViewPayloads) (s : System W O) (now : ℕ) → OrderStands published s → OrderStands published (record s { session = (answer s.session (request.Tick now)).session })
tick_keeps_order published s now ordered = record { short = ordered.short; within = ordered.within; apart = ordered.apart; runs = ordered.runs }

batch_none : (cursor : Cursor) (answered : Reply) → NoDones (next_frames cursor answered)
batch_none cursor (reply.Batch entries tick) = recvs_none cursor.last_tick entries tick
batch_none cursor (reply.Joined seq time last from base) = tt
batch_none cursor (reply.Stamped seq time) = tt
batch_none cursor (reply.Again seq time) = tt
batch_none cursor (reply.Ticked time) = tt
batch_none cursor (reply.Left seq time) = tt
batch_none cursor reply.Kept = tt
batch_none cursor (reply.Refused why) = tt

next_stale : (log : List Entry) (cursor next : Cursor) → NextSame cursor next → IsStale log (Some cursor) → IsStale log (Some next)
next_stale log cursor next same stale = subst (λ (v : ℕ). is_stale log v next.joined ≡ true) (sym same.view) (subst (λ (j : ℕ). is_stale log cursor.view j ≡ true) (sym same.joined) stale)

joined_keeps_order : {W O : Type 0} (m : Worlds W O) (published : ViewPayloads) (s : System W O) (number : ℕ) (c : Connection) (cursor : Option Cursor) → WorldsStand m s → NumbersStand published s → OrderStands published s → slice_get s.connections number ≡ Some c → c.cursor ≡ cursor
    → OrderStands published (with_both s number (after_joined s.session c cursor))
joined_keeps_order m published s number c None fine numbered ordered at is = rests (OrderStands published) s number c at ordered
joined_keeps_order m published s number c (Some cursor) fine numbered ordered at is =
    let answered = (answer s.session (pull_request cursor)).reply in
    let next = next_cursor cursor answered in
    let same = next_same cursor answered in
    let frames = next_frames cursor answered in
    let none = batch_none cursor answered in
    let changed = put_down (with_cursor c (Some next)) frames in
    subst (λ (x : Connection). OrderStands published (with_both s number (s.session, x))) (sym (over_stays changed))
    (order_changes m published s s.session number c changed fine numbered ordered at (moves_same s.session c.cursor)
    (λ b is_b. inl (cursor, is, sym same.joined ∙ (let next_is : next.joined ≡ b.joined = ap (λ (x : Option Cursor). joined_of x) is_b in next_is)))
    (λ view client is_client newest runs.
    let r = client.replica in
    record {
      dones = λ synced. dones_if r.acknowledged 0 c.closed c.down frames (λ ready. (none_rises _ frames none).0) (runs.dones synced);
      sends = λ synced ready going. sending_put s.session.log r.view r.acknowledged r.given c.up (Some next) c.closed c.down frames ready
          (subst (λ (k : ℕ). Sending s.session.log r.view k r.given c.up (Some next)) (sym (none_rises (dones_end r.acknowledged c.down) frames none).1)
          (sending_as s.session.log r.view (dones_end r.acknowledged c.down) r.given c.up c.cursor (Some next) (λ stale. next_stale s.session.log cursor next same (subst (IsStale s.session.log) is stale)) (runs.sends synced ready going)));
      none_up = runs.none_up;
      none_down = λ waiting. none_put c.closed c.down frames (runs.none_down waiting) none;
      given = runs.given;
    }))
  where
    joined_of : Option Cursor → ℕ
    joined_of None = 0
    joined_of (Some x) = x.joined

pub pull_keeps_order : {W O : Type 0} (m : Worlds W O) (published : ViewPayloads) (s : System W O) (number : ℕ) (found : Option Connection) → WorldsStand m s → NumbersStand published s → OrderStands published s → slice_get s.connections number ≡ found → OrderStands published (pull_on s number found)
pull_keeps_order m published s number None fine numbered ordered at = ordered
pull_keeps_order m published s number (Some c) fine numbered ordered at =
    both_if (OrderStands published) s number c.over (s.session, c) (after_joined s.session c c.cursor) (λ over. rests (OrderStands published) s number c at ordered) (λ going. joined_keeps_order m published s number c c.cursor fine numbered ordered at refl)
