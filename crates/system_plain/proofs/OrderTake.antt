-- Take keeps the order of SENDs and DONEs: a connection changes, and a SEND is taken.
use Rattle.std.proofs.Common.{ℕ, ◌+◌, ◌-◌, ◌≡◌, ◌≢◌, ◌≤◌, ◌<◌, ◌⊎◌, inl, inr, Bool, true, false, cond, List, [], ◌∷◌, ◌++◌, Option, Some, None, length, set, slice_get, refl, arith, sym, ◌∙◌, subst}
use Rattle.tea_base.specs.declared.entry.Entry.{Entry}
use Rattle.tea_base.specs.Limits.{most_payload}
use Rattle.tea_base.specs.Readings.{last_number}
use Rattle.wire_frames.specs.declared.frame.ClientFrame.{ClientFrame}
use Rattle.wire_frames.specs.declared.frame.ClientFrame.TheVariants as up
use Rattle.wire_frames.specs.declared.frame.ServerFrame.{ServerFrame}
use Rattle.wire_frames.specs.declared.frame.ServerFrame.TheVariants.{Alive, Done, Recv, Refused, Snapped, Sync, Tick}
use Rattle.wire_frames.specs.declared.tags.TheConstants.{SEND_TAG}
use Rattle.reflector_core.specs.declared.request.Reply.{Reply}
use Rattle.reflector_core.specs.declared.request.Reply.TheVariants as reply
use Rattle.reflector_core.specs.declared.request.Request.TheVariants as request
use Rattle.reflector_core.specs.Answer.{is_stale, send_event, tick}
use Rattle.reflector_core.specs.PlainSession.{PlainSession}
use Rattle.replica_plain.specs.PlainReplica.{PlainReplica}
use Rattle.replica_plain.specs.Worlds.{Worlds}
use Rattle.join_sync.specs.declared.cursor.Cursor.{Cursor}
use Rattle.join_sync.specs.Answers.{answer_frame}
use Rattle.system_plain.specs.Schedule.{ViewPayloads}
use Rattle.system_plain.specs.Steps.{answer_frames, found}
use Rattle.system_plain.specs.System.{Client, Connection, System, over_if, put_down, view_client, with_up}
use Rattle.system_plain.proofs.AnswerFrames.{of_refusal}
use Rattle.system_plain.proofs.Events.{IsNoDoneReply, send_outcome}
use Rattle.system_plain.proofs.Facts.{WorldsStand}
use Rattle.system_plain.proofs.Lookups.{get_set}
use Rattle.system_plain.proofs.Numbers.{LogNumbers, NumbersStand}
use Rattle.system_plain.proofs.Order.{Apart, Flowing, NoDones, NoSends, OrderStands, RunsInOrder, Sending, SessionMoves, runs_move, send_moves}
use Rattle.system_plain.proofs.Pace.{DonesRise, SendsAbove, SendsRise, dones_end, sends_end, stale_no_done}
use Rattle.system_plain.proofs.Sends.{IsDoneReply, send_in_turn}

-- the cursors of two connections are apart
pub apart_of : {W O : Type 0} (m : Worlds W O) (published : ViewPayloads) (s : System W O) (number : ℕ) (c : Connection) (view : ℕ) (client : Client W O) (found : Connection) (cursor : Option Cursor) → WorldsStand m s → NumbersStand published s → OrderStands published s → slice_get s.connections number ≡ Some c → view_client s.clients view ≡ Some client → slice_get s.connections client.newest ≡ Some found → client.newest ≢ number → found.cursor ≡ cursor → Apart s.session.log client.replica.view c.cursor cursor
apart_of m published s number c view client found None fine numbered ordered at is_client at_found far is = tt
apart_of m published s number c view client found (Some b) fine numbered ordered at is_client at_found far is = (
  ordered.within client.newest found b at_found is,
  rw is at (numbered.links client.newest found at_found).cursor ∙ (fine.joined view client found is_client at_found).owned,
  λ a is_a same. far (ordered.apart client.newest number found c b a at_found at is is_a same),
)

-- a connection changes, by a request of its own
pub order_changes : {W O : Type 0} (m : Worlds W O) (published : ViewPayloads) (s : System W O) (new : PlainSession) (number : ℕ) (c changed : Connection) → WorldsStand m s → NumbersStand published s → OrderStands published s → slice_get s.connections number ≡ Some c → SessionMoves s.session new c.cursor
    → ((cursor : Cursor) → changed.cursor ≡ Some cursor → ((old : Cursor) × (c.cursor ≡ Some old) × (old.joined ≡ cursor.joined)) ⊎ ((cursor.joined ≡ length s.session.log + 1) × (length new.log ≡ length s.session.log + 1)))
    → ((view : ℕ) (client : Client W O) → view_client s.clients view ≡ Some client → client.newest ≡ number → RunsInOrder s.session.log client.replica c → RunsInOrder new.log client.replica changed)
    → OrderStands published (record { session = new; clients = s.clients; connections = set s.connections number changed })
order_changes {W = W} {O = O} m published s new number c changed fine numbered ordered at moves fits keeps =
    let longer = moves.longer in
    let own : (j : ℕ) (d : Connection) (a b : Cursor) → j ≢ number → slice_get s.connections j ≡ Some d → changed.cursor ≡ Some a → d.cursor ≡ Some b → a.joined ≡ b.joined → number ≡ j
    = λ j d a b far at_d is_a is_b same. elim (fits a is_a) [
      | inl old ↦ ordered.apart number j c d old.0 b at at_d old.1 is_b (old.2 ∙ same)
      | inr fresh ↦ let within = ordered.within j d b at_d is_b in absurd (let f = fresh.0 in omega arith)
    ] in
    record {
      short = ordered.short;
      within = λ k found cursor at_k is. elim (get_set s.connections number k changed found at_k) [
        | inl hit ↦ elim (fits cursor (subst (λ (x : Connection). x.cursor ≡ Some cursor) hit.1 is)) [
          | inl old ↦ let within = ordered.within number c old.0 at old.1 in let joined = old.2 in omega arith
          | inr fresh ↦ let f = fresh.0 in let g = fresh.1 in omega arith
        ]
        | inr miss ↦ let within = ordered.within k found cursor miss.1 is in omega arith
      ];
      apart = λ k j x y a b at_k at_j is_a is_b same. elim (get_set s.connections number k changed x at_k) [
        | inl hit ↦ elim (get_set s.connections number j changed y at_j) [
          | inl also ↦ hit.0 ∙ sym also.0
          | inr miss ↦ hit.0 ∙ own j y a b miss.0 miss.1 (subst (λ (z : Connection). z.cursor ≡ Some a) hit.1 is_a) is_b same
        ]
        | inr away ↦ elim (get_set s.connections number j changed y at_j) [
          | inl hit ↦ sym (hit.0 ∙ own k x b a away.0 away.1 (subst (λ (z : Connection). z.cursor ≡ Some b) hit.1 is_b) is_a (sym same))
          | inr miss ↦ ordered.apart k j x y a b away.1 miss.1 is_a is_b same
        ]
      ];
      runs = λ view client found is_client at_k. elim (get_set s.connections number client.newest changed found at_k) [
        | inl hit ↦ subst (RunsInOrder new.log client.replica) (sym hit.1) (keeps view client is_client hit.0 (ordered.runs view client c is_client (subst (λ k. slice_get s.connections k ≡ Some c) (sym hit.0) at)))
        | inr miss ↦ runs_move s.session new client.replica found c.cursor moves (apart_of m published s number c view client found found.cursor fine numbered ordered at is_client miss.1 miss.0 refl) (ordered.runs view client found is_client miss.1)
      ];
    }

pub dones_end-append : (k : ℕ) (frames more : List ServerFrame) → dones_end k (frames ++ more) ≡ dones_end (dones_end k frames) more
dones_end-append k [] more = refl
dones_end-append k (Done number seq time ∷ rest) more = dones_end-append (k + 1) rest more
dones_end-append k (Recv entry ∷ rest) more = dones_end-append k rest more
dones_end-append k (Tick t ∷ rest) more = dones_end-append k rest more
dones_end-append k (Sync joined last from base ∷ rest) more = dones_end-append k rest more
dones_end-append k (Snapped time ∷ rest) more = dones_end-append k rest more
dones_end-append k (Refused about code kept again ∷ rest) more = dones_end-append k rest more
dones_end-append k (Alive ∷ rest) more = dones_end-append k rest more

pub rise-append : (k : ℕ) (frames more : List ServerFrame) → DonesRise k frames → DonesRise (dones_end k frames) more → DonesRise k (frames ++ more)
rise-append k [] more first then = then
rise-append k (Done number seq time ∷ rest) more first then = (first.0, rise-append (k + 1) rest more first.1 then)
rise-append k (Recv entry ∷ rest) more first then = rise-append k rest more first then
rise-append k (Tick t ∷ rest) more first then = rise-append k rest more first then
rise-append k (Sync joined last from base ∷ rest) more first then = rise-append k rest more first then
rise-append k (Snapped time ∷ rest) more first then = rise-append k rest more first then
rise-append k (Refused about code kept again ∷ rest) more first then = rise-append k rest more first then
rise-append k (Alive ∷ rest) more first then = rise-append k rest more first then

pub none_rises : (k : ℕ) (frames : List ServerFrame) → NoDones frames → DonesRise k frames × (dones_end k frames ≡ k)
none_rises k [] none = (tt, refl)
none_rises k (Done number seq time ∷ rest) none = absurd none
none_rises k (Recv entry ∷ rest) none = none_rises k rest none
none_rises k (Tick t ∷ rest) none = none_rises k rest none
none_rises k (Sync joined last from base ∷ rest) none = none_rises k rest none
none_rises k (Snapped time ∷ rest) none = none_rises k rest none
none_rises k (Refused about code kept more ∷ rest) none = none_rises k rest none
none_rises k (Alive ∷ rest) none = none_rises k rest none

pub none_append : (frames more : List ServerFrame) → NoDones frames → NoDones more → NoDones (frames ++ more)
none_append [] more first then = then
none_append (Done number seq time ∷ rest) more first then = absurd first
none_append (Recv entry ∷ rest) more first then = none_append rest more first then
none_append (Tick t ∷ rest) more first then = none_append rest more first then
none_append (Sync joined last from base ∷ rest) more first then = none_append rest more first then
none_append (Snapped time ∷ rest) more first then = none_append rest more first then
none_append (Refused about code kept again ∷ rest) more first then = none_append rest more first then
none_append (Alive ∷ rest) more first then = none_append rest more first then

-- the frames that answer a frame: the next DONE, or none
abbrev pub Answered : List Entry → ℕ → ℕ → ℕ → List ClientFrame → Option Cursor → List ServerFrame → Type 0
Answered log view first given rest cursor frames =
    ((seq : ℕ) × (time : ℕ) × (frames ≡ Done (first + 1) seq time ∷ []) × Sending log view (first + 1) given rest cursor) ⊎ (NoDones frames × Sending log view first given rest cursor)

pub dones_if : (k first : ℕ) (closed : Bool) (down frames : List ServerFrame) → (closed ≡ false → DonesRise (dones_end k down) frames) → DonesRise k down → DonesRise k (cond closed down (down ++ frames))
dones_if k first true down frames more dones = dones
dones_if k first false down frames more dones = rise-append k down frames dones (more refl)

pub answered_rises : (log : List Entry) (view first given : ℕ) (rest : List ClientFrame) (cursor : Option Cursor) (frames : List ServerFrame) → Answered log view first given rest cursor frames → DonesRise first frames × Sending log view (dones_end first frames) given rest cursor
answered_rises log view first given rest cursor frames answered = elim answered [
  | inl done ↦ subst (λ (l : List ServerFrame). DonesRise first l × Sending log view (dones_end first l) given rest cursor) (sym done.2) ((refl, tt), done.3)
  | inr none ↦ let rises = none_rises first frames none.0 in (rises.0, subst (λ (k : ℕ). Sending log view k given rest cursor) (sym rises.1) none.1)
]

pub sending_put : (log : List Entry) (view k given : ℕ) (rest : List ClientFrame) (cursor : Option Cursor) (closed : Bool) (down frames : List ServerFrame) → closed ≡ false → Sending log view (dones_end (dones_end k down) frames) given rest cursor → Sending log view (dones_end k (cond closed down (down ++ frames))) given rest cursor
sending_put log view k given rest cursor true down frames ready sending = absurd cc
sending_put log view k given rest cursor false down frames ready sending = subst (λ (n : ℕ). Sending log view n given rest cursor) (sym (dones_end-append k down frames)) sending

-- a connection on which a frame was answered
pub runs_answered : {W O : Type 0} (new : List Entry) (old : List Entry) (r : PlainReplica W O) (c : Connection) (rest : List ClientFrame) (frames : List ServerFrame) (over : Bool) → c.over ≡ false → RunsInOrder old r c → (r.synced ≡ false → NoSends rest × NoDones frames)
    → (r.synced ≡ true → c.closed ≡ false → Answered new r.view (dones_end r.acknowledged c.down) r.given rest c.cursor frames) → RunsInOrder new r (over_if over (put_down (with_up c rest) frames))
runs_answered new old r c rest frames over going runs unsynced answered = record {
  dones = λ synced. dones_if r.acknowledged 0 c.closed c.down frames (λ ready. (answered_rises new r.view _ r.given rest c.cursor frames (answered synced ready)).0) (runs.dones synced);
  sends = λ synced ready still. sending_put new r.view r.acknowledged r.given rest c.cursor c.closed c.down frames ready (answered_rises new r.view _ r.given rest c.cursor frames (answered synced ready)).1;
  none_up = λ waiting. (unsynced waiting).0;
  none_down = λ waiting. none_put c.closed c.down frames (runs.none_down waiting) (unsynced waiting).1;
  given = runs.given;
}
  where
    none_put : (closed : Bool) (down frames : List ServerFrame) → NoDones down → NoDones frames → NoDones (cond closed down (down ++ frames))
    none_put true down frames first then = first
    none_put false down frames first then = none_append down frames first then

pub sends_end-le : (k : ℕ) (ups : List ClientFrame) → k ≤ sends_end k ups
sends_end-le k [] = omega arith
sends_end-le k (up.Send number payload ∷ rest) = omega (arith, sends_end-le (k + 1) rest)
sends_end-le k (up.Join session view want ∷ rest) = sends_end-le k rest
sends_end-le k (up.Snap time bytes ∷ rest) = sends_end-le k rest
sends_end-le k (up.Leave ∷ rest) = sends_end-le k rest
sends_end-le k (up.Alive ∷ rest) = sends_end-le k rest

pub rise_above : (k n : ℕ) (ups : List ClientFrame) → n ≤ k → SendsRise k ups → SendsAbove n ups
rise_above k n [] le rise = tt
rise_above k n (up.Send number payload ∷ rest) le rise = (omega (arith, rise.0), rise_above (k + 1) n rest (omega arith) rise.1)
rise_above k n (up.Join session view want ∷ rest) le rise = rise_above k n rest le rise
rise_above k n (up.Snap time bytes ∷ rest) le rise = rise_above k n rest le rise
rise_above k n (up.Leave ∷ rest) le rise = rise_above k n rest le rise
rise_above k n (up.Alive ∷ rest) le rise = rise_above k n rest le rise

-- the frames of a reply
no_done_frames : (view joined number : ℕ) (payload : List ℕ) (now : ℕ) (answered : Reply) → IsNoDoneReply answered → NoDones (answer_frames (answer_frame (request.Send view joined number payload now) answered))
no_done_frames view joined number payload now (reply.Stamped seq time) none = absurd none
no_done_frames view joined number payload now (reply.Again seq time) none = absurd none
no_done_frames view joined number payload now reply.Kept none = tt
no_done_frames view joined number payload now (reply.Refused why) none = of_refusal NoDones (λ about code kept more. tt) SEND_TAG why
no_done_frames view joined number payload now (reply.Left seq time) none = tt
no_done_frames view joined number payload now (reply.Joined seq time last from base) none = tt
no_done_frames view joined number payload now (reply.Ticked time) none = tt
no_done_frames view joined number payload now (reply.Batch entries tick) none = tt

done_frames : (view joined number : ℕ) (payload : List ℕ) (now : ℕ) (answered : Reply) → IsDoneReply answered → (seq : ℕ) × (time : ℕ) × (answer_frames (answer_frame (request.Send view joined number payload now) answered) ≡ Done number seq time ∷ [])
done_frames view joined number payload now (reply.Stamped seq time) makes = (seq, time, refl)
done_frames view joined number payload now (reply.Again seq time) makes = (seq, time, refl)
done_frames view joined number payload now reply.Kept makes = absurd makes
done_frames view joined number payload now (reply.Refused why) makes = absurd makes
done_frames view joined number payload now (reply.Left seq time) makes = absurd makes
done_frames view joined number payload now (reply.Joined seq time last from base) makes = absurd makes
done_frames view joined number payload now (reply.Ticked time) makes = absurd makes
done_frames view joined number payload now (reply.Batch entries tick) makes = absurd makes

-- a SEND that is taken is answered by the next DONE, or by none
pub send_in_order : (published : ViewPayloads) (s : PlainSession) (cursor : Cursor) (first given number : ℕ) (payload : List ℕ) (rest : List ClientFrame) (now : ℕ) → LogNumbers published s → length payload ≤ most_payload → (0 < number) × (slice_get (published cursor.view) (number - 1) ≡ Some payload) → first ≤ last_number s.log cursor.view → cursor.joined ≤ length s.log
    → Sending s.log cursor.view first given (up.Send number payload ∷ rest) (Some cursor)
    → Answered (send_event s cursor.view cursor.joined number payload now).session.log cursor.view first given rest (Some cursor) (answer_frames (answer_frame (request.Send cursor.view cursor.joined number payload now) (send_event s cursor.view cursor.joined number payload now).reply))
send_in_order published s cursor first given number payload rest now prefixes short meant bound within sending =
    let o = send_event s cursor.view cursor.joined number payload now in
    let frames = answer_frames (answer_frame (request.Send cursor.view cursor.joined number payload now) o.reply) in
    let moves = send_moves s cursor number payload now in
    let stale_case : is_stale s.log cursor.view cursor.joined ≡ true → Answered o.session.log cursor.view first given rest (Some cursor) frames
    = λ stale. inr (no_done_frames cursor.view cursor.joined number payload now o.reply (stale_no_done s cursor.view cursor.joined number payload now stale), inr (inr (moves.stale cursor.view cursor.joined within stale))) in
    elim sending [
      | inl flowing ↦ flows flowing (is_stale s.log cursor.view cursor.joined) refl stale_case
      | inr others ↦ elim others [
        | inl blocked ↦
            let missing = blocked.missing in
            let above = blocked.above.0 in
            elim (send_outcome s cursor.view cursor.joined number payload now) [
              | inl nothing ↦ inr (
                no_done_frames cursor.view cursor.joined number payload now o.reply nothing.1,
                inr (inl (record { number = blocked.number; missing = subst (λ (x : PlainSession). last_number x.log cursor.view < blocked.number) (sym nothing.0) missing; above = blocked.above.1; within = blocked.within })),
              )
              | inr more ↦ elim more [ inl again ↦ let a = again.1 in absurd (omega arith) | inr stamped ↦ let a = stamped.1 in absurd (omega arith) ]
            ]
        | inr stale ↦ stale_case stale
      ]
    ]
  where
    flows : Flowing first given (up.Send number payload ∷ rest) → (stale : Bool) → is_stale s.log cursor.view cursor.joined ≡ stale → (is_stale s.log cursor.view cursor.joined ≡ true → Answered (send_event s cursor.view cursor.joined number payload now).session.log cursor.view first given rest (Some cursor) (answer_frames (answer_frame (request.Send cursor.view cursor.joined number payload now) (send_event s cursor.view cursor.joined number payload now).reply))) → Answered (send_event s cursor.view cursor.joined number payload now).session.log cursor.view first given rest (Some cursor) (answer_frames (answer_frame (request.Send cursor.view cursor.joined number payload now) (send_event s cursor.view cursor.joined number payload now).reply))
    flows flowing true is stale_case = stale_case is
    flows flowing false is stale_case =
        let turn = flowing.rise.0 in
        let o = send_event s cursor.view cursor.joined number payload now in
        let frames = answer_frames (answer_frame (request.Send cursor.view cursor.joined number payload now) o.reply) in
        elim (send_in_turn published s cursor.view cursor.joined number payload now prefixes is short meant.0 (omega arith) meant.1) [
          | inl makes ↦
              let done = done_frames cursor.view cursor.joined number payload now o.reply makes in
              inl (done.0, done.1, subst (λ (n : ℕ). frames ≡ Done n done.0 done.1 ∷ []) turn done.2, inl (record { rise = flowing.rise.1; whole = flowing.whole }))
          | inr refused_it ↦
              let missing = refused_it.2 in
              let whole = flowing.whole in
              let le = sends_end-le (first + 1) rest in
              inr (
                no_done_frames cursor.view cursor.joined number payload now o.reply refused_it.0,
                inr (inl (record { number = number; missing = subst (λ (x : PlainSession). last_number x.log cursor.view < number) (sym refused_it.1) missing; above = rise_above (first + 1) number rest (omega arith) flowing.rise.1; within = omega arith })),
              )
        ]
