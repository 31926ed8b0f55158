-- The order of SENDs and DONEs in flight.
use Rattle.std.proofs.Common.{ℕ, ◌+◌, ◌≡◌, ◌≤◌, ◌<◌, ◌⊎◌, inl, inr, Bool, true, false, cond, eqb, not, nat_lt, nat_le, ◌&&◌, ◌||◌, List, [], ◌∷◌, ◌++◌, Option, Some, None, length, length-append, slice_get, refl, arith, sym, ap, ◌∙◌, subst}
use Rattle.std.proofs.lemmas.Bool.Decides.{nat_tests}
use Rattle.std.proofs.lemmas.List.{append-nil}
use Rattle.tea_base.specs.declared.entry.Entry.{Entry}
use Rattle.tea_base.specs.declared.entry.What.TheVariants as what
use Rattle.tea_base.specs.Limits.{end_of_time, most_bytes, most_here, most_payload}
use Rattle.tea_base.specs.Readings.{events, here_count, is_here, is_some_join, last_entry, last_number, payload_bytes, presence, seq_or_zero}
use Rattle.tea_base.proofs.LogLaws.{last_presence-push}
use Rattle.session_log.specs.LogState.{next_entry}
use Rattle.wire_frames.specs.declared.frame.ClientFrame.{ClientFrame}
use Rattle.wire_frames.specs.declared.frame.ClientFrame.TheVariants as up
use Rattle.wire_frames.specs.declared.frame.ServerFrame.{ServerFrame}
use Rattle.wire_frames.specs.declared.frame.ServerFrame.TheVariants.{Done}
use Rattle.wire_frames.specs.declared.start.Want.{Want}
use Rattle.reflector_core.specs.Answer.{SessionOutcome, append_entry, is_ahead, is_closed, is_stale, join, leave, send_event, stamp}
use Rattle.reflector_core.specs.PlainSession.{PlainSession}
use Rattle.replica_plain.specs.PlainReplica.{PlainReplica, published_count}
use Rattle.join_sync.specs.declared.cursor.Cursor.{Cursor}
use Rattle.system_plain.specs.Schedule.{ViewPayloads, view_payloads}
use Rattle.system_plain.specs.Steps.{found}
use Rattle.system_plain.specs.System.{Client, Connection, System, view_client}
use Rattle.system_plain.proofs.Events.{SameEvents, event_entry, length-view_payloads}
use Rattle.system_plain.proofs.Pace.{AreShortPayloads, DonesRise, SendsAbove, SendsRise, dones_end, sends_end}
use Rattle.system_plain.proofs.Sends.{stale_stays}

abbrev pub NoSends : List ClientFrame → Type 0
NoSends [] = Unit {0}
NoSends (up.Send number payload ∷ rest) = ⊥
NoSends (frame ∷ rest) = NoSends rest

abbrev pub NoDones : List ServerFrame → Type 0
NoDones [] = Unit {0}
NoDones (Done number seq time ∷ rest) = ⊥
NoDones (frame ∷ rest) = NoDones rest

pub record Flowing (first given : ℕ) (up : List ClientFrame) : Type 0 where
  pub rise : SendsRise first up
  pub whole : sends_end first up ≡ given

pub record Blocked (log : List Entry) (view given : ℕ) (up : List ClientFrame) : Type 0 where
  pub number : ℕ
  pub missing : last_number log view < number
  pub above : SendsAbove number up
  pub within : number ≤ given

abbrev pub IsStale : List Entry → Option Cursor → Type 0
IsStale log None = Unit {0}
IsStale log (Some cursor) = is_stale log cursor.view cursor.joined ≡ true

abbrev pub Sending : List Entry → ℕ → ℕ → ℕ → List ClientFrame → Option Cursor → Type 0
Sending log view first given up cursor = Flowing first given up ⊎ (Blocked log view given up ⊎ IsStale log cursor)

-- what is in flight on the newest connection of a replica; what goes up matters only where answers still go down
pub record RunsInOrder {W O : Type 0} (log : List Entry) (r : PlainReplica W O) (c : Connection) : Type 0 where
  pub dones : r.synced ≡ true → DonesRise r.acknowledged c.down
  pub sends : r.synced ≡ true → c.closed ≡ false → c.over ≡ false → Sending log r.view (dones_end r.acknowledged c.down) r.given c.up c.cursor
  pub none_up : r.synced ≡ false → NoSends c.up
  pub none_down : r.synced ≡ false → NoDones c.down
  pub given : r.given ≤ published_count r

pub record OrderStands {W O : Type 0} (published : ViewPayloads) (s : System W O) : Type 0 where
  pub short : AreShortPayloads published
  pub within : (k : ℕ) (c : Connection) (cursor : Cursor) → slice_get s.connections k ≡ Some c → c.cursor ≡ Some cursor → cursor.joined ≤ length s.session.log
  pub apart : (k j : ℕ) (c d : Connection) (a b : Cursor) → slice_get s.connections k ≡ Some c → slice_get s.connections j ≡ Some d → c.cursor ≡ Some a → d.cursor ≡ Some b → a.joined ≡ b.joined → k ≡ j
  pub runs : (view : ℕ) (client : Client W O) (c : Connection) → view_client s.clients view ≡ Some client → slice_get s.connections client.newest ≡ Some c → RunsInOrder s.session.log client.replica c

-- the actor is the only cursor of its view that is not stale
abbrev pub Displaces : List Entry → ℕ → Option Cursor → Type 0
Displaces log view None = ⊥
Displaces log view (Some actor) = (actor.view ≡ view) × ((joined : ℕ) → (joined ≡ actor.joined → ⊥) → is_stale log view joined ≡ true)

-- how a request of the actor moves a session
pub record SessionMoves (s new : PlainSession) (actor : Option Cursor) : Type 0 where
  pub longer : length s.log ≤ length new.log
  pub stale : (view joined : ℕ) → joined ≤ length s.log → is_stale s.log view joined ≡ true → is_stale new.log view joined ≡ true
  pub events : (view : ℕ) → (last_number new.log view ≡ last_number s.log view) ⊎ Displaces new.log view actor

pub moves_same : (s : PlainSession) (actor : Option Cursor) → SessionMoves s s actor
moves_same s actor = record { longer = omega arith; stale = λ view joined le stale. stale; events = λ view. inl refl }

pub moves_entry : (s new : PlainSession) (actor : Option Cursor) (entry : Entry) → new.log ≡ s.log ++ entry ∷ [] → entry.seq ≡ length s.log + 1 → ((view : ℕ) → (last_number new.log view ≡ last_number s.log view) ⊎ Displaces new.log view actor) → SessionMoves s new actor
moves_entry s new actor entry is seq events = record {
  longer = let h = ap length is in omega (arith, length-append s.log (entry ∷ []));
  stale = λ view joined le stale. subst (λ (l : List Entry). is_stale l view joined ≡ true) (sym is) (stale_stays s.log entry view joined le seq stale);
  events = events;
}

pub same_numbers : (s new : PlainSession) → SameEvents s new → (view : ℕ) → last_number new.log view ≡ last_number s.log view
same_numbers s new same view = sym (length-view_payloads new.log view) ∙ ap length (same view) ∙ length-view_payloads s.log view

pub moves_if : (s : PlainSession) (actor : Option Cursor) (test : Bool) (a b : SessionOutcome) → (test ≡ true → SessionMoves s a.session actor) → (test ≡ false → SessionMoves s b.session actor) → SessionMoves s (cond test a b).session actor
moves_if s actor true a b held fell = held refl
moves_if s actor false a b held fell = fell refl

plain_moves : (s : PlainSession) (actor : Option Cursor) (time view : ℕ) (what : Rattle.tea_base.specs.declared.entry.What.What) → SameEvents s (append_entry s time view what) → SessionMoves s (append_entry s time view what) actor
plain_moves s actor time view what same = moves_entry s (append_entry s time view what) actor (next_entry s.log time view what) refl refl (λ v. inl (same_numbers s (append_entry s time view what) same v))

pub join_moves : (s : PlainSession) (actor : Option Cursor) (view now : ℕ) (want : Want) → ((time : ℕ) → SameEvents s (append_entry s time view what.Join)) → SessionMoves s (join s view now want).session actor
join_moves s actor view now want same =
    let stay = moves_same s actor in
    moves_if s actor (eqb view 0) _ _ (λ h. stay) λ a.
    moves_if s actor (is_ahead s.horizon want) _ _ (λ h. stay) λ b.
    moves_if s actor (not (is_here s.log view) && nat_le most_here (here_count s.log)) _ _ (λ h. stay) λ c.
    moves_if s actor (is_closed s.log) _ _ (λ h. stay) λ d.
    moves_if s actor (nat_le end_of_time s.horizon) _ _ (λ h. stay) λ e. plain_moves s actor (stamp s.horizon now) view what.Join (same (stamp s.horizon now))

pub leave_moves : (s : PlainSession) (actor : Option Cursor) (view joined now : ℕ) → ((time : ℕ) → SameEvents s (append_entry s time view what.Exit)) → SessionMoves s (leave s view joined now).session actor
leave_moves s actor view joined now same = moves_if s actor (is_stale s.log view joined) _ _ (λ h. moves_same s actor) (λ fresh. plain_moves s actor (stamp s.horizon now) view what.Exit (same (stamp s.horizon now)))

-- an Event leaves the view's last Join or Exit as it is
event_current : (s : PlainSession) (time view number : ℕ) (payload : List ℕ) → last_entry (presence (append_entry s time view (what.Event number payload)).log view) ≡ last_entry (presence s.log view)
event_current s time view number payload =
    last_presence-push s.log (next_entry s.log time view (what.Event number payload)) view ∙ ap (λ (b : Bool). cond b (Some (next_entry s.log time view (what.Event number payload))) (last_entry (presence s.log view))) (and_false (eqb view view))
  where
    and_false : (b : Bool) → (b && false) ≡ false
    and_false true = refl
    and_false false = refl

displaced : (found : Option Entry) (joined other : ℕ) → (not (eqb (seq_or_zero found) joined) || not (is_some_join found)) ≡ false → (other ≡ joined → ⊥) → (not (eqb (seq_or_zero found) other) || not (is_some_join found)) ≡ true
displaced found joined other fresh far = displaced_if (eqb (seq_or_zero found) other) refl
  where
    displaced_if : (test : Bool) → eqb (seq_or_zero found) other ≡ test → (not test || not (is_some_join found)) ≡ true
    displaced_if false is = refl
    displaced_if true is = absurd (far (grind (arith, nat_tests, fresh)))

pub send_moves : (s : PlainSession) (cursor : Cursor) (number : ℕ) (payload : List ℕ) (now : ℕ) → SessionMoves s (send_event s cursor.view cursor.joined number payload now).session (Some cursor)
send_moves s cursor number payload now =
    let actor = Some cursor in
    let stay = moves_same s actor in
    let view = cursor.view in
    let next = last_number s.log view + 1 in
    let new = append_entry s (stamp s.horizon now) view (what.Event number payload) in
    moves_if s actor (is_stale s.log view cursor.joined) _ _ (λ h. stay) λ fresh.
    moves_if s actor (nat_lt most_payload (length payload)) _ _ (λ h. stay) λ a.
    moves_if s actor (eqb number 0) _ _ (λ h. stay) λ b.
    moves_if s actor (nat_lt number next) _ _ (λ h. stay) λ c.
    moves_if s actor (nat_lt next number) _ _ (λ h. stay) λ d.
    moves_if s actor (is_closed s.log || nat_lt most_bytes (payload_bytes s.log + length payload)) _ _ (λ h. stay) λ e.
    moves_if s actor (nat_le end_of_time s.horizon) _ _ (λ h. stay) λ f.
    moves_entry s new actor (next_entry s.log (stamp s.horizon now) view (what.Event number payload)) refl refl
    (λ v. other_or_own (eqb view v) s cursor number payload now v refl fresh)
  where
    other_or_own : (test : Bool) (s : PlainSession) (cursor : Cursor) (number : ℕ) (payload : List ℕ) (now v : ℕ) → eqb cursor.view v ≡ test → is_stale s.log cursor.view cursor.joined ≡ false → (last_number (append_entry s (stamp s.horizon now) cursor.view (what.Event number payload)).log v ≡ last_number s.log v) ⊎ Displaces (append_entry s (stamp s.horizon now) cursor.view (what.Event number payload)).log v (Some cursor)
    other_or_own true s cursor number payload now v is fresh =
        let same : cursor.view ≡ v = grind (arith, nat_tests) in
        inr (
          same,
          λ joined far. subst (λ (w : ℕ). is_stale (append_entry s (stamp s.horizon now) cursor.view (what.Event number payload)).log w joined ≡ true) same
              (subst (λ (found : Option Entry). (not (eqb (seq_or_zero found) joined) || not (is_some_join found)) ≡ true) (sym (event_current s (stamp s.horizon now) cursor.view number payload))
              (displaced (last_entry (presence s.log cursor.view)) cursor.joined joined fresh far)),
        )
    other_or_own false s cursor number payload now v is fresh =
        inl (sym (length-view_payloads (append_entry s (stamp s.horizon now) cursor.view (what.Event number payload)).log v)
        ∙ ap length (event_entry s (stamp s.horizon now) cursor.view number payload v ∙ ap (λ (b : Bool). view_payloads s.log v ++ cond b (payload ∷ []) []) is ∙ append-nil (view_payloads s.log v))
        ∙ length-view_payloads s.log v)

-- a cursor that is not the actor's
abbrev pub Apart : List Entry → ℕ → Option Cursor → Option Cursor → Type 0
Apart log view actor None = Unit {0}
Apart log view actor (Some b) = (b.joined ≤ length log) × (b.view ≡ view) × ((a : Cursor) → actor ≡ Some a → b.joined ≡ a.joined → ⊥)

displaced_cursor : (log new : List Entry) (view : ℕ) (actor cursor : Option Cursor) → Apart log view actor cursor → Displaces new view actor → IsStale new cursor
displaced_cursor log new view actor None apart displaces = tt
displaced_cursor log new view None (Some b) apart displaces = absurd displaces
displaced_cursor log new view (Some a) (Some b) apart displaces = subst (λ (v : ℕ). is_stale new v b.joined ≡ true) (sym apart.1) (displaces.1 b.joined (apart.2 a refl))

stale_cursor : (s new : PlainSession) (view : ℕ) (actor cursor : Option Cursor) → SessionMoves s new actor → Apart s.log view actor cursor → IsStale s.log cursor → IsStale new.log cursor
stale_cursor s new view actor None moves apart stale = tt
stale_cursor s new view actor (Some b) moves apart stale = moves.stale b.view b.joined apart.0 stale

pub sending_moves : (s new : PlainSession) (view first given : ℕ) (ups : List ClientFrame) (actor cursor : Option Cursor) → SessionMoves s new actor → Apart s.log view actor cursor → Sending s.log view first given ups cursor → Sending new.log view first given ups cursor
sending_moves s new view first given ups actor cursor moves apart sending = elim sending [
  | inl flowing ↦ inl flowing
  | inr rest ↦ elim rest [
    | inl blocked ↦ elim (moves.events view) [
      | inl same ↦ inr (inl (record { number = blocked.number; missing = let h = blocked.missing in omega arith; above = blocked.above; within = blocked.within }))
      | inr displaces ↦ inr (inr (displaced_cursor s.log new.log view actor cursor apart displaces))
    ]
    | inr stale ↦ inr (inr (stale_cursor s new view actor cursor moves apart stale))
  ]
]

-- another connection's request leaves what is in flight in order
pub runs_move : {W O : Type 0} (s new : PlainSession) (r : PlainReplica W O) (c : Connection) (actor : Option Cursor) → SessionMoves s new actor → Apart s.log r.view actor c.cursor → RunsInOrder s.log r c → RunsInOrder new.log r c
runs_move s new r c actor moves apart runs = record {
  dones = runs.dones;
  sends = λ synced ready going. sending_moves s new r.view (dones_end r.acknowledged c.down) r.given c.up actor c.cursor moves apart (runs.sends synced ready going);
  none_up = runs.none_up;
  none_down = runs.none_down;
  given = runs.given;
}
