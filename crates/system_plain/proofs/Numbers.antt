-- The numbers of a system's events: what is in the log is the beginning of what was published, and what is acknowledged is in the log.
use Rattle.std.specs.Option.{option_map_or}
use Rattle.std.proofs.Common.{◌&&◌, Option, ◌^◌, ℕ, ◌+◌, ◌-◌, ◌≡◌, ◌⊎◌, inl, inr, ◌≤◌, ◌<◌, Bool, true, false, cond, eqb, List, [], ◌∷◌, ◌++◌, Some, None, zero, suc, length, length-append, take, drop, slice_get, refl, arith, sym, ap, ◌∙◌, subst}
use Rattle.std.proofs.lemmas.Bool.Decides.{nat_tests}
use Rattle.std.proofs.lemmas.Option.{slice_get_within}
use Rattle.std.proofs.lemmas.List.{append-nil, length-drop}
use Rattle.tea_base.specs.declared.entry.What.TheVariants as what
use Rattle.tea_base.specs.Readings.{events, last_number}
use Rattle.wire_frames.specs.declared.frame.ClientFrame.{ClientFrame}
use Rattle.wire_frames.specs.declared.frame.ClientFrame.TheVariants as up
use Rattle.wire_frames.specs.declared.frame.ServerFrame.{ServerFrame}
use Rattle.wire_frames.specs.declared.frame.ServerFrame.TheVariants.{Alive, Done, Recv, Refused, Snapped, Sync, Tick}
use Rattle.wire_frames.specs.declared.tags.TheConstants.{SEND_TAG}
use Rattle.reflector_core.specs.declared.request.Refusal.{Refusal}
use Rattle.reflector_core.specs.declared.request.Reply.{Reply}
use Rattle.reflector_core.specs.declared.request.Reply.TheVariants as reply
use Rattle.reflector_core.specs.declared.request.Request.TheVariants as request
use Rattle.reflector_core.specs.Answer.{SessionOutcome, append_entry, send_event, tick}
use Rattle.reflector_core.specs.PlainSession.{PlainSession}
use Rattle.replica_plain.specs.PlainReplica.{PlainReplica, published_count}
use Rattle.join_sync.specs.Answers.{answer_frame, leave_answer, snap_answer}
use Rattle.join_sync.specs.Refusals.{refused_frame}
use Rattle.system_plain.specs.Schedule.{ViewPayloads, view_payloads}
use Rattle.system_plain.specs.Steps.{answer_frames, found, may_publish}
use Rattle.system_plain.specs.System.{Client, Connection, System, view_client}
use Rattle.system_plain.proofs.AnswerFrames.{of_leave_answer, of_refusal, of_snap_answer}
use Rattle.system_plain.proofs.Events.{IsNoDoneReply, SameEvents, event_entry, length-view_payloads, send_outcome}
use Rattle.system_plain.proofs.Facts.{CursorMeant, EventsStand, JoinsMeant}
use Rattle.system_plain.proofs.Lookups.{client_view}

-- what was published after a Publish of this client
abbrev pub published_with : {W O : Type 0} → ViewPayloads → ℕ → List ℕ → Option (Client W O) → ViewPayloads
published_with {W = W} {O = O} published view payload found =
    λ other. cond (option_map_or (λ (client : Client W O). may_publish client.replica payload) found false && eqb other view) (published other ++ payload ∷ []) (published other)

-- each SEND has the payload that was published under its number
abbrev pub SendsMeant : List (List ℕ) → List ClientFrame → Type 0
SendsMeant published [] = Unit {0}
SendsMeant published (up.Send number payload ∷ rest) = ((0 < number) × (slice_get published (number - 1) ≡ Some payload)) × SendsMeant published rest
SendsMeant published (frame ∷ rest) = SendsMeant published rest

-- each DONE names an Event of the log
abbrev pub DonesWithin : ℕ → List ServerFrame → Type 0
DonesWithin bound [] = Unit {0}
DonesWithin bound (Done number seq time ∷ rest) = (number ≤ bound) × DonesWithin bound rest
DonesWithin bound (frame ∷ rest) = DonesWithin bound rest

pub record ConnectionNumbers (published : ViewPayloads) (s : PlainSession) (c : Connection) : Type 0 where
  pub bound : c.view < 2 ^ 32
  pub sends : SendsMeant (published c.view) c.up
  pub joins : JoinsMeant c.view c.up
  pub cursor : CursorMeant c.view c.cursor
  pub dones : DonesWithin (last_number s.log c.view) c.down

-- a replica's outbox has what it published and was not acknowledged
pub record ReplicaNumbers {W O : Type 0} (published : ViewPayloads) (s : PlainSession) (r : PlainReplica W O) : Type 0 where
  pub bound : r.view < 2 ^ 32
  pub outbox : r.outbox ≡ drop r.acknowledged (published r.view)
  pub acked : r.acknowledged ≤ last_number s.log r.view
  pub given : r.acknowledged ≤ r.given

-- each view's Events are the beginning of what it published
pub record LogNumbers (published : ViewPayloads) (s : PlainSession) : Type 0 where
  pub events : (view : ℕ) → view_payloads s.log view ≡ take (last_number s.log view) (published view)
  pub enough : (view : ℕ) → last_number s.log view ≤ length (published view)

pub record NumbersStand {W O : Type 0} (published : ViewPayloads) (s : System W O) : Type 0 where
  pub prefixes : LogNumbers published s.session
  pub links : (k : ℕ) (c : Connection) → slice_get s.connections k ≡ Some c → ConnectionNumbers published s.session c
  pub boxes : (view : ℕ) (client : Client W O) → view_client s.clients view ≡ Some client → ReplicaNumbers published s.session client.replica
  pub unknown : (view : ℕ) → view_client s.clients view ≡ None → published view ≡ []

-- the numbers give what the worlds' facts want
pub counted : {W O : Type 0} (published : ViewPayloads) (s : System W O) → NumbersStand published s → EventsStand s
counted published s numbered = record {
  least = λ view client is. rw (client_view s.clients view client is) at (numbered.boxes view client is).acked;
  most = λ view client is.
      let box = numbered.boxes view client is in
      let acked = box.acked in
      let enough = numbered.prefixes.enough client.replica.view in
      let same = client_view s.clients view client is in
      let long : length client.replica.outbox ≡ length (published client.replica.view) - client.replica.acknowledged = ap length box.outbox ∙ length-drop client.replica.acknowledged (published client.replica.view) in
      subst (λ (v : ℕ). last_number s.session.log v ≤ published_count client.replica) same (omega arith);
  named = λ k c at. let link = numbered.links k c at in record { bound = link.bound; joins = link.joins; cursor = link.cursor };
}

dones_later : (a b : ℕ) (frames : List ServerFrame) → a ≤ b → DonesWithin a frames → DonesWithin b frames
dones_later a b [] le dones = tt
dones_later a b (Done number seq time ∷ rest) le dones = (omega (arith, dones.0), dones_later a b rest le dones.1)
dones_later a b (Recv entry ∷ rest) le dones = dones_later a b rest le dones
dones_later a b (Tick t ∷ rest) le dones = dones_later a b rest le dones
dones_later a b (Sync joined last from base ∷ rest) le dones = dones_later a b rest le dones
dones_later a b (Snapped time ∷ rest) le dones = dones_later a b rest le dones
dones_later a b (Refused about code kept more ∷ rest) le dones = dones_later a b rest le dones
dones_later a b (Alive ∷ rest) le dones = dones_later a b rest le dones

pub dones_append : (bound : ℕ) (frames more : List ServerFrame) → DonesWithin bound frames → DonesWithin bound more → DonesWithin bound (frames ++ more)
dones_append bound [] more first then = then
dones_append bound (Done number seq time ∷ rest) more first then = (first.0, dones_append bound rest more first.1 then)
dones_append bound (Recv entry ∷ rest) more first then = dones_append bound rest more first then
dones_append bound (Tick t ∷ rest) more first then = dones_append bound rest more first then
dones_append bound (Sync joined last from base ∷ rest) more first then = dones_append bound rest more first then
dones_append bound (Snapped time ∷ rest) more first then = dones_append bound rest more first then
dones_append bound (Refused about code kept again ∷ rest) more first then = dones_append bound rest more first then
dones_append bound (Alive ∷ rest) more first then = dones_append bound rest more first then

pub dones_put : (bound : ℕ) (closed : Bool) (frames more : List ServerFrame) → DonesWithin bound frames → DonesWithin bound more → DonesWithin bound (cond closed frames (frames ++ more))
dones_put bound true frames more first then = first
dones_put bound false frames more first then = dones_append bound frames more first then

-- a later session, with as many Events of each view or more
pub record KeepsCounts (published : ViewPayloads) (s new : PlainSession) : Type 0 where
  pub prefixes : LogNumbers published new
  pub more : (view : ℕ) → last_number s.log view ≤ last_number new.log view

pub link_later : (published : ViewPayloads) (s new : PlainSession) (c : Connection) → KeepsCounts published s new → ConnectionNumbers published s c → ConnectionNumbers published new c
link_later published s new c counts link = record {
  bound = link.bound;
  sends = link.sends;
  joins = link.joins;
  cursor = link.cursor;
  dones = dones_later (last_number s.log c.view) (last_number new.log c.view) c.down (counts.more c.view) link.dones;
}

pub box_later : {W O : Type 0} (published : ViewPayloads) (s new : PlainSession) (r : PlainReplica W O) → KeepsCounts published s new → ReplicaNumbers published s r → ReplicaNumbers published new r
box_later published s new r counts box = record { bound = box.bound; outbox = box.outbox; acked = let a = box.acked in let b = counts.more r.view in omega arith; given = box.given }

pub same_counts : (published : ViewPayloads) (s new : PlainSession) → SameEvents s new → LogNumbers published s → KeepsCounts published s new
same_counts published s new same prefixes =
    let count_is : (view : ℕ) → last_number new.log view ≡ last_number s.log view = λ view. sym (length-view_payloads new.log view) ∙ ap length (same view) ∙ length-view_payloads s.log view in
    record {
      prefixes = record {
        events = λ view. same view ∙ prefixes.events view ∙ ap (λ (n : ℕ). take n (published view)) (sym (count_is view));
        enough = λ view. rw (count_is view) (prefixes.enough view);
      };
      more = λ view. omega (arith, count_is view);
    }

take_suc : (xs : List (List ℕ)) (k : ℕ) (x : List ℕ) → slice_get xs k ≡ Some x → take (suc k) xs ≡ take k xs ++ x ∷ []
take_suc [] k x at = absurd cc
take_suc (y ∷ xs) zero x at = let same : y ≡ x = cc in rw same refl
take_suc (y ∷ xs) (suc k) x at = ap (λ (l : List (List ℕ)). y ∷ l) (take_suc xs k x at)

-- the next Event of a view is appended
event_counts_if : (published : List (List ℕ)) (old new : List (List ℕ)) (payload : List ℕ) (test : Bool) → old ≡ take (length old) published → length old ≤ length published → (test ≡ true → slice_get published (length old) ≡ Some payload) → new ≡ old ++ cond test (payload ∷ []) [] → (new ≡ take (length new) published) × (length new ≤ length published) × (length old ≤ length new)
event_counts_if published old new payload true events enough next is =
    let within = slice_get_within published (length old) payload (next refl) in
    let long : length new ≡ suc (length old) = let h = ap length is in omega (arith, length-append old (payload ∷ [])) in
    (is ∙ ap (λ (l : List (List ℕ)). l ++ payload ∷ []) events ∙ sym (take_suc published (length old) payload (next refl)) ∙ ap (λ (n : ℕ). take n published) (sym long), omega arith, omega arith)
event_counts_if published old new payload false events enough next is =
    let same : new ≡ old = is ∙ append-nil old in
    (rw same events, rw same enough, rw same (omega arith))

event_counts : (published : ViewPayloads) (s : PlainSession) (time view number : ℕ) (payload : List ℕ) → LogNumbers published s → number ≡ last_number s.log view + 1 → slice_get (published view) (number - 1) ≡ Some payload → KeepsCounts published s (append_entry s time view (what.Event number payload))
event_counts published s time view number payload prefixes next meant =
    let new = append_entry s time view (what.Event number payload) in
    let one : (other : ℕ) → (view_payloads new.log other ≡ take (length (view_payloads new.log other)) (published other)) × (length (view_payloads new.log other) ≤ length (published other)) × (length (view_payloads s.log other) ≤ length (view_payloads new.log other))
    = λ other. event_counts_if (published other) (view_payloads s.log other) (view_payloads new.log other) payload (eqb view other)
    (prefixes.events other ∙ ap (λ (n : ℕ). take n (published other)) (sym (length-view_payloads s.log other)))
    (rw (length-view_payloads s.log other) (prefixes.enough other))
    (λ hit. let same : view ≡ other = grind (arith, nat_tests) in
    let place : number - 1 ≡ length (view_payloads s.log view) = omega (arith, length-view_payloads s.log view) in
    subst (λ (v : ℕ). slice_get (published v) (length (view_payloads s.log v)) ≡ Some payload) same (subst (λ (k : ℕ). slice_get (published view) k ≡ Some payload) place meant))
    (event_entry s time view number payload other) in
    record {
      prefixes = record {
        events = λ other. (one other).0 ∙ ap (λ (n : ℕ). take n (published other)) (length-view_payloads new.log other);
        enough = λ other. rw (length-view_payloads new.log other) at (one other).1;
      };
      more = λ other. let h = (one other).2 in omega (arith, length-view_payloads new.log other, length-view_payloads s.log other);
    }

-- no DONE, or one of this number
pub dones_of_refusal : (bound about : ℕ) (why : Refusal) → DonesWithin bound (refused_frame about why ∷ [])
dones_of_refusal bound about why = of_refusal (DonesWithin bound) (λ about code kept more. tt) about why

pub dones_of_answer : (bound view joined number : ℕ) (payload : List ℕ) (now : ℕ) (answered : Reply) → IsNoDoneReply answered ⊎ (number ≤ bound) → DonesWithin bound (answer_frames (answer_frame (request.Send view joined number payload now) answered))
dones_of_answer bound view joined number payload now (reply.Stamped seq time) may = elim may [ inl none ↦ absurd none | inr within ↦ (within, tt) ]
dones_of_answer bound view joined number payload now (reply.Again seq time) may = elim may [ inl none ↦ absurd none | inr within ↦ (within, tt) ]
dones_of_answer bound view joined number payload now reply.Kept may = tt
dones_of_answer bound view joined number payload now (reply.Refused why) may = dones_of_refusal bound SEND_TAG why
dones_of_answer bound view joined number payload now (reply.Left seq time) may = tt
dones_of_answer bound view joined number payload now (reply.Joined seq time last from base) may = tt
dones_of_answer bound view joined number payload now (reply.Ticked time) may = tt
dones_of_answer bound view joined number payload now (reply.Batch entries tick) may = tt

pub dones_of_snap : (bound time : ℕ) (answered : Reply) → DonesWithin bound (answer_frames (snap_answer time answered))
dones_of_snap bound time answered = of_snap_answer (DonesWithin bound) tt (λ at. tt) (λ about code kept more. tt) time answered

pub dones_of_leave : (bound : ℕ) (answered : Reply) → DonesWithin bound (answer_frames (leave_answer answered))
dones_of_leave bound answered = of_leave_answer (DonesWithin bound) tt (λ about code kept more. tt) answered

number_within_if : (old new : List (List ℕ)) (payload : List ℕ) (test : Bool) → test ≡ true → new ≡ old ++ cond test (payload ∷ []) [] → length new ≡ length old + 1
number_within_if old new payload true hit is = ap length is ∙ length-append old (payload ∷ [])
number_within_if old new payload false hit is = absurd cc

-- an Event that was stamped is in the log
number_within : (s : PlainSession) (time view number : ℕ) (payload : List ℕ) → number ≡ last_number s.log view + 1 → number ≤ last_number (append_entry s time view (what.Event number payload)).log view
number_within s time view number payload next =
    let new = append_entry s time view (what.Event number payload) in
    let long = number_within_if (view_payloads s.log view) (view_payloads new.log view) payload (eqb view view) (grind (arith, nat_tests)) (event_entry s time view number payload view) in
    omega (arith, length-view_payloads s.log view, length-view_payloads new.log view)

-- what a Send does to the numbers
pub record SendCounts (published : ViewPayloads) (s : PlainSession) (view number : ℕ) (o : SessionOutcome) : Type 0 where
  pub counts : KeepsCounts published s o.session
  pub done : IsNoDoneReply o.reply ⊎ (number ≤ last_number o.session.log view)

pub send_counts : (published : ViewPayloads) (s : PlainSession) (view joined number : ℕ) (payload : List ℕ) (now : ℕ) → LogNumbers published s → (0 < number) × (slice_get (published view) (number - 1) ≡ Some payload) → SendCounts published s view number (send_event s view joined number payload now)
send_counts published s view joined number payload now prefixes meant =
    let o = send_event s view joined number payload now in
    let same : (new : PlainSession) → new ≡ s → KeepsCounts published s new = λ new is. subst (KeepsCounts published s) (sym is) (same_counts published s s (λ v. refl) prefixes) in
    elim (send_outcome s view joined number payload now) [
      | inl nothing ↦ record { counts = same _ nothing.0; done = inl nothing.1 }
      | inr rest ↦ elim rest [
        | inl again ↦ record { counts = same _ again.0; done = inr (subst (λ (n : PlainSession). number ≤ last_number n.log view) (sym again.0) again.1) }
        | inr stamped ↦
            let counts = event_counts published s stamped.0 view number payload prefixes stamped.1 meant.1 in
            record {
              counts = subst (KeepsCounts published s) (sym stamped.2) counts;
              done = inr (subst (λ (n : PlainSession). number ≤ last_number n.log view) (sym stamped.2) (number_within s stamped.0 view number payload stamped.1));
            }
      ]
    ]
