-- A worker sends what it published.
use Rattle.std.proofs.Common.{◌≡◌, ◌⊎◌, inl, inr, if◌then◌else◌, ℕ, ◌+◌, ◌-◌, ◌*◌, ◌≤◌, Bool, true, false, List, [], ◌∷◌, ◌++◌, length, Option, Some, None, refl, sym, ap, ◌∙◌, subst, arith}
use Rattle.tea_base.specs.declared.entry.What.TheVariants as what
use Rattle.tea_base.specs.Readings.{last_number}
use Rattle.tea_base.specs.Limits.{end_of_time}
use Rattle.wire_frames.specs.declared.frame.ServerFrame.{ServerFrame}
use Rattle.wire_frames.specs.declared.frame.ServerFrame.TheVariants.{Done}
use Rattle.reflector_core.specs.PlainSession.{PlainSession}
use Rattle.reflector_core.specs.Answer.{answer, refuses}
use Rattle.reflector_core.specs.declared.request.Request.TheVariants.{Send}
use Rattle.reflector_core.specs.declared.request.Reply.{Reply}
use Rattle.reflector_core.specs.declared.request.Reply.TheVariants.{Joined, Stamped, Again, Ticked, Left, Kept, Batch, Refused}
use Rattle.reflector_core.specs.declared.request.Refusal.TheVariants.{TimeEnd}
use Rattle.session_lock.specs.History.{play}
use Rattle.session_lock.specs.Passes.{PassState, SharedState, own_calls}
use Rattle.join_sync.specs.declared.cursor.Cursor.{Cursor}
use Rattle.replica_plain.specs.PlainReplica.{published_count}
use Rattle.replica_plain.specs.Calls as calls
use Rattle.replica.specs.RealWorlds.{is_at_rest}
use Rattle.replica.specs.View.{ReplicaView, with_plain}
use Rattle.drill.specs.declared.trust.TrustReplay.{TrustReplay}
use Rattle.drill.specs.declared.size.Size.{Size}
use Rattle.drill.specs.declared.worker.Worker.{Worker}
use Rattle.drill.specs.Asking.{IsDrillHistory, entries_used_by}
use Rattle.drill.specs.Doing.{HasBase, HasDone, HasSent, IsHereBy, WasSentBy, loss_interval}
use Rattle.drill.specs.Drilled.{add_payload, joins_behind, own}
use Rattle.drill.specs.Sizes.{IsOfSize}
use Rattle.drill.specs.Turns.{HasPublished, HasSentIt, HasStopped, IsOwed, IsWorkerReady, Owes, LeavesUndone, calls_made, left_behind}
use Rattle.drill.specs.ViewCalls.{AfterTurns, done_of}
use Rattle.drill.specs.Workers.{HasAsked, IsWorker, KeepsSource}
use Rattle.drill.specs.Working.{ReplicaWorks}
use Rattle.drill.proofs.Grown.{HasCalled, base_later, by_later, has_called, works_same}
use Rattle.drill.proofs.Histories.{done_same, here_same}
use Rattle.drill.proofs.Requests.{IsStamped, send_row}
use Rattle.drill.proofs.Publishings.{IsPublished, drawn, is_published}

-- a Done is told of a Send that was stamped, or stood already
pub done_is : (number : ℕ) (reply : Reply) (done : ServerFrame) → Some done ≡ done_of number reply → (seq : ℕ) × (time : ℕ) × (done ≡ Done number seq time)
done_is number (Stamped seq time) done is = (seq, time, cc is)
done_is number (Again seq time) done is = (seq, time, cc is)
done_is number (Joined seq time last from base) done is = absurd (cc is)
done_is number (Ticked time) done is = absurd (cc is)
done_is number (Left seq time) done is = absurd (cc is)
done_is number Kept done is = absurd (cc is)
done_is number (Batch entries tick) done is = absurd (cc is)
done_is number (Refused refusal) done is = absurd (cc is)

pub given_if : (b : Bool) (count old number : ℕ) → b ≡ true → count ≡ number → (if b then count else old) ≡ number
given_if true count old number synced counted = counted
given_if false count old number synced counted = absurd cc

-- the worker that has sent
abbrev pub sender : Worker → PassState → Worker
sender w p = record w { pass = p; replica = with_plain w.replica (calls.gives w.replica.plain) }

pub is_sender : (w new : Worker) → KeepsSource w new → new.replica ≡ with_plain w.replica (calls.gives w.replica.plain) → new ≡ sender w new.pass
is_sender w new source replica = source ∙ ap (λ (r : ReplicaView). record w { pass = new.pass; replica = r }) replica

module _ (gives : ℕ → Type 0) (size : Size) (shared : SharedState TrustReplay) (w : Worker) (p : PassState) (cursor : Cursor) (number now : ℕ) (payload : List ℕ) (reply : Reply)
    (few : IsOfSize size) (published : IsPublished gives size shared w cursor number payload) (worker : IsWorker gives size shared (sender w p))
    (asked : HasAsked gives size.views shared w.view w.pass p (Send w.view cursor.joined (number + 1) payload now) reply) where
  call : HasCalled gives size.views w.view w.pass p (Send w.view cursor.joined (number + 1) payload now) asked.history
  call = has_called gives size.views shared w.view w.pass p (Send w.view cursor.joined (number + 1) payload now) reply asked

  sent_works : ReplicaWorks (play p.seen) (sender w p).replica cursor
  sent_works =
      works_same (play p.seen) w.replica (sender w p).replica.plain cursor refl refl refl refl (call.works w.replica cursor worker.sound published.works)

  sent_few : entries_used_by (own_calls p) ≤ 2 + 3 * number
  sent_few = omega (arith, call.few, published.few)

  counted : published_count w.replica.plain ≡ number + 1
  counted = ap (λ (payloads : List (List ℕ)). w.replica.plain.acknowledged + length payloads) published.outbox ∙ ap (λ (n : ℕ). n + 1) published.acknowledged

  -- what a Send comes to
  abbrev Comes : Type 0
  Comes =
      ((end_of_time ≤ (play asked.history).horizon) × (answer (play asked.history) (Send w.view cursor.joined (number + 1) payload now) ≡ refuses (play asked.history) (TimeEnd (play asked.history).horizon)))
      ⊎ IsStamped (play asked.history) w.view cursor.joined number payload (joins_behind (number + 1) ++ left_behind size w (number + 1)) (own size.seed w.view size.events)
      (answer (play asked.history) (Send w.view cursor.joined (number + 1) payload now))

  comes : IsDrillHistory gives size.views p.seen → Comes
  comes whole =
      let s = play asked.history in
      let before = play w.pass.seen in
      let same = call.same whole in
      let does = published.does (call.first whole) in
      send_row s w.view cursor.joined now number payload (joins_behind (number + 1) ++ left_behind size w (number + 1)) (own size.seed w.view size.events)
      (call.room few.views whole)
      (here_same before.log s.log w.view cursor.joined same does.here)
      (done_same before.log s.log w.view number (what.Event (number + 1) payload ∷ joins_behind (number + 1) ++ left_behind size w (number + 1)) (own size.seed w.view size.events) same does.done)
      published.short

  -- it was stamped
  owes : IsDrillHistory gives size.views p.seen
      → IsStamped (play asked.history) w.view cursor.joined number payload (joins_behind (number + 1) ++ left_behind size w (number + 1)) (own size.seed w.view size.events)
      (answer (play asked.history) (Send w.view cursor.joined (number + 1) payload now))
      → Owes size (play p.seen) (sender w p) cursor (number + 1) payload
  owes whole stamped =
      let does = published.does (call.first whole) in
      let grows = call.grows in
      let place : number + 1 - 1 ≡ number = omega arith in
      record {
        done = subst (λ (s : PlainSession). HasDone s.log w.view (number + 1) (joins_behind (number + 1) ++ left_behind size w (number + 1)) (own size.seed w.view size.events)) (sym asked.session) stamped.done;
        here = subst (λ (s : PlainSession). IsHereBy s.log w.view cursor.joined) (sym asked.session) stamped.here;
        sent = subst (λ (s : PlainSession). HasSent s.log w.view (number + 1) payload) (sym asked.session) stamped.sent;
        early = subst (λ (s : PlainSession). WasSentBy s.log w.view (number + 1) s.horizon) (sym asked.session) stamped.early;
        late = subst (λ (n : ℕ). (number + 1 ≡ 1) ⊎ WasSentBy (play p.seen).log w.view n w.replica.plain.world.time) (sym place) (late does.late);
        based = subst (λ (n : ℕ). loss_interval ≤ n → HasBase (play p.seen) w.view n w.replica.plain.base) (sym place)
            (λ many. base_later (play w.pass.seen) (play p.seen) w.view grows number w.replica.plain.base call.keeps (does.based many));
      }
    where
      late : (number ≡ 0) ⊎ WasSentBy (play w.pass.seen).log w.view number w.replica.plain.world.time → (number + 1 ≡ 1) ⊎ WasSentBy (play p.seen).log w.view number w.replica.plain.world.time
      late (inl none) = inl (ap (λ (n : ℕ). n + 1) none)
      late (inr sent) =
          inr (by_later (play w.pass.seen) (play p.seen) w.view call.grows number w.replica.plain.world.time w.replica.plain.world.time (omega arith) sent)

  owes_if : (done : ServerFrame) → Some done ≡ done_of (number + 1) reply → IsDrillHistory gives size.views p.seen → Comes → Owes size (play p.seen) (sender w p) cursor (number + 1) payload
  owes_if done is whole (inl ended) =
      let refused : reply ≡ Refused (TimeEnd (play asked.history).horizon) = asked.replies ∙ ap (λ o. o.reply) ended.1 in
      absurd (cc (is, ap (done_of (number + 1)) refused))
  owes_if done is whole (inr stamped) = owes whole stamped

  is_owed : (done : ServerFrame) → Some done ≡ done_of (number + 1) reply → IsOwed gives size shared (sender w p) cursor (number + 1) payload
  is_owed done is = record {
    waiting = record {
      worker = worker;
      turn = (omega arith, published.turn);
      outbox = published.outbox;
      short = published.short;
      acknowledged = ap (λ (n : ℕ). n + 1) published.acknowledged;
    };
    calls = (done, (calls_made w, Send w.view cursor.joined (number + 1) payload now, reply, asked.exchanged, turns, (now, refl, is)));
    few = omega (arith, sent_few);
    works = sent_works;
    connection = published.connection;
    given = given_if w.replica.plain.synced (published_count w.replica.plain) w.replica.plain.given (number + 1) published.works.synced counted;
    rests = rests published.rests;
    does = λ whole. owes_if done is whole (comes whole);
  }
    where
      turns : AfterTurns w.view (number + 1 - 1) cursor (calls_made w)
      turns = let made : number ≡ number + 1 - 1 = omega arith in subst (λ (made : ℕ). AfterTurns w.view made cursor (calls_made w)) made published.calls

      rests : (number ≡ 0) ⊎ (is_at_rest w.replica.plain.world ≡ true) → (number + 1 ≡ 1) ⊎ (is_at_rest w.replica.plain.world ≡ true)
      rests (inl none) = inl (ap (λ (n : ℕ). n + 1) none)
      rests (inr still) = inr still

  -- it was refused
  stops_if : None ≡ done_of (number + 1) reply → IsDrillHistory gives size.views p.seen → Comes → LeavesUndone size (play p.seen) (sender w p) cursor.joined
  stops_if is whole (inr stamped) = absurd (cc (is, ap (done_of (number + 1)) (asked.replies ∙ stamped.reply)))
  stops_if is whole (inl ended) =
      let s = play asked.history in
      let before = play w.pass.seen in
      let left = what.Event (number + 1) payload ∷ joins_behind (number + 1) ++ left_behind size w (number + 1) in
      let same = call.same whole in
      let does = published.does (call.first whole) in
      let done = done_same before.log s.log w.view number left (own size.seed w.view size.events) same does.done in
      let stays : play p.seen ≡ s = asked.session ∙ ap (λ o. o.session) ended.1 in
      subst (λ (new : PlainSession). LeavesUndone size new (sender w p) cursor.joined) (sym stays)
      (record {
        number = number;
        left = left;
        done = done;
        some = λ none. cc none;
        here = here_same before.log s.log w.view cursor.joined same does.here;
        ended = ended.0;
        counted = record {
          program = sent_works.program;
          least = subst (λ (view : ℕ). w.replica.plain.acknowledged ≤ last_number s.log view) (sym worker.view) (omega (arith, done.sent, published.acknowledged));
          most = subst (λ (view : ℕ). last_number s.log view ≤ published_count w.replica.plain) (sym worker.view) (omega (arith, done.sent, counted));
        };
      })

  has_stopped : None ≡ done_of (number + 1) reply → HasStopped gives size shared (sender w p) cursor true
  has_stopped is = record {
    worker = worker;
    few = omega (arith, sent_few, published.turn);
    connection = published.connection;
    catches = record { program = sent_works.program; follows = sent_works.follows; synced = sent_works.synced; within = sent_works.within };
    stops = λ whole. stops_if is whole (comes whole);
    calls = λ whole. (number, omega (arith, published.turn), (payload, inl (calls_made w, Send w.view cursor.joined (number + 1) payload now, reply, asked.exchanged, published.calls, (now, refl, is))));
  }

pub one_payload : (outbox : List (List ℕ)) (a b : List ℕ) → outbox ≡ a ∷ [] → outbox ≡ b ∷ [] → a ≡ b
one_payload outbox a b one two = cc (one, two)

module _ (gives : ℕ → Type 0) (size : Size) (shared : SharedState TrustReplay) (w mid new : Worker) (cursor : Cursor) (number : ℕ)
    (few : IsOfSize size) (ready : IsWorkerReady gives size shared w cursor number) (turn : number + 1 ≤ size.events) (has : HasPublished w mid) (source : KeepsSource mid new)
    (worker : IsWorker gives size shared new) where
  -- what is sent was published
  waits : (done : Option ServerFrame) → (sent : HasSentIt gives size.views shared mid new cursor done) → IsPublished gives size shared mid cursor number sent.unsent.payload
  waits answered sent =
      let is = is_published gives size shared w mid cursor number turn has ready in
      subst (IsPublished gives size shared mid cursor number) (one_payload mid.replica.plain.outbox (add_payload (drawn w)) sent.unsent.payload is.outbox sent.unsent.outbox) is

  asks : (done : Option ServerFrame) → (sent : HasSentIt gives size.views shared mid new cursor done)
      → HasAsked gives size.views shared mid.view mid.pass new.pass (Send mid.view cursor.joined (number + 1) sent.unsent.payload sent.now) sent.reply
  asks done sent =
      subst (λ (n : ℕ). HasAsked gives size.views shared mid.view mid.pass new.pass (Send mid.view cursor.joined (n + 1) sent.unsent.payload sent.now) sent.reply)
      (waits done sent).acknowledged sent.asked

  told : (done : Option ServerFrame) → (sent : HasSentIt gives size.views shared mid new cursor done) → done ≡ done_of (number + 1) sent.reply
  told done sent = sent.answered ∙ ap (λ (n : ℕ). done_of (n + 1) sent.reply) (waits done sent).acknowledged

  -- a Done came
  pub sent_some : (done : ServerFrame) → HasSentIt gives size.views shared mid new cursor (Some done)
      → (payload : List ℕ) × IsOwed gives size shared new cursor (number + 1) payload × (seq : ℕ) × (time : ℕ) × (done ≡ Done (number + 1) seq time)
  sent_some done sent =
      let same = is_sender mid new source sent.replica in
      let owed = is_owed gives size shared mid new.pass cursor number sent.now sent.unsent.payload sent.reply few (waits (Some done) sent) (subst (IsWorker gives size shared) same worker)
      (asks (Some done) sent) done (told (Some done) sent) in
      let answered = done_is (number + 1) sent.reply done (told (Some done) sent) in
      (sent.unsent.payload, subst (λ (w : Worker). IsOwed gives size shared w cursor (number + 1) sent.unsent.payload) (sym same) owed, answered.0, answered.1, answered.2)

  -- none came
  pub sent_none : HasSentIt gives size.views shared mid new cursor None → HasStopped gives size shared new cursor true
  sent_none sent =
      let same = is_sender mid new source sent.replica in
      let stopped = has_stopped gives size shared mid new.pass cursor number sent.now sent.unsent.payload sent.reply few (waits None sent) (subst (IsWorker gives size shared) same worker)
      (asks None sent) (told None sent) in
      subst (λ (w : Worker). HasStopped gives size shared w cursor true) (sym same) stopped
