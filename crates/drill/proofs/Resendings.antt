-- A worker that has joined again sends its event again.
use Rattle.std.proofs.Common.{◌≡◌, inr, ℕ, ◌+◌, ◌*◌, ◌≤◌, true, List, [], length, Option, Some, None, refl, sym, ap, ◌∙◌, subst, arith}
use Rattle.wire_frames.specs.declared.frame.ServerFrame.{ServerFrame}
use Rattle.wire_frames.specs.declared.frame.ServerFrame.TheVariants.{Done}
use Rattle.reflector_core.specs.PlainSession.{PlainSession}
use Rattle.reflector_core.specs.Answer.{SessionOutcome, answer, with_reply}
use Rattle.reflector_core.specs.declared.request.Request.TheVariants.{Send}
use Rattle.reflector_core.specs.declared.request.Reply.{Reply}
use Rattle.reflector_core.specs.declared.request.Reply.TheVariants.{Again}
use Rattle.session_lock.specs.History.{play}
use Rattle.session_lock.specs.Passes.{PassState, SharedState, own_calls}
use Rattle.join_sync.specs.declared.cursor.Cursor.{Cursor}
use Rattle.replica_plain.specs.PlainReplica.{published_count}
use Rattle.replica_plain.specs.Calls as calls
use Rattle.replica_plain.specs.Taking.{acknowledges, taken, takes, IsTimely}
use Rattle.replica.specs.View.{ReplicaView, with_plain, worlds_of}
use Rattle.drill.specs.declared.trust.TrustReplay.{TrustReplay}
use Rattle.drill.specs.declared.size.Size.{Size}
use Rattle.drill.specs.declared.worker.Worker.{Worker}
use Rattle.drill.specs.Asking.{IsDrillHistory, entries_used_by}
use Rattle.drill.specs.Doing.{HasDone, IsHereBy}
use Rattle.drill.specs.Drilled.{own}
use Rattle.drill.specs.Sizes.{IsOfSize}
use Rattle.drill.specs.Taking.{HasTaken, IsFine}
use Rattle.drill.specs.Turns.{HasSentIt, HasStopped, IsBack, IsSettled, IsSettling, calls_made, left_behind}
use Rattle.drill.specs.ViewCalls.{done_of}
use Rattle.drill.specs.Workers.{HasAsked, IsWorker, KeepsSource}
use Rattle.drill.specs.Working.{ReplicaWorks}
use Rattle.drill.proofs.Grown.{HasCalled, base_later, by_horizon, has_called, works_same}
use Rattle.drill.proofs.Asks.{worker_with}
use Rattle.drill.proofs.Histories.{done_same, here_same, sent_same}
use Rattle.drill.proofs.Requests.{resend_row}
use Rattle.drill.proofs.Sendings.{done_is, given_if, is_sender, one_payload, sender}
use Rattle.drill.proofs.Settlings.{done_taken}

-- the worker that has sent, and has taken the Done
abbrev taker : Worker → PassState → Worker
taker w p = record w { pass = p; replica = with_plain w.replica (acknowledges (calls.gives w.replica.plain) []) }

module _ (gives : ℕ → Type 0) (size : Size) (shared : SharedState TrustReplay) (w : Worker) (p : PassState) (cursor : Cursor) (number now : ℕ) (payload : List ℕ) (reply : Reply)
    (back : IsBack gives size shared w cursor number payload) (worker : IsWorker gives size shared (sender w p))
    (asked : HasAsked gives size.views shared w.view w.pass p (Send w.view cursor.joined number payload now) reply) where
  call : HasCalled gives size.views w.view w.pass p (Send w.view cursor.joined number payload now) asked.history
  call = has_called gives size.views shared w.view w.pass p (Send w.view cursor.joined number payload now) reply asked

  -- it is answered by the entry that stands
  abbrev StandsAlready : Type 0
  StandsAlready = (seq : ℕ) × (time : ℕ) × (answer (play asked.history) (Send w.view cursor.joined number payload now) ≡ with_reply (play asked.history) (Again seq time))

  answered : IsDrillHistory gives size.views p.seen → StandsAlready
  answered whole =
      let before = play w.pass.seen in
      let s = play asked.history in
      let same = call.same whole in
      let does = back.does (call.first whole) in
      resend_row s w.view cursor.joined now number payload (left_behind size w number) (own size.seed w.view size.events) (here_same before.log s.log w.view cursor.joined same does.here)
      (done_same before.log s.log w.view number (left_behind size w number) (own size.seed w.view size.events) same does.done) back.waiting.turn.0
      (sent_same before.log s.log w.view number payload same does.sent) back.waiting.short

  resent_works : ReplicaWorks (play p.seen) w.replica cursor
  resent_works = call.works w.replica cursor worker.sound back.works

  resent_few : entries_used_by (own_calls p) ≤ 1 + 3 * number
  resent_few = omega (arith, call.few, back.few)

  all_given : (calls.gives w.replica.plain).given ≡ number
  all_given =
      given_if w.replica.plain.synced (published_count w.replica.plain) w.replica.plain.given number back.works.synced
      (ap (λ (payloads : List (List ℕ)). w.replica.plain.acknowledged + length payloads) back.waiting.outbox ∙ back.waiting.acknowledged)

  -- ---- a Done came

  settles : IsDrillHistory gives size.views p.seen → IsSettling size (play p.seen) (taker w p) cursor number
  settles whole =
      let before = play w.pass.seen in
      let s = play asked.history in
      let same = call.same whole in
      let does = back.does (call.first whole) in
      let grows = call.grows in
      let stays : play p.seen ≡ s = asked.session ∙ ap (λ (o : SessionOutcome). o.session) (answered whole).2 in
      record {
        done = subst (λ (new : PlainSession). HasDone new.log w.view number (left_behind size w number) (own size.seed w.view size.events)) (sym stays)
            (done_same before.log s.log w.view number (left_behind size w number) (own size.seed w.view size.events) same does.done);
        here = subst (λ (new : PlainSession). IsHereBy new.log w.view cursor.joined) (sym stays) (here_same before.log s.log w.view cursor.joined same does.here);
        early = by_horizon before (play p.seen) w.view grows number does.early;
        based = λ many. base_later before (play p.seen) w.view grows number w.replica.plain.base call.keeps (does.based many);
      }

  is_settled : (done : ServerFrame) → Some done ≡ done_of number reply → IsSettled gives size shared (taker w p) cursor number
  is_settled done told = record {
    turn = back.waiting.turn.0;
    calls = (payload, inr (done, (calls_made w, Send w.view cursor.joined number payload now, reply, asked.exchanged, back.calls, (now, refl, told))));
    worker = worker_with gives size shared (sender w p) w.source (taker w p).replica refl refl refl worker;
    few = resent_few;
    works = works_same (play p.seen) w.replica (acknowledges (calls.gives w.replica.plain) []) cursor refl refl refl refl resent_works;
    connection = back.connection;
    outbox = refl;
    acknowledged = back.waiting.acknowledged;
    given = omega (arith, all_given, back.waiting.acknowledged);
    does = settles;
  }

  is_taken : (seq time : ℕ) → taken (worlds_of w.replica) (calls.gives w.replica.plain) (Done number seq time) ≡ takes (acknowledges (calls.gives w.replica.plain) [])
  is_taken seq time = done_taken (worlds_of w.replica) (calls.gives w.replica.plain) payload number seq time back.works.synced back.waiting.outbox back.waiting.acknowledged

  takes_done : (done : ServerFrame) → Some done ≡ done_of number reply → (seq time : ℕ) (r : ReplicaView) → HasTaken (sender w p).replica (Done number seq time) r → IsSettled gives size shared (record (sender w p) { replica = r }) cursor number
  takes_done done told seq time r has =
      let is : r ≡ (taker w p).replica = has.is ∙ ap (λ taken. with_plain w.replica taken.replica) (is_taken seq time) in
      subst (λ (r : ReplicaView). IsSettled gives size shared (record (sender w p) { replica = r }) cursor number) (sym is) (is_settled done told)

  -- ---- none came, which cannot be

  not_refused : None ≡ done_of number reply → IsDrillHistory gives size.views p.seen → ⊥
  not_refused is whole =
      let again = answered whole in
      cc (is ∙ ap (done_of number) (asked.replies ∙ ap (λ (o : SessionOutcome). o.reply) again.2))

  has_stopped : None ≡ done_of number reply → HasStopped gives size shared (sender w p) cursor true
  has_stopped is =
      let works = works_same (play p.seen) w.replica (calls.gives w.replica.plain) cursor refl refl refl refl resent_works in
      record {
        worker = worker;
        few = omega (arith, resent_few, back.waiting.turn.1);
        connection = back.connection;
        catches = record { program = works.program; follows = works.follows; synced = works.synced; within = works.within };
        stops = λ whole. absurd (not_refused is whole);
        calls = λ whole. absurd (not_refused is whole);
      }

module _ (gives : ℕ → Type 0) (size : Size) (shared : SharedState TrustReplay) (w new : Worker) (cursor : Cursor) (number : ℕ) (payload : List ℕ)
    (few : IsOfSize size) (back : IsBack gives size shared w cursor number payload) (source : KeepsSource w new) (worker : IsWorker gives size shared new) where
  asks : (answered : Option ServerFrame) → (sent : HasSentIt gives size.views shared w new cursor answered)
      → HasAsked gives size.views shared w.view w.pass new.pass (Send w.view cursor.joined number payload sent.now) sent.reply
  asks answered sent =
      subst (λ (n : ℕ). HasAsked gives size.views shared w.view w.pass new.pass (Send w.view cursor.joined n payload sent.now) sent.reply) back.waiting.acknowledged
      (subst (λ (bytes : List ℕ). HasAsked gives size.views shared w.view w.pass new.pass (Send w.view cursor.joined (w.replica.plain.acknowledged + 1) bytes sent.now) sent.reply)
      (one_payload w.replica.plain.outbox sent.unsent.payload payload sent.unsent.outbox back.waiting.outbox) sent.asked)

  told : (answered : Option ServerFrame) → (sent : HasSentIt gives size.views shared w new cursor answered) → answered ≡ done_of number sent.reply
  told answered sent = sent.answered ∙ ap (λ (n : ℕ). done_of n sent.reply) back.waiting.acknowledged

  abbrev TakesDone : Worker → ServerFrame → Type 0
  TakesDone one done = IsFine one.replica done × IsTimely done × ((r : ReplicaView) → HasTaken one.replica done r → IsSettled gives size shared (record one { replica = r }) cursor number)

  pub resent_some : (done : ServerFrame) → HasSentIt gives size.views shared w new cursor (Some done)
      → IsFine new.replica done × IsTimely done × ((r : ReplicaView) → HasTaken new.replica done r → IsSettled gives size shared (record new { replica = r }) cursor number)
  resent_some done sent =
      let same = is_sender w new source sent.replica in
      let is = done_is number sent.reply done (told (Some done) sent) in
      let there = subst (IsWorker gives size shared) same worker in
      let asked = asks (Some done) sent in
      let fine : IsFine (with_plain w.replica (calls.gives w.replica.plain)) (Done number is.0 is.1) =
      record { none = ap (λ taken. taken.fault) (is_taken gives size shared w new.pass cursor number sent.now payload sent.reply back there asked is.0 is.1) } in
      let settled = takes_done gives size shared w new.pass cursor number sent.now payload sent.reply back there asked done (told (Some done) sent) is.0 is.1 in
      subst (λ (one : Worker). TakesDone one done) (sym same) (subst (TakesDone (sender w new.pass)) (sym is.2) (fine, tt, settled))

  pub resent_none : HasSentIt gives size.views shared w new cursor None → HasStopped gives size shared new cursor true
  resent_none sent =
      let same = is_sender w new source sent.replica in
      let stopped = has_stopped gives size shared w new.pass cursor number sent.now payload sent.reply back (subst (IsWorker gives size shared) same worker) (asks None sent) (told None sent) in
      subst (λ (one : Worker). HasStopped gives size shared one cursor true) (sym same) stopped
