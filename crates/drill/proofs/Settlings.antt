-- The Done of an event is taken, and the rest of the log.
use Rattle.std.proofs.Common.{◌≡◌, inl, inr, if◌then◌else◌, ◌==◌, eq-eqb, ℕ, ◌+◌, ◌-◌, ◌%◌, ◌≤◌, Bool, true, false, List, [], ◌∷◌, ◌++◌, Option, refl, sym, ap, ◌∙◌, subst, arith}
use Rattle.tea_base.specs.declared.entry.What.{What}
use Rattle.wire_frames.specs.declared.frame.ServerFrame.TheVariants.{Done}
use Rattle.reflector_core.specs.PlainSession.{PlainSession}
use Rattle.session_lock.specs.History.{play}
use Rattle.session_lock.specs.Passes.{SharedState}
use Rattle.join_sync.specs.declared.cursor.Cursor.{Cursor}
use Rattle.replica_plain.specs.PlainReplica.{PlainReplica}
use Rattle.replica_plain.specs.Worlds.{Worlds}
use Rattle.replica_plain.specs.Taking.{Taken, acknowledges, faults, out_of_order, take_done, taken, takes, when_synced}
use Rattle.replica_plain.specs.declared.fault.ReplicaFault.TheVariants as cause
use Rattle.reflector_core.specs.Play.{first_session}
use Rattle.connection.specs.Exchanges.{exchanges_in}
use Rattle.replica.specs.View.{ReplicaView, with_plain, worlds_of}
use Rattle.drill.specs.declared.trust.TrustReplay.{TrustReplay}
use Rattle.drill.specs.declared.size.Size.{Size}
use Rattle.drill.specs.declared.worker.Worker.{Worker}
use Rattle.drill.specs.Asking.{IsDrillHistory}
use Rattle.drill.specs.Doing.{HasBase, HasDone, IsHereBy, WasSentBy, loss_interval}
use Rattle.drill.specs.Drilled.{drop_interval, own}
use Rattle.drill.specs.Sizes.{IsOfSize}
use Rattle.drill.specs.Taking.{HasTaken, IsFine}
use Rattle.drill.specs.Turns.{IsAtTurn, HasRead, HasTakenMore, IsOwed, IsWorkerReady, IsSettled, IsSettling, left_behind}
use Rattle.drill.specs.ViewCalls.{AfterTurns}
use Rattle.drill.specs.Workers.{IsWorker, KeepsSource}
use Rattle.drill.specs.Working.{IsCaughtUp}
use Rattle.drill.proofs.CallLaws.{turn_read}
use Rattle.drill.proofs.Grown.{base_later, by_later, works_same}
use Rattle.drill.proofs.Asks.{worker_with}
use Rattle.drill.proofs.Histories.{done_same, here_same}
use Rattle.drill.proofs.TurnLaws.{joins_none, drop_of_loss}

-- ---- the Done

acknowledged_if
    : {W O : Type 0} (r : PlainReplica W O) (synced next : Bool) (expected found : ℕ) (refused : Taken W O) → synced ≡ true → next ≡ true
    → (if synced then (if next then takes (acknowledges r []) else out_of_order r expected found) else refused) ≡ takes (acknowledges r [])
acknowledged_if r false next expected found refused going is = absurd cc
acknowledged_if r true false expected found refused going is = absurd cc
acknowledged_if r true true expected found refused going is = refl

-- the one event that waits is acknowledged
pub done_taken
    : {W O : Type 0} (m : Worlds W O) (r : PlainReplica W O) (payload : List ℕ) (number seq time : ℕ) → r.synced ≡ true → r.outbox ≡ payload ∷ [] → r.acknowledged + 1 ≡ number
    → taken m r (Done number seq time) ≡ takes (acknowledges r [])
done_taken m r payload number seq time synced outbox next =
    ap (λ (payloads : List (List ℕ)). when_synced r (take_done r payloads number)) outbox
    ∙ acknowledged_if r r.synced (number == r.acknowledged + 1) (r.acknowledged + 1) number (faults r cause.Unasked) synced (eq-eqb number (r.acknowledged + 1) (sym next))

-- where no world is lost, the base stays
pub base_next : (s : PlainSession) (view number : ℕ) (base : Option ℕ) → 1 ≤ number → (number % loss_interval ≡ 0 → ⊥) → HasBase s view (number - 1) base → HasBase s view number base
base_next s view number base some other has =
    let mark : number - 1 - (number - 1) % loss_interval ≡ number - number % loss_interval = omega (arith, other, some) in
    record { time = has.time; is = has.is; late = subst (λ (n : ℕ). WasSentBy s.log view (n - 1) has.time) mark has.late; kept = has.kept }

module _ (gives : ℕ → Type 0) (size : Size) (shared : SharedState TrustReplay) where
  owed_taken : (w : Worker) (cursor : Cursor) (number seq time : ℕ) (payload : List ℕ) → IsOwed gives size shared w cursor number payload
      → taken (worlds_of w.replica) w.replica.plain (Done number seq time) ≡ takes (acknowledges w.replica.plain [])
  owed_taken w cursor number seq time payload owed =
      done_taken (worlds_of w.replica) w.replica.plain payload number seq time owed.works.synced owed.waiting.outbox owed.waiting.acknowledged

  pub done_fine : (w : Worker) (cursor : Cursor) (number seq time : ℕ) (payload : List ℕ) → IsOwed gives size shared w cursor number payload → IsFine w.replica (Done number seq time)
  done_fine w cursor number seq time payload owed = record { none = ap (λ taken. taken.fault) (owed_taken w cursor number seq time payload owed) }

  -- a turn that keeps its connection
  settles_here : (w : Worker) (cursor : Cursor) (number : ℕ) (payload : List ℕ) → IsOwed gives size shared w cursor number payload → (number % drop_interval ≡ 0 → ⊥)
      → IsSettled gives size shared (record w { replica = with_plain w.replica (acknowledges w.replica.plain []) }) cursor number
  settles_here w cursor number payload owed keeps = record {
    worker = worker_with gives size shared w w.source (with_plain w.replica (acknowledges w.replica.plain [])) refl refl refl owed.waiting.worker;
    turn = owed.waiting.turn.0;
    calls = (payload, inl (keeps, owed.calls));
    few = omega (arith, owed.few);
    works = works_same (play w.pass.seen) w.replica (acknowledges w.replica.plain []) cursor refl refl refl refl owed.works;
    connection = owed.connection;
    outbox = refl;
    acknowledged = owed.waiting.acknowledged;
    given = omega (arith, owed.given, owed.waiting.acknowledged);
    does = λ whole. let owes = owed.does whole in record {
      done = subst (λ (joins : List What). HasDone (play w.pass.seen).log w.view number (joins ++ left_behind size w number) (own size.seed w.view size.events)) (joins_none number keeps) owes.done;
      here = owes.here;
      early = owes.early;
      based = λ many. base_next (play w.pass.seen) w.view number w.replica.plain.base owed.waiting.turn.0 (λ mark. keeps (drop_of_loss number mark)) (owes.based (omega (arith, many, keeps)));
    };
  }

  pub done_settles : (w : Worker) (cursor : Cursor) (number seq time : ℕ) (payload : List ℕ) (r : ReplicaView) → IsOwed gives size shared w cursor number payload → (number % drop_interval ≡ 0 → ⊥)
      → HasTaken w.replica (Done number seq time) r → IsSettled gives size shared (record w { replica = r }) cursor number
  done_settles w cursor number seq time payload r owed keeps has =
      let is : r ≡ with_plain w.replica (acknowledges w.replica.plain []) = has.is ∙ ap (λ taken. with_plain w.replica taken.replica) (owed_taken w cursor number seq time payload owed) in
      subst (λ (r : ReplicaView). IsSettled gives size shared (record w { replica = r }) cursor number) (sym is) (settles_here w cursor number payload owed keeps)

  -- ---- the rest of the log

  caught_does
      : (w new : Worker) (cursor next : Cursor) (number : ℕ) → new.view ≡ w.view → new.source ≡ w.source → HasTakenMore gives size.views w new cursor next → IsCaughtUp (play new.pass.seen) new.replica
      → IsDrillHistory gives size.views new.pass.seen → IsSettling size (play w.pass.seen) w cursor number → IsAtTurn size (play new.pass.seen) new next number
  caught_does w new cursor next number view source more caught whole settles =
      let s = play w.pass.seen in
      let after = play new.pass.seen in
      let same = more.passed.on.apart whole in
      rw (view, source)
      (record {
        done = done_same s.log after.log w.view number (left_behind size w number) (own size.seed w.view size.events) same settles.done;
        here = subst (IsHereBy after.log w.view) (sym more.connection.joined) (here_same s.log after.log w.view cursor.joined same settles.here);
        late = inr (by_later s after w.view more.passed.on.grows number s.horizon new.replica.plain.world.time (omega (arith, caught.time, more.passed.on.grows.horizon)) settles.early);
        based = λ many. subst (HasBase after w.view number) (sym more.base) (base_later s after w.view more.passed.on.grows number w.replica.plain.base more.passed.on.kept (settles.based many));
      })

  pub caught_up
      : (w new : Worker) (cursor next : Cursor) (number : ℕ) → IsOfSize size → IsSettled gives size shared w cursor number → KeepsSource w new → IsWorker gives size shared new
      → HasTakenMore gives size.views w new cursor next → IsCaughtUp (play new.pass.seen) new.replica → HasRead w.view w.pass new.pass cursor next → IsWorkerReady gives size shared new next number
  caught_up w new cursor next number few settled source worker more caught read =
      let view : new.view ≡ w.view = ap (λ (one : Worker). one.view) source in
      record {
        worker = worker;
        calls = subst (λ (view : ℕ). AfterTurns view number next (exchanges_in first_session new.pass.seen view)) (sym view) (turn_read w.view number w.pass new.pass cursor next settled.turn settled.calls read);
        few = omega (arith, more.passed.asked, settled.few);
        works = more.works;
        connection = more.connection.view ∙ settled.connection ∙ sym view;
        settled = more.events.outbox ∙ settled.outbox;
        acknowledged = more.events.acknowledged ∙ settled.acknowledged;
        given = more.given ∙ settled.given;
        rests = inr caught.rests;
        does = λ whole. caught_does w new cursor next number view (ap (λ (one : Worker). one.source) source) more caught whole (settled.does (more.passed.on.first whole));
      }
