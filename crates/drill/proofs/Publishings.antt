-- A worker publishes an event.
use Rattle.std.proofs.Common.{◌≡◌, ◌⊎◌, ℕ, ◌+◌, ◌-◌, ◌*◌, ◌≤◌, ◌<◌, true, List, [], ◌∷◌, ◌++◌, length, refl, sym, ap, ◌∙◌, subst, arith}
use Rattle.tea_base.specs.declared.entry.What.{What}
use Rattle.tea_base.specs.declared.entry.What.TheVariants as what
use Rattle.reflector_core.specs.PlainSession.{PlainSession}
use Rattle.session_lock.specs.History.{play}
use Rattle.session_lock.specs.Passes.{SharedState, own_calls}
use Rattle.join_sync.specs.declared.cursor.Cursor.{Cursor}
use Rattle.seeded_random.specs.Draw.{word_of, state_after, number_below}
use Rattle.replica_plain.specs.Calls.{publishes}
use Rattle.replica.specs.RealWorlds.{is_at_rest}
use Rattle.replica.specs.View.{ReplicaView, with_plain}
use Rattle.drill.specs.declared.trust.TrustReplay.{TrustReplay}
use Rattle.drill.specs.declared.size.Size.{Size}
use Rattle.drill.specs.declared.worker.Worker.{Worker}
use Rattle.drill.specs.Asking.{IsDrillHistory, entries_used_by, most_short}
use Rattle.drill.specs.Doing.{HasBase, HasDone, IsHereBy, WasSentBy, loss_interval}
use Rattle.drill.specs.Drilled.{add_payload, drawn_numbers, joins_behind, own, own_turns}
use Rattle.drill.specs.Turns.{HasPublished, HasUnsent, IsWorkerReady, calls_made, left_behind}
use Rattle.drill.specs.ViewCalls.{AfterTurns}
use Rattle.drill.specs.Workers.{IsWorker}
use Rattle.drill.specs.Working.{ReplicaWorks}
use Rattle.drill.proofs.Asks.{worker_with}
use Rattle.drill.proofs.Grown.{works_same}
use Rattle.drill.proofs.Payloads.{short_payload}
use Rattle.drill.proofs.TurnLaws.{turn_begins}

-- the event behind so many turns is published, and not sent
pub record Publishes (size : Size) (s : PlainSession) (w : Worker) (cursor : Cursor) (number : ℕ) (payload : List ℕ) : Type 0 where
  pub done : HasDone s.log w.view number (what.Event (number + 1) payload ∷ joins_behind (number + 1) ++ left_behind size w (number + 1)) (own size.seed w.view size.events)
  pub here : IsHereBy s.log w.view cursor.joined
  pub late : (number ≡ 0) ⊎ WasSentBy s.log w.view number w.replica.plain.world.time
  pub based : loss_interval ≤ number → HasBase s w.view number w.replica.plain.base

pub record IsPublished (gives : ℕ → Type 0) (size : Size) (shared : SharedState TrustReplay) (w : Worker) (cursor : Cursor) (number : ℕ) (payload : List ℕ) : Type 0 where
  pub worker : IsWorker gives size shared w
  pub turn : number + 1 ≤ size.events
  pub calls : AfterTurns w.view number cursor (calls_made w)
  pub few : entries_used_by (own_calls w.pass) ≤ 1 + 3 * number
  pub works : ReplicaWorks (play w.pass.seen) w.replica cursor
  pub connection : cursor.view ≡ w.view
  pub outbox : w.replica.plain.outbox ≡ payload ∷ []
  pub short : length payload ≤ most_short
  pub acknowledged : w.replica.plain.acknowledged ≡ number
  pub given : w.replica.plain.given ≡ number
  pub rests : (number ≡ 0) ⊎ (is_at_rest w.replica.plain.world ≡ true)
  pub does : IsDrillHistory gives size.views w.pass.seen → Publishes size (play w.pass.seen) w cursor number payload

abbrev pub drawn : Worker → ℕ
drawn w = number_below 100 (word_of w.source)

-- the worker that has published
abbrev publisher : Worker → Worker
publisher w = record w { source = state_after w.source; replica = with_plain w.replica (publishes w.replica.plain (add_payload (drawn w))) }

module _ (gives : ℕ → Type 0) (size : Size) (shared : SharedState TrustReplay) where
  begins : (w : Worker) (number : ℕ) → number + 1 ≤ size.events
      → left_behind size w number ≡ what.Event (number + 1) (add_payload (drawn w)) ∷ joins_behind (number + 1) ++ left_behind size (publisher w) (number + 1)
  begins w number turn =
      let count = size.events - (number + 1) in
      let more : size.events - number ≡ count + 1 = omega (arith, turn) in
      let next : number + 2 ≡ number + 1 + 1 = omega arith in
      ap (λ (n : ℕ). own_turns (number + 1) (drawn_numbers w.source n)) more
      ∙ turn_begins number count w.source
      ∙ ap (λ (n : ℕ). what.Event (number + 1) (add_payload (number_below 100 (word_of w.source))) ∷ joins_behind (number + 1) ++ own_turns n (drawn_numbers (state_after w.source) count)) next

  publishes_here : (w : Worker) (cursor : Cursor) (number : ℕ) → number + 1 ≤ size.events → number_below 100 (word_of w.source) < 100 → IsWorkerReady gives size shared w cursor number
      → IsPublished gives size shared (publisher w) cursor number (add_payload (drawn w))
  publishes_here w cursor number turn low ready = record {
    worker = worker_with gives size shared w (state_after w.source) (publisher w).replica refl refl refl ready.worker;
    turn = turn;
    calls = ready.calls;
    few = ready.few;
    works = works_same (play w.pass.seen) w.replica (publisher w).replica.plain cursor refl refl refl refl ready.works;
    connection = ready.connection;
    outbox = ap (λ (payloads : List (List ℕ)). payloads ++ add_payload (drawn w) ∷ []) ready.settled;
    short = short_payload (drawn w) low;
    acknowledged = ready.acknowledged;
    given = ready.given;
    rests = ready.rests;
    does = λ whole. let does = ready.does whole in record {
      done = subst (λ (left : List What). HasDone (play w.pass.seen).log w.view number left (own size.seed w.view size.events)) (begins w number turn) does.done;
      here = does.here;
      late = does.late;
      based = does.based;
    };
  }

  is_publisher : (w new : Worker) → HasPublished w new → new ≡ publisher w
  is_publisher w new has =
      has.rest
      ∙ ap (λ (source : ℕ). record w { source = source; replica = new.replica }) has.source
      ∙ ap (λ (r : ReplicaView). record w { source = state_after w.source; replica = r }) has.replica

  pub is_published : (w new : Worker) (cursor : Cursor) (number : ℕ) → number + 1 ≤ size.events → HasPublished w new → IsWorkerReady gives size shared w cursor number
      → IsPublished gives size shared new cursor number (add_payload (drawn w))
  is_published w new cursor number turn has ready =
      subst (λ (one : Worker). IsPublished gives size shared one cursor number (add_payload (drawn w))) (sym (is_publisher w new has)) (publishes_here w cursor number turn has.low ready)

  -- what was published waits
  pub published : (w new : Worker) (cursor : Cursor) (number : ℕ) → IsWorkerReady gives size shared w cursor number → number + 1 ≤ size.events → HasPublished w new
      → IsWorker gives size shared new × HasUnsent new.replica
  published w new cursor number ready turn has =
      let is = is_published w new cursor number turn has ready in
      (is.worker, record { payload = add_payload (drawn w); outbox = is.outbox; short = is.short; given = is.given ∙ sym is.acknowledged; synced = is.works.synced })
