-- A worker loses its connection, and its world at each 256th event.
use Rattle.std.proofs.Common.{◌≡◌, ◌⊎◌, inl, inr, ℕ, ◌-◌, ◌%◌, ◌≤◌, List, ◌∷◌, ◌++◌, length, refl, sym, ap, ◌∙◌, subst, arith}
use Rattle.tea_base.specs.declared.entry.What.{What}
use Rattle.tea_base.specs.declared.entry.What.TheVariants as what
use Rattle.tea_base.specs.Limits.{most_snapshot}
use Rattle.reflector_core.specs.PlainSession.{PlainSession}
use Rattle.reflector_core.specs.declared.request.Request.TheVariants.{Offer}
use Rattle.reflector_core.specs.declared.request.Reply.{Reply}
use Rattle.session_lock.specs.History.{play}
use Rattle.session_lock.specs.Passes.{PassState, SharedState}
use Rattle.join_sync.specs.declared.cursor.Cursor.{Cursor}
use Rattle.replica_plain.specs.declared.how.How.TheVariants.{Fresh, Resume}
use Rattle.replica_plain.specs.Calls.{loses}
use Rattle.replica.specs.View.{ReplicaView, with_plain, worlds_of}
use Rattle.drill.specs.declared.trust.TrustReplay.{TrustReplay}
use Rattle.drill.specs.declared.size.Size.{Size}
use Rattle.drill.specs.declared.worker.Worker.{Worker}
use Rattle.drill.specs.Asking.{IsDrillHistory}
use Rattle.drill.specs.Doing.{HasDone, KeepsFrom, WasSentBy, loss_interval}
use Rattle.drill.specs.Drilled.{drop_interval, entries_by, own}
use Rattle.drill.specs.Turns.{HasOffered, IsLost, IsOwed, Loses, calls_made, left_behind}
use Rattle.drill.specs.Workers.{ChangesPass, HasAsked, IsWorker}
use Rattle.drill.proofs.Grown.{HasCalled, by_horizon, by_later, has_called, sent_later}
use Rattle.drill.proofs.Asks.{worker_with}
use Rattle.drill.proofs.Histories.{done_same, here_same}
use Rattle.drill.proofs.Requests.{offer_log, offer_row}
use Rattle.drill.proofs.Settlings.{base_next}
use Rattle.drill.proofs.TurnLaws.{joins_once, drop_of_loss}

module _ (gives : ℕ → Type 0) (size : Size) (shared : SharedState TrustReplay) (w : Worker) (cursor : Cursor) (number : ℕ) (payload : List ℕ)
    (owed : IsOwed gives size shared w cursor number payload) where
  -- a Join is left
  join_left : number % drop_interval ≡ 0 → IsDrillHistory gives size.views w.pass.seen
      → HasDone (play w.pass.seen).log w.view number (what.Join ∷ left_behind size w number) (own size.seed w.view size.events)
  join_left multiple whole =
      subst (λ (joins : List What). HasDone (play w.pass.seen).log w.view number (joins ++ left_behind size w number) (own size.seed w.view size.events)) (joins_once number multiple) (owed.does whole).done

  -- its world stays
  pub dropped : number % drop_interval ≡ 0 → (number % loss_interval ≡ 0 → ⊥) → IsLost gives size shared w cursor number payload Resume
  dropped multiple other = record {
    waiting = owed.waiting;
    calls = (multiple, inl (other, owed.calls));
    few = owed.few;
    connection = owed.connection;
    may = (owed.works.follows, owed.works.within);
    lost = tt;
    wants = inr (other, (worlds_of w.replica).time w.replica.plain.world, refl);
    does = λ whole. let owes = owed.does whole in record {
      done = join_left multiple whole;
      here = owes.here;
      sent = owes.sent;
      early = owes.early;
      keeps = λ many. base_next (play w.pass.seen) w.view number w.replica.plain.base owed.waiting.turn.0 other (owes.based (omega (arith, many, other)));
    };
  }

  -- its world is lost, and its snapshot was offered
  module _ (p : PassState) (bytes : List ℕ) (reply : Reply) (small : length bytes ≤ most_snapshot) (multiple : number % loss_interval ≡ 0) (worker : IsWorker gives size shared (record w { pass = p }))
      (asked : HasAsked gives size.views shared w.view w.pass p (Offer w.view cursor.joined w.replica.plain.world.time bytes) reply) where
    abbrev loser : Worker
    loser = record w { pass = p; replica = with_plain w.replica (loses (worlds_of w.replica) w.replica.plain) }

    call : HasCalled gives size.views w.view w.pass p (Offer w.view cursor.joined w.replica.plain.world.time bytes) asked.history
    call = has_called gives size.views shared w.view w.pass p (Offer w.view cursor.joined w.replica.plain.world.time bytes) reply asked

    same_log : IsDrillHistory gives size.views p.seen → entries_by w.view (play p.seen).log ≡ entries_by w.view (play w.pass.seen).log
    same_log whole =
        ap (λ (s : PlainSession). entries_by w.view s.log) asked.session
        ∙ ap (entries_by w.view) (offer_log (play asked.history) w.view cursor.joined w.replica.plain.world.time bytes)
        ∙ call.same whole

    keeps_snapshot : IsDrillHistory gives size.views p.seen → KeepsFrom w.replica.plain.world.time (play p.seen).kept
    keeps_snapshot whole =
        let owes = owed.does (call.first whole) in
        let same = call.same whole in
        subst (λ (s : PlainSession). KeepsFrom w.replica.plain.world.time s.kept) (sym asked.session)
        (offer_row (play asked.history) w.view cursor.joined w.replica.plain.world.time bytes
        (here_same (play w.pass.seen).log (play asked.history).log w.view cursor.joined same owes.here) small (omega (arith, owed.works.within, asked.on.grows.horizon)))

    loses_world : IsDrillHistory gives size.views p.seen → Loses size (play p.seen) loser cursor number payload Fresh
    loses_world whole =
        let before = play w.pass.seen in
        let after = play p.seen in
        let first = call.first whole in
        let owes = owed.does first in
        let grows = call.grows in
        record {
          done = done_same before.log after.log w.view number (what.Join ∷ left_behind size w number) (own size.seed w.view size.events) (same_log whole) (join_left (drop_of_loss number multiple) first);
          here = here_same before.log after.log w.view cursor.joined (same_log whole) owes.here;
          sent = sent_later before after w.view grows number payload owes.sent;
          early = by_horizon before after w.view grows number owes.early;
          keeps = (multiple, w.replica.plain.world.time, late owes.late, keeps_snapshot whole);
        }
      where
        late : (number ≡ 1) ⊎ WasSentBy (play w.pass.seen).log w.view (number - 1) w.replica.plain.world.time → WasSentBy (play p.seen).log w.view (number - 1) w.replica.plain.world.time
        late (inl one) = absurd (omega (arith, one, multiple))
        late (inr sent) =
            by_later (play w.pass.seen) (play p.seen) w.view call.grows (number - 1) w.replica.plain.world.time w.replica.plain.world.time (omega arith) sent

    is_lost : IsLost gives size shared loser cursor number payload Fresh
    is_lost = record {
      waiting = record {
        worker = worker_with gives size shared (record w { pass = p }) w.source loser.replica refl refl refl worker;
        turn = owed.waiting.turn;
        outbox = owed.waiting.outbox;
        short = owed.waiting.short;
        acknowledged = owed.waiting.acknowledged;
      };
      calls = (
        drop_of_loss number multiple,
        inr (multiple, (calls_made w, Offer w.view cursor.joined w.replica.plain.world.time bytes, reply, asked.exchanged, owed.calls, (w.replica.plain.world.time, bytes, refl))),
      );
      few = omega (arith, owed.few, call.few);
      connection = owed.connection;
      may = tt;
      lost = (refl, refl, refl);
      wants = inl (multiple, refl);
      does = loses_world;
    }

pub offered
    : (gives : ℕ → Type 0) (size : Size) (shared : SharedState TrustReplay) (w new : Worker) (cursor : Cursor) (number : ℕ) (payload : List ℕ) (r : ReplicaView)
    → IsOwed gives size shared w cursor number payload → number % loss_interval ≡ 0 → ChangesPass w new → IsWorker gives size shared new → HasOffered gives size.views shared w new cursor
    → r ≡ with_plain new.replica (loses (worlds_of new.replica) new.replica.plain) → IsLost gives size shared (record new { replica = r }) cursor number payload Fresh
offered gives size shared w new cursor number payload r owed multiple same worker has is =
    let lost = is_lost gives size shared w cursor number payload owed new.pass has.bytes has.reply has.small multiple (subst (IsWorker gives size shared) same worker) has.asked in
    subst (λ (r : ReplicaView). IsLost gives size shared (record new { replica = r }) cursor number payload Fresh) (sym is)
    (subst (λ (one : Worker). IsLost gives size shared (record one { replica = with_plain one.replica (loses (worlds_of one.replica) one.replica.plain) }) cursor number payload Fresh) (sym same) lost)
