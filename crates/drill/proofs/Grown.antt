-- What is so of a worker and its view stays so while the session goes on.
use Rattle.std.proofs.Common.{◌≡◌, ◌⊎◌, inl, inr, ℕ, ◌+◌, ◌-◌, ◌≤◌, ◌<◌, ◌%◌, List, [], ◌∷◌, Option, sym, ap, ◌∙◌, subst, arith}
use Rattle.tea_base.specs.declared.entry.Entry.{Entry}
use Rattle.reflector_core.specs.PlainSession.{PlainSession, IsSoundSession}
use Rattle.reflector_core.specs.Answer.{answer}
use Rattle.reflector_core.specs.Growth.{GrowsTo}
use Rattle.reflector_core.specs.Play.{first_session}
use Rattle.reflector_core.specs.SessionState.{entries_used}
use Rattle.reflector_core.specs.declared.request.Request.{Request}
use Rattle.reflector_core.specs.declared.request.Reply.{Reply}
use Rattle.reflector_core.proofs.GrowthLaws.{GrowsTo-answer, GrowsTo-then}
use Rattle.session_lock.specs.declared.knowledge.Item.{Item}
use Rattle.session_lock.specs.declared.knowledge.Item.TheVariants.{Did}
use Rattle.session_lock.specs.History.{IsSoundThrough, play}
use Rattle.session_lock.specs.Passes.{PassState, SharedState, own_calls}
use Rattle.session_lock.proofs.Histories.{sound_end}
use Rattle.join_sync.specs.declared.cursor.Cursor.{Cursor}
use Rattle.world_plain.specs.Messages.{PlainOutgoing}
use Rattle.world_plain.specs.World.{WorldRecord}
use Rattle.replica_plain.specs.PlainReplica.{PlainReplica}
use Rattle.replica.specs.View.{ReplicaView, with_plain}
use Rattle.system_plain.proofs.Sessions.{Grows-answer, Grows-legal}
use Rattle.run_steps.specs.Limits.{most_drill_views}
use Rattle.drill.specs.declared.trust.TrustReplay.{TrustReplay}
use Rattle.drill.specs.Asking.{IsDrillHistory, entries_used_by}
use Rattle.drill.specs.Doing.{HasBase, HasSent, KeepsFrom, WasSentBy, loss_interval}
use Rattle.drill.specs.Drilled.{entries_by}
use Rattle.drill.specs.Workers.{HasAsked}
use Rattle.drill.specs.Working.{IsCaughtUp, ReplicaWorks}
use Rattle.drill.proofs.Histories.{HasRoom, by_grown, has_room, kept_on, sent_grown}
use Rattle.drill.proofs.Passing.{asked_more}
use Rattle.drill.proofs.Workers.{works_grow}

-- ---- of the log

module _ (s new : PlainSession) (view : ℕ) (grows : GrowsTo s new) where
  pub by_later : (number time later : ℕ) → time ≤ later → WasSentBy s.log view number time → WasSentBy new.log view number later
  by_later number time later le sent =
      let there : WasSentBy new.log view number time = subst (λ (log : List Entry). WasSentBy log view number time) (sym grows.log) (by_grown s.log grows.rest view number time sent) in
      record { entry = there.entry; at = there.at; early = omega (arith, there.early, le) }

  -- an event that is not later than the horizon
  pub by_horizon : (number : ℕ) → WasSentBy s.log view number s.horizon → WasSentBy new.log view number new.horizon
  by_horizon number = by_later number s.horizon new.horizon grows.horizon

  pub sent_later : (number : ℕ) (payload : List ℕ) → HasSent s.log view number payload → HasSent new.log view number payload
  sent_later number payload sent = subst (λ (log : List Entry). HasSent log view number payload) (sym grows.log) (sent_grown s.log grows.rest view number payload sent)

  pub base_later : (number : ℕ) (base : Option ℕ) → ((time : ℕ) → KeepsFrom time s.kept → KeepsFrom time new.kept) → HasBase s view number base → HasBase new view number base
  base_later number base kept has = record {
    time = has.time;
    is = has.is;
    late = by_later (number - number % loss_interval - 1) has.time has.time (omega arith) has.late;
    kept = kept has.time has.kept;
  }

-- ---- of the replica

-- a call that leaves the world, and how much of the log it has seen
pub works_same
    : (s : PlainSession) (r : ReplicaView) (plain : PlainReplica WorldRecord PlainOutgoing) (cursor : Cursor) → plain.broken ≡ r.plain.broken → plain.world ≡ r.plain.world → plain.seen ≡ r.plain.seen
    → plain.synced ≡ r.plain.synced → ReplicaWorks s r cursor → ReplicaWorks s (with_plain r plain) cursor
works_same s r plain cursor broken world seen synced works = record {
  program = works.program;
  follows = record {
    whole = broken ∙ works.follows.whole;
    valid = rw (world) works.follows.valid;
    follows = rw (world) works.follows.follows;
    counted = rw (world, seen) works.follows.counted;
  };
  synced = synced ∙ works.synced;
  within = rw (world) works.within;
  place = works.place;
  placed = works.placed ∙ sym seen;
  ahead = rw (world) works.ahead;
  sent = works.sent;
  ticked = works.ticked;
  next = still works.next;
}
  where
    still : (cursor.last_tick < s.horizon) ⊎ IsCaughtUp s r → (cursor.last_tick < s.horizon) ⊎ IsCaughtUp s (with_plain r plain)
    still (inl later) = inl later
    still (inr caught) = inr (record { rests = rw (world) caught.rests; seen = seen ∙ caught.seen; time = rw (world) caught.time })

-- ---- of a worker that has called

-- from the session that its pass had seen, to the one that answered at the end of this history, to the one behind it
pub record HasCalled (gives : ℕ → Type 0) (views view : ℕ) (before after : PassState) (request : Request) (history : List Item) : Type 0 where
  pub few : entries_used_by (own_calls after) ≡ entries_used_by (own_calls before) + entries_used request
  pub grows : GrowsTo (play before.seen) (play after.seen)
  pub keeps_behind : (time : ℕ) → KeepsFrom time (play history).kept → KeepsFrom time (play after.seen).kept
  pub keeps : (time : ℕ) → KeepsFrom time (play before.seen).kept → KeepsFrom time (play after.seen).kept
  pub works : (r : ReplicaView) (cursor : Cursor) → IsSoundThrough first_session after.seen → ReplicaWorks (play before.seen) r cursor → ReplicaWorks (play after.seen) r cursor
  pub first : IsDrillHistory gives views after.seen → IsDrillHistory gives views before.seen
  pub same : IsDrillHistory gives views after.seen → entries_by view (play history).log ≡ entries_by view (play before.seen).log
  pub room : views ≤ most_drill_views → IsDrillHistory gives views after.seen → HasRoom (play history)

module _ (gives : ℕ → Type 0) (views : ℕ) (shared : SharedState TrustReplay) (view : ℕ) (before after : PassState) (request : Request) (reply : Reply)
    (asked : HasAsked gives views shared view before after request reply) where
  asked_grows : GrowsTo (play before.seen) (play after.seen)
  asked_grows =
      GrowsTo-then (play before.seen) (play asked.history) (play after.seen) asked.on.grows
      (subst (GrowsTo (play asked.history)) (sym asked.session) (GrowsTo-answer (play asked.history) request))

  asked_keeps_behind : (time : ℕ) → KeepsFrom time (play asked.history).kept → KeepsFrom time (play after.seen).kept
  asked_keeps_behind time keeps = subst (λ (seen : List Item). KeepsFrom time (play seen).kept) (sym asked.seen) (kept_on time asked.history (Did view request ∷ []) keeps)

  asked_keeps : (time : ℕ) → KeepsFrom time (play before.seen).kept → KeepsFrom time (play after.seen).kept
  asked_keeps time keeps = asked_keeps_behind time (asked.on.kept time keeps)

  asked_few : entries_used_by (own_calls after) ≡ entries_used_by (own_calls before) + entries_used request
  asked_few = ap entries_used_by asked.own ∙ asked_more (own_calls before) view request

  asked_works : (r : ReplicaView) (cursor : Cursor) → IsSoundThrough first_session after.seen → ReplicaWorks (play before.seen) r cursor → ReplicaWorks (play after.seen) r cursor
  asked_works r cursor through works =
      let s = play asked.history in
      let sound : IsSoundSession (answer s request).session = subst IsSoundSession asked.session (sound_end first_session after.seen through) in
      let here : ReplicaWorks s r cursor = works_grow (play before.seen) s r cursor (Grows-legal (play before.seen) s asked.on.grows asked.sound.legal) asked.sound works in
      subst (λ (new : PlainSession). ReplicaWorks new r cursor) (sym asked.session) (works_grow s (answer s request).session r cursor (Grows-answer s request sound) sound here)

  asked_room : views ≤ most_drill_views → IsDrillHistory gives views after.seen → HasRoom (play asked.history)
  asked_room few whole = has_room gives views asked.history few (asked.first whole)

  asked_same : IsDrillHistory gives views after.seen → entries_by view (play asked.history).log ≡ entries_by view (play before.seen).log
  asked_same whole = asked.on.apart (asked.first whole)

  asked_first : IsDrillHistory gives views after.seen → IsDrillHistory gives views before.seen
  asked_first whole = asked.on.first (asked.first whole)

  pub has_called : HasCalled gives views view before after request asked.history
  has_called = record {
    few = asked_few;
    grows = asked_grows;
    keeps_behind = asked_keeps_behind;
    keeps = asked_keeps;
    works = asked_works;
    first = asked_first;
    same = asked_same;
    room = asked_room;
  }
