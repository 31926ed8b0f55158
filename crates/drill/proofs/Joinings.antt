-- A worker joins, for the first time or again.
use Rattle.std.proofs.Common.{◌≡◌, ◌⊎◌, inl, inr, ℕ, ◌+◌, ◌-◌, ◌*◌, ◌≤◌, false, List, [], map, Option, Some, None, refl, sym, ap, ◌∙◌, subst, arith}
use Rattle.tea_base.specs.declared.entry.Entry.{Entry}
use Rattle.tea_base.specs.declared.entry.What.{What}
use Rattle.tea_base.specs.Readings.{last_number}
use Rattle.tea_base.specs.Limits.{end_of_time}
use Rattle.wire_frames.specs.declared.start.Want.{Want}
use Rattle.wire_frames.specs.declared.start.Want.TheVariants as want
use Rattle.reflector_core.specs.PlainSession.{PlainSession}
use Rattle.reflector_core.specs.Answer.{SessionOutcome, answer, refuses}
use Rattle.reflector_core.specs.Play.{first_session}
use Rattle.reflector_core.specs.declared.request.Request.TheVariants.{Join}
use Rattle.reflector_core.specs.declared.request.Reply.{Reply}
use Rattle.reflector_core.specs.declared.request.Reply.TheVariants.{Joined, Stamped, Again, Ticked, Left, Kept, Batch, Refused}
use Rattle.reflector_core.specs.declared.request.Refusal.TheVariants.{TimeEnd}
use Rattle.session_lock.specs.declared.knowledge.Item.{Item}
use Rattle.session_lock.specs.History.{calls_of, play}
use Rattle.session_lock.specs.Passes.{SharedState, own_calls}
use Rattle.join_sync.specs.declared.cursor.Cursor.{Cursor}
use Rattle.join_sync.specs.Answers.{first_cursor}
use Rattle.connection.specs.Exchanges.{exchanges_in}
use Rattle.connection.proofs.Callers.{exchanges_none}
use Rattle.model_solved.specs.Founding.{founding_of, IsFounding}
use Rattle.replica_plain.specs.declared.how.How.{How}
use Rattle.replica_plain.specs.declared.how.How.TheVariants.{Fresh}
use Rattle.replica_plain.specs.Calls.{join_want}
use Rattle.replica.specs.View.{ReplicaView, worlds_of}
use Rattle.drill.specs.declared.trust.TrustReplay.{TrustReplay}
use Rattle.drill.specs.declared.size.Size.{Size}
use Rattle.drill.specs.declared.worker.Worker.{Worker}
use Rattle.drill.specs.Asking.{IsDrillHistory, entries_used_by}
use Rattle.drill.specs.Doing.{HasDone, HasFinished, IsHereBy}
use Rattle.drill.specs.Drilled.{drawn_numbers, entries_by, own, own_turns, sources_per_seed}
use Rattle.drill.specs.Sizes.{IsOfSize}
use Rattle.drill.specs.Turns.{IsAtTurn, Ends, HasEnded, HasJoined, IsWorkerReady}
use Rattle.drill.specs.ViewCalls.{AfterTurns, AreCallsOf, AsksJoin, FollowedBy}
use Rattle.drill.specs.Workers.{IsFirst, IsWorker, KeepsSource}
use Rattle.drill.proofs.Grown.{HasCalled, has_called}
use Rattle.drill.proofs.Histories.{apart, nothing_done}
use Rattle.drill.proofs.Requests.{IsJoined, join_row}

-- the cursor is that of the Join
pub cursor_is : (view : ℕ) (reply : Reply) (seq time last from : ℕ) (base : _) (cursor : Cursor) → reply ≡ Joined seq time last from base → Some cursor ≡ first_cursor view reply
    → (cursor.view ≡ view) × (cursor.joined ≡ seq)
cursor_is view reply seq time last from base cursor is opened =
    let same : Some cursor ≡ Some (record { view = view; joined = seq; after = from; last_tick = 0 }) = opened ∙ ap (first_cursor view) is in
    let cursors : cursor ≡ record { view = view; joined = seq; after = from; last_tick = 0 } = cc same in
    (ap (λ (c : Cursor). c.view) cursors, ap (λ (c : Cursor). c.joined) cursors)

-- of the view, whatever was replied
pub cursor_of : (view : ℕ) (reply : Reply) (cursor : Cursor) → Some cursor ≡ first_cursor view reply → cursor.view ≡ view
cursor_of view (Joined seq time last from base) cursor opened = (cursor_is view (Joined seq time last from base) seq time last from base cursor refl opened).0
cursor_of view (Refused refusal) cursor opened = absurd cc
cursor_of view (Stamped seq time) cursor opened = absurd cc
cursor_of view (Again seq time) cursor opened = absurd cc
cursor_of view (Ticked time) cursor opened = absurd cc
cursor_of view (Left seq time) cursor opened = absurd cc
cursor_of view Kept cursor opened = absurd cc
cursor_of view (Batch entries tick) cursor opened = absurd cc

-- a Join that is refused because time has ended has no cursor
pub none_opened : (view : ℕ) (s : PlainSession) (cursor : Cursor) (reply : Reply) → reply ≡ Refused (TimeEnd s.horizon) → Some cursor ≡ first_cursor view reply → ⊥
none_opened view s cursor reply refused opened = cc (opened ∙ ap (first_cursor view) refused)

-- what a Join comes to: time has ended, or it is the view's next deed
abbrev pub JoinComes : PlainSession → ℕ → ℕ → Want → List What → List What → SessionOutcome → Type 0
JoinComes s view number want left whole o = ((end_of_time ≤ s.horizon) × (o ≡ refuses s (TimeEnd s.horizon))) ⊎ IsJoined s view number left whole want o

-- ---- the first Join

module _ (gives : ℕ → Type 0) (size : Size) (shared : SharedState TrustReplay) (w new : Worker) (few : IsOfSize size) (first : IsFirst gives size shared w) (source : KeepsSource w new)
    (worker : IsWorker gives size shared new) where
  view_kept : new.view ≡ w.view
  view_kept = ap (λ (one : Worker). one.view) source

  source_is : new.source ≡ size.seed * sources_per_seed + w.view - 1
  source_is = ap (λ (one : Worker). one.source) source ∙ first.source

  nothing_before : IsDrillHistory gives size.views w.pass.seen → entries_by w.view (play w.pass.seen).log ≡ []
  nothing_before whole =
      apart gives size.views w.view [] w.pass.seen whole (subst (λ (callers : List ℕ). calls_of callers w.pass.seen ≡ []) first.worker.callers first.calls)

  no_calls : exchanges_in first_session w.pass.seen w.view ≡ []
  no_calls =
      exchanges_none first_session w.view w.pass.seen (subst (λ (callers : List ℕ). calls_of callers w.pass.seen ≡ []) first.worker.callers first.calls)

  -- it has made one call
  asks_first : (opened : Option Cursor) → HasJoined gives size.views shared w new Fresh opened → FollowedBy (λ calls. calls ≡ []) (AsksJoin w.view 0 opened) (exchanges_in first_session new.pass.seen w.view)
  asks_first opened has =
      (exchanges_in first_session w.pass.seen w.view, Join w.view has.now want.Fresh, has.reply, has.asked.exchanged, no_calls, (has.now, want.Fresh, inl (omega arith, refl), refl, has.opened))

  call : (how : How) (cursor : Option Cursor) → (has : HasJoined gives size.views shared w new how cursor)
      → HasCalled gives size.views w.view w.pass new.pass (Join w.view has.now (join_want (worlds_of w.replica) w.replica.plain how)) has.asked.history
  call how cursor has = has_called gives size.views shared w.view w.pass new.pass (Join w.view has.now (join_want (worlds_of w.replica) w.replica.plain how)) has.reply has.asked

  few_asked : (how : How) (cursor : Option Cursor) → HasJoined gives size.views shared w new how cursor → entries_used_by (own_calls new.pass) ≡ 1
  few_asked how cursor has =
      (call how cursor has).few
      ∙ ap (λ (items : List Item). entries_used_by items + 1) first.calls

  -- what the first Join comes to
  abbrev FirstComes : ℕ → PlainSession → SessionOutcome → Type 0
  FirstComes view s = JoinComes s view 0 want.Fresh (own_turns 1 (drawn_numbers (size.seed * sources_per_seed + view - 1) size.events)) (own size.seed view size.events)

  module _ (cursor : Option Cursor) (has : HasJoined gives size.views shared w new Fresh cursor) where
    same : IsDrillHistory gives size.views new.pass.seen → entries_by w.view (play has.asked.history).log ≡ []
    same whole =
        (call Fresh cursor has).same whole
        ∙ nothing_before ((call Fresh cursor has).first whole)

    comes : IsDrillHistory gives size.views new.pass.seen
        → FirstComes w.view (play has.asked.history) (answer (play has.asked.history) (Join w.view has.now want.Fresh))
    comes whole =
        join_row (play has.asked.history) w.view has.now 0 want.Fresh (own_turns 1 (drawn_numbers (size.seed * sources_per_seed + w.view - 1) size.events)) (own size.seed w.view size.events)
        ((call Fresh cursor has).room few.views whole)
        first.worker.named.0 refl (nothing_done (play has.asked.history).log w.view (own size.seed w.view size.events) (same whole))

  -- its Sync is taken
  does_if
      : (cursor : Cursor) → (has : HasJoined gives size.views shared w new Fresh (Some cursor))
      → FirstComes w.view (play has.asked.history) (answer (play has.asked.history) (Join w.view has.now want.Fresh))
      → IsAtTurn size (play new.pass.seen) new cursor 0
  does_if cursor has (inl ended) =
      absurd (none_opened w.view (play has.asked.history) cursor has.reply (has.asked.replies ∙ ap (λ (o : SessionOutcome). o.reply) ended.1) has.opened)
  does_if cursor has (inr joined) =
      let is = cursor_is w.view has.reply joined.seq joined.time 0 joined.from joined.base cursor (has.asked.replies ∙ joined.reply) has.opened in
      let after = (answer (play has.asked.history) (Join w.view has.now want.Fresh)).session in
      let all : size.events ≡ size.events - 0 = omega arith in
      rw (view_kept, source_is, has.asked.session)
      (record {
        done = subst (λ (count : ℕ). HasDone after.log w.view 0 (own_turns 1 (drawn_numbers (size.seed * sources_per_seed + w.view - 1) count)) (own size.seed w.view size.events)) all joined.done;
        here = subst (IsHereBy after.log w.view) (sym is.1) joined.here;
        late = inl refl;
        based = λ many. absurd (omega (arith, many));
      })

  pub first_joined : (cursor : Cursor) → HasJoined gives size.views shared w new Fresh (Some cursor) → IsWorkerReady gives size shared new cursor 0
  first_joined cursor has = record {
    worker = worker;
    calls = subst (λ (view : ℕ). AfterTurns view 0 cursor (exchanges_in first_session new.pass.seen view)) (sym view_kept) (asks_first (Some cursor) has);
    few = omega (arith, few_asked Fresh (Some cursor) has);
    works = has.taken.works;
    connection = cursor_of w.view has.reply cursor has.opened ∙ sym view_kept;
    settled = has.taken.events.outbox ∙ first.outbox;
    acknowledged = has.taken.events.acknowledged ∙ first.acknowledged;
    given = has.taken.given ∙ has.taken.events.acknowledged ∙ first.acknowledged;
    rests = inl refl;
    does = λ whole. does_if cursor has (comes (Some cursor) has whole);
  }

  -- it is refused
  ends_if
      : (has : HasJoined gives size.views shared w new Fresh None) → IsDrillHistory gives size.views new.pass.seen
      → FirstComes w.view (play has.asked.history) (answer (play has.asked.history) (Join w.view has.now want.Fresh))
      → Ends size (play new.pass.seen) new
  ends_if has whole (inr joined) = absurd (cc (has.opened ∙ ap (first_cursor w.view) (has.asked.replies ∙ joined.reply)))
  ends_if has whole (inl ended) =
      let s = play has.asked.history in
      let none = same None has whole in
      let done : HasDone s.log w.view 0 (own size.seed w.view size.events) (own size.seed w.view size.events) = nothing_done s.log w.view (own size.seed w.view size.events) none in
      let stays : play new.pass.seen ≡ s = has.asked.session ∙ ap (λ (o : SessionOutcome). o.session) ended.1 in
      let acknowledged : new.replica.plain.acknowledged ≡ 0 = ap (λ (r : ReplicaView). r.plain.acknowledged) has.taken ∙ first.acknowledged in
      let same_view : new.replica.plain.view ≡ w.view = worker.view ∙ view_kept in
      let number : last_number s.log new.replica.plain.view ≡ 0 = ap (last_number s.log) same_view ∙ done.sent in
      subst (λ (after : PlainSession). Ends size after new) (sym stays)
      (record {
        finished = subst (λ (view : ℕ). HasFinished s view (own size.seed view size.events)) (sym view_kept) (inr (ended.0, inl (ap (map (λ (entry : Entry). entry.what)) none)));
        counted = record {
          program = subst (λ classes. IsFounding (founding_of classes)) (sym worker.program) worker.tree;
          least = omega (arith, acknowledged);
          most = omega (arith, number);
        };
        based = λ many early. absurd (omega (arith, early, ended.0));
      })

  -- time has ended
  late_if
      : (has : HasJoined gives size.views shared w new Fresh None) → IsDrillHistory gives size.views new.pass.seen
      → FirstComes w.view (play has.asked.history) (answer (play has.asked.history) (Join w.view has.now want.Fresh))
      → end_of_time ≤ (play new.pass.seen).horizon
  late_if has whole (inr joined) = absurd (cc (has.opened ∙ ap (first_cursor w.view) (has.asked.replies ∙ joined.reply)))
  late_if has whole (inl ended) =
      subst (λ (after : PlainSession). end_of_time ≤ after.horizon) (sym (has.asked.session ∙ ap (λ (o : SessionOutcome). o.session) ended.1)) ended.0

  pub first_refused : HasJoined gives size.views shared w new Fresh None → HasEnded gives size shared (record { worker = new; is_synced = false })
  first_refused has = record {
    worker = worker;
    few = omega (arith, few_asked Fresh None has);
    catches = tt;
    ends = λ whole. ends_if has whole (comes None has whole);
    calls = λ whole. subst (λ (view : ℕ). AreCallsOf view size.events (exchanges_in first_session new.pass.seen view)) (sym view_kept) (inl (asks_first None has));
    late = λ whole refused. late_if has whole (comes None has whole);
  }
