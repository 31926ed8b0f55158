-- A worker that has lost its connection joins again.
use Rattle.std.proofs.Common.{◌≡◌, inl, inr, ℕ, ◌+◌, ◌-◌, ◌*◌, ◌%◌, ◌≤◌, false, List, ◌∷◌, length, Option, option_map, Some, None, refl, sym, ap, ◌∙◌, subst, arith}
use Rattle.std.proofs.lemmas.Bool.Decides.{nat_tests}
use Rattle.tea_base.specs.declared.entry.What.TheVariants as what
use Rattle.tea_base.specs.Readings.{last_number}
use Rattle.wire_frames.specs.declared.start.Base.{Base}
use Rattle.reflector_core.specs.PlainSession.{PlainSession}
use Rattle.reflector_core.specs.Answer.{SessionOutcome, answer, base_for, is_ahead}
use Rattle.reflector_core.specs.Growth.{GrowsTo}
use Rattle.reflector_core.specs.declared.request.Request.TheVariants.{Join}
use Rattle.reflector_core.specs.declared.request.Reply.TheVariants.{Joined}
use Rattle.session_lock.specs.History.{play}
use Rattle.session_lock.specs.Passes.{SharedState, own_calls}
use Rattle.join_sync.specs.declared.cursor.Cursor.{Cursor}
use Rattle.join_sync.specs.Answers.{first_cursor}
use Rattle.reflector_core.specs.Play.{first_session}
use Rattle.connection.specs.Exchanges.{exchanges_in}
use Rattle.model_solved.specs.Founding.{founding_of, IsFounding}
use Rattle.replica_plain.specs.declared.how.How.{How}
use Rattle.replica_plain.specs.declared.how.How.TheVariants.{Fresh, Whole, Resume}
use Rattle.replica_plain.specs.Calls.{join_want}
use Rattle.replica.specs.View.{ReplicaView, worlds_of}
use Rattle.drill.specs.declared.trust.TrustReplay.{TrustReplay}
use Rattle.drill.specs.declared.size.Size.{Size}
use Rattle.drill.specs.declared.worker.Worker.{Worker}
use Rattle.drill.specs.Asking.{IsDrillHistory, entries_used_by}
use Rattle.drill.specs.Doing.{HasBase, HasDone, IsHereBy, KeepsFrom, WasSentBy, loss_interval}
use Rattle.drill.specs.Drilled.{own}
use Rattle.drill.specs.Sizes.{IsOfSize}
use Rattle.drill.specs.Turns.{HasJoined, HasStopped, IsBack, IsLost, KeepsForJoin, MayJoinBy, Returns, LeavesUndone, base_after, base_time, calls_made, left_behind}
use Rattle.drill.specs.ViewCalls.{AfterDrop, AfterRefusal, AfterTurns, AsksJoin, FollowedBy}
use Rattle.drill.specs.Workers.{IsWorker, KeepsSource}
use Rattle.drill.proofs.Grown.{HasCalled, base_later, by_horizon, by_later, has_called, sent_later}
use Rattle.drill.proofs.Histories.{done_same, here_same}
use Rattle.drill.proofs.Joinings.{JoinComes, cursor_is, cursor_of, none_opened}
use Rattle.drill.proofs.Requests.{join_row}

-- it asks for nothing that has not come
not_ahead : (s new : PlainSession) (r : ReplicaView) (how : How) → MayJoinBy s r how → s.horizon ≤ new.horizon → is_ahead new.horizon (join_want (worlds_of r) r.plain how) ≡ false
not_ahead s new r Fresh may grown = refl
not_ahead s new r Whole may grown = refl
not_ahead s new r Resume may grown = let within = may.1 in grind (arith, nat_tests)

-- a base from the kept snapshot
record IsBasedOn (kept : Option Base) (time : ℕ) : Type 0 where
  based : ℕ
  is : option_map base_time kept ≡ Some based
  later : time ≤ based
  keeps : KeepsFrom based kept

based_on : (kept : Option Base) (time : ℕ) → KeepsFrom time kept → IsBasedOn kept time
based_on None time keeps = absurd keeps
based_on (Some base) time keeps = record { based = base.time; is = refl; later = keeps; keeps = omega arith }

-- the base behind the Join is the kept snapshot's, or the one before
base_back
    : (before s after : PlainSession) (w : Worker) (number : ℕ) (how : How) (based : Option ℕ) (base : Option Base) (seq time from : ℕ) → GrowsTo before after
    → ((t : ℕ) → KeepsFrom t before.kept → KeepsFrom t s.kept) → ((t : ℕ) → KeepsFrom t s.kept → KeepsFrom t after.kept) → KeepsForJoin before w number how
    → base ≡ base_for (join_want (worlds_of w.replica) w.replica.plain how) s.kept → based ≡ base_after how w.replica.plain.base (Joined seq time number from base)
    → loss_interval ≤ number → HasBase after w.view number based
base_back before s after w number Fresh based base seq time from grows there behind keeps given is many =
    let on = based_on s.kept keeps.1 (there keeps.1 keeps.3) in
    let place : number - 1 ≡ number - number % loss_interval - 1 = omega (arith, keeps.0) in
    record {
      time = on.based;
      is = is ∙ ap (option_map base_time) given ∙ on.is;
      late = subst (λ (n : ℕ). WasSentBy after.log w.view n on.based) place (by_later before after w.view grows (number - 1) keeps.1 on.based on.later keeps.2);
      kept = behind on.based on.keeps;
    }
base_back before s after w number Whole based base seq time from grows there behind keeps given is many = absurd keeps
base_back before s after w number Resume based base seq time from grows there behind keeps given is many =
    subst (HasBase after w.view number) (sym is) (base_later before after w.view grows number w.replica.plain.base (λ t kept. behind t (there t kept)) (keeps many))

module _ (gives : ℕ → Type 0) (size : Size) (shared : SharedState TrustReplay) (w new : Worker) (cursor : Cursor) (number : ℕ) (payload : List ℕ) (how : How)
    (few : IsOfSize size) (lost : IsLost gives size shared w cursor number payload how) (source : KeepsSource w new) (worker : IsWorker gives size shared new) where
  view_kept : new.view ≡ w.view
  view_kept = ap (λ (one : Worker). one.view) source

  source_kept : new.source ≡ w.source
  source_kept = ap (λ (one : Worker). one.source) source

  -- what the Join comes to
  abbrev JoinComesAgain : PlainSession → SessionOutcome → Type 0
  JoinComesAgain s = JoinComes s w.view number (join_want (worlds_of w.replica) w.replica.plain how) (left_behind size w number) (own size.seed w.view size.events)

  call : (next : Option Cursor) → (has : HasJoined gives size.views shared w new how next)
      → HasCalled gives size.views w.view w.pass new.pass (Join w.view has.now (join_want (worlds_of w.replica) w.replica.plain how)) has.asked.history
  call next has = has_called gives size.views shared w.view w.pass new.pass (Join w.view has.now (join_want (worlds_of w.replica) w.replica.plain how)) has.reply has.asked

  few_asked : (next : Option Cursor) → HasJoined gives size.views shared w new how next → entries_used_by (own_calls new.pass) ≤ 3 * number
  few_asked next has =
      omega (arith, lost.few, (call next has).few)

  comes : (next : Option Cursor) → (has : HasJoined gives size.views shared w new how next) → IsDrillHistory gives size.views new.pass.seen
      → JoinComesAgain (play has.asked.history) (answer (play has.asked.history) (Join w.view has.now (join_want (worlds_of w.replica) w.replica.plain how)))
  comes next has whole =
      let want = join_want (worlds_of w.replica) w.replica.plain how in
      let before = play w.pass.seen in
      let s = play has.asked.history in
      let loses = lost.does ((call next has).first whole) in
      join_row s w.view has.now number want (left_behind size w number) (own size.seed w.view size.events)
      ((call next has).room few.views whole)
      (subst (λ (view : ℕ). 1 ≤ view) view_kept worker.named.0) (not_ahead before s w.replica how lost.may has.asked.on.grows.horizon)
      (done_same before.log s.log w.view number (what.Join ∷ left_behind size w number) (own size.seed w.view size.events)
      ((call next has).same whole) loses.done)

  -- it is its next call
  asks_again : (opened : Option Cursor) → HasJoined gives size.views shared w new how opened
      → FollowedBy (AfterDrop new.view number payload (AfterTurns new.view (number - 1)) cursor) (AsksJoin new.view number opened) (calls_made new)
  asks_again opened has =
      let want = join_want (worlds_of w.replica) w.replica.plain how in
      subst (λ (view : ℕ). FollowedBy (AfterDrop view number payload (AfterTurns view (number - 1)) cursor) (AsksJoin view number opened) (exchanges_in first_session new.pass.seen view)) (sym view_kept)
      (calls_made w, Join w.view has.now want, has.reply, has.asked.exchanged, lost.calls, (has.now, want, lost.wants, refl, has.opened))

  -- its Sync is taken
  returns_if
      : (next : Cursor) → (has : HasJoined gives size.views shared w new how (Some next)) → IsDrillHistory gives size.views new.pass.seen
      → JoinComesAgain (play has.asked.history) (answer (play has.asked.history) (Join w.view has.now (join_want (worlds_of w.replica) w.replica.plain how)))
      → Returns size (play new.pass.seen) new next number payload
  returns_if next has whole (inl ended) =
      absurd (none_opened w.view (play has.asked.history) next has.reply (has.asked.replies ∙ ap (λ (o : SessionOutcome). o.reply) ended.1) has.opened)
  returns_if next has whole (inr joined) =
      let asking = Join w.view has.now (join_want (worlds_of w.replica) w.replica.plain how) in
      let before = play w.pass.seen in
      let after = play new.pass.seen in
      let loses = lost.does ((call (Some next) has).first whole) in
      let grows = (call (Some next) has).grows in
      let replied = has.asked.replies ∙ joined.reply in
      let is = cursor_is w.view has.reply joined.seq joined.time number joined.from joined.base next replied has.opened in
      let based : new.replica.plain.base ≡ base_after how w.replica.plain.base (Joined joined.seq joined.time number joined.from joined.base) =
      has.taken.base ∙ ap (base_after how w.replica.plain.base) replied in
      rw (view_kept, source_kept)
      (record {
        done = subst (λ (s : PlainSession). HasDone s.log w.view number (left_behind size w number) (own size.seed w.view size.events)) (sym has.asked.session) joined.done;
        here = subst (λ (s : PlainSession). IsHereBy s.log w.view next.joined) (sym has.asked.session)
            (subst (IsHereBy (answer (play has.asked.history) asking).session.log w.view) (sym is.1) joined.here);
        sent = sent_later before after w.view grows number payload loses.sent;
        early = by_horizon before after w.view grows number loses.early;
        based = base_back before (play has.asked.history) after w number how new.replica.plain.base joined.base joined.seq joined.time joined.from grows has.asked.on.kept
            (call (Some next) has).keeps_behind loses.keeps joined.based based;
      })

  pub joined_some : (next : Cursor) → HasJoined gives size.views shared w new how (Some next) → IsBack gives size shared new next number payload
  joined_some next has = record {
    waiting = record {
      worker = worker;
      turn = lost.waiting.turn;
      outbox = has.taken.events.outbox ∙ lost.waiting.outbox;
      short = lost.waiting.short;
      acknowledged = ap (λ (n : ℕ). n + 1) has.taken.events.acknowledged ∙ lost.waiting.acknowledged;
    };
    calls = (cursor, asks_again (Some next) has);
    few = few_asked (Some next) has;
    works = has.taken.works;
    connection = cursor_of w.view has.reply next has.opened ∙ sym view_kept;
    given = has.taken.given;
    does = λ whole. returns_if next has whole (comes (Some next) has whole);
  }

  -- it is refused
  stops_if
      : (has : HasJoined gives size.views shared w new how None) → IsDrillHistory gives size.views new.pass.seen
      → JoinComesAgain (play has.asked.history) (answer (play has.asked.history) (Join w.view has.now (join_want (worlds_of w.replica) w.replica.plain how)))
      → LeavesUndone size (play new.pass.seen) new cursor.joined
  stops_if has whole (inr joined) = absurd (cc (has.opened ∙ ap (first_cursor w.view) (has.asked.replies ∙ joined.reply)))
  stops_if has whole (inl ended) =
      let before = play w.pass.seen in
      let s = play has.asked.history in
      let all = own size.seed w.view size.events in
      let left = what.Join ∷ left_behind size w number in
      let loses = lost.does ((call None has).first whole) in
      let same = (call None has).same whole in
      let done : HasDone s.log w.view number left all = done_same before.log s.log w.view number left all same loses.done in
      let stays : play new.pass.seen ≡ s = has.asked.session ∙ ap (λ (o : SessionOutcome). o.session) ended.1 in
      let acknowledged : new.replica.plain.acknowledged ≡ w.replica.plain.acknowledged = ap (λ (r : ReplicaView). r.plain.acknowledged) has.taken in
      let outbox : length new.replica.plain.outbox ≡ 1 = ap (λ (r : ReplicaView). length r.plain.outbox) has.taken ∙ ap length lost.waiting.outbox in
      let counted : last_number s.log new.replica.plain.view ≡ number = ap (last_number s.log) (worker.view ∙ view_kept) ∙ done.sent in
      subst (λ (after : PlainSession). LeavesUndone size after new cursor.joined) (sym stays)
      (record {
        number = number;
        left = left;
        done = subst (λ (view : ℕ). HasDone s.log view number left (own size.seed view size.events)) (sym view_kept) done;
        some = λ none. cc none;
        here = subst (λ (view : ℕ). IsHereBy s.log view cursor.joined) (sym view_kept) (here_same before.log s.log w.view cursor.joined same loses.here);
        ended = ended.0;
        counted = record {
          program = subst (λ classes. IsFounding (founding_of classes)) (sym worker.program) worker.tree;
          least = omega (arith, acknowledged, counted, lost.waiting.acknowledged);
          most = omega (arith, acknowledged, counted, outbox, lost.waiting.acknowledged);
        };
      })

  pub joined_none : HasJoined gives size.views shared w new how None → HasStopped gives size shared new cursor false
  joined_none has = record {
    worker = worker;
    few = omega (arith, few_asked None has, lost.waiting.turn.1);
    connection = lost.connection ∙ sym view_kept;
    catches = tt;
    stops = λ whole. stops_if has whole (comes None has whole);
    calls = λ whole.
        let next : number ≡ number - 1 + 1 = omega (arith, lost.waiting.turn.0) in
        let refused : AfterRefusal new.view number (AfterTurns new.view (number - 1)) cursor (calls_made new) = (payload, inr (asks_again None has)) in
        (number - 1, omega (arith, lost.waiting.turn), subst (λ (turn : ℕ). AfterRefusal new.view turn (AfterTurns new.view (number - 1)) cursor (calls_made new)) next refused);
  }
