-- What a worker's Join comes to.
use Rattle.std.proofs.Common.{◌≡◌, ◌⊎◌, ℕ, nat_lt, List, Option, Some, refl, sym, ap, ◌∙◌, subst, arith}
use Rattle.tea_base.specs.declared.entry.Entry.{Entry}
use Rattle.wire_frames.specs.declared.start.Base.{Base}
use Rattle.wire_frames.specs.declared.start.Want.{Want}
use Rattle.wire_frames.specs.declared.frame.ClientFrame.TheVariants as frame
use Rattle.wire_frames.specs.declared.frame.ServerFrame.{ServerFrame}
use Rattle.wire_frames.specs.declared.frame.ServerFrame.TheVariants.{Sync}
use Rattle.tea_base.specs.declared.entry.SessionId.{SessionId}
use Rattle.reflector_core.specs.PlainSession.{IsSoundSession, PlainSession}
use Rattle.reflector_core.specs.Answer.{answer}
use Rattle.reflector_core.specs.Play.{first_session}
use Rattle.reflector_core.specs.declared.request.Request.{Request}
use Rattle.reflector_core.specs.declared.request.Request.TheVariants as request
use Rattle.reflector_core.specs.declared.request.Reply.{Reply}
use Rattle.reflector_core.specs.declared.request.Reply.TheVariants.{Again, Batch, Joined, Kept, Left, Refused, Stamped, Ticked}
use Rattle.join_sync.specs.declared.cursor.Cursor.{Cursor}
use Rattle.join_sync.specs.Answers.{IsJoinReply, IsReplyTo, first_cursor, join_answer}
use Rattle.model_solved.specs.Founding.{Founding, founding_of, IsFounding}
use Rattle.world.specs.Worlds.{replay}
use Rattle.session_lock.specs.History.{play}
use Rattle.session_lock.specs.Passes.{PassState, SharedState}
use Rattle.session_lock.proofs.Histories.{sound_end}
use Rattle.replica_plain.specs.declared.how.How.{How}
use Rattle.replica_plain.specs.declared.how.How.TheVariants.{Fresh, Whole, Resume}
use Rattle.replica_plain.specs.Worlds.{AreWorlds, replay_world}
use Rattle.replica_plain.specs.PlainReplica.{published_count}
use Rattle.replica_plain.specs.Calls.{join_frame, join_want, joining}
use Rattle.replica.specs.RealWorlds.{worlds}
use Rattle.replica.specs.View.{ReplicaView, with_plain, worlds_of}
use Rattle.system_plain.proofs.FactsGrow.{follows_log_grows}
use Rattle.system_plain.proofs.Sessions.{Grows, Grows-legal}
use Rattle.drill.specs.declared.size.Size.{Size}
use Rattle.drill.specs.declared.trust.TrustReplay.{TrustReplay}
use Rattle.drill.specs.declared.worker.Worker.{Worker}
use Rattle.drill.specs.Taking.{HasTaken, IsFine, Miscounts, after_frame}
use Rattle.drill.specs.Turns.{HasJoined, MayJoinBy, TakesSync}
use Rattle.drill.specs.Workers.{HasAsked, IsWorker}
use Rattle.drill.proofs.Asks.{worker_with}
use Rattle.drill.proofs.Joins.{fine_unless, honest_base, joined_works, joins_with, sync_counted}
use Rattle.drill.proofs.SyncsTaken.{sync_leaves}

-- what the worlds of each program are
abbrev pub AllStand : Type 0
AllStand = (founding : Founding) (id : List ℕ) → IsFounding founding → AreWorlds (worlds founding id)

abbrev pub AllReplay : Type 0
AllReplay = (founding : Founding) (id : List ℕ) (log : List Entry) (t : ℕ) → (replay founding id log t).world ≡ replay_world (worlds founding id) log t

-- the session may have grown since
may_join_later : (s new : PlainSession) (r : ReplicaView) (how : How) → Grows s new → MayJoinBy s r how → MayJoinBy new r how
may_join_later s new r Fresh grows may = tt
may_join_later s new r Whole grows may = tt
may_join_later s new r Resume grows may = (follows_log_grows (worlds_of r) s new r.plain grows may.1 may.0, omega (arith, may.1, grows.horizon))

-- the frame of its Join tells what it wants
asked_want : (session : SessionId) (view : ℕ) (want : Want) (r : ReplicaView) (how : How) → frame.Join session view want ≡ join_frame (worlds_of r) r.plain how → want ≡ join_want (worlds_of r) r.plain how
asked_want session view want r how is = cc is

pub asked_as
    : (gives : ℕ → Type 0) (views : ℕ) (shared : SharedState TrustReplay) (view : ℕ) (before after : PassState) (now : ℕ) (session : SessionId) (of : ℕ) (want : Want) (r : ReplicaView) (how : How) (reply : Reply)
    → frame.Join session of want ≡ join_frame (worlds_of r) r.plain how → HasAsked gives views shared view before after (request.Join view now want) reply
    → HasAsked gives views shared view before after (request.Join view now (join_want (worlds_of r) r.plain how)) reply
asked_as gives views shared view before after now session of want r how reply is asked =
    subst (λ (want : Want). HasAsked gives views shared view before after (request.Join view now want) reply) (asked_want session of want r how is) asked

-- it is replied as a Join is
pub join_replied
    : (gives : ℕ → Type 0) (views : ℕ) (shared : SharedState TrustReplay) (view : ℕ) (before after : PassState) (now : ℕ) (want : Want) (reply : Reply)
    → ((s : PlainSession) (request : Request) → IsReplyTo request (answer s request).reply) → HasAsked gives views shared view before after (request.Join view now want) reply → IsJoinReply reply
join_replied gives views shared view before after now want reply fit asked = subst IsJoinReply (sym asked.replies) (fit (play asked.history) (request.Join view now want))

module _ (stands : AllStand) (replays : AllReplay) (gives : ℕ → Type 0) (size : Size) (shared : SharedState TrustReplay) (w : Worker) (after_ask : PassState) (how : How) (now : ℕ)
    (worker : IsWorker gives size shared w) (sound : IsSoundSession (play after_ask.seen)) (may : MayJoinBy (play w.pass.seen) w.replica how) where
  abbrev wanted : Want
  wanted = join_want (worlds_of w.replica) w.replica.plain how

  tree : IsFounding (founding_of w.replica.program)
  tree = rw worker.program worker.tree

  laws : AreWorlds (worlds_of w.replica)
  laws = stands (founding_of w.replica.program) w.replica.id tree

  synced
      : (seq time last from : ℕ) (base : Option Base) (cursor : Cursor) (asked : HasAsked gives size.views shared w.view w.pass after_ask (request.Join w.view now wanted) (Joined seq time last from base))
      → first_cursor w.view (Joined seq time last from base) ≡ Some cursor → IsFine (with_plain w.replica (joining w.replica.plain how)) (Sync seq last from base)
      → TakesSync (answer (play asked.history) (request.Join w.view now wanted)).session w.replica (after_frame (with_plain w.replica (joining w.replica.plain how)) (Sync seq last from base)) how
      (Joined seq time last from base) cursor
  synced seq time last from base cursor asked first fine =
      let s = play asked.history in
      let r = w.replica in
      let is = sym asked.replies in
      let said = joins_with s w.view now wanted seq time last from base asked.sound is in
      let honest = honest_base shared r s base worker.program worker.id laws (replays (founding_of r.program) r.id s.log) asked.trusted said.based in
      let may_then = may_join_later (play w.pass.seen) s r how (Grows-legal (play w.pass.seen) s asked.on.grows asked.sound.legal) may in
      let left = sync_leaves (worlds_of r) r.plain how seq time last from base fine.none in
      record {
        works = joined_works s r how w.view now seq time last from base cursor laws asked.sound (subst IsSoundSession asked.session sound) honest may_then is first (sync_counted (worlds_of r) r.plain how seq last from base fine.none) tree;
        events = record { program = refl; id = refl; view = left.view; outbox = left.outbox; acknowledged = left.acknowledged };
        given = left.given;
        base = left.base;
      }

  -- it has no fault, unless it miscounts
  synced_unless
      : (seq time last from : ℕ) (base : Option Base) (asked : HasAsked gives size.views shared w.view w.pass after_ask (request.Join w.view now wanted) (Joined seq time last from base))
      → IsFine (with_plain w.replica (joining w.replica.plain how)) (Sync seq last from base) ⊎ Miscounts (with_plain w.replica (joining w.replica.plain how)) (Sync seq last from base)
  synced_unless seq time last from base asked =
      let s = play asked.history in
      let r = w.replica in
      let is = sym asked.replies in
      let said = joins_with s w.view now wanted seq time last from base asked.sound is in
      let honest = honest_base shared r s base worker.program worker.id laws (replays (founding_of r.program) r.id s.log) asked.trusted said.based in
      let may_then = may_join_later (play w.pass.seen) s r how (Grows-legal (play w.pass.seen) s asked.on.grows asked.sound.legal) may in
      fine_unless s r how w.view now seq time last from base (record { view = w.view; joined = seq; after = from; last_tick = 0 }) laws asked.sound (subst IsSoundSession asked.session sound) honest may_then is refl
      (nat_lt (published_count r.plain) last) (nat_lt last r.plain.acknowledged) refl refl

  counts
      : (reply : Reply) (frame : ServerFrame) (cursor : Cursor) (asked : HasAsked gives size.views shared w.view w.pass after_ask (request.Join w.view now wanted) reply)
      → first_cursor w.view reply ≡ Some cursor → join_answer reply ≡ Some frame
      → IsFine (with_plain w.replica (joining w.replica.plain how)) frame ⊎ Miscounts (with_plain w.replica (joining w.replica.plain how)) frame
  counts (Joined seq time last from base) frame cursor asked first answers =
      let is : Sync seq last from base ≡ frame = cc answers in
      subst (λ (frame : ServerFrame). IsFine (with_plain w.replica (joining w.replica.plain how)) frame ⊎ Miscounts (with_plain w.replica (joining w.replica.plain how)) frame)
      is (synced_unless seq time last from base asked)
  counts (Stamped seq time) frame cursor asked first answers = absurd cc
  counts (Again seq time) frame cursor asked first answers = absurd cc
  counts (Ticked time) frame cursor asked first answers = absurd cc
  counts (Left seq time) frame cursor asked first answers = absurd cc
  counts Kept frame cursor asked first answers = absurd cc
  counts (Batch entries tick) frame cursor asked first answers = absurd cc
  counts (Refused refusal) frame cursor asked first answers = absurd cc

  -- the frame is the Sync
  takes
      : (reply : Reply) (frame : ServerFrame) (cursor : Cursor) (asked : HasAsked gives size.views shared w.view w.pass after_ask (request.Join w.view now wanted) reply)
      → first_cursor w.view reply ≡ Some cursor → join_answer reply ≡ Some frame → IsFine (with_plain w.replica (joining w.replica.plain how)) frame
      → TakesSync (answer (play asked.history) (request.Join w.view now wanted)).session w.replica (after_frame (with_plain w.replica (joining w.replica.plain how)) frame) how reply cursor
  takes (Joined seq time last from base) frame cursor asked first answers fine =
      let is : Sync seq last from base ≡ frame = cc answers in
      subst
      (λ (frame : ServerFrame). TakesSync (answer (play asked.history) (request.Join w.view now wanted)).session w.replica (after_frame (with_plain w.replica (joining w.replica.plain how)) frame) how
      (Joined seq time last from base) cursor)
      is (synced seq time last from base cursor asked first (subst (IsFine (with_plain w.replica (joining w.replica.plain how))) (sym is) fine))
  takes (Stamped seq time) frame cursor asked first answers fine = absurd cc
  takes (Again seq time) frame cursor asked first answers fine = absurd cc
  takes (Ticked time) frame cursor asked first answers fine = absurd cc
  takes (Left seq time) frame cursor asked first answers fine = absurd cc
  takes Kept frame cursor asked first answers fine = absurd cc
  takes (Batch entries tick) frame cursor asked first answers fine = absurd cc
  takes (Refused refusal) frame cursor asked first answers fine = absurd cc

-- as the Join leaves its pass, its replica and its number
pub record Asks (w asking : Worker) (how : How) : Type 0 where
  pub view : asking.view ≡ w.view
  pub replica : asking.replica ≡ with_plain w.replica (joining w.replica.plain how)

pub asks_first : (w asking : Worker) (joins : ReplicaView) (how : How) → joins ≡ with_plain w.replica (joining w.replica.plain how) → asking ≡ record w { replica = joins; pass = asking.pass } → Asks w asking how
asks_first w asking joins how is kept = record { view = ap (λ (w : Worker). w.view) kept; replica = ap (λ (w : Worker). w.replica) kept ∙ is }

module _ (gives : ℕ → Type 0) (size : Size) (shared : SharedState TrustReplay) (w asking : Worker) (how : How) (now : ℕ) (reply : Reply) (asks : Asks w asking how)
    (asked : HasAsked gives size.views shared w.view w.pass asking.pass (request.Join w.view now (join_want (worlds_of w.replica) w.replica.plain how)) reply) where
  -- the frame that answers the Join has no fault, unless it miscounts
  pub join_counts
      : (stands : AllStand) (replays : AllReplay) (frame : ServerFrame) (cursor : Cursor) → IsWorker gives size shared w → MayJoinBy (play w.pass.seen) w.replica how
      → IsWorker gives size shared asking → Some cursor ≡ first_cursor asking.view reply → Some frame ≡ join_answer reply → IsFine asking.replica frame ⊎ Miscounts asking.replica frame
  join_counts stands replays frame cursor worker may worker_then opened answers =
      let opens : Some cursor ≡ first_cursor w.view reply = opened ∙ ap (λ (view : ℕ). first_cursor view reply) asks.view in
      let sound : IsSoundSession (play asking.pass.seen) = sound_end first_session asking.pass.seen worker_then.sound in
      subst (λ (r : ReplicaView). IsFine r frame ⊎ Miscounts r frame) (sym asks.replica)
      (counts stands replays gives size shared w asking.pass how now worker sound may reply frame cursor asked (sym opens) (sym answers))

  -- the Sync is taken, and its replica works by the new connection
  pub record Enters (new : ReplicaView) (cursor : Cursor) : Type 0 where
    pub joined : HasJoined gives size.views shared w (record asking { replica = new }) how (Some cursor)
    pub worker : IsWorker gives size shared (record asking { replica = new })

  pub join_taken
      : (stands : AllStand) (replays : AllReplay) (frame : ServerFrame) (new : ReplicaView) (cursor : Cursor) → IsWorker gives size shared w → MayJoinBy (play w.pass.seen) w.replica how
      → IsWorker gives size shared asking → Some cursor ≡ first_cursor asking.view reply → Some frame ≡ join_answer reply → IsFine asking.replica frame → HasTaken asking.replica frame new → Enters new cursor
  join_taken stands replays frame new cursor worker may worker_then opened answers fine took =
      let opens : Some cursor ≡ first_cursor w.view reply = opened ∙ ap (λ (view : ℕ). first_cursor view reply) asks.view in
      let sound : IsSoundSession (play asking.pass.seen) = sound_end first_session asking.pass.seen worker_then.sound in
      let fine_then : IsFine (with_plain w.replica (joining w.replica.plain how)) frame = subst (λ (r : ReplicaView). IsFine r frame) asks.replica fine in
      let is : new ≡ after_frame (with_plain w.replica (joining w.replica.plain how)) frame = took.is ∙ ap (λ (r : ReplicaView). after_frame r frame) asks.replica in
      let there = takes stands replays gives size shared w asking.pass how now worker sound may reply frame cursor asked (sym opens) (sym answers) fine_then in
      let taken : TakesSync (play asking.pass.seen) w.replica new how reply cursor =
      subst (λ (s : PlainSession). TakesSync s w.replica new how reply cursor) (sym asked.session)
      (subst (λ (new : ReplicaView). TakesSync (answer (play asked.history) (request.Join w.view now (join_want (worlds_of w.replica) w.replica.plain how))).session w.replica new how reply cursor) (sym is) there) in
      record {
        joined = record { now = now; reply = reply; asked = asked; opened = opens; taken = taken };
        worker = worker_with gives size shared asking asking.source new (taken.events.program ∙ sym (ap (λ (r : ReplicaView). r.program) asks.replica))
            (taken.events.id ∙ sym (ap (λ (r : ReplicaView). r.id) asks.replica)) (taken.events.view ∙ sym (ap (λ (r : ReplicaView). r.plain.view) asks.replica)) worker_then;
      }
