-- What the calls of a worker come to, and how it stands before each turn.
use Rattle.std.specs.Prelude.{◌≡◌, ◌≢◌, ◌⊎◌, ◌≤◌, ◌<◌, ℕ, ◌+◌, ◌*◌, ◌-◌, ◌%◌, Bool, true, false, List, [], ◌∷◌, ◌++◌, length, Option, Some, None, option_map}
use Rattle.tea_base.specs.declared.entry.What.{What}
use Rattle.tea_base.specs.declared.entry.What.TheVariants as what
use Rattle.tea_base.specs.Limits.{end_of_time, most_snapshot}
use Rattle.wire_frames.specs.declared.start.Base.{Base}
use Rattle.wire_frames.specs.declared.frame.ServerFrame.{ServerFrame}
use Rattle.reflector_core.specs.declared.request.Request.TheVariants.{Join, Send, Offer}
use Rattle.reflector_core.specs.declared.request.Reply.{Reply}
use Rattle.reflector_core.specs.declared.request.Reply.TheVariants.{Joined}
use Rattle.reflector_core.specs.PlainSession.{PlainSession}
use Rattle.join_sync.specs.declared.cursor.Cursor.{Cursor}
use Rattle.join_sync.specs.Answers.{first_cursor}
use Rattle.join_sync.specs.Batches.{most_pulled}
use Rattle.session_lock.specs.History.{play}
use Rattle.session_lock.specs.Passes.{PassState, SharedState, own_calls}
use Rattle.reflector_core.specs.Play.{first_session}
use Rattle.connection.specs.Exchanges.{Exchange, exchanges_in}
use Rattle.seeded_random.specs.Draw.{word_of, state_after, number_below}
use Rattle.replica_plain.specs.declared.how.How.{How}
use Rattle.replica_plain.specs.declared.how.How.TheVariants.{Fresh, Whole, Resume}
use Rattle.replica_plain.specs.Calls as calls
use Rattle.replica_plain.specs.Calls.{join_want, joining, publishes}
use Rattle.replica_plain.specs.Following.{FollowsLog}
use Rattle.replica.specs.RealWorlds.{is_at_rest}
use Rattle.replica.specs.View.{ReplicaView, with_plain, worlds_of}
use Rattle.drill.specs.declared.trust.TrustReplay.{TrustReplay}
use Rattle.drill.specs.declared.size.Size.{Size}
use Rattle.drill.specs.declared.worker.Worker.{Worker}
use Rattle.drill.specs.declared.finished.Course.{Course}
use Rattle.drill.specs.declared.finished.Course.TheVariants as course
use Rattle.drill.specs.declared.finished.Finished.{Finished}
use Rattle.drill.specs.Asking.{IsDrillHistory, entries_used_by, most_asked, most_short}
use Rattle.drill.specs.Doing.{HasBase, HasDone, HasFinished, HasSent, IsHereBy, KeepsFrom, WasSentBy, loss_interval}
use Rattle.drill.specs.Drilled.{add_payload, drawn_numbers, joins_behind, own, own_turns}
use Rattle.drill.specs.Ending.{Catches, IsCountedBy}
use Rattle.drill.specs.ViewCalls.{AfterDrop, AfterEvent, AfterReading, AfterRefusal, AfterRejoin, AfterSend, AfterTurns, AreCallsOf, IsWanted, AsksPull, FollowedBy, done_of}
use Rattle.drill.specs.Workers.{HasAsked, HasPassed, IsWorker}
use Rattle.drill.specs.Working.{IsCaughtUp, ReplicaWorks}

-- ---- calls

-- its program, session and view stay, and what it published, with what was acknowledged of it
pub record KeepsEvents (old new : ReplicaView) : Type 0 where
  pub program : new.program ≡ old.program
  pub id : new.id ≡ old.id
  pub view : new.plain.view ≡ old.plain.view
  pub outbox : new.plain.outbox ≡ old.plain.outbox
  pub acknowledged : new.plain.acknowledged ≡ old.plain.acknowledged

-- a replica that goes on from its own world follows the log, and has not come past the horizon
abbrev pub MayJoinBy : PlainSession → ReplicaView → How → Type 0
MayJoinBy s r Fresh = Unit {0}
MayJoinBy s r Whole = Unit {0}
MayJoinBy s r Resume = FollowsLog (worlds_of r) s.log r.plain × (r.plain.world.time ≤ s.horizon)

abbrev pub base_time : Base → ℕ
base_time base = base.time

-- the time of the base from which the world was made, once a Join was replied this
abbrev pub base_after : How → Option ℕ → Reply → Option ℕ
base_after Fresh old (Joined seq time last from base) = option_map base_time base
base_after Whole old reply = None
base_after Resume old reply = old
base_after how old reply = None

-- the Sync of its Join is taken
pub record TakesSync (s : PlainSession) (old new : ReplicaView) (how : How) (reply : Reply)
    (cursor : Cursor) : Type 0 where
  pub works : ReplicaWorks s new cursor
  pub events : KeepsEvents old new
  pub given : new.plain.given ≡ new.plain.acknowledged
  pub base : new.plain.base ≡ base_after how old.plain.base reply

-- the Sync is taken, or the Join was refused
abbrev pub EndsJoin : PlainSession → ReplicaView → ReplicaView → How → Reply → Option Cursor → Type 0
EndsJoin s old new how reply None = new ≡ with_plain old (joining old.plain how)
EndsJoin s old new how reply (Some cursor) = TakesSync s old new how reply cursor

-- it has asked to join
pub record HasJoined (gives : ℕ → Type 0) (views : ℕ) (shared : SharedState TrustReplay) (before after : Worker)
    (how : How) (cursor : Option Cursor) : Type 0 where
  pub now : ℕ
  pub reply : Reply
  pub asked : HasAsked gives views shared before.view before.pass after.pass
      (Join before.view now (join_want (worlds_of before.replica) before.replica.plain how)) reply
  pub opened : cursor ≡ first_cursor before.view reply
  pub taken : EndsJoin (play after.pass.seen) before.replica after.replica how reply cursor

-- one event is not acknowledged, and was not given since the last Sync
pub record HasUnsent (r : ReplicaView) : Type 0 where
  pub payload : List ℕ
  pub outbox : r.plain.outbox ≡ payload ∷ []
  pub short : length payload ≤ most_short
  pub given : r.plain.given ≡ r.plain.acknowledged
  pub synced : r.plain.synced ≡ true

-- it has asked to send it
pub record HasSentIt (gives : ℕ → Type 0) (views : ℕ) (shared : SharedState TrustReplay) (before after : Worker)
    (cursor : Cursor) (done : Option ServerFrame) : Type 0 where
  pub now : ℕ
  pub reply : Reply
  pub unsent : HasUnsent before.replica
  pub asked : HasAsked gives views shared before.view before.pass after.pass
      (Send before.view cursor.joined (before.replica.plain.acknowledged + 1) unsent.payload now) reply
  pub answered : done ≡ done_of (before.replica.plain.acknowledged + 1) reply
  pub replica : after.replica ≡ with_plain before.replica (calls.gives before.replica.plain)

-- it has drawn a number and published it
pub record HasPublished (before after : Worker) : Type 0 where
  pub low : number_below 100 (word_of before.source) < 100
  pub source : after.source ≡ state_after before.source
  pub replica : after.replica ≡ with_plain before.replica
      (publishes before.replica.plain (add_payload (number_below 100 (word_of before.source))))
  pub rest : after ≡ record before { source = after.source; replica = after.replica }

-- its connection is of the view's Join as before
pub record KeepsConnection (old new : Cursor) : Type 0 where
  pub view : new.view ≡ old.view
  pub joined : new.joined ≡ old.joined

-- it has taken more of the log
pub record HasTakenMore (gives : ℕ → Type 0) (views : ℕ) (before after : Worker) (old new : Cursor) : Type 0 where
  pub works : ReplicaWorks (play after.pass.seen) after.replica new
  pub passed : HasPassed gives views before.view before.pass after.pass
  pub events : KeepsEvents before.replica after.replica
  pub given : after.replica.plain.given ≡ before.replica.plain.given
  pub base : after.replica.plain.base ≡ before.replica.plain.base
  pub connection : KeepsConnection old new

-- its pass has made one call, the Pull of the next batch
abbrev pub HasPulled : ℕ → PassState → PassState → Cursor → Cursor → Bool → Type 0
HasPulled view before after old new last =
    FollowedBy (λ calls. calls ≡ exchanges_in first_session before.seen view) (AsksPull old new last)
    (exchanges_in first_session after.seen view)

-- its pass has made a Tick, and Pulls up to the end of the log
abbrev pub HasRead : ℕ → PassState → PassState → Cursor → Cursor → Type 0
HasRead view before after old new =
    AfterReading (λ cursor calls. (cursor ≡ old) × (calls ≡ exchanges_in first_session before.seen view)) new
    (exchanges_in first_session after.seen view)

-- the whole log, or as many entries of it as a Pull asks for
abbrev pub HasCome : PlainSession → ReplicaView → Cursor → Cursor → Bool → Type 0
HasCome s r old new true = IsCaughtUp s r
HasCome s r old new false = (old.after + most_pulled < length s.log) × (new.after ≡ old.after + most_pulled)

-- it has offered its snapshot
pub record HasOffered (gives : ℕ → Type 0) (views : ℕ) (shared : SharedState TrustReplay) (before after : Worker)
    (cursor : Cursor) : Type 0 where
  pub bytes : List ℕ
  pub reply : Reply
  pub small : length bytes ≤ most_snapshot
  pub asked : HasAsked gives views shared before.view before.pass after.pass
      (Offer before.view cursor.joined before.replica.plain.world.time bytes) reply

-- ---- between the turns

-- what it has asked, and what it was replied
abbrev pub calls_made : Worker → List Exchange
calls_made w = exchanges_in first_session w.pass.seen w.view

-- What the view has done, behind so many turns, if nobody but the drill's workers has called. Its last event is not later than its replica's
-- world.
pub record IsAtTurn (size : Size) (s : PlainSession) (w : Worker) (cursor : Cursor) (number : ℕ) : Type 0 where
  pub done : HasDone s.log w.view number (own_turns (number + 1) (drawn_numbers w.source (size.events - number)))
      (own size.seed w.view size.events)
  pub here : IsHereBy s.log w.view cursor.joined
  pub late : (number ≡ 0) ⊎ WasSentBy s.log w.view number w.replica.plain.world.time
  pub based : loss_interval ≤ number → HasBase s w.view number w.replica.plain.base

-- It has made so many turns: each event is acknowledged, and its replica is at rest.
pub record IsWorkerReady (gives : ℕ → Type 0) (size : Size) (shared : SharedState TrustReplay) (w : Worker)
    (cursor : Cursor) (number : ℕ) : Type 0 where
  pub worker : IsWorker gives size shared w
  pub calls : AfterTurns w.view number cursor (calls_made w)
  pub few : entries_used_by (own_calls w.pass) ≤ 1 + 3 * number
  pub works : ReplicaWorks (play w.pass.seen) w.replica cursor
  pub connection : cursor.view ≡ w.view
  pub settled : w.replica.plain.outbox ≡ []
  pub acknowledged : w.replica.plain.acknowledged ≡ number
  pub given : w.replica.plain.given ≡ number
  pub rests : (number ≡ 0) ⊎ (is_at_rest w.replica.plain.world ≡ true)
  pub does : IsDrillHistory gives size.views w.pass.seen → IsAtTurn size (play w.pass.seen) w cursor number

-- ---- within a turn

-- what is left behind the event of a turn
abbrev pub left_behind : Size → Worker → ℕ → List What
left_behind size w number = own_turns (number + 1) (drawn_numbers w.source (size.events - number))

-- The event with this number is published and not acknowledged; so the worker stands in the turn of this number.
pub record IsWaiting (gives : ℕ → Type 0) (size : Size) (shared : SharedState TrustReplay) (w : Worker) (number : ℕ)
    (payload : List ℕ) : Type 0 where
  pub worker : IsWorker gives size shared w
  pub turn : (1 ≤ number) × (number ≤ size.events)
  pub outbox : w.replica.plain.outbox ≡ payload ∷ []
  pub short : length payload ≤ most_short
  pub acknowledged : w.replica.plain.acknowledged + 1 ≡ number

-- it was sent, and its Done was not taken
pub record Owes (size : Size) (s : PlainSession) (w : Worker) (cursor : Cursor) (number : ℕ)
    (payload : List ℕ) : Type 0 where
  pub done : HasDone s.log w.view number (joins_behind number ++ left_behind size w number)
      (own size.seed w.view size.events)
  pub here : IsHereBy s.log w.view cursor.joined
  pub sent : HasSent s.log w.view number payload
  pub early : WasSentBy s.log w.view number s.horizon
  pub late : (number ≡ 1) ⊎ WasSentBy s.log w.view (number - 1) w.replica.plain.world.time
  pub based : loss_interval ≤ number - 1 → HasBase s w.view (number - 1) w.replica.plain.base

pub record IsOwed (gives : ℕ → Type 0) (size : Size) (shared : SharedState TrustReplay) (w : Worker) (cursor : Cursor)
    (number : ℕ) (payload : List ℕ) : Type 0 where
  pub waiting : IsWaiting gives size shared w number payload
  pub calls : AfterSend w.view number payload (AfterTurns w.view (number - 1)) cursor (calls_made w)
  pub few : entries_used_by (own_calls w.pass) + 1 ≤ 3 * number
  pub works : ReplicaWorks (play w.pass.seen) w.replica cursor
  pub connection : cursor.view ≡ w.view
  pub given : w.replica.plain.given ≡ number
  pub rests : (number ≡ 1) ⊎ (is_at_rest w.replica.plain.world ≡ true)
  pub does : IsDrillHistory gives size.views w.pass.seen → Owes size (play w.pass.seen) w cursor number payload

-- The connection is lost. A snapshot is kept that is not older than the event before, where the world is lost too.
abbrev pub KeepsForJoin : PlainSession → Worker → ℕ → How → Type 0
KeepsForJoin s w number Fresh = (number % loss_interval ≡ 0) × (time : ℕ) × WasSentBy s.log w.view (number - 1) time
    × KeepsFrom time s.kept
KeepsForJoin s w number Whole = ⊥
KeepsForJoin s w number Resume = loss_interval ≤ number → HasBase s w.view number w.replica.plain.base

-- a world that is lost is the first one again, and no entry is seen
abbrev pub LosesWorld : ReplicaView → How → Type 0
LosesWorld r Fresh = (r.plain.world ≡ (worlds_of r).first) × (r.plain.seen ≡ 0) × (r.plain.synced ≡ false)
LosesWorld r how = Unit {0}

pub record Loses (size : Size) (s : PlainSession) (w : Worker) (cursor : Cursor) (number : ℕ) (payload : List ℕ)
    (how : How) : Type 0 where
  pub done : HasDone s.log w.view number (what.Join ∷ left_behind size w number) (own size.seed w.view size.events)
  pub here : IsHereBy s.log w.view cursor.joined
  pub sent : HasSent s.log w.view number payload
  pub early : WasSentBy s.log w.view number s.horizon
  pub keeps : KeepsForJoin s w number how

pub record IsLost (gives : ℕ → Type 0) (size : Size) (shared : SharedState TrustReplay) (w : Worker) (cursor : Cursor)
    (number : ℕ) (payload : List ℕ) (how : How) : Type 0 where
  pub waiting : IsWaiting gives size shared w number payload
  pub calls : AfterDrop w.view number payload (AfterTurns w.view (number - 1)) cursor (calls_made w)
  pub few : entries_used_by (own_calls w.pass) + 1 ≤ 3 * number
  pub connection : cursor.view ≡ w.view
  pub may : MayJoinBy (play w.pass.seen) w.replica how
  pub lost : LosesWorld w.replica how
  pub wants : IsWanted number (join_want (worlds_of w.replica) w.replica.plain how)
  pub does : IsDrillHistory gives size.views w.pass.seen → Loses size (play w.pass.seen) w cursor number payload how

-- it has joined again
pub record Returns (size : Size) (s : PlainSession) (w : Worker) (cursor : Cursor) (number : ℕ)
    (payload : List ℕ) : Type 0 where
  pub done : HasDone s.log w.view number (left_behind size w number) (own size.seed w.view size.events)
  pub here : IsHereBy s.log w.view cursor.joined
  pub sent : HasSent s.log w.view number payload
  pub early : WasSentBy s.log w.view number s.horizon
  pub based : loss_interval ≤ number → HasBase s w.view number w.replica.plain.base

pub record IsBack (gives : ℕ → Type 0) (size : Size) (shared : SharedState TrustReplay) (w : Worker) (cursor : Cursor)
    (number : ℕ) (payload : List ℕ) : Type 0 where
  pub waiting : IsWaiting gives size shared w number payload
  pub calls : AfterRejoin w.view number payload (AfterTurns w.view (number - 1)) cursor (calls_made w)
  pub few : entries_used_by (own_calls w.pass) ≤ 3 * number
  pub works : ReplicaWorks (play w.pass.seen) w.replica cursor
  pub connection : cursor.view ≡ w.view
  pub given : w.replica.plain.given ≡ w.replica.plain.acknowledged
  pub does : IsDrillHistory gives size.views w.pass.seen → Returns size (play w.pass.seen) w cursor number payload

-- its Done is taken, and more of the log is to be
pub record IsSettling (size : Size) (s : PlainSession) (w : Worker) (cursor : Cursor) (number : ℕ) : Type 0 where
  pub done : HasDone s.log w.view number (left_behind size w number) (own size.seed w.view size.events)
  pub here : IsHereBy s.log w.view cursor.joined
  pub early : WasSentBy s.log w.view number s.horizon
  pub based : loss_interval ≤ number → HasBase s w.view number w.replica.plain.base

pub record IsSettled (gives : ℕ → Type 0) (size : Size) (shared : SharedState TrustReplay) (w : Worker)
    (cursor : Cursor) (number : ℕ) : Type 0 where
  pub worker : IsWorker gives size shared w
  pub turn : 1 ≤ number
  pub calls : AfterEvent w.view number (AfterTurns w.view (number - 1)) cursor (calls_made w)
  pub few : entries_used_by (own_calls w.pass) ≤ 1 + 3 * number
  pub works : ReplicaWorks (play w.pass.seen) w.replica cursor
  pub connection : cursor.view ≡ w.view
  pub outbox : w.replica.plain.outbox ≡ []
  pub acknowledged : w.replica.plain.acknowledged ≡ number
  pub given : w.replica.plain.given ≡ number
  pub does : IsDrillHistory gives size.views w.pass.seen → IsSettling size (play w.pass.seen) w cursor number

-- ---- the end of the turns

-- a part of it is left undone, and time has ended
pub record LeavesUndone (size : Size) (s : PlainSession) (w : Worker) (joined : ℕ) : Type 0 where
  pub number : ℕ
  pub left : List What
  pub done : HasDone s.log w.view number left (own size.seed w.view size.events)
  pub some : left ≢ []
  pub here : IsHereBy s.log w.view joined
  pub ended : end_of_time ≤ s.horizon
  pub counted : IsCountedBy s w.replica

-- a replica that has taken the Sync of its newest Join catches up with the closed log
abbrev pub MayCatchUp : PlainSession → ReplicaView → Bool → Type 0
MayCatchUp s r true = Catches s r
MayCatchUp s r false = Unit {0}

-- it was refused, and makes no further turn; its newest Join was not refused, or it was
pub record HasStopped (gives : ℕ → Type 0) (size : Size) (shared : SharedState TrustReplay) (w : Worker)
    (cursor : Cursor) (synced : Bool) : Type 0 where
  pub worker : IsWorker gives size shared w
  pub few : entries_used_by (own_calls w.pass) ≤ 1 + 3 * size.events
  pub connection : cursor.view ≡ w.view
  pub catches : MayCatchUp (play w.pass.seen) w.replica synced
  pub stops : IsDrillHistory gives size.views w.pass.seen → LeavesUndone size (play w.pass.seen) w cursor.joined
  pub calls : IsDrillHistory gives size.views w.pass.seen → (made : ℕ) × (made < size.events)
      × AfterRefusal w.view (made + 1) (AfterTurns w.view made) cursor (calls_made w)

-- it has settled its event again, or was refused
abbrev pub HasResent : (ℕ → Type 0) → Size → SharedState TrustReplay → Worker → Cursor → ℕ → Course → Type 0
HasResent gives size shared w cursor number course.Whole = IsSettled gives size shared w cursor number
HasResent gives size shared w cursor number course.SendRefused = HasStopped gives size shared w cursor true
HasResent gives size shared w cursor number course.JoinRefused = HasStopped gives size shared w cursor false

-- it has made so many turns, or was refused in one of them
abbrev pub HasMade : (ℕ → Type 0) → Size → SharedState TrustReplay → Worker → Cursor → ℕ → Course → Type 0
HasMade gives size shared w cursor number course.Whole = IsWorkerReady gives size shared w cursor number
HasMade gives size shared w cursor number course.SendRefused = HasStopped gives size shared w cursor true
HasMade gives size shared w cursor number course.JoinRefused = HasStopped gives size shared w cursor false

-- how a view has ended, if nobody but the drill's workers has called
pub record Ends (size : Size) (s : PlainSession) (w : Worker) : Type 0 where
  pub finished : HasFinished s w.view (own size.seed w.view size.events)
  pub counted : IsCountedBy s w.replica
  pub based : loss_interval ≤ size.events → s.horizon < end_of_time → HasBase s w.view size.events w.replica.plain.base

-- it has ended
pub record HasEnded (gives : ℕ → Type 0) (size : Size) (shared : SharedState TrustReplay)
    (one : Finished) : Type 0 where
  pub worker : IsWorker gives size shared one.worker
  pub few : entries_used_by (own_calls one.worker.pass) ≤ most_asked size.events
  pub catches : MayCatchUp (play one.worker.pass.seen) one.worker.replica one.is_synced
  pub ends : IsDrillHistory gives size.views one.worker.pass.seen → Ends size (play one.worker.pass.seen) one.worker
  pub calls : IsDrillHistory gives size.views one.worker.pass.seen
      → AreCallsOf one.worker.view size.events (calls_made one.worker)
  -- its newest Join is refused at the end of time alone
  pub late : IsDrillHistory gives size.views one.worker.pass.seen → one.is_synced ≡ false
      → end_of_time ≤ (play one.worker.pass.seen).horizon
