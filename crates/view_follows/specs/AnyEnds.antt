-- Runs of a reflector on one session, each of which goes on from what the one before it has left, however that one ended.
use Rattle.std.specs.Prelude.{◌≡◌, ◌⊎◌, ℕ, List, [], ◌∷◌, ◌++◌, Contains, Option, Some, slice_get}
use Rattle.std.specs.List.{AllByRecursion}
use Rattle.tea_base.specs.declared.entry.SessionId.{SessionId}
use Rattle.tea_base.specs.Legal.{IsLegal}
use Rattle.wire_frames.specs.declared.frame.ClientFrame.TheVariants as client
use Rattle.wire_frames.specs.declared.start.Base.{Base}
use Rattle.model_solved.specs.Founding.{Founding, IsFounding}
use Rattle.reflector_core.specs.Growth.{GrowsTo}
use Rattle.reflector_core.specs.PlainSession.{IsSoundSession, PlainSession}
use Rattle.reflector_core.specs.Play.{first_session}
use Rattle.reflector_core.specs.declared.request.Request.TheVariants.{Leave}
use Rattle.session_lock.specs.declared.knowledge.Item.{Item}
use Rattle.session_lock.specs.declared.knowledge.Item.TheVariants.{Did, Void, Unkept}
use Rattle.session_lock.specs.History.{IsSoundThrough, play_from}
use Rattle.connection.specs.TalkServed.{frames_of}
use Rattle.reflect_server.specs.Connections.{AreServed, AreToldWithin, IsHistoryOf, ServedConnection}
use Rattle.reflect_server.specs.Opening.{gives_later}
use Rattle.run_steps.specs.Outside.{LinksTell}
use Rattle.view_follows.specs.Sessions.{IsLinkOfView, IsViewOf, ReflectorRun, SessionView, last_session}
use Rattle.view_follows.specs.SessionsReplay.{last_log}

-- ---- one run

-- Its connections have their talks in the history, at times that its clock may give, counted from the horizon of the opening session. The session
-- was sound at each place.
pub record HasTalks {C L : Type 0} (gives : C → ℕ → Type 0) (id : SessionId) (links : LinksTell L)
    (run : ReflectorRun C L) : Type 0 where
  pub opener : ℕ
  pub talks : IsHistoryOf (gives_later (gives run.clock) run.opening.horizon) id run.opening links run.connections
      opener run.history
  pub sound : IsSoundThrough run.opening run.history

-- a Leave, or a call that has no answer
abbrev pub IsLeaveOrMiss : Item → Type 0
IsLeaveOrMiss (Did who (Leave view joined now)) = Unit {0}
IsLeaveOrMiss (Did who other) = ⊥
IsLeaveOrMiss (Void who) = Unit {0}
IsLeaveOrMiss (Unkept who) = Unit {0}

-- It accepted no link, and called for nothing but the opening Leaves: for all of them, for the first ones, or for none.
pub record HasOnlyLeft {C L : Type 0} (run : ReflectorRun C L) : Type 0 where
  pub none : run.connections ≡ []
  pub leaves : AllByRecursion IsLeaveOrMiss run.history

-- What `reflect` says of a run, however it ended: also of one that found no memory, did not listen, or could not keep its session. The
-- session that it came to is what the history makes of the opening one.
pub record HasRun {C L : Type 0} (gives : C → ℕ → Type 0) (id : SessionId) (links : LinksTell L)
    (run : ReflectorRun C L) : Type 0 where
  pub did : HasTalks gives id links run ⊎ HasOnlyLeft run
  pub play : run.session ≡ play_from run.opening run.history

-- ---- what a run leaves

-- the snapshot, if any, was kept at some place of the run
pub record WasKept {C L : Type 0} (run : ReflectorRun C L) (kept : Option Base) : Type 0 where
  pub beginning : List Item
  pub rest : List Item
  pub whole : beginning ++ rest ≡ run.history
  pub at : kept ≡ (play_from run.opening beginning).kept

-- one of the connections was heard to offer it
pub record WasOffered {C L : Type 0} (run : ReflectorRun C L) (kept : Option Base) : Type 0 where
  pub one : ServedConnection L
  pub among : Contains run.connections one
  pub base : Base
  pub offers : Contains (frames_of one.heard) (Some (client.Snap base.time base.bytes))
  pub is : kept ≡ Some base

-- A session that the next run may begin with, however this one ended. All that anyone was told of the one that it came to is so of this one: it has
-- that log, and perhaps entries later than that horizon, and at least that horizon. Its snapshot was kept by the run, or offered to it.
-- A run that ends well leaves the session that it came to. A journal may tell a horizon ahead, or an earlier snapshot; and it may have one record
-- more, which the run was writing when it ended.
pub record MayLeave {C L : Type 0} (run : ReflectorRun C L) (next : PlainSession) : Type 0 where
  pub grows : GrowsTo run.session next
  pub sound : IsSoundSession next
  pub kept : WasKept run next.kept ⊎ WasOffered run next.kept

-- each begins with what the one before it may have left
abbrev pub FollowOn : {C L : Type 0} → ReflectorRun C L → List (ReflectorRun C L) → Type 0
FollowOn run [] = Unit {0}
FollowOn run (next ∷ runs) = MayLeave run next.opening × FollowOn next runs

-- and the first one with a new session
abbrev pub BeginAndFollow : {C L : Type 0} → List (ReflectorRun C L) → Type 0
BeginAndFollow [] = Unit {0}
BeginAndFollow (run ∷ runs) = (run.opening ≡ first_session) × FollowOn run runs

-- ---- all runs

-- runs of one session, whoever their clients are
pub record AreRuns {C L : Type 0} (gives : C → ℕ → Type 0) (id : SessionId) (links : LinksTell L)
    (runs : List (ReflectorRun C L)) : Type 0 where
  pub each_ran : AllByRecursion (HasRun gives id links) runs
  pub follow : BeginAndFollow runs

-- and each of their connections is that of a view
pub record AreRunsOfViews {C L : Type 0} (gives : C → ℕ → Type 0) (id : SessionId) (links : LinksTell L)
    (founding : Founding) (runs : List (ReflectorRun C L)) (views : List (SessionView L)) : Type 0 where
  pub program : IsFounding founding
  pub are_runs : AreRuns gives id links runs
  pub each : AllByRecursion (IsViewOf founding id.0 runs) views
  pub all : (number : ℕ) (run : ReflectorRun C L) → slice_get runs number ≡ Some run
      → AllByRecursion (IsLinkOfView views number) run.connections

-- ---- laws

-- each run begins with a session that goes on from that of each run before it
abbrev pub BeginOn : {C L : Type 0} → List (ReflectorRun C L) → Type 0
BeginOn [] = Unit {0}
BeginOn (run ∷ runs) = AllByRecursion (λ later. GrowsTo run.session later.opening) runs × BeginOn runs

-- Each run goes on from those before it. The log of the last one is legal, and goes on from that of each run. It serves each connection of each run, and
-- each TICK that one was sent is at most the last horizon.
pub record LivesOn {C L : Type 0} (runs : List (ReflectorRun C L)) : Type 0 where
  pub begins : BeginOn runs
  pub legal : IsLegal (last_log runs)
  pub grows : AllByRecursion (λ run. GrowsTo run.session (last_session first_session runs)) runs
  pub served : AllByRecursion (λ run. AreServed (last_log runs) run.connections) runs
  pub ticks : AllByRecursion (λ run. AreToldWithin (last_session first_session runs).horizon run.connections) runs

-- so it is of all runs of a session
abbrev pub RunsLiveOn : {C L : Type 0} → (C → ℕ → Type 0) → LinksTell L → Type 0
RunsLiveOn {C = C} {L = L} gives links = (id : SessionId) (runs : List (ReflectorRun C L)) → AreRuns gives id links runs
    → LivesOn runs

-- a law of all runs of a session whose only clients are views
abbrev pub OfRunsOfViews : {C L : Type 0} → (C → ℕ → Type 0) → LinksTell L
    → (Founding → SessionId → List (ReflectorRun C L) → List (SessionView L) → Type 0) → Type 0
OfRunsOfViews {C = C} {L = L} gives links Law =
    (founding : Founding) (id : SessionId) (runs : List (ReflectorRun C L)) (views : List (SessionView L))
    → AreRunsOfViews gives id links founding runs views → Law founding id runs views
