-- Runs of a reflector on one session whose only clients are views, told from both ends of each link.
use Rattle.std.specs.Prelude.{◌≡◌, ◌⊎◌, ◌<◌, ℕ, List, [], ◌∷◌, ◌++◌, Contains, Option, Some, None, slice_get}
use Rattle.std.specs.List.{AllByRecursion}
use Rattle.tea_base.specs.declared.entry.SessionId.{SessionId}
use Rattle.tea_io.specs.declared.link.Heard.{Heard}
use Rattle.tea_io.specs.declared.link.Heard.TheVariants.{Frame}
use Rattle.wire_frames.specs.Spelling.{client_spelling}
use Rattle.wire_frames.specs.declared.frame.ClientFrame.TheVariants as client
use Rattle.model_solved.specs.Founding.{Founding, IsFounding}
use Rattle.reflector_core.specs.PlainSession.{PlainSession}
use Rattle.reflector_core.specs.Play.{first_session}
use Rattle.session_lock.specs.declared.knowledge.Item.{Item}
use Rattle.session_lock.specs.History.{calls_of}
use Rattle.reflect_server.specs.Connections.{IsHistoryOf, ServedConnection}
use Rattle.reflect_server.specs.Opening.{gives_later}
use Rattle.reflect_server.specs.Reflects.{Plays}
use Rattle.run_steps.specs.Outside.{LinksTell}
use Rattle.run_steps.specs.Steps.{Step}
use Rattle.view_script.specs.PlainLine.{PlainLine}
use Rattle.view_shell.specs.Phases.{Phase, Walks}
use Rattle.view_shell.specs.Viewers.{first_phase}
use Rattle.view_follows.specs.BothEnds.{IsLinkBetween}
use Rattle.view_follows.specs.Links.{LinkTalk, links_in}

-- ---- runs of a reflector

-- A run: its clock, the session that it began with, its connections, what was done to the session in one order, and the session that it left.
pub record ReflectorRun (C L : Type 0) : Type 0 where
  pub clock : C
  pub opening : PlainSession
  pub connections : List (ServedConnection L)
  pub history : List Item
  pub session : PlainSession

-- What `reflect` says of a run. Its connections have their talks in the history, at times that its clock may give, counted from the horizon of the
-- opening session. Before them each view that was here in that session was made to leave. The session that it left is what the history makes of the opening one.
pub record IsReflectorRun {C L : Type 0} (gives : C → ℕ → Type 0) (id : SessionId) (links : LinksTell L)
    (run : ReflectorRun C L) : Type 0 where
  pub opener : ℕ
  pub talks : IsHistoryOf (gives_later (gives run.clock) run.opening.horizon) id run.opening links run.connections
      opener run.history
  pub plays : Plays run.opening run.history run.session

-- Each run begins with the session that the one before it left, and the first one with this. A run puts its session as it is stored, and the next
-- one reads that file. So it is this session that comes back (`a_stored_session_comes_back`).
abbrev pub TakeUp : {C L : Type 0} → PlainSession → List (ReflectorRun C L) → Type 0
TakeUp opening [] = Unit {0}
TakeUp opening (run ∷ runs) = (run.opening ≡ opening) × TakeUp run.session runs

-- the session that the last of them left
abbrev pub last_session : {C L : Type 0} → PlainSession → List (ReflectorRun C L) → PlainSession
last_session opening [] = opening
last_session opening (run ∷ runs) = last_session run.session runs

-- ---- one link

-- the bytes of the frames among what was heard
abbrev pub frames_heard : List Heard → List (List ℕ)
frames_heard [] = []
frames_heard (Frame bytes ∷ rest) = bytes ∷ frames_heard rest
frames_heard (other ∷ rest) = frames_heard rest

-- What was heard is a first part of what was sent. An ALIVE may stand anywhere in it: a net may tell a sign of life so.
abbrev pub ComesFrom : List (List ℕ) → List (List ℕ) → Type 0
ComesFrom [] sent = Unit {0}
ComesFrom (bytes ∷ heard) [] = (bytes ≡ client_spelling client.Alive) × ComesFrom heard []
ComesFrom (bytes ∷ heard) (first ∷ sent) = ((bytes ≡ client_spelling client.Alive) × ComesFrom heard (first ∷ sent))
    ⊎ ((bytes ≡ first) × ComesFrom heard sent)

-- a link of a view and its connection at the reflector, which heard what the view sent
pub record IsLinkTo {L : Type 0} (link : LinkTalk) (end : ServedConnection L) : Type 0 where
  pub between : IsLinkBetween link end.heard end.sent
  pub sent : ComesFrom (frames_heard end.heard) link.sent

-- the connection that a link came to: in which run, the first one being 0, and which one there
pub record FarEnd (L : Type 0) : Type 0 where
  pub run : ℕ
  pub connection : ServedConnection L

-- on a link that came to no connection nothing is heard
abbrev pub ComesTo : {L : Type 0} → LinkTalk → Option (FarEnd L) → Type 0
ComesTo link None = link.heard ≡ []
ComesTo link (Some end) = IsLinkTo link end.connection

abbrev pub ComeTo : {L : Type 0} → List LinkTalk → List (Option (FarEnd L)) → Type 0
ComeTo [] [] = Unit {0}
ComeTo (link ∷ links) (end ∷ ends) = ComesTo link end × ComeTo links ends
ComeTo links ends = ⊥

-- ---- one after the other

-- as long as the one caller has made no call, the other has made none
abbrev pub CallsFirst : List Item → ℕ → ℕ → Type 0
CallsFirst history one other = (front back : List Item) → front ++ back ≡ history → calls_of (one ∷ []) front ≡ []
    → calls_of (other ∷ []) front ≡ []

abbrev pub CallsFirstIn : {C L : Type 0} → List (ReflectorRun C L) → ℕ → ServedConnection L → ServedConnection L
    → Type 0
CallsFirstIn {C = C} {L = L} runs number one other = (run : ReflectorRun C L) → slice_get runs number ≡ Some run
    → CallsFirst run.history one.caller other.caller

-- it is of an earlier run; or both are of one, and there it makes its first call before the other does
abbrev pub BeginsBefore : {C L : Type 0} → List (ReflectorRun C L) → Option (FarEnd L) → Option (FarEnd L) → Type 0
BeginsBefore runs (Some one) (Some other) =
    (one.run < other.run) ⊎ ((one.run ≡ other.run) × CallsFirstIn runs other.run one.connection other.connection)
BeginsBefore runs one other = Unit {0}

-- so does each of these, before the later ones
abbrev pub BeginInOrder : {C L : Type 0} → List (ReflectorRun C L) → List (Option (FarEnd L)) → Type 0
BeginInOrder runs [] = Unit {0}
BeginInOrder runs (end ∷ ends) = AllByRecursion (BeginsBefore runs end) ends × BeginInOrder runs ends

-- ---- views

-- what a view did: its number, the address, its script, its steps, and the phase that they lead to; and for each of its links the connection
-- that it came to, if any
pub record SessionView (L : Type 0) : Type 0 where
  pub view : ℕ
  pub address : List ℕ
  pub lines : List PlainLine
  pub steps : List Step
  pub last : Phase
  pub ends : List (Option (FarEnd L))

abbrev pub IsAmong : {C L : Type 0} → List (ReflectorRun C L) → Option (FarEnd L) → Type 0
IsAmong runs None = Unit {0}
IsAmong {C = C} {L = L} runs (Some end) = (run : ReflectorRun C L) × (slice_get runs end.run ≡ Some run)
    × Contains run.connections end.connection

-- It walked as views do, each of its links came to a connection of one of the runs or to none, and these made their first calls in the order of the links.
pub record IsViewOf {C L : Type 0} (founding : Founding) (id : List ℕ) (runs : List (ReflectorRun C L))
    (v : SessionView L) : Type 0 where
  pub walks : Walks (first_phase founding id v.view v.address v.lines) v.steps v.last
  pub links : ComeTo (links_in v.steps) v.ends
  pub known : AllByRecursion (IsAmong runs) v.ends
  pub order : BeginInOrder runs v.ends

-- the connection of this run is that of a link of one of the views
abbrev pub IsLinkOfView : {L : Type 0} → List (SessionView L) → ℕ → ServedConnection L → Type 0
IsLinkOfView {L = L} views number one =
    (v : SessionView L) × Contains views v × Contains v.ends (Some (record { run = number; connection = one }))

-- Runs that take up one session, the first one a new session. Each of their connections is that of a view.
pub record AreViewRuns {C L : Type 0} (gives : C → ℕ → Type 0) (id : SessionId) (links : LinksTell L)
    (founding : Founding) (runs : List (ReflectorRun C L)) (views : List (SessionView L)) : Type 0 where
  pub program : IsFounding founding
  pub reflected : AllByRecursion (IsReflectorRun gives id links) runs
  pub take_up : TakeUp first_session runs
  pub each : AllByRecursion (IsViewOf founding id.0 runs) views
  pub all : (number : ℕ) (run : ReflectorRun C L) → slice_get runs number ≡ Some run
      → AllByRecursion (IsLinkOfView views number) run.connections
