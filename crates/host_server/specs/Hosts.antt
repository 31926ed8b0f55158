-- What a host answers, and what it has done to its net by then.
use Rattle.std.specs.Prelude.{◌≡◌, ◌⊎◌, ℕ, ◌≤◌, Bool, false, List, [], ◌++◌, All, Any, length, slice_get, Some, Result, Ok, Err}
use Rattle.std.specs.List.{AllByRecursion}
use Rattle.tea_base.specs.declared.entry.SessionId.{SessionId}
use Rattle.id_claims.specs.Ids.{AreNew, most_ids}
use Rattle.tea_io.specs.Told.{with_more, Rose}
use Rattle.tea_io.specs.declared.net.NetCall.{NetCall}
use Rattle.run_steps.specs.Outside.{LinksTell, NetTells}
use Rattle.reflector_core.specs.PlainSession.{PlainSession}
use Rattle.reflector_core.specs.SessionState.{SessionState}
use Rattle.reflector_core.specs.Play.{first_session}
use Rattle.session_lock.specs.declared.knowledge.Item.{Item}
use Rattle.reflect_server.specs.Connections.{ServedConnection, IsHistoryOf, AreServed, AreToldWithin, accepted_links, callers_of}
use Rattle.reflect_server.specs.Reflects.{AsksFor, Plays, ReturnsLinks}
use Rattle.reflect_server.specs.Rounds.{CountsLinks, CountsStop}
use Rattle.reflect_server.specs.Views.{StaysByMiss}
use Rattle.reflect_server.specs.declared.reflection.ServeFault.{ServeFault}
use Rattle.reflect_server.specs.declared.reflection.ServeFault.TheVariants.{ListenFault, WantOfMemory}
use Rattle.host_server.specs.Links.{HasMade, HostedLink, IsMetOnDemand, IsRouted, connections_of, ends_of, in_session}
use Rattle.host_server.specs.declared.hosting.Hosted.{Hosted}

-- A new session as if it were alone: it is the play of one history, from the first session on, in which each of these connections has its talk, and
-- nobody else has called. What each was sent is served by its log.
pub record IsAlone (gives : ℕ → Type 0) (id : SessionId) {L : Type 0} (links : LinksTell L)
    (connections : List (ServedConnection L)) (session : PlainSession) : Type 0 where
  pub history : List Item
  pub opener : ℕ
  pub talks : IsHistoryOf gives id first_session links connections opener history
  pub plays : Plays first_session history session
  pub served : AreServed session.log connections
  pub ticks : AreToldWithin session.horizon connections
  pub stays : StaysByMiss first_session opener (callers_of connections) history session.log

-- each session of the list is so, by the connections that it has served
pub record AreAlone (gives : ℕ → Type 0) (ids : List SessionId) {L : Type 0} (links : LinksTell L)
    (hosted : List (HostedLink L)) (sessions : List SessionState) : Type 0 where
  pub as_many : length sessions ≡ length ids
  pub each :
      (place : ℕ) (id : SessionId) (session : SessionState) → slice_get ids place ≡ Some id
      → slice_get sessions place ≡ Some session
      → IsAlone gives id links (in_session place hosted) session.plain

-- The ids of the sessions, of which the first ones were listed. The others are those of sessions that were made on demand: each is new, and a link
-- made its session.
pub record AreMade (listed : List SessionId) (on_demand : Bool) {L : Type 0} (links : LinksTell L)
    (hosted : List (HostedLink L)) (ids : List SessionId) : Type 0 where
  pub others : List SessionId
  pub are : listed ++ others ≡ ids
  pub new : AreNew listed others
  pub made : All (λ id. Any (HasMade ids links id) hosted) others
  pub none : on_demand ≡ false → others ≡ []
  pub few : length ids ≤ most_ids

-- What was hosted, after these first calls of the net. Each link that was accepted has one end, in order, and was given back. It was served by
-- the session of its first frame.
pub record IsHosted (gives : ℕ → Type 0) (listed : List SessionId) (on_demand : Bool) {N L : Type 0} (tells : NetTells N L)
    (links : LinksTell L) (calls : List NetCall) (count : ℕ) (before now : N) (result : Hosted) : Type 0 where
  pub hosted : List (HostedLink L)
  pub net : ReturnsLinks tells links before now (connections_of hosted)
  pub asked : AsksFor (tells.asked before) (tells.asked now) calls
      (accepted_links (connections_of hosted)) result.stopped
  pub faults : CountsStop (tells.faults before) (tells.faults now) result.stopped
  pub number : CountsLinks (length hosted) count result.stopped
  pub ends : result.ends ≡ ends_of hosted
  pub ids : AreMade listed on_demand links hosted result.ids
  pub routed : AllByRecursion (λ one. IsRouted gives result.ids links one.session one.connection) hosted
  pub met : AllByRecursion (λ one. IsMetOnDemand on_demand result.ids links one.connection) hosted
  pub sessions : AreAlone gives result.ids links hosted result.sessions

-- the net did not listen: it gave no link
pub record IsUnheard {N L : Type 0} (tells : NetTells N L) (links : LinksTell L) (calls : List NetCall)
    (before now : N) : Type 0 where
  pub net : ReturnsLinks tells links before now []
  pub asked : tells.asked now ≡ with_more (tells.asked before) calls
  pub faults : Rose (tells.faults before) (tells.faults now)

-- no memory was found before a link was accepted; the net was asked nothing, or these calls
pub record WantsMemory {N L : Type 0} (tells : NetTells N L) (links : LinksTell L) (calls : List NetCall)
    (before now : N) : Type 0 where
  pub net : ReturnsLinks tells links before now []
  pub asked : (tells.asked now ≡ tells.asked before) ⊎ (tells.asked now ≡ with_more (tells.asked before) calls)
  pub faults : tells.faults before ≤ tells.faults now

abbrev pub Hosts : (ℕ → Type 0) → List SessionId → Bool → {N L : Type 0} → NetTells N L → LinksTell L → List NetCall → ℕ
    → N → N → Result Hosted ServeFault → Type 0
Hosts gives listed on_demand tells links calls count before now (Ok hosted) =
    IsHosted gives listed on_demand tells links calls count before now hosted
Hosts gives listed on_demand tells links calls count before now (Err ListenFault) =
    IsUnheard tells links calls before now
Hosts gives listed on_demand tells links calls count before now (Err WantOfMemory) =
    WantsMemory tells links calls before now
