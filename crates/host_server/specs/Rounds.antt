-- Links that are accepted one after the other, each served by a row of passes.
use Rattle.std.specs.Prelude.{◌≡◌, ℕ, Bool, true, false, Any, List, length, map, reverse}
use Rattle.std.specs.List.{AllByRecursion}
use Rattle.tea_base.specs.declared.entry.SessionId.{SessionId}
use Rattle.run_steps.specs.Outside.{LinksTell, NetTells}
use Rattle.session_lock.specs.Passes.{PassState, caller}
use Rattle.reflect_server.specs.Connections.{ServedConnection, HasTalk, accepted_links}
use Rattle.reflect_server.specs.Passes.{Gathers}
use Rattle.reflect_server.specs.Rounds.{Accepts, CountsLinks}
use Rattle.reflect_server.specs.declared.accepting.ServedLink.{ServedLink}
use Rattle.host_server.specs.Claiming.{Adds, OfId}
use Rattle.host_server.specs.Links.{HasMade, HostedLink, IsMetOnDemand, IsRouted, connections_of, in_session, is_at}
use Rattle.host_server.specs.Rows.{AtAll}
use Rattle.host_server.specs.declared.hosting.HostEnd.{HostEnd}
use Rattle.host_server.specs.declared.accepting.HostRound.{HostRound}
use Rattle.host_server.specs.declared.rooms.Room.{Room}
use Rattle.host_server.specs.declared.rooms.Row.{Row}
use Rattle.host_server.specs.declared.serving.RoomedLink.{RoomedLink}

-- a fresh pass has served the connection
pub record HasServedBy (gives : ℕ → Type 0) (id : SessionId) {L : Type 0} (links : LinksTell L) (fresh pass : PassState)
    (one : ServedConnection L) : Type 0 where
  pub kept : pass ≡ record fresh { seen = pass.seen }
  pub mine : one.caller ≡ caller pass
  pub talk : HasTalk gives id fresh.opening links pass.seen one

-- the pass has served the connection if it is its session's, and else has not changed
abbrev pub IsUsed : (ℕ → Type 0) → SessionId → {L : Type 0} → LinksTell L → Bool → ServedConnection L → PassState
    → PassState → Type 0
IsUsed gives id links true one fresh pass = HasServedBy gives id links fresh pass one
IsUsed gives id links false one fresh pass = pass ≡ fresh

abbrev pub hosted_by : {L : Type 0} → RoomedLink L → ServedConnection L → HostedLink L
hosted_by served connection = record { session = served.session; connection = connection }

-- how a link is served by a row of fresh passes, where these are the ids in the end
pub record ServesRow (gives : ℕ → Type 0) (ids : List SessionId) (on_demand : Bool) {L K : Type 0}
    (links : LinksTell L) (rooms : List (Room K)) (link : L) (before after : Row K) (served : RoomedLink L) : Type 0 where
  pub connection : ServedConnection L
  pub accepted : connection.accepted ≡ link
  pub returned : connection.returned ≡ served.link
  pub ended : connection.ended ≡ served.ended
  pub routed : IsRouted gives ids links served.session connection
  pub met : IsMetOnDemand on_demand ids links connection
  pub made : Adds (λ id. HasMade ids links id (hosted_by served connection)) before.claim.made after.claim.made
  pub seats :
      AtAll
      (λ place room fresh pass. OfId ids place
      (λ id. IsUsed gives id links (is_at place served.session) connection fresh pass))
      rooms before.seats.items after.seats.items

-- what a thread has of a link that has ended
abbrev pub roomed_of : {L : Type 0} → HostedLink L → RoomedLink L
roomed_of one = record { session = one.session; link = one.connection.returned; ended = one.connection.ended }

-- those of links, the last one first
abbrev pub roomed_back : {L : Type 0} → List (HostedLink L) → List (RoomedLink L)
roomed_back hosted = reverse (map roomed_of hosted)

-- without its session
abbrev pub bare : {L : Type 0} → RoomedLink L → ServedLink L
bare one = record { link = one.link; ended = one.ended }

abbrev pub end_in : {L : Type 0} → RoomedLink L → HostEnd
end_in one = record { session = one.session; ended = one.ended }

abbrev pub ends_in : {L : Type 0} → List (RoomedLink L) → List HostEnd
ends_in served = map end_in (reverse served)

-- What comes of accepting so many links: those that were accepted, in order, each served to its end, where these are the ids in the end. The passes
-- that each session has served links by are in its lead pass.
pub record GoesAround (gives : ℕ → Type 0) (ids : List SessionId) (on_demand : Bool) {N L K : Type 0}
    (tells : NetTells N L) (links : LinksTell L) (rooms : List (Room K)) (count : ℕ) (before now : HostRound N L K) : Type 0 where
  pub hosted : List (HostedLink L)
  pub net : Accepts tells before.net now.net (accepted_links (connections_of hosted)) now.stopped
  pub passes :
      AtAll
      (λ place room lead now. OfId ids place
      (λ id. Gathers gives id links lead count (in_session place hosted) now))
      rooms before.lead.seats.items now.lead.seats.items
  pub served : now.served.items ≡ roomed_back hosted
  pub number : CountsLinks (length hosted) count now.stopped
  pub routed : AllByRecursion (λ one. IsRouted gives ids links one.session one.connection) hosted
  pub met : AllByRecursion (λ one. IsMetOnDemand on_demand ids links one.connection) hosted
  pub made : Adds (λ id. Any (HasMade ids links id) hosted) before.lead.claim.made now.lead.claim.made
