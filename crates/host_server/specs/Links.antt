-- Links that were hosted, and by which session each was served.
use Rattle.std.specs.Prelude.{◌≡◌, ◌≢◌, ℕ, ◌<◌, ◌==◌, Bool, true, false, if◌then◌else◌, List, [], ◌∷◌, length, map, position, Option, Some, None}
use Rattle.tea_base.specs.declared.entry.SessionId.{SessionId}
use Rattle.id_claims.specs.Ids.{is_id, most_ids}
use Rattle.tea_io.specs.declared.link.Heard.{Heard}
use Rattle.run_steps.specs.Outside.{LinksTell}
use Rattle.reflector_core.specs.Play.{first_session}
use Rattle.reflect_server.specs.Connections.{ServedConnection, HasTalk}
use Rattle.host_server.specs.Routing.{BeginsWithJoin, first_frame, goes_to, place_of}
use Rattle.host_server.specs.declared.hosting.HostEnd.{HostEnd}

-- a link: its connection, and the place of the session that served it; none where it gave no frame
pub record HostedLink (L : Type 0) : Type 0 where
  pub session : Option ℕ
  pub connection : ServedConnection L

abbrev pub is_at : ℕ → Option ℕ → Bool
is_at place None = false
is_at place (Some session) = session == place

-- the connections that a session served, in the order in which their links were accepted
abbrev pub in_session : {L : Type 0} → ℕ → List (HostedLink L) → List (ServedConnection L)
in_session place [] = []
in_session place (one ∷ rest) =
    if is_at place one.session then one.connection ∷ in_session place rest else in_session place rest

abbrev pub connections_of : {L : Type 0} → List (HostedLink L) → List (ServedConnection L)
connections_of hosted = map (λ one. one.connection) hosted

abbrev pub end_of : {L : Type 0} → HostedLink L → HostEnd
end_of one = record { session = one.session; ended = one.connection.ended }

abbrev pub ends_of : {L : Type 0} → List (HostedLink L) → List HostEnd
ends_of hosted = map end_of hosted

-- it gave no frame, was sent nothing, and has a talk in which nobody was asked anything
pub record IsSilent (gives : ℕ → Type 0) (id : SessionId) {L : Type 0} (links : LinksTell L)
    (one : ServedConnection L) : Type 0 where
  pub talk : HasTalk gives id first_session links [] one
  pub frameless : first_frame one.heard ≡ None
  pub unsent : one.sent ≡ []

-- its first frame goes to this session
abbrev pub IsGoneTo : List SessionId → List Heard → ℕ → Type 0
IsGoneTo ids heard place = (bytes : List ℕ) × (first_frame heard ≡ Some bytes) × (goes_to ids bytes ≡ place)

-- it was served by the session of its first frame, where it tells its frames; or it gave none
abbrev pub IsRouted : (ℕ → Type 0) → List SessionId → {L : Type 0} → LinksTell L → Option ℕ → ServedConnection L
    → Type 0
IsRouted gives ids links None one = (id : SessionId) → IsSilent gives id links one
IsRouted gives ids links (Some place) one =
    (place < length ids) × (links.heard one.accepted ≢ None → IsGoneTo ids one.heard place)

-- a link made the session with this id: it was served by this session, and its first frame names the id where it tells its frames
pub record HasMade {L : Type 0} (ids : List SessionId) (links : LinksTell L) (id : SessionId) (one : HostedLink L) : Type 0 where
  pub session : one.session ≡ Some (place_of ids (Some id))
  pub named : links.heard one.connection.accepted ≢ None → BeginsWithJoin one.connection.heard id

-- where sessions are made on demand, its first frame is a JOIN of an id that none has only if there are as many as there may be
abbrev pub IsMetOnDemand : Bool → List SessionId → {L : Type 0} → LinksTell L → ServedConnection L → Type 0
IsMetOnDemand on_demand ids links one =
    on_demand ≡ true → links.heard one.accepted ≢ None → (id : SessionId) → BeginsWithJoin one.heard id
    → position (is_id id) ids ≡ None → length ids ≡ most_ids
