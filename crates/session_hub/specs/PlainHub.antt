-- Many sessions, each under its id, and the answer of the one that is asked.
use Rattle.std.specs.Prelude.{ℕ, ◌≡◌, Bool, false, nat_le, ◌&&◌, not, bytes_eq, if◌then◌else◌, List, [], ◌∷◌, length, Option, Some, None, is_some, unwrap_or}
use Rattle.std.specs.List.{find}
use Rattle.std.specs.Option.{option_map}
use Rattle.reflector_core.specs.PlainSession.{PlainSession}
use Rattle.reflector_core.specs.Play.{first_session}
use Rattle.reflector_core.specs.Answer.{MayWantMemory, SessionOutcome, answer}
use Rattle.reflector_core.specs.declared.request.Request.{Request}
use Rattle.session_hub.specs.declared.reply.HubReply.{HubReply}
use Rattle.session_hub.specs.declared.reply.HubReply.TheVariants.{Reply, HubFull}

-- a session under its id
pub record HeldSession : Type 0 where
  pub id : List ℕ
  pub session : PlainSession

-- the sessions that were made, in order
abbrev pub PlainHub : Type 0
PlainHub = List HeldSession

-- so many are made at most
abbrev pub most_sessions : ℕ
most_sessions = 256

abbrev pub is_of : List ℕ → HeldSession → Bool
is_of id held = bytes_eq held.id id

-- the session of this id, if one was made
abbrev pub session_in : PlainHub → List ℕ → Option PlainSession
session_in hub id = option_map (λ held. held.session) (find (is_of id) hub)

-- the session of this id: the first one where none was made
abbrev pub session_of : PlainHub → List ℕ → PlainSession
session_of hub id = unwrap_or (session_in hub id) first_session

-- the session of this id is this one: it has the place of the old one, or the last place
abbrev pub with_session : PlainHub → List ℕ → PlainSession → PlainHub
with_session [] id s = record { id = id; session = s } ∷ []
with_session (held ∷ rest) id s =
    if is_of id held then record { id = held.id; session = s } ∷ rest else held ∷ with_session rest id s

-- a session of this id would be one too many
abbrev pub is_full : PlainHub → List ℕ → Bool
is_full hub id = not (is_some (session_in hub id)) && nat_le most_sessions (length hub)

-- the sessions after a request, and the reply
pub record HubOutcome : Type 0 where
  pub hub : PlainHub
  pub reply : HubReply

abbrev pub with_hub_reply : PlainHub → HubReply → HubOutcome
with_hub_reply hub reply = record { hub = hub; reply = reply }

-- the session has answered so
abbrev pub has_answered : PlainHub → List ℕ → SessionOutcome → HubOutcome
has_answered hub id outcome = with_hub_reply (with_session hub id outcome.session) (Reply outcome.reply)

-- the answer to a request to the session of this id
abbrev pub hub_answer : PlainHub → List ℕ → Request → HubOutcome
hub_answer hub id request =
    if is_full hub id then with_hub_reply hub (HubFull (length hub))
    else has_answered hub id (answer (session_of hub id) request)

-- the requests that may want memory: of a session that was made those that it may want memory for, and each that makes one
abbrev pub MayWantSession : Option PlainSession → Request → Type 0
MayWantSession None request = Unit {0}
MayWantSession (Some s) request = MayWantMemory (answer s request).reply

abbrev pub HubMayWantMemory : PlainHub → List ℕ → Request → Type 0
HubMayWantMemory hub id request = (is_full hub id ≡ false) × MayWantSession (session_in hub id) request
