-- Where the sessions of a host are put in the end.
use Rattle.std.specs.Prelude.{ℕ, ◌+◌, ◌-◌, Bool, if◌then◌else◌, List, [], ◌∷◌, ◌++◌, map}
use Rattle.hex.specs.Hex.{encode_lower}
use Rattle.id_claims.specs.Ids.{most_ids}
use Rattle.tea_base.specs.declared.entry.SessionId.{SessionId}
use Rattle.reflector_core.specs.SessionState.{SessionState}
use Rattle.command_outcome.specs.declared.outcome.Put.{Put}
use Rattle.command_outcome.specs.Outcome.{numbered_name}
use Rattle.command_reflect.specs.declared.reflection.LogPlace.{LogPlace}
use Rattle.command_reflect.specs.ReflectedSteps.{reflected_put}

-- a name for each session: each ends in the number of its session, from this one on
abbrev pub numbered_names : List ℕ → ℕ → List SessionId → List (List ℕ)
numbered_names prefix number [] = []
numbered_names prefix number (id ∷ ids) = numbered_name prefix number ∷ numbered_names prefix (number + 1) ids

-- the name of the session of this id, which was made on demand: it ends in the 64 hexadecimal digits of the id, in lower case
abbrev pub on_demand_name : List ℕ → SessionId → List ℕ
on_demand_name prefix id = prefix ++ encode_lower id.0

-- a name for each session that was made on demand
abbrev pub on_demand_names : List ℕ → List SessionId → List (List ℕ)
on_demand_names prefix ids = map (on_demand_name prefix) ids

-- for how many sessions that may be made on demand memory is taken, beside so many that are listed
abbrev pub rooms_for : Bool → ℕ → ℕ
rooms_for on_demand listed = if on_demand then most_ids - listed else 0

-- the names of files in which sessions are put
abbrev pub log_names : List LogPlace → List (List ℕ)
log_names places = map (λ place. place.name) places

-- each session as it is stored, under the name that is its own
abbrev pub session_puts : List (List ℕ) → List SessionState → List Put
session_puts [] sessions = []
session_puts (name ∷ names) [] = []
session_puts (name ∷ names) (session ∷ sessions) = reflected_put name session.plain ∷ session_puts names sessions
