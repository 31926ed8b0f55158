-- What a hub's fields stand for.
use Rattle.std.specs.Prelude.{ℕ, ◌≤◌, Bool, bytes_eq, List, map, length}
use Rattle.session_hub.specs.PlainHub.{HeldSession, PlainHub, most_sessions}
use Rattle.session_hub.specs.declared.hub.Held.{Held}

abbrev pub plain_held : Held → HeldSession
plain_held held = record { id = held.id.0; session = held.session.plain }

abbrev pub plain_hub : List Held → PlainHub
plain_hub held = map plain_held held

-- its session has this id
abbrev pub has_id : List ℕ → Held → Bool
has_id id held = bytes_eq held.id.0 id
