-- What is printed of sessions that were hosted.
use Rattle.std.specs.Prelude.{ℕ, ◌+◌, nat_le, if◌then◌else◌, List, [], ◌∷◌, ◌++◌, length, codes, Option, Some, None}
use Rattle.hex.specs.Hex.{encode_lower}
use Rattle.tea_base.specs.declared.entry.SessionId.{SessionId}
use Rattle.text_lines.specs.Lines.{spell_numbers}
use Rattle.reflector_core.specs.SessionState.{SessionState}
use Rattle.command_reflect.specs.ReflectedSteps.{end_part}
use Rattle.host_server.specs.declared.hosting.HostEnd.{HostEnd}
use Rattle.host_posts.specs.declared.posting.PostOutcome.{PostOutcome}
use Rattle.command_posts.specs.PostsText.{posts_lines}

-- the session that served a connection, counted from 1
abbrev pub session_part : Option ℕ → List ℕ
session_part None = codes " session none"
session_part (Some place) = spell_numbers (codes " session") ((place + 1) ∷ [])

-- the line of the connection of this number
abbrev pub connection_line : ℕ → HostEnd → List ℕ
connection_line number end = spell_numbers (codes "connection") (number ∷ []) ++ session_part end.session
    ++ end_part end.ended ++ codes "\n"

-- the lines of connections, numbered from here on
abbrev pub connection_lines : ℕ → List HostEnd → List ℕ
connection_lines number [] = []
connection_lines number (end ∷ ends) = connection_line number end ++ connection_lines (number + 1) ends

-- the id of a session, where it was made on demand: the numbers up to `listed` are those of the listed sessions
abbrev pub made_id : ℕ → ℕ → SessionId → Option SessionId
made_id listed number id = if nat_le number listed then None else Some id

-- the hexadecimal digits of the id of a session that was made on demand, in lower case
abbrev pub id_part : Option SessionId → List ℕ
id_part None = []
id_part (Some id) = codes " id " ++ encode_lower id.0

-- the line of the session of this number: how many entries its log has, its horizon, and its id if it was made on demand
abbrev pub session_line : ℕ → Option SessionId → SessionState → List ℕ
session_line number made session =
    spell_numbers (codes "session") (number ∷ []) ++ spell_numbers (codes " entries") (length session.plain.log ∷ [])
    ++ spell_numbers (codes " time") (session.plain.horizon ∷ []) ++ id_part made ++ codes "\n"

-- the lines of the sessions of these ids, numbered from here on
abbrev pub session_lines : ℕ → ℕ → List SessionId → List SessionState → List ℕ
session_lines listed number [] sessions = []
session_lines listed number (id ∷ ids) [] = []
session_lines listed number (id ∷ ids) (session ∷ sessions) =
    session_line number (made_id listed number id) session ++ session_lines listed (number + 1) ids sessions

-- the text of sessions that were hosted, so many of which were listed: a line for each connection, and then one for each session
abbrev pub hosted_text : ℕ → List SessionId → List HostEnd → List SessionState → List ℕ
hosted_text listed ids ends sessions = connection_lines 0 ends ++ session_lines listed 1 ids sessions

-- The text of sessions that posts have hosted, so many of which were listed: the line of the links, that of the posts, and then a line for each
-- session.
abbrev pub posts_text : ℕ → List SessionId → List PostOutcome → List SessionState → List ℕ
posts_text listed ids posts sessions = posts_lines posts ++ session_lines listed 1 ids sessions
