-- What is put and printed of a session that was reflected.
use Rattle.std.specs.Prelude.{ℕ, ◌+◌, List, [], ◌∷◌, ◌++◌, length, codes, Option, Some, None}
use Rattle.text_lines.specs.Lines.{spell_numbers}
use Rattle.session_log.specs.Stored.{stored_spelling}
use Rattle.reflector_core.specs.PlainSession.{PlainSession}
use Rattle.reflector_core.specs.Stored.{stored_of}
use Rattle.connection.specs.declared.ending.Ended.{Ended}
use Rattle.connection.specs.declared.ending.Ended.TheVariants as ended
use Rattle.host_posts.specs.declared.posting.PostOutcome.{PostOutcome}
use Rattle.command_outcome.specs.declared.outcome.Put.{Put}
use Rattle.command_posts.specs.PostsText.{posts_lines}
use Rattle.command_reflect.specs.declared.reflection.LogPlace.{LogPlace}

-- how a connection has ended, and the value that comes with it
abbrev pub end_part : Ended → List ℕ
end_part ended.Left = codes " left"
end_part ended.LinkEnd = codes " link-end"
end_part ended.LinkFault = codes " link-fault"
end_part (ended.Idle quiets) = codes " idle"
end_part (ended.Stale current) = spell_numbers (codes " stale") (current ∷ [])
end_part (ended.Refused code) = spell_numbers (codes " refused") (code ∷ [])
end_part ended.WantOfMemory = codes " memory"
end_part ended.Unkept = codes " unkept"

-- the line of the connection of this number
abbrev pub end_line : ℕ → Ended → List ℕ
end_line number how = spell_numbers (codes "connection") (number ∷ []) ++ end_part how ++ codes "\n"

-- the lines of connections, numbered from here on
abbrev pub end_lines : ℕ → List Ended → List ℕ
end_lines number [] = []
end_lines number (how ∷ ends) = end_line number how ++ end_lines (number + 1) ends

-- the line of a session: how many entries its log has, and its horizon
abbrev pub session_line : PlainSession → List ℕ
session_line session =
    spell_numbers (codes "entries") (length session.log ∷ []) ++ spell_numbers (codes " time") (session.horizon ∷ [])
    ++ codes "\n"

-- the text of a session that was reflected: a line for each connection, and then its own
abbrev pub reflected_text : List Ended → PlainSession → List ℕ
reflected_text ends session = end_lines 0 ends ++ session_line session

-- the text of a session that posts have reflected: the line of the links, that of the posts, and then its own
abbrev pub reflected_on_text : List PostOutcome → PlainSession → List ℕ
reflected_on_text posts session = posts_lines posts ++ session_line session

-- the bytes of a session as it is stored after its reflector
abbrev pub reflected_bytes : PlainSession → List ℕ
reflected_bytes session = stored_spelling (stored_of session)

-- they are put under this name
abbrev pub reflected_put : List ℕ → PlainSession → Put
reflected_put name session = record { name = name; bytes = reflected_bytes session }

-- the name of the file in which a session is put, if it is put
abbrev pub log_name : Option LogPlace → Option (List ℕ)
log_name None = None
log_name (Some place) = Some place.name
