-- What a host is to be configured with: a session a line, and whether sessions are made on demand.
use Rattle.std.specs.Prelude.{ℕ, ◌≤◌, nat_le, Bool, true, false, ◌&&◌, ◌||◌, if◌then◌else◌, List, [], ◌∷◌, ◌++◌, All, length, encode_utf8_all, Option, Some, None, option_and_then, codes}
use Rattle.std.specs.Option.{option_map}
use Rattle.std.specs.Str.{bytes_eq, chars, is_utf8}
use Rattle.std.specs.Str.Lines.{lines}
use Rattle.text_lines.specs.Lines.{LineWord, is_skipped, words_of}
use Rattle.command_words.specs.CommandWords.{most_name}
use Rattle.host_config.specs.declared.reading.Config.{Config}
use Rattle.host_config.specs.declared.reading.SessionLine.{SessionLine}

-- the most sessions of one host
abbrev pub most_sessions : ℕ
most_sessions = 16

abbrev pub session_line : LineWord → LineWord → SessionLine
session_line name program = record { name = chars name; program = chars program }

-- `session NAME PROGRAM`
abbrev pub session_line_of : List LineWord → Option SessionLine
session_line_of (first ∷ name ∷ program ∷ []) =
    if bytes_eq first (codes "session") && nat_le (length name) most_name then Some (session_line name program)
    else None
session_line_of words = None

-- `any`
abbrev pub is_any : List LineWord → Bool
is_any (word ∷ []) = bytes_eq word (codes "any")
is_any words = false

-- no session, and none is made on demand
abbrev pub no_config : Config
no_config = record { sessions = []; on_demand = false }

-- this session, and then the others
abbrev pub with_session : SessionLine → Config → Config
with_session session rest = record rest { sessions = session ∷ rest.sessions }

-- sessions are made on demand, which is said once
abbrev pub with_any : Config → Option Config
with_any rest = if rest.on_demand then None else Some (record rest { on_demand = true })

-- what a line of these words says, and then the others
abbrev pub with_words : List LineWord → Config → Option Config
with_words words rest =
    if is_any words then with_any rest
    else option_map (λ session. with_session session rest) (session_line_of words)

-- what these lines say, where each that is not skipped is `any` or a session, and at most one is `any`
abbrev pub config_lines_of : List (List ℕ) → Option Config
config_lines_of [] = Some no_config
config_lines_of (line ∷ more) =
    if is_skipped line then config_lines_of more
    else option_and_then (with_words (words_of line)) (config_lines_of more)

-- there is a session, and there are not too many
abbrev pub if_few : Config → Option Config
if_few config =
    if nat_le 1 (length config.sessions) && nat_le (length config.sessions) most_sessions then Some config else None

-- what a configuration says: UTF-8, in lines
abbrev pub config_of : List ℕ → Option Config
config_of bytes = if is_utf8 bytes then option_and_then if_few (config_lines_of (lines bytes)) else None

-- what both say, where not both say `any`
abbrev pub both_of : Config → Config → Option Config
both_of front rest =
    if front.on_demand && rest.on_demand then None
    else Some (record { sessions = front.sessions ++ rest.sessions; on_demand = front.on_demand || rest.on_demand })

-- what was read so far, and then the rest
abbrev pub then_config : Config → Option Config → Option Config
then_config front rest = option_and_then (both_of front) rest

-- its name is not too long
abbrev pub HasName : SessionLine → Type 0
HasName session = length (encode_utf8_all session.name) ≤ most_name

abbrev pub AreNamed : List SessionLine → Type 0
AreNamed sessions = All HasName sessions

-- as many as a host may have
abbrev pub AreFew : List SessionLine → Type 0
AreFew sessions = (1 ≤ length sessions) × (length sessions ≤ most_sessions)
