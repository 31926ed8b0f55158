-- The scripts of a hub: a request a line, to the session that the line names.
use Rattle.std.specs.Prelude.{ℕ, ◌≤◌, nat_le, ◌&&◌, if◌then◌else◌, List, [], ◌∷◌, ◌++◌, All, length, encode_utf8_all, Option, Some, None, option_and_then, codes}
use Rattle.std.specs.Option.{option_map}
use Rattle.std.specs.Str.{bytes_eq, chars, is_utf8}
use Rattle.std.specs.Str.Lines.{lines}
use Rattle.text_lines.specs.Lines.{LineWord, is_skipped, words_of}
use Rattle.command_words.specs.CommandWords.{most_name}
use Rattle.command_stamp.specs.Script.{request_of}
use Rattle.reflector_core.specs.declared.request.Request.{Request}
use Rattle.command_hub.specs.declared.script.HubLine.{HubLine}

-- a request to the session of this name
abbrev pub to_session : LineWord → Request → HubLine
to_session name request = record { name = chars name; request = request }

-- `in NAME`, and a line of a session's script
abbrev pub hub_line_of : List LineWord → Option HubLine
hub_line_of (first ∷ name ∷ words) =
    if bytes_eq first (codes "in")
    && nat_le (length name) most_name then option_map (to_session name) (request_of words) else None
hub_line_of words = None

-- the requests of these lines, where each that is not skipped is one
abbrev pub hub_lines_of : List (List ℕ) → Option (List HubLine)
hub_lines_of [] = Some []
hub_lines_of (line ∷ more) =
    if is_skipped line then hub_lines_of more
    else option_and_then (λ read. option_map (λ rest. read ∷ rest) (hub_lines_of more)) (hub_line_of (words_of line))

-- the requests of a script: UTF-8, in lines
abbrev pub hub_script_of : List ℕ → Option (List HubLine)
hub_script_of bytes = if is_utf8 bytes then hub_lines_of (lines bytes) else None

-- these lines, and then those
abbrev pub then_lines : List HubLine → Option (List HubLine) → Option (List HubLine)
then_lines front rest = option_map (λ lines. front ++ lines) rest

-- its session has a name
abbrev pub HasName : HubLine → Type 0
HasName line = length (encode_utf8_all line.name) ≤ most_name

abbrev pub AreNamed : List HubLine → Type 0
AreNamed lines = All HasName lines
