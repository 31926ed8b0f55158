-- The programs that the sessions of a host name.
use Rattle.std.specs.Prelude.{Bool, false, ◌||◌, bytes_eq, if◌then◌else◌, List, [], ◌∷◌, ◌++◌, fold}
use Rattle.text_lines.specs.Lines.{LineWord}
use Rattle.host_config.specs.declared.reading.SessionLine.{SessionLine}

-- the name is among these
abbrev pub is_named : List LineWord → LineWord → Bool
is_named [] name = false
is_named (other ∷ names) name = bytes_eq other name || is_named names name

-- one name more, if it is not there
abbrev pub with_name : List LineWord → LineWord → List LineWord
with_name names name = if is_named names name then names else names ++ name ∷ []

-- the programs that sessions name, each once, in the order in which they are named first
abbrev pub programs_of : List SessionLine → List LineWord
programs_of sessions = fold (λ names (session : SessionLine). with_name names session.program) [] sessions
