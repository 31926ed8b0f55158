-- The lines of what ran.
use Rattle.std.specs.Prelude.{ℕ, nat_le, nat_lt, if◌then◌else◌, List, [], ◌∷◌, ◌++◌, flat_map, slice_get, Option, Some, None, codes, encode_utf8_all}
use Rattle.std.specs.Fmt.{decimal}
use Rattle.std.specs.List.{filter}
use Rattle.text_lines.specs.Lines.{LineWord}
use Rattle.tea_base.specs.declared.entry.Entry.{Entry}
use Rattle.tea_base.specs.declared.entry.What.{What}
use Rattle.tea_base.specs.declared.entry.What.TheVariants.{Join, Exit, Event}
use Rattle.model_tokens.specs.Spelling.{spelled_text}
use Rattle.model_tree.specs.Tree.{ClassTree, ProgramTree}
use Rattle.model_solved.specs.Founding.{Founding}
pub use Rattle.world_lines.specs.WorldLines.{fault_words}
use Rattle.world_lines.specs.WorldLines.{spaced, method_text, arguments_text}
use Rattle.world.specs.declared.told.HeardEvent.{HeardEvent}
use Rattle.world.specs.Turns.{PlainRan}
use Rattle.command_trace.specs.Steps.{Ran, OfMessage, OfEntry, time_of, Step, steps}

-- ---- a message

-- a class by its name; in a valid world each object has a class
abbrev pub class_name : Option ClassTree → List ℕ
class_name None = []
class_name (Some class) = spaced (encode_utf8_all class.name)

abbrev pub class_word : ProgramTree → Option ℕ → List ℕ
class_word program None = []
class_word program (Some class) = class_name (slice_get program class)

-- `message TIME OBJECT CLASS METHOD ARGS`
abbrev pub message_line : ProgramTree → PlainRan → List ℕ
message_line program ran =
    codes "message" ++ spaced (decimal ran.time) ++ spaced (decimal ran.object) ++ class_word program ran.class
    ++ spaced (method_text ran.method)
    ++ spaced (arguments_text ran.args) ++ codes "\n"

-- ---- an entry

abbrev pub entry_word : What → LineWord
entry_word Join = codes "join"
entry_word Exit = codes "exit"
entry_word (Event number payload) = codes "event"

-- `SCOPE EVENT heard COUNT`, or `heard 0` where models heard no event
abbrev pub heard_part : Option HeardEvent → List ℕ
heard_part None = spaced (codes "heard") ++ spaced (decimal 0)
heard_part (Some heard) = spaced (spelled_text heard.scope) ++ spaced (spelled_text heard.event)
    ++ spaced (codes "heard") ++ spaced (decimal heard.handlers)

-- `entry SEQ time TIME view VIEW KIND`, and that
abbrev pub entry_line : Entry → Option HeardEvent → List ℕ
entry_line entry heard =
    codes "entry" ++ spaced (decimal entry.seq) ++ spaced (codes "time") ++ spaced (decimal entry.time)
    ++ spaced (codes "view") ++ spaced (decimal entry.view)
    ++ spaced (entry_word entry.what) ++ heard_part heard ++ codes "\n"

-- ---- faults

-- `fault KIND`
abbrev pub fault_line : LineWord → List ℕ
fault_line kind = codes "fault" ++ spaced kind ++ codes "\n"

abbrev pub raised_line : LineWord → ℕ → ℕ → List ℕ
raised_line kind before after = if nat_lt before after then fault_line kind else []

-- each kind of fault whose count rose, by the kind of its place; one message raises at most one
abbrev pub raised_lines : List LineWord → List ℕ → List ℕ → List ℕ
raised_lines (kind ∷ kinds) (before ∷ befores) (after ∷ afters) =
    raised_line kind before after ++ raised_lines kinds befores afters
raised_lines kinds befores afters = []

-- ---- what ran

abbrev pub ran_line : ProgramTree → Ran → List ℕ
ran_line program (OfMessage ran) = message_line program ran
ran_line program (OfEntry entry heard) = entry_line entry heard

-- what ran, and the fault with which it ended, if it did
abbrev pub step_text : ProgramTree → Step → List ℕ
step_text program step = ran_line program step.ran ++ raised_lines fault_words step.before.faults step.after.faults

-- the steps that are not before a time
abbrev pub steps_text : ProgramTree → ℕ → List Step → List ℕ
steps_text program from all = flat_map (step_text program) (filter (λ step. nat_le from (time_of step.ran)) all)

-- what ran in a recorded session from one time to another
abbrev pub trace_text : Founding → List ℕ → List Entry → ℕ → ℕ → List ℕ
trace_text founding id entries from to = steps_text founding.tree from (steps founding id entries to)
