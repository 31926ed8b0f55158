-- What the words of the command line ask for: a row for each command. A word is seen as its characters.
use Rattle.std.specs.Prelude.{ℕ, Bool, ◌||◌, is_some, if◌then◌else◌, nat_le, length, encode_utf8_all, List, [], ◌∷◌, Option, Some, None, option_and_then, option_map, codes}
use Rattle.std.specs.Str.{bytes_eq}
use Rattle.run_steps.specs.Limits.{most_connections, most_drill_events, most_drill_views}
use Rattle.text_lines.specs.Lines.{LineWord, number_of_word, time_of_word}
use Rattle.command_words.specs.declared.words.ReplayRequest.{ReplayRequest}
use Rattle.command_words.specs.declared.words.InspectRequest.{InspectRequest}
use Rattle.command_words.specs.declared.words.TraceRequest.{TraceRequest}
use Rattle.command_words.specs.declared.words.JoinRequest.{JoinRequest}
use Rattle.command_words.specs.declared.words.LiveRequest.{LiveRequest}
use Rattle.command_words.specs.declared.words.ReflectRequest.{ReflectRequest}
use Rattle.command_words.specs.declared.words.ServingSpan.{ServingSpan}
use Rattle.command_words.specs.declared.words.ServingSpan.TheVariants as serving_span
use Rattle.command_words.specs.declared.words.Command.{Command}
use Rattle.command_words.specs.declared.words.Command.TheVariants.{Stamp, Check, Replay, Inspect, Trace, Votes, Hub, Join, Live, Reflect, Host, Drill}
use Rattle.command_words.specs.Parts.{Parts, all_parts, are_all_taken, behind_first, without_option, first_positional, has_dash, value_of}

-- ---- what one word may be

abbrev pub a_word : LineWord → Option LineWord
a_word word = Some word

-- the most bytes of UTF-8 that the name of a session has
abbrev pub most_name : ℕ
most_name = 255

-- the greatest number of entries after which a world is kept
abbrev pub most_every : ℕ
most_every = 1048576

-- the name of a session
abbrev pub a_name : LineWord → Option LineWord
a_name word = if nat_le (length (encode_utf8_all word)) most_name then Some word else None

-- a number from `low` to `high`
abbrev pub a_number : ℕ → ℕ → LineWord → Option ℕ
a_number low high word = number_of_word low high (encode_utf8_all word)

abbrev pub a_time : LineWord → Option ℕ
a_time word = time_of_word (encode_utf8_all word)

-- ---- what a row is made of

-- what the parts of a command's words make
abbrev pub Reading : Type 0
Reading = Parts → Option Command

-- the next positional, which is such a word, and then the rest of the row
abbrev pub positional : {A : Type 0} → (LineWord → Option A) → (A → Reading) → Reading
positional such rest parts = option_and_then (λ found. rest found (behind_first parts))
    (option_and_then such (first_positional parts))

-- an option that stands once, whose value is such a word
abbrev pub needed : {A : Type 0} → LineWord → (LineWord → Option A) → (A → Reading) → Reading
needed option such rest parts =
    option_and_then (λ found. rest found (without_option option parts)) (option_and_then such (value_of option parts))

-- what such a word is; where there is none, this
abbrev pub value_or : {A : Type 0} → A → (LineWord → Option A) → Option LineWord → Option A
value_or default such None = Some default
value_or default such (Some word) = such word

-- an option that stands at most once
abbrev pub free : LineWord → (Option LineWord → Reading) → Reading
free option rest parts = rest (value_of option parts) (without_option option parts)

-- no other word stands, and this is asked for
abbrev pub asks : Command → Reading
asks command parts = if are_all_taken parts then Some command else None

-- the name of a command, and what is made of the words after it
abbrev pub Row : Type 0
Row = LineWord × Reading

-- ---- how long links are served

-- `[--links P] [--until FILE]`; without `--links` there are as many posts as there may be
abbrev pub posts_span : Parts → Option ServingSpan
posts_span parts =
    option_map (λ links. serving_span.Posts links (value_of (codes "--until") (without_option (codes "--links") parts)))
    (value_or most_connections (a_number 1 most_connections) (value_of (codes "--links") parts))

abbrev pub behind_posts : Parts → Parts
behind_posts parts = without_option (codes "--until") (without_option (codes "--links") parts)

-- what is said where `--connections` has this value, or does not stand
abbrev pub span_by : Option LineWord → Parts → Option ServingSpan
span_by None parts = posts_span parts
span_by (Some word) parts = option_map serving_span.Connections (a_number 1 most_connections word)

abbrev pub behind_by : Option LineWord → Parts → Parts
behind_by None parts = behind_posts parts
behind_by (Some word) parts = parts

-- `--connections N`, or `[--links P] [--until FILE]`
abbrev pub span_of : Parts → Option ServingSpan
span_of parts = span_by (value_of (codes "--connections") parts) (without_option (codes "--connections") parts)

abbrev pub behind_span : Parts → Parts
behind_span parts = behind_by (value_of (codes "--connections") parts) (without_option (codes "--connections") parts)

-- this span, and then the rest of the row
abbrev pub spanned : (ServingSpan → Reading) → Reading
spanned rest parts = option_and_then (λ span. rest span (behind_span parts)) (span_of parts)

-- ---- the table

-- `stamp SCRIPT [--from LOG] [--log FILE]`
abbrev pub stamp_row : Row
stamp_row = (
  codes "stamp",
  positional a_word (λ script.
      free (codes "--from") (λ from. free (codes "--log") (λ log. asks (Stamp script from log)))),
)

-- `check PROGRAM`
abbrev pub check_row : Row
check_row = (codes "check", positional a_word (λ program. asks (Check program)))

-- `[--snapshot FILE] [--saved FILE]`
abbrev pub replay_puts : ReplayRequest → Reading
replay_puts request =
    free (codes "--snapshot") (λ snapshot.
    free (codes "--saved") (λ saved. asks (Replay (record request { snapshot = snapshot; saved = saved }))))

-- `[--persisted JSON] [--from SNAP]`, and where it puts what
abbrev pub replay_options : LineWord → LineWord → LineWord → ℕ → Reading
replay_options program name log time =
    free (codes "--persisted") (λ persisted. free (codes "--from") (λ from.
    replay_puts (record {
      program = program;
      name = name;
      log = log;
      time = time;
      persisted = persisted;
      from = from;
      snapshot = None;
      saved = None;
    })))

-- `replay PROGRAM NAME LOG TIME`, and its options
abbrev pub replay_row : Row
replay_row = (
  codes "replay",
  positional a_word (λ program.
      positional a_name (λ name. positional a_word (λ log.
      positional a_time (λ time. replay_options program name log time)))),
)

-- `[--persisted JSON]`
abbrev pub inspect_options : InspectRequest → Reading
inspect_options request = free (codes "--persisted") (λ persisted.
    asks (Inspect (record request { persisted = persisted })))

-- `inspect PROGRAM NAME LOG EVERY QUERIES`, and its option
abbrev pub inspect_row : Row
inspect_row = (
  codes "inspect",
  positional a_word (λ program.
      positional a_name (λ name. positional a_word (λ log.
      positional (a_number 1 most_every) (λ every. positional a_word (λ queries.
      inspect_options (record {
        program = program;
        name = name;
        log = log;
        every = every;
        queries = queries;
        persisted = None;
      })))))),
)

-- `[--persisted JSON]`
abbrev pub trace_options : TraceRequest → Reading
trace_options request = free (codes "--persisted") (λ persisted.
    asks (Trace (record request { persisted = persisted })))

-- `trace PROGRAM NAME LOG FROM TO`, and its option
abbrev pub trace_row : Row
trace_row = (
  codes "trace",
  positional a_word (λ program.
      positional a_name (λ name. positional a_word (λ log. positional a_time (λ from. positional a_time (λ to.
      trace_options (record { program = program; name = name; log = log; from = from; to = to; persisted = None })))))),
)

-- `[--persisted JSON]`
abbrev pub join_options : JoinRequest → Reading
join_options request = free (codes "--persisted") (λ persisted. asks (Join (record request { persisted = persisted })))

-- the same where `-` alone stands in SCRIPT's place
abbrev pub live_options : LiveRequest → Reading
live_options request = free (codes "--persisted") (λ persisted. asks (Live (record request { persisted = persisted })))

-- `-` alone, or a word
abbrev pub dash_or : Reading → Reading → Reading
dash_or dashed other parts = if has_dash parts then dashed (behind_first parts) else other parts

-- SCRIPT, or `-` for lines that come to the run, and the option
abbrev pub join_ends : LineWord → LineWord → LineWord → ℕ → Reading
join_ends program name address view =
    dash_or (live_options (record { program = program; name = name; address = address; view = view; persisted = None }))
    (positional a_word (λ script.
    join_options (record {
      program = program;
      name = name;
      address = address;
      view = view;
      script = script;
      persisted = None;
    })))

-- `join PROGRAM NAME ADDRESS VIEW`, and what it does
abbrev pub join_row : Row
join_row = (
  codes "join",
  positional a_word (λ program.
      positional a_name (λ name. positional a_word (λ address.
      positional (a_number 1 4294967295) (λ view. join_ends program name address view)))),
)

-- a journal or a log is named, or both are
abbrev pub writes_file : ReflectRequest → Bool
writes_file request = is_some request.journal || is_some request.log

-- where it writes a file, it is asked for
abbrev pub asks_reflect : ReflectRequest → Reading
asks_reflect request parts = if writes_file request then asks (Reflect request) parts else None

-- `[--journal FILE] [--log FILE]`, one of them at least
abbrev pub reflect_files : ReflectRequest → Reading
reflect_files request =
    free (codes "--journal") (λ journal.
    free (codes "--log") (λ log. asks_reflect (record request { journal = journal; log = log })))

-- `[--persisted JSON] [--from LOG]`
abbrev pub reflect_options : ReflectRequest → Reading
reflect_options request =
    free (codes "--persisted") (λ persisted.
    free (codes "--from") (λ from. reflect_files (record request { persisted = persisted; from = from })))

-- how long it serves, and what else may be said
abbrev pub reflect_ends : LineWord → LineWord → LineWord → Reading
reflect_ends program name address =
    spanned (λ span.
    reflect_options (record {
      program = program;
      name = name;
      address = address;
      persisted = None;
      from = None;
      span = span;
      journal = None;
      log = None;
    }))

-- `reflect PROGRAM NAME ADDRESS`, and its options
abbrev pub reflect_row : Row
reflect_row = (
  codes "reflect",
  positional a_word (λ program.
      positional a_name (λ name. positional a_word (λ address. reflect_ends program name address))),
)

-- how long it serves, and `--logs PREFIX`
abbrev pub host_ends : LineWord → LineWord → Reading
host_ends config address =
    spanned (λ span. needed (codes "--logs") a_word (λ logs.
    asks (Host (record { config = config; address = address; span = span; logs = logs }))))

-- `host CONFIG ADDRESS`, and its options
abbrev pub host_row : Row
host_row = (
  codes "host",
  positional a_word (λ config. positional a_word (λ address. host_ends config address)),
)

-- `drill SEED VIEWS EVENTS --log FILE --snapshots PREFIX`
abbrev pub drill_row : Row
drill_row = (
  codes "drill",
  positional (a_number 0 4294967295) (λ seed.
      positional (a_number 1 most_drill_views) (λ views. positional (a_number 0 most_drill_events) (λ events.
      needed (codes "--log") a_word (λ log. needed (codes "--snapshots") a_word (λ snapshots.
      asks (Drill (record { seed = seed; views = views; events = events; log = log; snapshots = snapshots }))))))),
)

-- `votes LOG`
abbrev pub votes_row : Row
votes_row = (codes "votes", positional a_word (λ log. asks (Votes log)))

-- `hub SCRIPT [--logs PREFIX]`
abbrev pub hub_row : Row
hub_row = (codes "hub", positional a_word (λ script. free (codes "--logs") (λ logs. asks (Hub script logs))))

abbrev pub rows : List Row
rows = stamp_row ∷ check_row ∷ replay_row ∷ inspect_row ∷ trace_row ∷ votes_row ∷ hub_row ∷ join_row ∷ reflect_row
    ∷ host_row ∷ drill_row ∷ []

-- what the row of this name makes of the parts
abbrev pub read_by : List Row → LineWord → Reading
read_by [] name parts = None
read_by (row ∷ rows) name parts = if bytes_eq name row.0 then row.1 parts else read_by rows name parts

-- the command that the words ask for, where they follow its row
abbrev pub command_of : List LineWord → Option Command
command_of [] = None
command_of (name ∷ words) = option_and_then (read_by rows name) (all_parts words)
