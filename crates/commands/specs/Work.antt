-- What the parts of a command's work make of what comes.
use Rattle.std.specs.Prelude.{◌≡◌, ◌+◌, ◌≤◌, ℕ, ⊤, true, false, List, [], ◌∷◌, ◌++◌, length, Option, Some, None, option_map, Result, Ok, Err}
use Rattle.tea_base.specs.Limits.{most_snapshot}
use Rattle.model_tree.specs.Bounds.{most_program_bytes}
use Rattle.persist_json.specs.JsonOf.{most_json}
use Rattle.model_solved.specs.Founding.{checked_tree, founding_of}
use Rattle.run_steps.specs.Steps.{Ask}
use Rattle.command_outcome.specs.declared.outcome.Input.{Input}
use Rattle.command_outcome.specs.declared.outcome.Input.TheVariants as input
use Rattle.command_words.specs.declared.words.Command.{Command}
use Rattle.command_words.specs.declared.words.Command.TheVariants.{Join, Live, Reflect, Host, Drill}
use Rattle.reflector_core.specs.Stored.{session_of}
use Rattle.session_log.specs.Stored.{PlainStored, IsStored, plain_stored}
use Rattle.session_log.specs.declared.stored.Stored.{Stored}
use Rattle.command_reflect.specs.declared.reflection.Reflection.{Reflection}
use Rattle.command_reflect.specs.declared.keeping.Keeping.{Keeping}
use Rattle.command_reflect.specs.ReflectedSteps.{log_name}
use Rattle.tea_base.specs.declared.entry.SessionId.{SessionId}
use Rattle.commands.specs.declared.opening.Source.{Source}
use Rattle.commands.specs.declared.live.LiveStart.{LiveStart}
use Rattle.commands.specs.declared.visit.VisitRequest.{VisitRequest}
use Rattle.commands.specs.declared.work.Waiting.{Waiting}
use Rattle.commands.specs.declared.work.Waiting.TheVariants as waiting
use Rattle.commands.specs.declared.stamp.StampWait.TheVariants as stamp_wait
use Rattle.commands.specs.declared.recording.ReplayWait.TheVariants as replay_wait
use Rattle.commands.specs.declared.inspection.InspectWait.TheVariants as inspect_wait
use Rattle.commands.specs.declared.tracing.TraceWait.TheVariants as trace_wait
use Rattle.commands.specs.declared.visit.JoinWait.TheVariants as join_wait
use Rattle.commands.specs.declared.live.LiveWait.TheVariants as live_wait
use Rattle.commands.specs.declared.reflection.ReflectWait.TheVariants as reflect_wait
use Rattle.commands.specs.declared.hosting.HostProgramWait.{HostProgramWait}
use Rattle.commands.specs.declared.hosting.HostWait.TheVariants as host_wait
use Rattle.host_config.specs.Config.{AreFew, AreNamed, config_of, most_sessions}
use Rattle.command_host.specs.declared.hosting.Hosting.{Hosting}
use Rattle.command_host.specs.Hosting.{log_names, rooms_for}
use Rattle.command_stamp.specs.Script.{script_of}
use Rattle.command_hub.specs.HubScript.{hub_script_of}
use Rattle.command_inspect.specs.Queries.{queries_of}
use Rattle.command_replay.specs.declared.recording.Recording.{Recording}
use Rattle.time_line.specs.Keyframes.{LineView}
use Rattle.time_line.specs.declared.fault.LineFault.{LineFault}
use Rattle.time_line.specs.declared.fault.LineFault.TheVariants as line_fault
use Rattle.view_script.specs.ViewScript.{view_script_of}
use Rattle.commands.specs.declared.work.Next.{Next}
use Rattle.commands.specs.declared.work.Next.TheVariants as next
use Rattle.view_script.specs.PlainLine.{plain_lines}
use Rattle.command_words.specs.Bounds.{IsBounded, IsBoundedDrill, IsBoundedHost, IsBoundedInspect, IsBoundedJoin, IsBoundedLive, IsBoundedReflect, IsBoundedSpan, IsBoundedTrace}
use Rattle.command_outcome.specs.Outcome.{steps_of}
use Rattle.commands.specs.Keeping.{OfFoundingLog}
use Rattle.commands.specs.Verdict.{Verdict, PlainHosting, PlainKeeping, PlainLive, PlainReflection, PlainVisit, ByDrill, ByKeeping, ByLive, ByRefusal, ByVisit, ByWant, Coming, Only, OfConfig, OfFile, OfFounded, OfHostPrograms, OfHostReady, OfHubScript, OfInspect, OfJoin, OfJson, OfLive, OfTimeLine, OfInspectedLog, OfProgram, OfQueries, OfLog, OfRecorded, OfReflect, OfReflected, OfScript, OfServed, OfSnapshot, OfTree, PlainSource, OfViewScript, ask_file, at_once, count_verdict, fine, founded, keeps_few, live_of, most_config, most_log, most_queries, most_script, session_id_of, stamp_verdict, visit_to, OfTrace, OfTraced, OfTracedLog, votes_verdict, OfReady}

-- ---- a command that waits for a file

-- which of the inputs is waited for
abbrev pub input_of : Waiting → Input
input_of (waiting.Stamp (stamp_wait.Script script from log)) = input.Script
input_of (waiting.Stamp (stamp_wait.Log wait)) = input.Log
input_of (waiting.Check program) = input.Program
input_of (waiting.Replay (replay_wait.Program request)) = input.Program
input_of (waiting.Replay (replay_wait.Log wait)) = input.Log
input_of (waiting.Replay (replay_wait.Value wait)) = input.Persisted
input_of (waiting.Replay (replay_wait.Snapshot wait)) = input.Snapshot
input_of (waiting.Inspect (inspect_wait.Program request)) = input.Program
input_of (waiting.Inspect (inspect_wait.Log wait)) = input.Log
input_of (waiting.Inspect (inspect_wait.Value wait)) = input.Persisted
input_of (waiting.Inspect (inspect_wait.Queries wait)) = input.Queries
input_of (waiting.Trace (trace_wait.Program request)) = input.Program
input_of (waiting.Trace (trace_wait.Log wait)) = input.Log
input_of (waiting.Trace (trace_wait.Value wait)) = input.Persisted
input_of (waiting.Votes log) = input.Log
input_of (waiting.Hub script logs) = input.Script
input_of (waiting.Join (join_wait.Program request)) = input.Program
input_of (waiting.Join (join_wait.Script wait)) = input.Script
input_of (waiting.Join (join_wait.Value wait)) = input.Persisted
input_of (waiting.Live (live_wait.Program request)) = input.Program
input_of (waiting.Live (live_wait.Value wait)) = input.Persisted
input_of (waiting.Reflect (reflect_wait.Program request)) = input.Program
input_of (waiting.Reflect (reflect_wait.Value wait)) = input.Persisted
input_of (waiting.Reflect (reflect_wait.Log wait)) = input.Log
input_of (waiting.Reflect (reflect_wait.Founding wait)) = input.Log
input_of (waiting.Host (host_wait.Config request)) = input.Config
input_of (waiting.Host (host_wait.Program wait)) = input.Program

-- the name of its file
abbrev pub file_of : Waiting → List ℕ
file_of (waiting.Stamp (stamp_wait.Script script from log)) = script
file_of (waiting.Stamp (stamp_wait.Log wait)) = wait.from
file_of (waiting.Check program) = program
file_of (waiting.Replay (replay_wait.Program request)) = request.program
file_of (waiting.Replay (replay_wait.Log wait)) = wait.request.log
file_of (waiting.Replay (replay_wait.Value wait)) = wait.persisted
file_of (waiting.Replay (replay_wait.Snapshot wait)) = wait.from
file_of (waiting.Inspect (inspect_wait.Program request)) = request.program
file_of (waiting.Inspect (inspect_wait.Log wait)) = wait.request.log
file_of (waiting.Inspect (inspect_wait.Value wait)) = wait.persisted
file_of (waiting.Inspect (inspect_wait.Queries wait)) = wait.queries
file_of (waiting.Trace (trace_wait.Program request)) = request.program
file_of (waiting.Trace (trace_wait.Log wait)) = wait.request.log
file_of (waiting.Trace (trace_wait.Value wait)) = wait.persisted
file_of (waiting.Votes log) = log
file_of (waiting.Hub script logs) = script
file_of (waiting.Join (join_wait.Program request)) = request.program
file_of (waiting.Join (join_wait.Script wait)) = wait.request.script
file_of (waiting.Join (join_wait.Value wait)) = wait.persisted
file_of (waiting.Live (live_wait.Program request)) = request.program
file_of (waiting.Live (live_wait.Value wait)) = wait.persisted
file_of (waiting.Reflect (reflect_wait.Program request)) = request.program
file_of (waiting.Reflect (reflect_wait.Value wait)) = wait.persisted
file_of (waiting.Reflect (reflect_wait.Log wait)) = wait.from
file_of (waiting.Reflect (reflect_wait.Founding wait)) = wait.from
file_of (waiting.Host (host_wait.Config request)) = request.config
file_of (waiting.Host (host_wait.Program wait)) = wait.program

-- the most bytes of an input
abbrev pub most_bytes : Input → ℕ
most_bytes input.Script = most_script
most_bytes input.Program = most_program_bytes
most_bytes input.Log = most_log
most_bytes input.Snapshot = most_snapshot
most_bytes input.Persisted = most_json
most_bytes input.Queries = most_queries
most_bytes input.Config = most_config
-- a journal is opened by its store
most_bytes input.Journal = 0
-- these are no files
most_bytes input.Time = 0
most_bytes input.Address = 0
most_bytes input.Every = 0

-- the file that is waited for
abbrev pub ask_of : Waiting → Ask
ask_of wait = ask_file (file_of wait) (most_bytes (input_of wait))

-- ---- logs

-- the id that a log names, if it is a journal
abbrev pub plain_named : Option SessionId → Option (List ℕ)
plain_named named = option_map (λ id. id.0) named

-- what a log holds
abbrev pub plain_source : Source → PlainSource
plain_source source = record { named = plain_named source.named; stored = plain_stored source.stored }

-- ---- what comes of the file

-- what is known of an opening
abbrev pub plain_opening : Option Stored → Option PlainStored
plain_opening opening = option_map plain_stored opening

-- the keeping that is asked for
abbrev pub plain_keeping : Keeping → PlainKeeping
plain_keeping keeping = record {
  id = keeping.id.0;
  address = keeping.address;
  span = keeping.span;
  journal = keeping.journal;
  from = keeping.from;
  opening = plain_opening keeping.opening;
  log = log_name keeping.log;
}

-- what a journal is founded with is a stored session, if it is known
abbrev pub IsOpening : Option Stored → Type 0
IsOpening None = ⊤
IsOpening (Some stored) = IsStored (plain_stored stored)

-- it serves so long as it may
abbrev pub IsBoundedKeeping : Keeping → Type 0
IsBoundedKeeping keeping = IsBoundedSpan keeping.span × IsOpening keeping.opening

-- what comes of its bytes
abbrev pub next_of : Waiting → List ℕ → Coming
next_of (waiting.Stamp (stamp_wait.Script script from log)) bytes = OfScript from log (script_of bytes)
next_of (waiting.Stamp (stamp_wait.Log wait)) bytes =
    OfLog (λ source. Only (stamp_verdict (session_of source.stored) wait.log wait.requests)) bytes
next_of (waiting.Check program) bytes = OfProgram (λ tree. Only (count_verdict tree)) bytes
next_of (waiting.Replay (replay_wait.Program request)) bytes = OfProgram (OfTree request bytes) bytes
next_of (waiting.Replay (replay_wait.Log wait)) bytes =
    OfLog (OfRecorded wait.request wait.text (checked_tree wait.program)) bytes
next_of (waiting.Replay (replay_wait.Value wait)) bytes =
    let read = wait.read in
    OfJson (λ v. OfFounded read.request read.text (plain_source read.source) (founded (checked_tree read.program) v))
    bytes
next_of (waiting.Replay (replay_wait.Snapshot wait)) bytes =
    OfSnapshot wait.request (checked_tree wait.recording.program) wait.recording.id.0 wait.recording.log.entries bytes
next_of (waiting.Inspect (inspect_wait.Program request)) bytes = OfProgram (OfInspect request bytes) bytes
next_of (waiting.Inspect (inspect_wait.Log wait)) bytes =
    OfLog (OfInspectedLog wait.request wait.text (checked_tree wait.program)) bytes
next_of (waiting.Inspect (inspect_wait.Value wait)) bytes =
    let read = wait.read in
    OfJson (λ v. OfTimeLine read.request read.text (plain_source read.source) (founded (checked_tree read.program) v))
    bytes
next_of (waiting.Inspect (inspect_wait.Queries wait)) bytes =
    OfQueries (founding_of wait.line.program) wait.line.id wait.line.entries (queries_of bytes)
next_of (waiting.Trace (trace_wait.Program request)) bytes = OfProgram (OfTrace request bytes) bytes
next_of (waiting.Trace (trace_wait.Log wait)) bytes =
    OfLog (OfTracedLog wait.request wait.text (checked_tree wait.program)) bytes
next_of (waiting.Trace (trace_wait.Value wait)) bytes =
    let read = wait.read in
    OfJson (λ v. OfTraced read.request read.text (plain_source read.source) (founded (checked_tree read.program) v))
    bytes
next_of (waiting.Votes log) bytes = OfLog (λ source. Only (votes_verdict source.stored.log)) bytes
next_of (waiting.Hub script logs) bytes = OfHubScript logs (hub_script_of bytes)
next_of (waiting.Join (join_wait.Program request)) bytes = OfProgram (OfJoin request bytes) bytes
next_of (waiting.Join (join_wait.Script wait)) bytes =
    OfViewScript wait.request wait.text (checked_tree wait.program) (view_script_of bytes)
next_of (waiting.Join (join_wait.Value wait)) bytes =
    let read = wait.read in
    OfJson (λ v. Only (at_once (ByVisit
    (visit_to read.request read.text (plain_lines wait.script) (founded (checked_tree read.program) v))))) bytes
next_of (waiting.Live (live_wait.Program request)) bytes = OfProgram (OfLive request bytes) bytes
next_of (waiting.Live (live_wait.Value wait)) bytes =
    let read = wait.read in OfJson (λ v.
    Only (at_once (ByLive (live_of read.request read.text (founded (checked_tree read.program) v))))) bytes
next_of (waiting.Reflect (reflect_wait.Program request)) bytes = OfProgram (λ tree. OfReflect request bytes) bytes
next_of (waiting.Reflect (reflect_wait.Value wait)) bytes =
    OfJson (λ v. OfServed wait.request (session_id_of wait.request.name wait.text v)) bytes
next_of (waiting.Reflect (reflect_wait.Log wait)) bytes = OfLog (OfReflected wait.request wait.id.0) bytes
next_of (waiting.Reflect (reflect_wait.Founding wait)) bytes = OfLog (OfFoundingLog (plain_keeping wait.keeping)) bytes
next_of (waiting.Host (host_wait.Config request)) bytes = OfConfig request (config_of bytes)
next_of (waiting.Host (host_wait.Program wait)) bytes =
    OfProgram (λ tree. OfHostPrograms wait.request wait.config (wait.read ++ record { name = wait.program; text = bytes }
    ∷ []) wait.later.items) bytes

-- what comes of the files that are read from here on
abbrev pub Remains : Waiting → Coming
Remains wait = OfFile (input_of wait) (ask_of wait) (next_of wait)

-- so many files are still read at most
abbrev pub files_left : Waiting → ℕ
files_left (waiting.Stamp (stamp_wait.Script script from log)) = 2
files_left (waiting.Stamp (stamp_wait.Log wait)) = 1
files_left (waiting.Check program) = 1
files_left (waiting.Replay (replay_wait.Program request)) = 4
files_left (waiting.Replay (replay_wait.Log wait)) = 3
files_left (waiting.Replay (replay_wait.Value wait)) = 2
files_left (waiting.Replay (replay_wait.Snapshot wait)) = 1
files_left (waiting.Inspect (inspect_wait.Program request)) = 4
files_left (waiting.Inspect (inspect_wait.Log wait)) = 3
files_left (waiting.Inspect (inspect_wait.Value wait)) = 2
files_left (waiting.Inspect (inspect_wait.Queries wait)) = 1
files_left (waiting.Trace (trace_wait.Program request)) = 3
files_left (waiting.Trace (trace_wait.Log wait)) = 2
files_left (waiting.Trace (trace_wait.Value wait)) = 1
files_left (waiting.Votes log) = 1
files_left (waiting.Hub script logs) = 1
files_left (waiting.Join (join_wait.Program request)) = 3
files_left (waiting.Join (join_wait.Script wait)) = 2
files_left (waiting.Join (join_wait.Value wait)) = 1
files_left (waiting.Live (live_wait.Program request)) = 2
files_left (waiting.Live (live_wait.Value wait)) = 1
files_left (waiting.Reflect (reflect_wait.Program request)) = 3
files_left (waiting.Reflect (reflect_wait.Value wait)) = 2
files_left (waiting.Reflect (reflect_wait.Log wait)) = 1
files_left (waiting.Reflect (reflect_wait.Founding wait)) = 1
files_left (waiting.Host (host_wait.Config request)) = most_sessions + 1
files_left (waiting.Host (host_wait.Program wait)) = length wait.later.items + 1

-- a host's words are within their bounds, and its sessions have names, and are not none and not too many
abbrev pub IsBoundedHostWait : HostProgramWait → Type 0
IsBoundedHostWait wait = IsBoundedHost wait.request × AreNamed wait.config.sessions × AreFew wait.config.sessions

-- its words are within their bounds
abbrev pub IsBoundedWait : Waiting → Type 0
IsBoundedWait (waiting.Stamp wait) = ⊤
IsBoundedWait (waiting.Check program) = ⊤
IsBoundedWait (waiting.Replay (replay_wait.Program request)) = IsBounded request
IsBoundedWait (waiting.Replay (replay_wait.Log wait)) = IsBounded wait.request
IsBoundedWait (waiting.Replay (replay_wait.Value wait)) = IsBounded wait.read.request
IsBoundedWait (waiting.Replay (replay_wait.Snapshot wait)) = IsBounded wait.request
IsBoundedWait (waiting.Inspect (inspect_wait.Program request)) = IsBoundedInspect request
IsBoundedWait (waiting.Inspect (inspect_wait.Log wait)) = IsBoundedInspect wait.request
IsBoundedWait (waiting.Inspect (inspect_wait.Value wait)) = IsBoundedInspect wait.read.request
IsBoundedWait (waiting.Inspect (inspect_wait.Queries wait)) = ⊤
IsBoundedWait (waiting.Trace (trace_wait.Program request)) = IsBoundedTrace request
IsBoundedWait (waiting.Trace (trace_wait.Log wait)) = IsBoundedTrace wait.request
IsBoundedWait (waiting.Trace (trace_wait.Value wait)) = IsBoundedTrace wait.read.request
IsBoundedWait (waiting.Votes log) = ⊤
IsBoundedWait (waiting.Hub script logs) = ⊤
IsBoundedWait (waiting.Join (join_wait.Program request)) = IsBoundedJoin request
IsBoundedWait (waiting.Join (join_wait.Script wait)) = IsBoundedJoin wait.request
IsBoundedWait (waiting.Join (join_wait.Value wait)) = IsBoundedJoin wait.read.request
IsBoundedWait (waiting.Live (live_wait.Program request)) = IsBoundedLive request
IsBoundedWait (waiting.Live (live_wait.Value wait)) = IsBoundedLive wait.read.request
IsBoundedWait (waiting.Reflect (reflect_wait.Program request)) = IsBoundedReflect request
IsBoundedWait (waiting.Reflect (reflect_wait.Value wait)) = IsBoundedReflect wait.request
IsBoundedWait (waiting.Reflect (reflect_wait.Log wait)) = IsBoundedReflect wait.request
IsBoundedWait (waiting.Reflect (reflect_wait.Founding wait)) = IsBoundedSpan wait.keeping.span
IsBoundedWait (waiting.Host (host_wait.Config request)) = IsBoundedHost request
IsBoundedWait (waiting.Host (host_wait.Program wait)) = IsBoundedHostWait wait

-- the visit that is asked for
abbrev pub visit_of : VisitRequest → PlainVisit
visit_of request = record {
  founding = founding_of request.program;
  id = request.id.0;
  view = request.view;
  address = request.address;
  lines = plain_lines request.script;
}

-- what a live view is asked to take part in
abbrev pub plain_live : LiveStart → PlainLive
plain_live start = record {
  founding = founding_of start.program;
  id = start.id.0;
  view = start.view;
  address = start.address;
}

-- the reflection that is asked for
abbrev pub plain_reflection : Reflection → PlainReflection
plain_reflection reflection = record {
  id = reflection.id.0;
  opening = reflection.opening.plain;
  address = reflection.address;
  span = reflection.span;
  log = log_name reflection.log;
}

-- the sessions that are to be hosted
abbrev pub plain_hosting : Hosting → PlainHosting
plain_hosting hosting = record {
  ids = hosting.ids;
  on_demand = hosting.on_demand;
  address = hosting.address;
  span = hosting.span;
  logs = log_names hosting.logs;
  prefix = hosting.prefix;
}

-- sessions are not none, and not more than a host may have
abbrev pub AreHosted : List SessionId → Type 0
AreHosted ids = (1 ≤ length ids) × (length ids ≤ most_sessions)

-- each listed session has its place, and memory is taken for each one that may be made on demand
abbrev pub HasRooms : Hosting → Type 0
HasRooms hosting =
    (length hosting.logs ≡ length hosting.ids)
    × (length hosting.rooms ≡ rooms_for hosting.on_demand (length hosting.ids))

-- a host serves so long as it may, has such sessions, and has memory for all that it may put
abbrev pub IsBoundedHosting : Hosting → Type 0
IsBoundedHosting hosting = IsBoundedSpan hosting.span × AreHosted hosting.ids × HasRooms hosting

-- a time line is that of a recorded session, keeps a world after each so many entries, and not too many worlds
pub record IsTimeLineOf (recording : Recording) (every : ℕ) (line : LineView) : Type 0 where
  pub is : line ≡ record {
    program = recording.program;
    id = recording.id.0;
    entries = recording.log.entries;
    every = every;
  }
  pub few : keeps_few every recording.log.entries ≡ true

-- the time line that was made, or that it would keep too many worlds; where it ran out of memory nothing is said
abbrev pub MakesTimeLine : Result LineView LineFault → Recording → ℕ → Type 0
MakesTimeLine (Ok line) recording every = IsTimeLineOf recording every line
MakesTimeLine (Err (line_fault.TooMany frames)) recording every = keeps_few every recording.log.entries ≡ false
MakesTimeLine (Err line_fault.WantOfMemory) recording every = ⊤

-- what comes of a command that does this next
abbrev pub ComesNext : Next → Coming
ComesNext (next.Reads wait) = Remains wait
ComesNext (next.Refuses refusal) = Only (at_once (ByRefusal refusal))
ComesNext (next.Gives outcome) = Only (fine (steps_of outcome.files outcome.text))
ComesNext (next.Visits request) = Only (at_once (ByVisit (visit_of request)))
ComesNext (next.Lives start) = Only (at_once (ByLive (plain_live start)))
ComesNext (next.Reflects reflection) = OfReady (plain_reflection reflection)
ComesNext (next.Keeps keeping) = Only (at_once (ByKeeping (plain_keeping keeping)))
ComesNext (next.Hosts hosting) = OfHostReady (plain_hosting hosting)
ComesNext (next.Drills request) = Only (at_once (ByDrill request))
ComesNext next.WantOfMemory = Only (at_once ByWant)

abbrev pub IsBoundedNext : Next → Type 0
IsBoundedNext (next.Reads wait) = IsBoundedWait wait
IsBoundedNext (next.Visits request) = 1 ≤ request.view
IsBoundedNext (next.Lives start) = 1 ≤ start.view
IsBoundedNext (next.Reflects reflection) = IsBoundedSpan reflection.span
IsBoundedNext (next.Keeps keeping) = IsBoundedKeeping keeping
IsBoundedNext (next.Hosts hosting) = IsBoundedHosting hosting
IsBoundedNext (next.Drills request) = IsBoundedDrill request
IsBoundedNext other = ⊤

abbrev pub reads_left : Next → ℕ
reads_left (next.Reads wait) = files_left wait
reads_left other = 0

-- what is done next leads to what comes here
abbrev pub Leads : Next → Coming → Type 0
Leads step coming = (verdict : Verdict) → ComesNext step verdict → coming verdict

-- the words name no journal
abbrev pub NamesNoJournal : Option Command → Type 0
NamesNoJournal (Some (Reflect request)) = request.journal ≡ None
NamesNoJournal command = ⊤

-- the words ask for no view whose lines come to its run
abbrev pub AsksNoLive : Option Command → Type 0
AsksNoLive (Some (Live request)) = ⊥
AsksNoLive command = ⊤

-- the words ask for a command that goes on as the run of a view, of a reflector or of a host, or as a drill, and may wait then
abbrev pub RunsOn : Option Command → Type 0
RunsOn (Some (Join request)) = ⊤
RunsOn (Some (Live request)) = ⊤
RunsOn (Some (Reflect request)) = ⊤
RunsOn (Some (Host request)) = ⊤
RunsOn (Some (Drill request)) = ⊤
RunsOn command = ⊥
