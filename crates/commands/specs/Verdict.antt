-- What comes of a command: the steps that it does, one after the other, and how it is closed.
use Rattle.std.specs.Prelude.{◌≡◌, ◌⊎◌, ℕ, ℤ, ◌/◌, Bool, true, false, not, ◌&&◌, ◌||◌, nat_le, nat_lt, if◌then◌else◌, List, [], ◌∷◌, ◌++◌, drop, length, map, encode_utf8_all, Option, Some, None}
use Rattle.std.specs.Str.{bytes_eq}
use Rattle.tea_base.specs.declared.entry.Entry.{Entry}
use Rattle.tea_base.specs.declared.entry.SessionId.{SessionId}
use Rattle.tea_io.specs.declared.net.NetFault.{NetFault}
use Rattle.tea_io.specs.declared.net.NetFault.TheVariants as net_fault
use Rattle.connection.specs.declared.ending.Ended.{Ended}
use Rattle.reflector_core.specs.PlainSession.{PlainSession}
use Rattle.reflector_core.specs.SessionState.{SessionState}
use Rattle.reflector_core.specs.Stored.{session_of, stored_of}
use Rattle.session_log.specs.Stored.{PlainStored, IsStored, stored_spelling}
use Rattle.session_journal.specs.Frames.{Place}
use Rattle.session_journal.specs.State.{founded as founded_session}
use Rattle.session_journal.specs.Journal.{Goes, most_journal, read_journal}
use Rattle.reflector_core.specs.declared.request.Request.{Request}
use Rattle.reflector_core.specs.Play.{after_all, replies_from}
use Rattle.model_tree.specs.Bounds.{most_program_bytes}
use Rattle.model_tree.specs.Tree.{ProgramTree}
use Rattle.model_solved.specs.Founding.{Founding}
use Rattle.model_solved.specs.Methods.{field_counts}
use Rattle.byte_fields.specs.Fields.{text_field}
use Rattle.sha2.specs.Sha256.{sha256}
use Rattle.tea_base.specs.Limits.{most_snapshot}
use Rattle.world_plain.specs.World.{WorldRecord}
use Rattle.world.specs.Worlds.{replay, replay_on}
use Rattle.snapshot_codec.specs.Answer.{IsSnapshot}
use Rattle.snapshot_codec.specs.Spelling.{persisted_bytes, world_spelling}
use Rattle.model_value.specs.Plain.{PlainValue, nil}
use Rattle.persist_json.specs.JsonOf.{IsJsonOf, most_json}
use Rattle.run_steps.specs.Steps.{Ask, Step, Loads, Puts, Looks, Prints}
use Rattle.view_script.specs.PlainLine.{PlainLine}
use Rattle.view_script.specs.ViewScript.{view_script_of}
use Rattle.command_outcome.specs.declared.outcome.Input.{Input}
use Rattle.command_outcome.specs.declared.outcome.Input.TheVariants as input
use Rattle.command_outcome.specs.declared.outcome.CommandRefusal.{CommandRefusal}
use Rattle.command_outcome.specs.declared.outcome.CommandRefusal.TheVariants as refusal
use Rattle.command_words.specs.declared.words.ReplayRequest.{ReplayRequest}
use Rattle.command_words.specs.declared.words.InspectRequest.{InspectRequest}
use Rattle.command_words.specs.declared.words.TraceRequest.{TraceRequest}
use Rattle.command_words.specs.declared.words.JoinRequest.{JoinRequest}
use Rattle.command_words.specs.declared.words.LiveRequest.{LiveRequest}
use Rattle.command_words.specs.declared.words.ReflectRequest.{ReflectRequest}
use Rattle.command_words.specs.declared.words.HostRequest.{HostRequest}
use Rattle.command_words.specs.declared.words.ServingSpan.{ServingSpan}
use Rattle.command_words.specs.declared.words.DrillRequest.{DrillRequest}
use Rattle.command_words.specs.declared.words.Command.{Command}
use Rattle.command_words.specs.declared.words.Command.TheVariants.{Stamp, Check, Replay, Inspect, Trace, Votes, Hub, Join, Live, Reflect, Host, Drill}
use Rattle.command_words.specs.Address.{is_address}
use Rattle.command_stamp.specs.Script.{script_of}
use Rattle.command_outcome.specs.Outcome.{optional_put, steps_of}
use Rattle.command_outcome.specs.ProgramEnd.{IsFaultless, IsRefused}
use Rattle.command_outcome.specs.ProgramText.{counts_line}
use Rattle.command_stamp.specs.ReplyText.{text_of}
use Rattle.command_replay.specs.Replays.{json_of}
use Rattle.world_lines.specs.WorldText.{world_line}
use Rattle.time_line.specs.Keyframes.{most_frames}
use Rattle.command_inspect.specs.declared.query.Query.{Query}
use Rattle.command_inspect.specs.InspectText.{inspect_text}
use Rattle.command_inspect.specs.Queries.{queries_of}
use Rattle.command_trace.specs.TraceText.{trace_text}
use Rattle.command_votes.specs.VotesText.{votes_text}
use Rattle.command_hub.specs.declared.script.HubLine.{HubLine}
use Rattle.command_hub.specs.HubScript.{hub_script_of}
use Rattle.command_hub.specs.HubRun.{hub_steps}
use Rattle.command_outcome.specs.declared.outcome.Put.{Put}
use Rattle.command_reflect.specs.ReflectedSteps.{reflected_bytes, reflected_on_text, reflected_text}
use Rattle.host_config.specs.Config.{config_of}
use Rattle.host_config.specs.Programs.{programs_of}
use Rattle.host_config.specs.declared.reading.Config.{Config}
use Rattle.host_config.specs.declared.reading.SessionLine.{SessionLine}
use Rattle.host_server.specs.declared.hosting.HostEnd.{HostEnd}
use Rattle.command_host.specs.Hosting.{numbered_names, on_demand_names, session_puts}
use Rattle.command_host.specs.HostedSteps.{hosted_text, posts_text}
use Rattle.command_posts.specs.PostsEnded.{posts_fault}
use Rattle.host_posts.specs.declared.posting.PostOutcome.{PostOutcome}
use Rattle.commands.specs.declared.hosting.ReadProgram.{ReadProgram}
use Rattle.command_drill.specs.DrilledSteps.{drilled_steps}

-- the visit of a view to a session: what that is founded from, the session's id, the number of the view, the address of its reflector, and what it
-- does, line by line
pub record PlainVisit : Type 0 where
  pub founding : Founding
  pub id : List ℕ
  pub view : ℕ
  pub address : List ℕ
  pub lines : List PlainLine

-- what a view whose lines come to its run takes part in: what the session is founded from, its id, the number of the view, and the address of the
-- reflector
pub record PlainLive : Type 0 where
  pub founding : Founding
  pub id : List ℕ
  pub view : ℕ
  pub address : List ℕ

-- what a reflector serves: the session's id, the session that goes on, the address, how long it serves, and where it puts the session, if there is a
-- name for that
pub record PlainReflection : Type 0 where
  pub id : List ℕ
  pub opening : PlainSession
  pub address : List ℕ
  pub span : ServingSpan
  pub log : Option (List ℕ)

-- what a reflector keeps: the session's id, the address, how long it serves, the file of the journal, the log of the session that goes on where there
-- is no journal yet, what the journal is founded with once that is known, and where it puts the session, if there is a name for that
pub record PlainKeeping : Type 0 where
  pub id : List ℕ
  pub address : List ℕ
  pub span : ServingSpan
  pub journal : List ℕ
  pub from : Option (List ℕ)
  pub opening : Option PlainStored
  pub log : Option (List ℕ)

-- what a host serves: the ids of its listed sessions, whether sessions are made on demand, the address, how long it serves, where it puts each
-- listed session, and with what the names of the others begin
pub record PlainHosting : Type 0 where
  pub ids : List SessionId
  pub on_demand : Bool
  pub address : List ℕ
  pub span : ServingSpan
  pub logs : List (List ℕ)
  pub prefix : List ℕ

-- how a command is closed, behind all its steps
pub data Closing : Type 0 where
  -- all went well
  Fine : Closing
  -- it is refused
  ByRefusal : CommandRefusal → Closing
  -- memory is wanted
  ByWant : Closing
  -- a store has not given what it holds
  ByReadFault : Closing
  -- a store has not taken what it was to hold
  ByWriteFault : Closing
  -- the net has failed
  ByNetFault : Closing
  -- the run goes on as this view's
  ByVisit : PlainVisit → Closing
  -- the run goes on as that of this live view
  ByLive : PlainLive → Closing
  -- the run goes on as a reflector's, which serves this
  ByReflecting : PlainReflection → Closing
  -- its journal is to be opened, and founded before that, if it is known with what
  ByKeeping : PlainKeeping → Closing
  -- the run goes on as that of a reflector whose journal goes on from here
  ByGoingOn : PlainKeeping → Place PlainStored → Closing
  -- the run goes on as a host's, which serves these sessions
  ByHosting : PlainHosting → Closing
  -- the run goes on as this drill
  ByDrill : DrillRequest → Closing

-- what comes of a command: its steps, and how it is closed behind them
pub record Verdict : Type 0 where
  pub steps : List Step
  pub closing : Closing

-- these steps, and all went well
abbrev pub fine : List Step → Verdict
fine steps = record { steps = steps; closing = Fine }

-- closed so before any step
abbrev pub at_once : Closing → Verdict
at_once closing = record { steps = []; closing = closing }

-- this step, and then all of that verdict
abbrev pub before : Step → Verdict → Verdict
before step rest = record { steps = step ∷ rest.steps; closing = rest.closing }

-- these steps, and then all of that verdict
abbrev pub behind : List Step → Verdict → Verdict
behind steps rest = record { steps = steps ++ rest.steps; closing = rest.closing }

-- which verdicts may come
abbrev pub Coming : Type 1
Coming = Verdict → Type 0

-- this one
abbrev pub Only : Verdict → Coming
Only verdict came = came ≡ verdict

-- want of memory is free: it may come in place of all that follows
abbrev pub Free : Coming → Coming
Free next verdict = Only (at_once ByWant) verdict ⊎ next verdict

-- what comes of an input that is right, or of one that is not
abbrev pub OfRight : Input → Bool → Coming → Coming
OfRight at true next = next
OfRight at false next = Only (at_once (ByRefusal (refusal.Input at)))

-- a step is done, and then this comes
abbrev pub Then : Step → Coming → Coming
Then step next verdict = (rest : Verdict) × (verdict ≡ before step rest) × next rest

-- these steps are done, one after the other, and then this comes
abbrev pub ThenAll : List Step → Coming → Coming
ThenAll steps next verdict = (rest : Verdict) × (verdict ≡ behind steps rest) × next rest

-- what comes of the bytes of a file, which is this input, or of one above its limit
abbrev pub OfGiven : Input → Option (List ℕ) → (List ℕ → Coming) → Coming
OfGiven at None next = Only (at_once (ByRefusal (refusal.Input at)))
OfGiven at (Some bytes) next = next bytes

-- the file of this name, of at most so many bytes
abbrev pub ask_file : List ℕ → ℕ → Ask
ask_file name limit = record { name = name; limit = limit }

-- a file is read, which is this input, and then this comes of its bytes
abbrev pub OfFile : Input → Ask → (List ℕ → Coming) → Coming
OfFile at ask next verdict = (given : Option (List ℕ)) × Then (Loads ask given) (Free (OfGiven at given next)) verdict

-- ---- logs

-- what a log holds: the id that it names, if it is a journal, and the session that is stored in it
pub record PlainSource : Type 0 where
  pub named : Option (List ℕ)
  pub stored : PlainStored

-- the spelling of a stored session names no id
abbrev pub IsStoredLog : List ℕ → PlainSource → Type 0
IsStoredLog bytes source = (source.named ≡ None) × IsStored source.stored × (bytes ≡ stored_spelling source.stored)

-- a journal names an id of 32 bytes, and holds what is read of it; the bytes after that, which are a torn end, are passed over
abbrev pub IsJournalLog : List ℕ → PlainSource → Type 0
IsJournalLog bytes source =
    (id : List ℕ) × (place : Place PlainStored) × (length id ≡ 32) × (read_journal id bytes ≡ Goes place)
    × (source ≡ record { named = Some id; stored = place.state })

-- the bytes are a log that holds this
abbrev pub IsLog : List ℕ → PlainSource → Type 0
IsLog bytes source = IsStoredLog bytes source ⊎ IsJournalLog bytes source

-- the bytes are a log, or none
abbrev pub OfLog : (PlainSource → Coming) → List ℕ → Coming
OfLog next bytes verdict =
    ((source : PlainSource) × IsLog bytes source × next source verdict)
    ⊎ (((source : PlainSource) → ¬ IsLog bytes source) × Only (at_once (ByRefusal (refusal.Input input.Log))) verdict)

-- the most bytes of a log
abbrev pub most_log : ℕ
most_log = most_journal

-- what a session begins with where no log is named
abbrev pub first_source : PlainSource
first_source = record { named = None; stored = founded_session }

-- where a log is named, the session that it holds goes on, and else a first one begins
abbrev pub OfOpening : Option (List ℕ) → (PlainSource → Coming) → Coming
OfOpening None next = next first_source
OfOpening (Some name) next = OfFile input.Log (ask_file name most_log) (OfLog next)

-- it names no other id than this one
abbrev pub names_no_other : Option (List ℕ) → List ℕ → Bool
names_no_other None id = true
names_no_other (Some named) id = bytes_eq named id

-- where the session's id is known, a journal of another session is refused
abbrev pub OfOwn : Option (List ℕ) → List ℕ → Coming → Coming
OfOwn named id next = OfRight input.Journal (names_no_other named id) next

-- ---- stamp

-- the session replies to the requests, and it is put as it is stored after them
abbrev pub stamp_verdict : PlainSession → Option (List ℕ) → List Request → Verdict
stamp_verdict opening log requests =
    fine (steps_of (optional_put log (stored_spelling (stored_of (after_all opening requests))))
    (text_of (replies_from opening requests)))

-- once the script was read, the session begins; a journal may name any id
abbrev pub OfScript : Option (List ℕ) → Option (List ℕ) → Option (List Request) → Coming
OfScript from log None = Only (at_once (ByRefusal (refusal.Input input.Script)))
OfScript from log (Some requests) =
    OfOpening from (λ source. Only (stamp_verdict (session_of source.stored) log requests))

-- the most bytes of a script
abbrev pub most_script : ℕ
most_script = 16777216

-- ---- programs

-- what comes of a program's bytes
abbrev pub OfProgram : (ProgramTree → Coming) → List ℕ → Coming
OfProgram next bytes verdict =
    ((tree : ProgramTree) × IsFaultless bytes tree × next tree verdict)
    ⊎ ((line : List ℕ) × IsRefused bytes line × Only (at_once (ByRefusal (refusal.Program line))) verdict)

-- a program without faults is counted
abbrev pub count_verdict : ProgramTree → Verdict
count_verdict tree = fine (steps_of [] (counts_line tree))

-- ---- persisted values

-- what a session is founded from: a program, and its persisted value
abbrev pub founded : ProgramTree → PlainValue → Founding
founded tree v = record { tree = tree; persisted = v }

-- the id of the session of this name, this program's text and this persisted value
abbrev pub session_id_of : List ℕ → List ℕ → PlainValue → List ℕ
session_id_of name text v = sha256 (text_field name ++ text ++ persisted_bytes v)

-- the bytes are JSON of a value that can be saved, or of none
abbrev pub OfJson : (PlainValue → Coming) → List ℕ → Coming
OfJson next bytes verdict =
    ((v : PlainValue) × IsJsonOf bytes v × next v verdict)
    ⊎ (((v : PlainValue) → ¬ IsJsonOf bytes v) × Only (at_once (ByRefusal (refusal.Input input.Persisted))) verdict)

-- where JSON is named it is read, and else the persisted value is nil
abbrev pub OfPersisted : Option (List ℕ) → (PlainValue → Coming) → Coming
OfPersisted None next = next nil
OfPersisted (Some name) next = OfFile input.Persisted (ask_file name most_json) (OfJson next)

-- ---- replay

-- what is put of a world: its snapshot, and then the JSON of its saved value
abbrev pub world_puts : ReplayRequest → WorldRecord → List Put
world_puts request w = optional_put request.snapshot (world_spelling w) ++ optional_put request.saved (json_of w.saved)

-- a world is told by its line
abbrev pub world_verdict : ReplayRequest → WorldRecord → Verdict
world_verdict request w = fine (steps_of (world_puts request w) (world_line w))

-- a world that is taken up goes on over the entries behind its time, if the time that is asked for is not below it
abbrev pub resumed_verdict : ReplayRequest → ProgramTree → List Entry → WorldRecord → Verdict
resumed_verdict request tree log w =
    if nat_lt request.time w.time then at_once (ByRefusal (refusal.Input input.Time))
    else world_verdict request (replay_on tree w log request.time).world

-- the bytes are the snapshot of a world that is valid for the program and of the session of this id, or of none
abbrev pub OfSnapshot : ReplayRequest → ProgramTree → List ℕ → List Entry → List ℕ → Coming
OfSnapshot request tree id log bytes verdict =
    ((w : WorldRecord) × IsSnapshot (field_counts tree) id bytes w × Only (resumed_verdict request tree log w) verdict)
    ⊎ (((w : WorldRecord) → ¬ IsSnapshot (field_counts tree) id bytes w)
    × Only (at_once (ByRefusal (refusal.Input input.Snapshot))) verdict)

-- a replay begins with the first world of the session, or with that of a snapshot
abbrev pub Starts : Option (List ℕ) → ReplayRequest → Founding → List ℕ → List Entry → Coming
Starts None request founding id log = Only (world_verdict request (replay founding id log request.time).world)
Starts (Some from) request founding id log =
    OfFile input.Snapshot (ask_file from most_snapshot) (OfSnapshot request founding.tree id log)

-- once the persisted value is known, the log has to be of the session, and the replay begins
abbrev pub OfFounded : ReplayRequest → List ℕ → PlainSource → Founding → Coming
OfFounded request text source founding =
    let id = session_id_of request.name text founding.persisted
    in OfOwn source.named id (Starts request.from request founding id source.stored.log)

-- once the log was read, the persisted value is
abbrev pub OfRecorded : ReplayRequest → List ℕ → ProgramTree → PlainSource → Coming
OfRecorded request text tree source =
    OfPersisted request.persisted (λ v. OfFounded request text source (founded tree v))

-- once the program was read, the log is
abbrev pub OfTree : ReplayRequest → List ℕ → ProgramTree → Coming
OfTree request text tree = OfFile input.Log (ask_file request.log most_log) (OfLog (OfRecorded request text tree))

-- ---- inspect

-- the most bytes of queries
abbrev pub most_queries : ℕ
most_queries = 65536

-- what is printed of a recorded session
abbrev pub inspect_verdict : Founding → List ℕ → List Entry → List Query → Verdict
inspect_verdict founding id log queries = fine (steps_of [] (inspect_text founding id log queries))

-- what comes of queries, or of a text that has none
abbrev pub OfQueries : Founding → List ℕ → List Entry → Option (List Query) → Coming
OfQueries founding id log None = Only (at_once (ByRefusal (refusal.Input input.Queries)))
OfQueries founding id log (Some queries) = Only (inspect_verdict founding id log queries)

-- not too many worlds are kept of a log, where one is kept after each so many entries
abbrev pub keeps_few : ℕ → List Entry → Bool
keeps_few every log = nat_le (length log / every) most_frames

-- once it is known that few worlds are kept, the queries are read
abbrev pub OfKeyframes : ℕ → List ℕ → Founding → List ℕ → List Entry → Coming
OfKeyframes every queries founding id log =
    OfRight input.Every (keeps_few every log)
    (OfFile input.Queries (ask_file queries most_queries) (λ bytes. OfQueries founding id log (queries_of bytes)))

-- once the persisted value is known, the log has to be of the session, and the worlds are kept
abbrev pub OfTimeLine : InspectRequest → List ℕ → PlainSource → Founding → Coming
OfTimeLine request text source founding =
    let id = session_id_of request.name text founding.persisted
    in OfOwn source.named id (OfKeyframes request.every request.queries founding id source.stored.log)

-- once the log was read, the persisted value is
abbrev pub OfInspectedLog : InspectRequest → List ℕ → ProgramTree → PlainSource → Coming
OfInspectedLog request text tree source =
    OfPersisted request.persisted (λ v. OfTimeLine request text source (founded tree v))

-- once the program was read, the log is
abbrev pub OfInspect : InspectRequest → List ℕ → ProgramTree → Coming
OfInspect request text tree =
    OfFile input.Log (ask_file request.log most_log) (OfLog (OfInspectedLog request text tree))

-- ---- trace

-- what is printed of what ran in a recorded session from one time to another
abbrev pub trace_verdict : Founding → List ℕ → List Entry → ℕ → ℕ → Verdict
trace_verdict founding id log from to = fine (steps_of [] (trace_text founding id log from to))

-- once the persisted value is known, the log has to be of the session, and what ran is printed
abbrev pub OfTraced : TraceRequest → List ℕ → PlainSource → Founding → Coming
OfTraced request text source founding =
    let id = session_id_of request.name text founding.persisted
    in OfOwn source.named id (Only (trace_verdict founding id source.stored.log request.from request.to))

-- once the log was read, the persisted value is
abbrev pub OfTracedLog : TraceRequest → List ℕ → ProgramTree → PlainSource → Coming
OfTracedLog request text tree source =
    OfPersisted request.persisted (λ v. OfTraced request text source (founded tree v))

-- once the program was read, the log is
abbrev pub OfTrace : TraceRequest → List ℕ → ProgramTree → Coming
OfTrace request text tree = OfFile input.Log (ask_file request.log most_log) (OfLog (OfTracedLog request text tree))

-- ---- votes

-- what the votes of a log come to is printed
abbrev pub votes_verdict : List Entry → Verdict
votes_verdict log = fine (steps_of [] (votes_text log))

-- ---- hub

-- the sessions of the lines are put, and their replies are printed
abbrev pub hub_verdict : Option (List ℕ) → List HubLine → Verdict
hub_verdict logs lines = fine (hub_steps logs lines)

-- what comes of a hub's script, or of none
abbrev pub OfHubScript : Option (List ℕ) → Option (List HubLine) → Coming
OfHubScript logs None = Only (at_once (ByRefusal (refusal.Input input.Script)))
OfHubScript logs (Some lines) = Only (hub_verdict logs lines)

-- ---- join

abbrev pub visit_to : JoinRequest → List ℕ → List PlainLine → Founding → PlainVisit
visit_to request text lines founding =
    record {
      founding = founding;
      id = session_id_of request.name text founding.persisted;
      view = request.view;
      address = request.address;
      lines = lines;
    }

-- what comes of a view's script, or of none: the persisted value is read, and then the view visits
abbrev pub OfViewScript : JoinRequest → List ℕ → ProgramTree → Option (List PlainLine) → Coming
OfViewScript request text tree None = Only (at_once (ByRefusal (refusal.Input input.Script)))
OfViewScript request text tree (Some lines) =
    OfPersisted request.persisted (λ v. Only (at_once (ByVisit (visit_to request text lines (founded tree v)))))

-- the script of a view is read
abbrev pub OfView : JoinRequest → List ℕ → ProgramTree → Coming
OfView request text tree = OfFile input.Script (ask_file request.script most_script) (λ bytes.
    OfViewScript request text tree (view_script_of bytes))

-- once the program was read, the address is checked, and then the script is read
abbrev pub OfJoin : JoinRequest → List ℕ → ProgramTree → Coming
OfJoin request text tree = OfRight input.Address (is_address (encode_utf8_all request.address))
    (OfView request text tree)

-- ---- join, where the lines come to the run

abbrev pub live_of : LiveRequest → List ℕ → Founding → PlainLive
live_of request text founding =
    record {
      founding = founding;
      id = session_id_of request.name text founding.persisted;
      view = request.view;
      address = request.address;
    }

-- the persisted value is read, and then the view takes part
abbrev pub OfLiveBegun : LiveRequest → List ℕ → ProgramTree → Coming
OfLiveBegun request text tree =
    OfPersisted request.persisted (λ v. Only (at_once (ByLive (live_of request text (founded tree v)))))

-- once the program was read, the address is checked
abbrev pub OfLive : LiveRequest → List ℕ → ProgramTree → Coming
OfLive request text tree = OfRight input.Address (is_address (encode_utf8_all request.address))
    (OfLiveBegun request text tree)

-- ---- reflect

-- a reflector of the session of this id, which goes on from this one
abbrev pub reflection_of : ReflectRequest → List ℕ → PlainSession → PlainReflection
reflection_of request id opening =
    record {
      id = id;
      opening = opening;
      address = request.address;
      span = request.span;
      log = request.log;
    }

-- a reflector that keeps the journal of this name, of which nothing is known yet
abbrev pub keeping_of : ReflectRequest → List ℕ → List ℕ → PlainKeeping
keeping_of request id journal =
    record {
      id = id;
      address = request.address;
      span = request.span;
      journal = journal;
      from = request.from;
      opening = None;
      log = request.log;
    }

-- the one without a journal, the other with one
abbrev pub OfJournal : Option (List ℕ) → Coming → (List ℕ → Coming) → Coming
OfJournal None without with_one = without
OfJournal (Some journal) without with_one = with_one journal

-- Before anything listens the run looks whether the log can be put, if there is a name for it. Memory may be wanted for the look alone.
abbrev pub OfLooked : Option (List ℕ) → Coming → Coming
OfLooked None next = next
OfLooked (Some name) next = Then (Looks name) (Free next)

-- a session is ready to be reflected
abbrev pub OfReady : PlainReflection → Coming
OfReady reflection = OfLooked reflection.log (Only (at_once (ByReflecting reflection)))

-- what a log holds is reflected, if it is of the session
abbrev pub OfReflected : ReflectRequest → List ℕ → PlainSource → Coming
OfReflected request id source = OfOwn source.named id (OfReady (reflection_of request id (session_of source.stored)))

-- without a journal the session begins, and is reflected
abbrev pub OfUnkept : ReflectRequest → List ℕ → Coming
OfUnkept request id = OfOpening request.from (OfReflected request id)

-- once the id is known, the journal is opened, if one is named
abbrev pub OfServed : ReflectRequest → List ℕ → Coming
OfServed request id = OfJournal request.journal (OfUnkept request id) (λ journal.
    Only (at_once (ByKeeping (keeping_of request id journal))))

-- once the program was read, the address is checked, then the persisted value is read, and then the session begins
abbrev pub OfReflect : ReflectRequest → List ℕ → Coming
OfReflect request text =
    OfRight input.Address (is_address (encode_utf8_all request.address))
    (OfPersisted request.persisted (λ v. OfServed request (session_id_of request.name text v)))

-- how a run is closed after its reflector: a call was not kept, or the net has failed or memory was wanted for one more link, or all went well
abbrev pub reflected_closing : Bool → Option NetFault → Closing
reflected_closing true stopped = ByWriteFault
reflected_closing false None = Fine
reflected_closing false (Some net_fault.Failed) = ByNetFault
reflected_closing false (Some net_fault.WantOfMemory) = ByWant

-- the text of a session that was reflected is printed
abbrev pub reflected_verdict : List Ended → PlainSession → Bool → Option NetFault → Verdict
reflected_verdict ends session unkept stopped =
    record { steps = Prints (reflected_text ends session) ∷ []; closing = reflected_closing unkept stopped }

-- a session is put as it is stored, if there is a name for it, and then this comes
abbrev pub OfPut : Option (List ℕ) → PlainSession → Coming → Coming
OfPut None session next = next
OfPut (Some name) session next = Then (Puts name (reflected_bytes session)) next

-- What comes of a session after its reflector. It is put first, and want of memory comes in place of no put. Then its text is printed, and only that may want memory.
abbrev pub OfEnds : Option (List ℕ) → List Ended → PlainSession → Bool → Option NetFault → Coming
OfEnds log ends session unkept stopped = OfPut log session (Free (Only (reflected_verdict ends session unkept stopped)))

-- the text of a session that posts have reflected is printed
abbrev pub reflected_on_verdict : List PostOutcome → PlainSession → Bool → Verdict
reflected_on_verdict posts session unkept =
    record { steps = Prints (reflected_on_text posts session) ∷ []; closing = reflected_closing unkept (posts_fault posts) }

-- what comes of a session after its posts: it is put first, and then its text is printed
abbrev pub OfEndsOn : Option (List ℕ) → List PostOutcome → PlainSession → Bool → Coming
OfEndsOn log posts session unkept = OfPut log session (Free (Only (reflected_on_verdict posts session unkept)))

-- ---- host

-- the most bytes of a configuration
abbrev pub most_config : ℕ
most_config = 65536

-- the text of the program of this name, among those that were read
abbrev pub text_in : List ReadProgram → List ℕ → List ℕ
text_in [] name = []
text_in (found ∷ read) name = if bytes_eq found.name name then found.text else text_in read name

-- the id of a session, by its name and the text of its program; its persisted value is nil
abbrev pub host_id : List ReadProgram → SessionLine → SessionId
host_id read line = record { 0 = session_id_of line.name (text_in read line.program) nil }

abbrev pub host_ids : List ReadProgram → List SessionLine → List SessionId
host_ids read lines = map (host_id read) lines

-- the id is among these
abbrev pub is_among : SessionId → List SessionId → Bool
is_among id [] = false
is_among id (other ∷ ids) = bytes_eq other.0 id.0 || is_among id ids

-- no two of these ids are the same
abbrev pub are_apart : List SessionId → Bool
are_apart [] = true
are_apart (id ∷ ids) = not (is_among id ids) && are_apart ids

-- a host of the sessions of these ids, each of which is put under a name that ends in its number, from 1 on
abbrev pub hosting_of : HostRequest → Bool → List SessionId → PlainHosting
hosting_of request on_demand ids =
    record {
      ids = ids;
      on_demand = on_demand;
      address = request.address;
      span = request.span;
      logs = numbered_names request.logs 1 ids;
      prefix = request.logs;
    }

-- the run looks whether files can be put under these names
abbrev pub look_steps : List (List ℕ) → List Step
look_steps names = map Looks names

-- Sessions are ready to be hosted. Before anything listens the run looks whether each listed one can be put. Memory may be wanted for that alone.
abbrev pub OfHostReady : PlainHosting → Coming
OfHostReady hosting = ThenAll (look_steps hosting.logs) (Free (Only (at_once (ByHosting hosting))))

-- two sessions of one id are refused, and then the address is checked
abbrev pub OfHostIds : HostRequest → Bool → List SessionId → Coming
OfHostIds request on_demand ids =
    OfRight input.Config (are_apart ids)
    (OfRight input.Address (is_address (encode_utf8_all request.address))
    (OfHostReady (hosting_of request on_demand ids)))

-- programs are read and checked, one after the other, and then the ids of the sessions are known
abbrev pub OfHostPrograms : HostRequest → Config → List ReadProgram → List (List ℕ) → Coming
OfHostPrograms request config read [] = OfHostIds request config.on_demand (host_ids read config.sessions)
OfHostPrograms request config read (name ∷ names) =
    OfFile input.Program (ask_file name most_program_bytes)
    (λ bytes. OfProgram (λ tree. OfHostPrograms request config (read ++ record { name = name; text = bytes } ∷ []) names)
    bytes)

-- what comes of a configuration, or of none: each program that it names is read once
abbrev pub OfConfig : HostRequest → Option Config → Coming
OfConfig request None = Only (at_once (ByRefusal (refusal.Input input.Config)))
OfConfig request (Some config) = OfHostPrograms request config [] (programs_of config.sessions)

-- the text of sessions that were hosted, so many of which were listed, is printed
abbrev pub hosted_verdict : ℕ → List SessionId → List HostEnd → List SessionState → Option NetFault → Verdict
hosted_verdict listed ids ends sessions stopped =
    record { steps = Prints (hosted_text listed ids ends sessions) ∷ []; closing = reflected_closing false stopped }

-- these files are put
abbrev pub put_steps : List Put → List Step
put_steps puts = map (λ put. Puts put.name put.bytes) puts

-- those of these sessions that were made on demand are put, under names that end in their ids
abbrev pub made_puts : ℕ → List ℕ → List SessionId → List SessionState → List Put
made_puts listed prefix ids sessions = session_puts (on_demand_names prefix (drop listed ids)) (drop listed sessions)

-- Sessions that were hosted are put, and then the command is over so. Each listed one is put first, and want of memory comes in place of no put of
-- these. Then those that were made on demand are put, and only their names may want memory. What comes behind them may want it too.
abbrev pub OfHostPuts : List (List ℕ) → List ℕ → List SessionId → List SessionState → Verdict → Coming
OfHostPuts logs prefix ids sessions verdict =
    ThenAll (put_steps (session_puts logs sessions)) (Free
    (ThenAll (put_steps (made_puts (length logs) prefix ids sessions)) (Free (Only verdict))))

-- what comes of sessions after their host: they are put, and then the text of all is printed
abbrev pub OfHostEnds : List (List ℕ) → List ℕ → List SessionId → List HostEnd → List SessionState → Option NetFault → Coming
OfHostEnds logs prefix ids ends sessions stopped =
    OfHostPuts logs prefix ids sessions (hosted_verdict (length logs) ids ends sessions stopped)

-- the text of sessions that posts have hosted, so many of which were listed, is printed
abbrev pub posts_verdict : ℕ → List SessionId → List PostOutcome → List SessionState → Verdict
posts_verdict listed ids posts sessions =
    record {
      steps = Prints (posts_text listed ids posts sessions) ∷ [];
      closing = reflected_closing false (posts_fault posts);
    }

-- what comes of sessions after their posts: so too
abbrev pub OfPostEnds : List (List ℕ) → List ℕ → List SessionId → List PostOutcome → List SessionState → Coming
OfPostEnds logs prefix ids posts sessions =
    OfHostPuts logs prefix ids sessions (posts_verdict (length logs) ids posts sessions)

-- ---- drill

-- what comes of a drill that has left this
abbrev pub drilled_verdict : DrillRequest → PlainSession → List (List ℕ) → ℤ → ℕ → Verdict
drilled_verdict request session snapshots total agree = fine (drilled_steps request session snapshots total agree)

-- ---- the commands

-- what comes of a command: a row for each
abbrev pub OfCommand : Command → Coming
OfCommand (Stamp script from log) =
    OfFile input.Script (ask_file script most_script) (λ bytes. OfScript from log (script_of bytes))
OfCommand (Check program) = OfFile input.Program (ask_file program most_program_bytes)
    (OfProgram (λ tree. Only (count_verdict tree)))
OfCommand (Replay request) =
    OfFile input.Program (ask_file request.program most_program_bytes) (λ bytes. OfProgram (OfTree request bytes) bytes)
OfCommand (Inspect request) =
    OfFile input.Program (ask_file request.program most_program_bytes) (λ bytes.
    OfProgram (OfInspect request bytes) bytes)
OfCommand (Trace request) =
    OfFile input.Program (ask_file request.program most_program_bytes) (λ bytes.
    OfProgram (OfTrace request bytes) bytes)
-- any journal may be counted, whichever session it is of
OfCommand (Votes log) = OfFile input.Log (ask_file log most_log)
    (OfLog (λ source. Only (votes_verdict source.stored.log)))
OfCommand (Hub script logs) =
    OfFile input.Script (ask_file script most_script) (λ bytes. OfHubScript logs (hub_script_of bytes))
OfCommand (Join request) =
    OfFile input.Program (ask_file request.program most_program_bytes) (λ bytes. OfProgram (OfJoin request bytes) bytes)
OfCommand (Live request) =
    OfFile input.Program (ask_file request.program most_program_bytes) (λ bytes. OfProgram (OfLive request bytes) bytes)
OfCommand (Reflect request) =
    OfFile input.Program (ask_file request.program most_program_bytes) (λ bytes.
    OfProgram (λ tree. OfReflect request bytes) bytes)
OfCommand (Host request) = OfFile input.Config (ask_file request.config most_config) (λ bytes.
    OfConfig request (config_of bytes))
-- a drill reads no file
OfCommand (Drill request) = Only (at_once (ByDrill request))

-- what comes of words: those that break their rules are refused
abbrev pub OfWords : Option Command → Coming
OfWords None = Only (at_once (ByRefusal refusal.Usage))
OfWords (Some command) = OfCommand command

-- what comes of a run
abbrev pub Comes : Option Command → Coming
Comes command = Free (OfWords command)
