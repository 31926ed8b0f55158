-- A command whose inputs are right, and no call of which has failed, is done, or runs out of memory.
use Rattle.std.specs.Prelude.{◌≡◌, ◌≢◌, ◌⊎◌, ℕ, ⊤, ◌/◌, ◌≤◌, true, List, [], ◌∷◌, length, encode_utf8_all, Option, Some, None}
use Rattle.tea_base.specs.Limits.{most_snapshot}
use Rattle.tea_base.specs.declared.entry.Entry.{Entry}
use Rattle.reflector_core.specs.declared.request.Request.{Request}
use Rattle.model_tree.specs.Bounds.{most_program_bytes}
use Rattle.model_tree.specs.Tree.{ProgramTree}
use Rattle.model_value.specs.Plain.{PlainValue, nil}
use Rattle.persist_json.specs.JsonOf.{IsJsonOf, most_json}
use Rattle.world_plain.specs.World.{WorldRecord}
use Rattle.world.specs.Worlds.{field_counts}
use Rattle.snapshot_codec.specs.Answer.{IsSnapshot}
use Rattle.tea_io.specs.Files.{Present}
use Rattle.tea_io.specs.Told.{Rose}
use Rattle.view_script.specs.PlainLine.{PlainLine}
use Rattle.view_script.specs.ViewScript.{view_script_of}
use Rattle.run_steps.specs.Steps.{Step}
use Rattle.run_steps.specs.Outside.{FilesTell, LinksTell, NetTells, Outside, OutputTells, outside_tells}
use Rattle.view_follows.specs.Answered.{GoOn, IsAnsweredVisit, RefuseNoOther}
use Rattle.command_words.specs.Address.{is_address}
use Rattle.command_words.specs.declared.words.ReplayRequest.{ReplayRequest}
use Rattle.command_words.specs.declared.words.InspectRequest.{InspectRequest}
use Rattle.command_words.specs.declared.words.TraceRequest.{TraceRequest}
use Rattle.command_words.specs.declared.words.HostRequest.{HostRequest}
use Rattle.command_words.specs.declared.words.Command.{Command}
use Rattle.command_words.specs.declared.words.Command.TheVariants.{Stamp, Check, Replay, Inspect, Trace, Votes, Hub, Join, Live, Reflect, Host, Drill}
use Rattle.command_hub.specs.declared.script.HubLine.{HubLine}
use Rattle.command_hub.specs.HubScript.{hub_script_of}
use Rattle.command_stamp.specs.Script.{script_of}
use Rattle.host_config.specs.Config.{config_of}
use Rattle.host_config.specs.Programs.{programs_of}
use Rattle.host_config.specs.declared.reading.Config.{Config}
use Rattle.commands.specs.declared.hosting.ReadProgram.{ReadProgram}
use Rattle.time_line.specs.Keyframes.{most_frames}
use Rattle.command_inspect.specs.declared.query.Query.{Query}
use Rattle.command_inspect.specs.Queries.{queries_of}
use Rattle.command_outcome.specs.ProgramEnd.{IsFaultless}
use Rattle.commands.specs.Verdict.{ByVisit, Closing, Comes, IsLog, PlainSource, PlainVisit, are_apart, host_ids, names_no_other, most_config, most_log, most_queries, most_script, session_id_of}
use Rattle.croquet.specs.Run.{RanBySteps}
use Rattle.croquet.specs.declared.status.Status.{Status}
use Rattle.croquet.specs.declared.status.Status.TheVariants as status

-- ---- the inputs of a command, which stand in its files

-- under this name the files hold bytes that are such an input, at most so many
pub record HoldsFile {F : Type 0} (files : FilesTell F) (old : F) (name : List ℕ) (most : ℕ)
    (IsInput : List ℕ → Type 0) : Type 0 where
  pub bytes : List ℕ
  pub present : files.held old name ≡ Present bytes
  pub within : length bytes ≤ most
  pub right : IsInput bytes

abbrev pub IsScriptText : List ℕ → Type 0
IsScriptText bytes = (requests : List Request) × (script_of bytes ≡ Some requests)

abbrev pub IsViewScriptText : List ℕ → Type 0
IsViewScriptText bytes = (lines : List PlainLine) × (view_script_of bytes ≡ Some lines)

abbrev pub IsHubScriptText : List ℕ → Type 0
IsHubScriptText bytes = (lines : List HubLine) × (hub_script_of bytes ≡ Some lines)

abbrev pub IsQueriesText : List ℕ → Type 0
IsQueriesText bytes = (queries : List Query) × (queries_of bytes ≡ Some queries)

-- a program without faults
abbrev pub IsProgramText : List ℕ → Type 0
IsProgramText bytes = (tree : ProgramTree) × IsFaultless bytes tree

-- a log that holds such a session
abbrev pub IsLogText : (PlainSource → Type 0) → List ℕ → Type 0
IsLogText IsSuch bytes = (source : PlainSource) × IsLog bytes source × IsSuch source

-- any one
abbrev pub IsAny : PlainSource → Type 0
IsAny source = ⊤

-- the one of this id: a journal names it, and a stored session names none
abbrev pub IsOwn : List ℕ → PlainSource → Type 0
IsOwn id source = names_no_other source.named id ≡ true

-- the snapshot of a world that is valid for a program with so many fields in each class, is of the session of this id, and has at most this time
abbrev pub IsSnapshotUntil : ℕ → List ℕ → List ℕ → List ℕ → Type 0
IsSnapshotUntil time counts id bytes = (w : WorldRecord) × IsSnapshot counts id bytes w × (w.time ≤ time)

abbrev pub HoldsProgram : {F : Type 0} → FilesTell F → F → List ℕ → Type 0
HoldsProgram files old name = HoldsFile files old name most_program_bytes IsProgramText

-- what a replay begins with: such a snapshot, if a name for it is given
abbrev pub HoldsStart : {F : Type 0} → FilesTell F → F → Option (List ℕ) → (List ℕ → Type 0) → Type 0
HoldsStart files old None IsInput = ⊤
HoldsStart files old (Some name) IsInput = HoldsFile files old name most_snapshot IsInput

-- the JSON of a value that can be saved
abbrev pub IsJsonText : List ℕ → Type 0
IsJsonText bytes = (v : PlainValue) × IsJsonOf bytes v

-- the JSON of the persisted value, if a name for it is given
abbrev pub HoldsPersisted : {F : Type 0} → FilesTell F → F → Option (List ℕ) → Type 0
HoldsPersisted files old None = ⊤
HoldsPersisted files old (Some name) = HoldsFile files old name most_json IsJsonText

-- the persisted value: nil where none is named
abbrev pub persisted_in : {F : Type 0} (files : FilesTell F) (old : F) (name : Option (List ℕ))
    → HoldsPersisted files old name → PlainValue
persisted_in files old None holds = nil
persisted_in files old (Some name) holds = holds.right.0

-- such a session that goes on, if a name for its log is given
abbrev pub HoldsOpening : {F : Type 0} → FilesTell F → F → Option (List ℕ) → (PlainSource → Type 0) → Type 0
HoldsOpening files old None IsSuch = ⊤
HoldsOpening files old (Some name) IsSuch = HoldsFile files old name most_log (IsLogText IsSuch)

-- the files of a replay
pub record HoldsRecording {F : Type 0} (files : FilesTell F) (old : F) (request : ReplayRequest) : Type 0 where
  pub program : HoldsProgram files old request.program
  pub persisted : HoldsPersisted files old request.persisted
  pub log : HoldsFile files old request.log most_log
      (IsLogText (IsOwn (session_id_of request.name program.bytes
      (persisted_in files old request.persisted persisted))))
  pub start : HoldsStart files old request.from
      (IsSnapshotUntil request.time (field_counts program.right.0)
      (session_id_of request.name program.bytes (persisted_in files old request.persisted persisted)))

-- the files of an inspection, which keeps not too many worlds
pub record HoldsInspection {F : Type 0} (files : FilesTell F) (old : F) (request : InspectRequest) : Type 0 where
  pub program : HoldsProgram files old request.program
  pub persisted : HoldsPersisted files old request.persisted
  pub log : HoldsFile files old request.log most_log
      (IsLogText (IsOwn (session_id_of request.name program.bytes
      (persisted_in files old request.persisted persisted))))
  pub few : length log.right.0.stored.log / request.every ≤ most_frames
  pub queries : HoldsFile files old request.queries most_queries IsQueriesText

-- the files of a trace
pub record HoldsTrace {F : Type 0} (files : FilesTell F) (old : F) (request : TraceRequest) : Type 0 where
  pub program : HoldsProgram files old request.program
  pub persisted : HoldsPersisted files old request.persisted
  pub log : HoldsFile files old request.log most_log
      (IsLogText (IsOwn (session_id_of request.name program.bytes
      (persisted_in files old request.persisted persisted))))

-- the configuration of a host
abbrev pub IsConfigText : List ℕ → Type 0
IsConfigText bytes = (config : Config) × (config_of bytes ≡ Some config)

-- each of these names is that of a program
abbrev pub HoldPrograms : {F : Type 0} → FilesTell F → F → List (List ℕ) → Type 0
HoldPrograms files old [] = ⊤
HoldPrograms files old (name ∷ names) = HoldsProgram files old name × HoldPrograms files old names

-- these programs, each with its name
abbrev pub programs_in : {F : Type 0} (files : FilesTell F) (old : F) (names : List (List ℕ))
    → HoldPrograms files old names → List ReadProgram
programs_in files old [] holds = []
programs_in files old (name ∷ names) holds =
    record { name = name; text = holds.0.bytes } ∷ programs_in files old names holds.1

-- the files of a host, no two of whose listed sessions have one id
pub record HoldsHost {F : Type 0} (files : FilesTell F) (old : F) (request : HostRequest) : Type 0 where
  pub config : HoldsFile files old request.config most_config IsConfigText
  pub programs : HoldPrograms files old (programs_of config.right.0.sessions)
  pub apart :
      are_apart (host_ids (programs_in files old (programs_of config.right.0.sessions) programs)
      config.right.0.sessions) ≡ true

-- a word is the address of a net
abbrev pub NamesAddress : List ℕ → Type 0
NamesAddress word = is_address (encode_utf8_all word) ≡ true

-- the inputs of a command are right: a row for each; words that are refused have none
abbrev pub HasRightInput : {F : Type 0} → FilesTell F → F → Option Command → Type 0
HasRightInput files old None = ⊥
HasRightInput files old (Some (Stamp script from log)) = HoldsFile files old script most_script IsScriptText
    × HoldsOpening files old from IsAny
HasRightInput files old (Some (Check program)) = HoldsProgram files old program
HasRightInput files old (Some (Replay request)) = HoldsRecording files old request
HasRightInput files old (Some (Inspect request)) = HoldsInspection files old request
HasRightInput files old (Some (Trace request)) = HoldsTrace files old request
HasRightInput files old (Some (Votes log)) = HoldsFile files old log most_log (IsLogText IsAny)
HasRightInput files old (Some (Hub script logs)) = HoldsFile files old script most_script IsHubScriptText
HasRightInput files old (Some (Join request)) =
    HoldsProgram files old request.program × NamesAddress request.address
    × HoldsFile files old request.script most_script IsViewScriptText × HoldsPersisted files old request.persisted
-- of a view whose lines come to its run nothing is said
HasRightInput files old (Some (Live request)) = ⊥
-- of one that names a journal nothing is said
HasRightInput files old (Some (Reflect request)) =
    (request.journal ≡ None) × (program : HoldsProgram files old request.program) × NamesAddress request.address
    × (persisted : HoldsPersisted files old request.persisted)
    × HoldsOpening files old request.from
    (IsOwn (session_id_of request.name program.bytes (persisted_in files old request.persisted persisted)))
HasRightInput files old (Some (Host request)) = HoldsHost files old request × NamesAddress request.address
-- a drill reads no file
HasRightInput files old (Some (Drill request)) = ⊤

-- ---- what keeps a view's links from having a say

-- Of a view that took these steps: which of them lead to which end. Where its links went on it does not end with them. Where nothing was refused
-- but a snapshot it does not end refused. Where one legal log answered its links, with honest bases, and each Sync counted its own events, it finds
-- no fault in its peer.
pub record OnlyByLinks (visit : PlainVisit) (steps : List Step) (result : Status) : Type 0 where
  pub ended : GoOn 0 steps → result ≢ status.Ended
  pub refused : RefuseNoOther steps → result ≢ status.Refused
  pub peer : (log : List Entry) → IsAnsweredVisit visit.founding visit.id visit.view visit.address visit.lines log steps
      → result ≢ status.Peer

-- so where the run goes on as a view's
abbrev pub IsCausedBy : Closing → List Step → Status → Type 0
IsCausedBy (ByVisit visit) steps result = OnlyByLinks visit steps result
IsCausedBy closing steps result = ⊤

-- ---- how it ends

-- No call of the files, of the output or of the net has failed: their counts of faults have not risen. One that stands at the last value
-- of its type counts as risen.
pub record NoneFailed {F W N L : Type 0} (files : FilesTell F) (out : OutputTells W) (net : NetTells N L)
    (old new : Outside F W N L) : Type 0 where
  pub of_files : ¬ Rose (files.faults old.files) (files.faults new.files)
  pub of_output : ¬ Rose (out.faults old.out) (out.faults new.out)
  pub of_net : ¬ Rose (net.faults old.net) (net.faults new.net)

-- of a join no link has failed either; of a reflector a link may
abbrev pub NoLinkFailed : {N L : Type 0} → NetTells N L → Option Command → N → N → Type 0
NoLinkFailed net (Some (Join request)) old new = ¬ Rose (net.link_counts old).faults (net.link_counts new).faults
NoLinkFailed net command old new = ⊤

-- all went well, or memory ran out
abbrev pub IsDone : Status → Type 0
IsDone result = (result ≡ status.Ok) ⊎ (result ≡ status.WantOfMemory)

-- the reflector refused a frame, ended the connection or was quiet too long, or broke the rules
abbrev pub IsByPeer : Status → Type 0
IsByPeer result = (result ≡ status.Refused) ⊎ ((result ≡ status.Ended) ⊎ (result ≡ status.Peer))

-- what a command comes to: of a join its links have a say too
abbrev pub IsDueOf : Option Command → Status → Type 0
IsDueOf (Some (Join request)) result = IsDone result ⊎ IsByPeer result
IsDueOf command result = IsDone result

-- A command whose inputs are right comes to what is due, where no call has failed. A join comes to an end of its links only where they caused it.
pub record IsComplete {F W N L : Type 0} (files : FilesTell F) (out : OutputTells W) (net : NetTells N L)
    (links : LinksTell L) (command : Option Command) (old new : Outside F W N L) (result : Status)
    : Type 0 where
  pub due : HasRightInput files old.files command → NoneFailed files out net old new
      → NoLinkFailed net command old.net new.net → IsDueOf command result
  pub caused : (ran : RanBySteps (outside_tells files out net links) (Comes command) old new result)
      → IsCausedBy ran.course.verdict.closing ran.course.more result
