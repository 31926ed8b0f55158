-- The verdict that is due where the inputs of a command are right.
use Rattle.std.proofs.Common.{◌≡◌, inl, inr, ℕ, Bool, true, List, [], ◌∷◌, ◌++◌, encode_utf8_all, Option, Some, None, append_assoc, refl, sym, subst}
use Rattle.std.proofs.lemmas.List.{append-nil}
use Rattle.std.proofs.lemmas.Bool.{le-leb}
use Rattle.tea_base.specs.declared.entry.Entry.{Entry}
use Rattle.tea_base.specs.declared.entry.SessionId.{SessionId}
use Rattle.session_log.specs.Stored.{stored_spelling}
use Rattle.reflector_core.specs.declared.request.Request.{Request}
use Rattle.reflector_core.specs.PlainSession.{PlainSession}
use Rattle.reflector_core.specs.Play.{after_all, replies_from}
use Rattle.reflector_core.specs.Stored.{session_of, stored_of}
use Rattle.model_tree.specs.Tree.{ProgramTree}
use Rattle.world.specs.Worlds.{field_counts, replay, replay_on}
use Rattle.model_value.specs.Plain.{PlainValue}
use Rattle.model_solved.specs.Founding.{Founding}
use Rattle.persist_json.specs.JsonOf.{IsJsonOf, most_json}
use Rattle.tea_io.specs.Files.{Content}
use Rattle.view_script.specs.PlainLine.{PlainLine}
use Rattle.view_script.specs.ViewScript.{view_script_of}
use Rattle.run_steps.specs.Steps.{Ask, Loads, Looks}
use Rattle.run_steps.specs.Outside.{FilesTell}
use Rattle.command_outcome.specs.declared.outcome.Input.{Input}
use Rattle.command_outcome.specs.declared.outcome.Input.TheVariants as input
use Rattle.command_outcome.specs.declared.outcome.Put.{Put}
use Rattle.command_outcome.specs.Outcome.{optional_put, steps_of}
use Rattle.command_outcome.specs.ProgramEnd.{IsFaultless}
use Rattle.command_outcome.specs.ProgramText.{counts_line}
use Rattle.command_stamp.specs.ReplyText.{text_of}
use Rattle.command_stamp.specs.Script.{script_of}
use Rattle.world_lines.specs.WorldText.{world_line}
use Rattle.command_inspect.specs.declared.query.Query.{Query}
use Rattle.command_inspect.specs.InspectText.{inspect_text}
use Rattle.command_inspect.specs.Queries.{queries_of}
use Rattle.command_trace.specs.TraceText.{trace_text}
use Rattle.command_votes.specs.VotesText.{votes_text}
use Rattle.command_words.specs.Address.{is_address}
use Rattle.command_words.specs.declared.words.ReplayRequest.{ReplayRequest}
use Rattle.command_words.specs.declared.words.InspectRequest.{InspectRequest}
use Rattle.command_words.specs.declared.words.TraceRequest.{TraceRequest}
use Rattle.command_words.specs.declared.words.JoinRequest.{JoinRequest}
use Rattle.command_words.specs.declared.words.ReflectRequest.{ReflectRequest}
use Rattle.command_words.specs.declared.words.HostRequest.{HostRequest}
use Rattle.command_words.specs.declared.words.Command.{Command}
use Rattle.command_words.specs.declared.words.Command.TheVariants.{Stamp, Check, Replay, Inspect, Trace, Votes, Hub, Join, Live, Reflect, Host, Drill}
use Rattle.model_tree.specs.Bounds.{most_program_bytes}
use Rattle.tea_base.specs.Limits.{most_snapshot}
use Rattle.command_hub.specs.declared.script.HubLine.{HubLine}
use Rattle.command_hub.specs.HubScript.{hub_script_of}
use Rattle.command_hub.specs.HubRun.{hub_puts, hub_run}
use Rattle.host_config.specs.Config.{config_of}
use Rattle.host_config.specs.Programs.{programs_of}
use Rattle.host_config.specs.declared.reading.Config.{Config}
use Rattle.commands.specs.declared.hosting.ReadProgram.{ReadProgram}
use Rattle.commands.specs.Verdict.{ByDrill, ByHosting, ByKeeping, ByReflecting, ByVisit, Closing, Coming, Fine, OfConfig, OfFile, OfHostIds, OfHostPrograms, OfHostReady, OfInspectedLog, OfInspect, OfJoin, OfJournal, OfKeyframes, OfOpening, OfProgram, OfQueries, OfReflect, OfRight, OfScript, OfServed, OfSnapshot, OfLog, OfOwn, OfReflected, IsLog, PlainHosting, PlainReflection, PlainSource, first_source, names_no_other, trace_verdict, OfTimeLine, OfTrace, OfTraced, OfTracedLog, OfTree, OfUnkept, OfView, OfViewScript, OfWords, Only, Starts, Verdict, are_apart, behind, host_ids, hosting_of, look_steps, most_config, OfFounded, OfJson, OfPersisted, OfRecorded, ask_file, at_once, before, count_verdict, fine, founded, inspect_verdict, keeping_of, keeps_few, most_queries, most_script, reflection_of, session_id_of, stamp_verdict, visit_to, votes_verdict, world_puts, most_log, OfHubScript, OfLooked, OfReady}
use Rattle.commands.proofs.Agreement.{late_verdict}
use Rattle.croquet.specs.Complete.{HasRightInput, HoldPrograms, HoldsFile, HoldsInspection, HoldsOpening, HoldsPersisted, HoldsProgram, HoldsRecording, HoldsStart, HoldsTrace, IsJsonText, IsAny, IsLogText, IsOwn, IsConfigText, IsQueriesText, IsHubScriptText, IsScriptText, IsSnapshotUntil, IsProgramText, IsViewScriptText, NamesAddress, persisted_in, programs_in}
use Rattle.croquet.proofs.RightSteps.{AreRight, GivesHeld, IsGiving, giving_are_right}

-- looks are looks alone
looks_give : (names : List (List ℕ)) → IsGiving (look_steps names ++ [])
looks_give [] = tt
looks_give (name ∷ names) = looks_give names

-- what is put and printed is put and printed alone
pub giving : (puts : List Put) (text : List ℕ) → IsGiving (steps_of puts text)
giving [] text = tt
giving (put ∷ puts) text = giving puts text

-- all is done by then, or the run goes on as a reflector's, as a host's or as a drill
abbrev pub ClosesWell : Closing → Type 0
ClosesWell Fine = Unit {0}
ClosesWell (ByReflecting reflection) = Unit {0}
ClosesWell (ByHosting hosting) = Unit {0}
ClosesWell (ByDrill request) = Unit {0}
ClosesWell closing = ⊥

-- the run goes on as a view's
abbrev pub ClosesByVisit : Closing → Type 0
ClosesByVisit (ByVisit visit) = Unit {0}
ClosesByVisit closing = ⊥

-- so is a command closed whose inputs are right: `join` by a visit
abbrev pub ClosesRight : Option Command → Closing → Type 0
ClosesRight (Some (Join request)) closing = ClosesByVisit closing
ClosesRight command closing = ClosesWell closing

-- some verdict comes whose steps read what is held, and which is closed so
pub record ComesRight (held : List ℕ → Content) (Closes : Closing → Type 0) (coming : Coming) : Type 0 where
  pub verdict : Verdict
  pub comes : coming verdict
  pub reads : AreRight held verdict.steps
  pub closing : Closes verdict.closing

module _ (held : List ℕ → Content) where
  fine_right : (puts : List Put) (text : List ℕ) (coming : Coming) → coming (fine (steps_of puts text)) → ComesRight held ClosesWell coming
  fine_right puts text coming comes = record { verdict = fine (steps_of puts text); comes = comes; reads = giving_are_right held (steps_of puts text) (giving puts text); closing = tt }

  closed_right : (Closes : Closing → Type 0) (closing : Closing) (coming : Coming) → Closes closing → coming (at_once closing) → ComesRight held Closes coming
  closed_right Closes closing coming right comes = record { verdict = at_once closing; comes = comes; reads = tt; closing = right }

  file_right : (Closes : Closing → Type 0) (at : Input) (ask : Ask) (next : List ℕ → Coming) (bytes : List ℕ) → GivesHeld held ask (Some bytes) → ComesRight held Closes (next bytes) → ComesRight held Closes (OfFile at ask next)
  file_right Closes at ask next bytes gives right = record {
    verdict = before (Loads ask (Some bytes)) right.verdict;
    comes = (Some bytes, (right.verdict, refl, inr right.comes));
    reads = (gives, right.reads);
    closing = right.closing;
  }

  -- the run looks at the name of the log, and then goes on
  looked_right : (log : Option (List ℕ)) (closing : Closing) → ClosesWell closing → ComesRight held ClosesWell (OfLooked log (Only (at_once closing)))
  looked_right None closing right = closed_right ClosesWell closing (Only (at_once closing)) right refl
  looked_right (Some name) closing right =
      record { verdict = before (Looks name) (at_once closing); comes = (at_once closing, refl, inr refl); reads = tt; closing = right }

  ready_right : (reflection : PlainReflection) → ComesRight held ClosesWell (OfReady reflection)
  ready_right reflection = looked_right reflection.log (ByReflecting reflection) tt

  host_ready_right : (hosting : PlainHosting) → ComesRight held ClosesWell (OfHostReady hosting)
  host_ready_right hosting = record {
    verdict = behind (look_steps hosting.logs) (at_once (ByHosting hosting));
    comes = (at_once (ByHosting hosting), refl, inr refl);
    reads = giving_are_right held (look_steps hosting.logs ++ []) (looks_give hosting.logs);
    closing = tt;
  }

  stamp_right : (log : Option (List ℕ)) (requests : List Request) (opening : PlainSession) → ComesRight held ClosesWell (Only (stamp_verdict opening log requests))
  stamp_right log requests opening =
      fine_right (optional_put log (stored_spelling (stored_of (after_all opening requests)))) (text_of (replies_from opening requests)) (Only (stamp_verdict opening log requests)) refl

  program_right : (Closes : Closing → Type 0) (next : ProgramTree → Coming) (bytes : List ℕ) (tree : ProgramTree) → IsFaultless bytes tree → ComesRight held Closes (next tree) → ComesRight held Closes (OfProgram next bytes)
  program_right Closes next bytes tree faultless right =
      record { verdict = right.verdict; comes = inl (tree, faultless, right.comes); reads = right.reads; closing = right.closing }

  log_right : (Closes : Closing → Type 0) (next : PlainSource → Coming) (bytes : List ℕ) (source : PlainSource) → IsLog bytes source → ComesRight held Closes (next source) → ComesRight held Closes (OfLog next bytes)
  log_right Closes next bytes source is right =
      record { verdict = right.verdict; comes = inl (source, is, right.comes); reads = right.reads; closing = right.closing }

  json_right : (Closes : Closing → Type 0) (next : PlainValue → Coming) (bytes : List ℕ) (v : PlainValue) → IsJsonOf bytes v → ComesRight held Closes (next v) → ComesRight held Closes (OfJson next bytes)
  json_right Closes next bytes v is right =
      record { verdict = right.verdict; comes = inl (v, is, right.comes); reads = right.reads; closing = right.closing }

  right_right : (Closes : Closing → Type 0) (at : Input) (is : Bool) (next : Coming) → is ≡ true → ComesRight held Closes next → ComesRight held Closes (OfRight at is next)
  right_right Closes at is next so right = subst (λ (b : Bool). ComesRight held Closes (OfRight at b next)) (sym so) right

  own_right : (Closes : Closing → Type 0) (source : PlainSource) (id : List ℕ) (next : Coming) → IsOwn id source → ComesRight held Closes next → ComesRight held Closes (OfOwn source.named id next)
  own_right Closes source id next own right = right_right Closes input.Journal (names_no_other source.named id) next own right

-- ---- what the files hold

module _ {F : Type 0} (files : FilesTell F) (old : F) where
  -- a file is read that is such an input
  read_right : (Closes : Closing → Type 0) (at : Input) (ask : Ask) (next : List ℕ → Coming) (IsInput : List ℕ → Type 0) (holds : HoldsFile files old ask.name ask.limit IsInput)
      → ComesRight (files.held old) Closes (next holds.bytes) → ComesRight (files.held old) Closes (OfFile at ask next)
  read_right Closes at ask next IsInput holds right =
      file_right (files.held old) Closes at ask next holds.bytes (record { bytes = holds.bytes; is = refl; present = holds.present; within = holds.within }) right

  read_program : (Closes : Closing → Type 0) (name : List ℕ) (program : HoldsProgram files old name) (next : List ℕ → ProgramTree → Coming) → ComesRight (files.held old) Closes (next program.bytes program.right.0)
      → ComesRight (files.held old) Closes (OfFile input.Program (ask_file name most_program_bytes) (λ bytes. OfProgram (next bytes) bytes))
  read_program Closes name program next right =
      read_right Closes input.Program (ask_file name most_program_bytes) (λ bytes. OfProgram (next bytes) bytes) IsProgramText program
      (program_right (files.held old) Closes (next program.bytes) program.bytes program.right.0 program.right.1 right)

  persisted_right : (Closes : Closing → Type 0) (name : Option (List ℕ)) (holds : HoldsPersisted files old name) (next : PlainValue → Coming)
      → ComesRight (files.held old) Closes (next (persisted_in files old name holds)) → ComesRight (files.held old) Closes (OfPersisted name next)
  persisted_right Closes None holds next right = right
  persisted_right Closes (Some name) holds next right =
      read_right Closes input.Persisted (ask_file name most_json) (OfJson next) IsJsonText holds (json_right (files.held old) Closes next holds.bytes holds.right.0 holds.right.1 right)

  log_read : (Closes : Closing → Type 0) (IsSuch : PlainSource → Type 0) (name : List ℕ) (next : PlainSource → Coming) (holds : HoldsFile files old name most_log (IsLogText IsSuch))
      → ComesRight (files.held old) Closes (next holds.right.0) → ComesRight (files.held old) Closes (OfFile input.Log (ask_file name most_log) (OfLog next))
  log_read Closes IsSuch name next holds right =
      read_right Closes input.Log (ask_file name most_log) (OfLog next) (IsLogText IsSuch) holds (log_right (files.held old) Closes next holds.bytes holds.right.0 holds.right.1 right)

  opening_right : (Closes : Closing → Type 0) (IsSuch : PlainSource → Type 0) (from : Option (List ℕ)) (next : PlainSource → Coming) → HoldsOpening files old from IsSuch → IsSuch first_source
      → ((source : PlainSource) → IsSuch source → ComesRight (files.held old) Closes (next source)) → ComesRight (files.held old) Closes (OfOpening from next)
  opening_right Closes IsSuch None next holds first right = right first_source first
  opening_right Closes IsSuch (Some name) next holds first right = log_read Closes IsSuch name next holds (right holds.right.0 holds.right.2)

  script_right : (from log : Option (List ℕ)) (script : Option (List Request)) (requests : List Request) → script ≡ Some requests → HoldsOpening files old from IsAny → ComesRight (files.held old) ClosesWell (OfScript from log script)
  script_right from log script requests is opening =
      subst (λ (s : Option (List Request)). ComesRight (files.held old) ClosesWell (OfScript from log s)) (sym is)
      (opening_right ClosesWell IsAny from (λ source. Only (stamp_verdict (session_of source.stored) log requests)) opening tt (λ source any. stamp_right (files.held old) log requests (session_of source.stored)))

  hub_script_right : (logs : Option (List ℕ)) (script : Option (List HubLine)) (lines : List HubLine) → script ≡ Some lines → ComesRight (files.held old) ClosesWell (OfHubScript logs script)
  hub_script_right logs script lines is =
      let run = hub_run lines in
      subst (λ (s : Option (List HubLine)). ComesRight (files.held old) ClosesWell (OfHubScript logs s)) (sym is)
      (fine_right (files.held old) (hub_puts logs run.hub) run.text (OfHubScript logs (Some lines)) refl)

  snapshot_right : (request : ReplayRequest) (tree : ProgramTree) (id : List ℕ) (log : List Entry) (bytes : List ℕ) → IsSnapshotUntil request.time (field_counts tree) id bytes → ComesRight (files.held old) ClosesWell (OfSnapshot request tree id log bytes)
  snapshot_right request tree id log bytes (start, is, early) =
      let w = (replay_on tree start log request.time).world in
      fine_right (files.held old) (world_puts request w) (world_line w) (OfSnapshot request tree id log bytes) (inl (start, is, sym (late_verdict request tree log start early)))

  start_right : (from : Option (List ℕ)) (request : ReplayRequest) (founding : Founding) (id : List ℕ) (log : List Entry) → HoldsStart files old from (IsSnapshotUntil request.time (field_counts founding.tree) id)
      → ComesRight (files.held old) ClosesWell (Starts from request founding id log)
  start_right None request founding id log start =
      let w = (replay founding id log request.time).world in
      fine_right (files.held old) (world_puts request w) (world_line w) (Starts None request founding id log) refl
  start_right (Some name) request founding id log start =
      read_right ClosesWell input.Snapshot (ask_file name most_snapshot) (OfSnapshot request founding.tree id log) (IsSnapshotUntil request.time (field_counts founding.tree) id) start
      (snapshot_right request founding.tree id log start.bytes start.right)

  recording_right : (request : ReplayRequest) → HoldsRecording files old request → ComesRight (files.held old) ClosesWell (OfWords (Some (Replay request)))
  recording_right request recording =
      let program = recording.program in
      let tree = program.right.0 in
      let source = recording.log.right.0 in
      let v = persisted_in files old request.persisted recording.persisted in
      let id = session_id_of request.name program.bytes v in
      read_program ClosesWell request.program program (λ bytes tree. OfTree request bytes tree)
      (log_read ClosesWell (IsOwn id) request.log (OfRecorded request program.bytes tree) recording.log
      (persisted_right ClosesWell request.persisted recording.persisted (λ v. OfFounded request program.bytes source (founded tree v))
      (own_right (files.held old) ClosesWell source id (Starts request.from request (founded tree v) id source.stored.log) recording.log.right.2
      (start_right request.from request (founded tree v) id source.stored.log recording.start))))

  queries_right : (founding : Founding) (id : List ℕ) (log : List Entry) (read : Option (List Query)) (queries : List Query) → read ≡ Some queries → ComesRight (files.held old) ClosesWell (OfQueries founding id log read)
  queries_right founding id log read queries is =
      subst (λ (q : Option (List Query)). ComesRight (files.held old) ClosesWell (OfQueries founding id log q)) (sym is)
      (fine_right (files.held old) [] (inspect_text founding id log queries) (Only (inspect_verdict founding id log queries)) refl)

  keyframes_right : (every : ℕ) (name : List ℕ) (founding : Founding) (id : List ℕ) (log : List Entry) → keeps_few every log ≡ true → HoldsFile files old name most_queries IsQueriesText
      → ComesRight (files.held old) ClosesWell (OfKeyframes every name founding id log)
  keyframes_right every name founding id log few queries =
      let next : List ℕ → Coming = λ bytes. OfQueries founding id log (queries_of bytes) in
      right_right (files.held old) ClosesWell input.Every (keeps_few every log) (OfFile input.Queries (ask_file name most_queries) next) few
      (read_right ClosesWell input.Queries (ask_file name most_queries) next IsQueriesText queries (queries_right founding id log (queries_of queries.bytes) queries.right.0 queries.right.1))

  inspection_right : (request : InspectRequest) → HoldsInspection files old request → ComesRight (files.held old) ClosesWell (OfWords (Some (Inspect request)))
  inspection_right request inspection =
      let program = inspection.program in
      let tree = program.right.0 in
      let source = inspection.log.right.0 in
      let v = persisted_in files old request.persisted inspection.persisted in
      let id = session_id_of request.name program.bytes v in
      read_program ClosesWell request.program program (λ bytes tree. OfInspect request bytes tree)
      (log_read ClosesWell (IsOwn id) request.log (OfInspectedLog request program.bytes tree) inspection.log
      (persisted_right ClosesWell request.persisted inspection.persisted (λ v. OfTimeLine request program.bytes source (founded tree v))
      (own_right (files.held old) ClosesWell source id (OfKeyframes request.every request.queries (founded tree v) id source.stored.log) inspection.log.right.2
      (keyframes_right request.every request.queries (founded tree v) id source.stored.log (le-leb _ _ inspection.few) inspection.queries))))

  trace_right : (request : TraceRequest) → HoldsTrace files old request → ComesRight (files.held old) ClosesWell (OfWords (Some (Trace request)))
  trace_right request trace =
      let program = trace.program in
      let tree = program.right.0 in
      let source = trace.log.right.0 in
      let v = persisted_in files old request.persisted trace.persisted in
      let id = session_id_of request.name program.bytes v in
      let told : Coming = Only (trace_verdict (founded tree v) id source.stored.log request.from request.to) in
      read_program ClosesWell request.program program (λ bytes tree. OfTrace request bytes tree)
      (log_read ClosesWell (IsOwn id) request.log (OfTracedLog request program.bytes tree) trace.log
      (persisted_right ClosesWell request.persisted trace.persisted (λ v. OfTraced request program.bytes source (founded tree v))
      (own_right (files.held old) ClosesWell source id told trace.log.right.2
      (fine_right (files.held old) [] (trace_text (founded tree v) id source.stored.log request.from request.to) told refl))))

  unkept_right : (request : ReflectRequest) (id : List ℕ) → request.journal ≡ None → ComesRight (files.held old) ClosesWell (OfUnkept request id) → ComesRight (files.held old) ClosesWell (OfServed request id)
  unkept_right request id none right =
      subst (λ (journal : Option (List ℕ)). ComesRight (files.held old) ClosesWell (OfJournal journal (OfUnkept request id) (λ name. Only (at_once (ByKeeping (keeping_of request id name)))))) (sym none) right

  reflected_right : (request : ReflectRequest) (id : List ℕ) (source : PlainSource) → IsOwn id source → ComesRight (files.held old) ClosesWell (OfReflected request id source)
  reflected_right request id source own =
      let reflection : PlainReflection = reflection_of request id (session_of source.stored) in
      own_right (files.held old) ClosesWell source id (OfReady reflection) own (ready_right (files.held old) reflection)

  reflect_right : (request : ReflectRequest) → request.journal ≡ None → (program : HoldsProgram files old request.program) → NamesAddress request.address → (persisted : HoldsPersisted files old request.persisted)
      → HoldsOpening files old request.from (IsOwn (session_id_of request.name program.bytes (persisted_in files old request.persisted persisted))) → ComesRight (files.held old) ClosesWell (OfWords (Some (Reflect request)))
  reflect_right request none program address persisted opening =
      let id = session_id_of request.name program.bytes (persisted_in files old request.persisted persisted) in
      let next : PlainValue → Coming = λ v. OfServed request (session_id_of request.name program.bytes v) in
      read_program ClosesWell request.program program (λ bytes tree. OfReflect request bytes)
      (right_right (files.held old) ClosesWell input.Address (is_address (encode_utf8_all request.address)) (OfPersisted request.persisted next) address
      (persisted_right ClosesWell request.persisted persisted next
      (unkept_right request id none (opening_right ClosesWell (IsOwn id) request.from (OfReflected request id) opening refl (reflected_right request id)))))

  host_ids_right : (request : HostRequest) (on_demand : Bool) (ids : List SessionId) → are_apart ids ≡ true → NamesAddress request.address → ComesRight (files.held old) ClosesWell (OfHostIds request on_demand ids)
  host_ids_right request on_demand ids apart address =
      let hosting = hosting_of request on_demand ids in
      let ready : Coming = OfHostReady hosting in
      let addressed : Coming = OfRight input.Address (is_address (encode_utf8_all request.address)) ready in
      right_right (files.held old) ClosesWell input.Config (are_apart ids) addressed apart
      (right_right (files.held old) ClosesWell input.Address (is_address (encode_utf8_all request.address)) ready address (host_ready_right (files.held old) hosting))

  host_programs_right
      : (request : HostRequest) (config : Config) (read : List ReadProgram) (names : List (List ℕ)) (holds : HoldPrograms files old names)
      → are_apart (host_ids (read ++ programs_in files old names holds) config.sessions) ≡ true → NamesAddress request.address → ComesRight (files.held old) ClosesWell (OfHostPrograms request config read names)
  host_programs_right request config read [] holds apart address =
      host_ids_right request config.on_demand (host_ids read config.sessions) (subst (λ (all : List ReadProgram). are_apart (host_ids all config.sessions) ≡ true) (append-nil read) apart) address
  host_programs_right request config read (name ∷ names) holds apart address =
      let one : ReadProgram = record { name = name; text = holds.0.bytes } in
      read_program ClosesWell name holds.0 (λ bytes tree. OfHostPrograms request config (read ++ record { name = name; text = bytes } ∷ []) names)
      (host_programs_right request config (read ++ one ∷ []) names holds.1
      (subst (λ (all : List ReadProgram). are_apart (host_ids all config.sessions) ≡ true) (sym (append_assoc read (one ∷ []) (programs_in files old names holds.1))) apart) address)

  config_right
      : (request : HostRequest) (read : Option Config) (config : Config) → read ≡ Some config → (holds : HoldPrograms files old (programs_of config.sessions))
      → are_apart (host_ids (programs_in files old (programs_of config.sessions) holds) config.sessions) ≡ true → NamesAddress request.address → ComesRight (files.held old) ClosesWell (OfConfig request read)
  config_right request read config is holds apart address =
      subst (λ (some : Option Config). ComesRight (files.held old) ClosesWell (OfConfig request some)) (sym is) (host_programs_right request config [] (programs_of config.sessions) holds apart address)

  view_script_right : (request : JoinRequest) (text : List ℕ) (tree : ProgramTree) (script : Option (List PlainLine)) (lines : List PlainLine) → script ≡ Some lines → HoldsPersisted files old request.persisted
      → ComesRight (files.held old) ClosesByVisit (OfViewScript request text tree script)
  view_script_right request text tree script lines is persisted =
      let next : PlainValue → Coming = λ v. Only (at_once (ByVisit (visit_to request text lines (founded tree v)))) in
      let visit = visit_to request text lines (founded tree (persisted_in files old request.persisted persisted)) in
      subst (λ (s : Option (List PlainLine)). ComesRight (files.held old) ClosesByVisit (OfViewScript request text tree s)) (sym is)
      (persisted_right ClosesByVisit request.persisted persisted next
      (closed_right (files.held old) ClosesByVisit (ByVisit visit) (Only (at_once (ByVisit visit))) tt refl))

  join_right : (request : JoinRequest) → HoldsProgram files old request.program → NamesAddress request.address → HoldsFile files old request.script most_script IsViewScriptText → HoldsPersisted files old request.persisted
      → ComesRight (files.held old) ClosesByVisit (OfWords (Some (Join request)))
  join_right request program address script persisted =
      let text = program.bytes in
      let tree = program.right.0 in
      read_program ClosesByVisit request.program program (λ bytes tree. OfJoin request bytes tree)
      (right_right (files.held old) ClosesByVisit input.Address (is_address (encode_utf8_all request.address)) (OfView request text tree) address
      (read_right ClosesByVisit input.Script (ask_file request.script most_script) (λ bytes. OfViewScript request text tree (view_script_of bytes)) IsViewScriptText script
      (view_script_right request text tree (view_script_of script.bytes) script.right.0 script.right.1 persisted)))

  -- what comes of a command whose inputs are right
  pub words_right : (command : Option Command) → HasRightInput files old command → ComesRight (files.held old) (ClosesRight command) (OfWords command)
  words_right None never = absurd never
  words_right (Some (Stamp script from log)) right =
      read_right ClosesWell input.Script (ask_file script most_script) (λ bytes. OfScript from log (script_of bytes)) IsScriptText right.0
      (script_right from log (script_of right.0.bytes) right.0.right.0 right.0.right.1 right.1)
  words_right (Some (Check program)) right =
      read_program ClosesWell program right (λ bytes tree. Only (count_verdict tree)) (fine_right (files.held old) [] (counts_line right.right.0) (Only (count_verdict right.right.0)) refl)
  words_right (Some (Replay request)) right = recording_right request right
  words_right (Some (Inspect request)) right = inspection_right request right
  words_right (Some (Trace request)) right = trace_right request right
  words_right (Some (Votes log)) right =
      log_read ClosesWell IsAny log (λ source. Only (votes_verdict source.stored.log)) right (fine_right (files.held old) [] (votes_text right.right.0.stored.log) (Only (votes_verdict right.right.0.stored.log)) refl)
  words_right (Some (Hub script logs)) right =
      read_right ClosesWell input.Script (ask_file script most_script) (λ bytes. OfHubScript logs (hub_script_of bytes)) IsHubScriptText right
      (hub_script_right logs (hub_script_of right.bytes) right.right.0 right.right.1)
  words_right (Some (Reflect request)) right = reflect_right request right.0 right.1 right.2 right.3 right.4
  words_right (Some (Host request)) right =
      let host = right.0 in
      read_right ClosesWell input.Config (ask_file request.config most_config) (λ bytes. OfConfig request (config_of bytes)) IsConfigText host.config
      (config_right request (config_of host.config.bytes) host.config.right.0 host.config.right.1 host.programs host.apart right.1)
  words_right (Some (Drill request)) right = closed_right (files.held old) ClosesWell (ByDrill request) (OfWords (Some (Drill request))) tt refl
  words_right (Some (Live request)) never = absurd never
  words_right (Some (Join request)) right = join_right request right.0 right.1 right.2 right.3
