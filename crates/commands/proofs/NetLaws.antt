-- Only the commands join, reflect, host and drill go on, and only the first three of them with a net; without the word for it, no journal is opened.
use Rattle.std.proofs.Common.{◌≡◌, ◌⊎◌, inl, inr, ℕ, Bool, true, false, cond, nat_lt, List, [], ◌∷◌, ◌++◌, Option, Some, None, encode_utf8_all, subst}
use Rattle.std.specs.Prelude.{⊤}
use Rattle.tea_base.specs.declared.entry.Entry.{Entry}
use Rattle.tea_base.specs.declared.entry.SessionId.{SessionId}
use Rattle.reflector_core.specs.declared.request.Request.{Request}
use Rattle.reflector_core.specs.Stored.{session_of}
use Rattle.model_tree.specs.Tree.{ProgramTree}
use Rattle.model_solved.specs.Founding.{Founding}
use Rattle.model_value.specs.Plain.{PlainValue, nil}
use Rattle.run_steps.specs.Steps.{Ask, Step}
use Rattle.command_outcome.specs.declared.outcome.Input.{Input}
use Rattle.command_outcome.specs.declared.outcome.Input.TheVariants as input
use Rattle.command_outcome.specs.declared.outcome.CommandRefusal.{CommandRefusal}
use Rattle.command_outcome.specs.declared.outcome.CommandRefusal.TheVariants as refusal
use Rattle.command_words.specs.declared.words.ReplayRequest.{ReplayRequest}
use Rattle.command_words.specs.declared.words.InspectRequest.{InspectRequest}
use Rattle.command_words.specs.declared.words.TraceRequest.{TraceRequest}
use Rattle.command_words.specs.declared.words.JoinRequest.{JoinRequest}
use Rattle.command_words.specs.declared.words.LiveRequest.{LiveRequest}
use Rattle.command_words.specs.declared.words.ReflectRequest.{ReflectRequest}
use Rattle.command_words.specs.declared.words.HostRequest.{HostRequest}
use Rattle.command_words.specs.declared.words.Command.{Command}
use Rattle.command_words.specs.declared.words.Command.TheVariants.{Stamp, Check, Replay, Inspect, Trace, Votes, Hub, Join, Live, Reflect, Host, Drill}
use Rattle.command_words.specs.Address.{is_address}
use Rattle.command_words.specs.Bounds.{UsesNet}
use Rattle.view_script.specs.PlainLine.{PlainLine}
use Rattle.view_script.specs.ViewScript.{view_script_of}
use Rattle.command_stamp.specs.Script.{script_of}
use Rattle.command_inspect.specs.declared.query.Query.{Query}
use Rattle.command_inspect.specs.Queries.{queries_of}
use Rattle.model_tree.specs.Bounds.{most_program_bytes}
use Rattle.persist_json.specs.JsonOf.{most_json}
use Rattle.tea_base.specs.Limits.{most_snapshot}
use Rattle.host_config.specs.Config.{config_of}
use Rattle.host_config.specs.Programs.{programs_of}
use Rattle.host_config.specs.declared.reading.Config.{Config}
use Rattle.commands.specs.declared.hosting.ReadProgram.{ReadProgram}
use Rattle.commands.specs.Work.{AsksNoLive, NamesNoJournal, RunsOn}
use Rattle.command_hub.specs.declared.script.HubLine.{HubLine}
use Rattle.command_hub.specs.HubScript.{hub_script_of}
use Rattle.commands.specs.Verdict.{ByDrill, ByGoingOn, ByHosting, ByKeeping, ByLive, ByNetFault, ByReadFault, ByReflecting, ByRefusal, ByVisit, ByWant, ByWriteFault, Closing, Comes, Coming, Fine, Free, OfConfig, OfFile, OfFounded, OfGiven, OfHostIds, OfHostPrograms, OfHostReady, OfHubScript, OfInspect, OfInspectedLog, OfJoin, OfJournal, OfJson, OfKeyframes, OfLive, OfLiveBegun, OfLog, OfOpening, OfOwn, OfPersisted, OfProgram, OfQueries, OfRecorded, OfReflect, OfReflected, OfRight, OfScript, OfServed, OfSnapshot, OfTimeLine, OfTrace, OfTraced, OfTracedLog, OfTree, OfUnkept, OfView, OfViewScript, OfWords, Only, PlainHosting, PlainKeeping, PlainLive, PlainReflection, PlainSource, PlainVisit, Starts, ThenAll, Verdict, are_apart, ask_file, at_once, count_verdict, fine, first_source, founded, host_ids, hosting_of, hub_verdict, inspect_verdict, keeping_of, keeps_few, live_of, look_steps, most_config, most_log, most_queries, most_script, names_no_other, reflection_of, session_id_of, stamp_verdict, trace_verdict, visit_to, votes_verdict, OfLooked, OfReady}

map_right : {A B C : Type 0} → A ⊎ B → (B → C) → A ⊎ C
map_right (inl a) f = inl a
map_right (inr b) f = inr (f b)

-- closings that are none of these: a command comes to them only where it goes on
module _ (IsBad : Closing → Type 0) (not_fine : ¬ IsBad Fine) (not_refused : (why : CommandRefusal) → ¬ IsBad (ByRefusal why)) (not_want : ¬ IsBad ByWant) where
  -- none of these verdicts is closed so
  abbrev Never : Coming → Type 0
  Never coming = (verdict : Verdict) → coming verdict → ¬ IsBad verdict.closing

  only_never : (verdict : Verdict) → ¬ IsBad verdict.closing → Never (Only verdict)
  only_never verdict never other is on = never (subst (λ (v : Verdict). IsBad v.closing) is on)

  fine_never : (steps : List Step) → Never (Only (fine steps))
  fine_never steps = only_never (fine steps) not_fine

  refused_never : (why : CommandRefusal) → Never (Only (at_once (ByRefusal why)))
  refused_never why = only_never (at_once (ByRefusal why)) (not_refused why)

  want_never : Never (Only (at_once ByWant))
  want_never = only_never (at_once ByWant) not_want

  free_never : (next : Coming) → Never next → Never (Free next)
  free_never next never verdict (inl want) on = want_never verdict want on
  free_never next never verdict (inr comes) on = never verdict comes on

  given_never : (at : Input) (given : Option (List ℕ)) (next : List ℕ → Coming) → ((bytes : List ℕ) → Never (next bytes)) → Never (OfGiven at given next)
  given_never at None next each = refused_never (refusal.Input at)
  given_never at (Some bytes) next each = each bytes

  file_never : (at : Input) (ask : Ask) (next : List ℕ → Coming) → ((bytes : List ℕ) → Never (next bytes)) → Never (OfFile at ask next)
  file_never at ask next each verdict (given, (rest, is, comes)) on =
      free_never (OfGiven at given next) (given_never at given next each) rest comes (subst (λ (v : Verdict). IsBad v.closing) is on)

  -- ---- the commands

  right_never : (at : Input) (is : Bool) (next : Coming) → Never next → Never (OfRight at is next)
  right_never at true next never = never
  right_never at false next never = refused_never (refusal.Input at)

  log_never : (next : PlainSource → Coming) (bytes : List ℕ) → ((source : PlainSource) → Never (next source)) → Never (OfLog next bytes)
  log_never next bytes each verdict (inl (source, is, comes)) on = each source verdict comes on
  log_never next bytes each verdict (inr (none, comes)) on = refused_never (refusal.Input input.Log) verdict comes on

  log_file_never : (name : List ℕ) (next : PlainSource → Coming) → ((source : PlainSource) → Never (next source)) → Never (OfFile input.Log (ask_file name most_log) (OfLog next))
  log_file_never name next each = file_never input.Log (ask_file name most_log) (OfLog next) (λ bytes. log_never next bytes each)

  opening_never : (from : Option (List ℕ)) (next : PlainSource → Coming) → ((source : PlainSource) → Never (next source)) → Never (OfOpening from next)
  opening_never None next each = each first_source
  opening_never (Some name) next each = log_file_never name next each

  own_never : (source : PlainSource) (id : List ℕ) (next : Coming) → Never next → Never (OfOwn source.named id next)
  own_never source id next never = right_never input.Journal (names_no_other source.named id) next never

  script_never : (from log : Option (List ℕ)) (requests : Option (List Request)) → Never (OfScript from log requests)
  script_never from log None = refused_never (refusal.Input input.Script)
  script_never from log (Some requests) =
      opening_never from (λ source. Only (stamp_verdict (session_of source.stored) log requests)) (λ source. fine_never (stamp_verdict (session_of source.stored) log requests).steps)

  hub_script_never : (logs : Option (List ℕ)) (lines : Option (List HubLine)) → Never (OfHubScript logs lines)
  hub_script_never logs None = refused_never (refusal.Input input.Script)
  hub_script_never logs (Some lines) = fine_never (hub_verdict logs lines).steps

  program_never : (next : ProgramTree → Coming) (bytes : List ℕ) → ((tree : ProgramTree) → Never (next tree)) → Never (OfProgram next bytes)
  program_never next bytes each verdict (inl (tree, sound, comes)) on = each tree verdict comes on
  program_never next bytes each verdict (inr (line, refused, comes)) on = refused_never (refusal.Program line) verdict comes on

  resumed_never : (early : Bool) (why : CommandRefusal) (steps : List Step) → Never (Only (cond early (at_once (ByRefusal why)) (fine steps)))
  resumed_never true why steps = refused_never why
  resumed_never false why steps = fine_never steps

  snapshot_never : (request : ReplayRequest) (tree : ProgramTree) (id : List ℕ) (log : List Entry) (bytes : List ℕ) → Never (OfSnapshot request tree id log bytes)
  snapshot_never request tree id log bytes verdict (inl (w, is, comes)) on =
      resumed_never (nat_lt request.time w.time) (refusal.Input input.Time) _ verdict comes on
  snapshot_never request tree id log bytes verdict (inr (none, comes)) on = refused_never (refusal.Input input.Snapshot) verdict comes on

  starts_never : (from : Option (List ℕ)) (request : ReplayRequest) (founding : Founding) (id : List ℕ) (log : List Entry) → Never (Starts from request founding id log)
  starts_never None request founding id log = fine_never _
  starts_never (Some from) request founding id log = file_never input.Snapshot (ask_file from most_snapshot) (OfSnapshot request founding.tree id log) (snapshot_never request founding.tree id log)

  json_never : (next : PlainValue → Coming) (bytes : List ℕ) → ((v : PlainValue) → Never (next v)) → Never (OfJson next bytes)
  json_never next bytes each verdict (inl (v, is, comes)) on = each v verdict comes on
  json_never next bytes each verdict (inr (none, comes)) on = refused_never (refusal.Input input.Persisted) verdict comes on

  persisted_never : (name : Option (List ℕ)) (next : PlainValue → Coming) → ((v : PlainValue) → Never (next v)) → Never (OfPersisted name next)
  persisted_never None next each = each nil
  persisted_never (Some name) next each = file_never input.Persisted (ask_file name most_json) (OfJson next) (λ bytes. json_never next bytes each)

  founded_never : (request : ReplayRequest) (text : List ℕ) (source : PlainSource) (founding : Founding) → Never (OfFounded request text source founding)
  founded_never request text source founding =
      let id = session_id_of request.name text founding.persisted in
      own_never source id (Starts request.from request founding id source.stored.log) (starts_never request.from request founding id source.stored.log)

  recorded_never : (request : ReplayRequest) (text : List ℕ) (tree : ProgramTree) (source : PlainSource) → Never (OfRecorded request text tree source)
  recorded_never request text tree source =
      persisted_never request.persisted (λ v. OfFounded request text source (founded tree v)) (λ v. founded_never request text source (founded tree v))

  tree_never : (request : ReplayRequest) (text : List ℕ) (tree : ProgramTree) → Never (OfTree request text tree)
  tree_never request text tree = log_file_never request.log (OfRecorded request text tree) (recorded_never request text tree)

  queries_never : (founding : Founding) (id : List ℕ) (log : List Entry) (queries : Option (List Query)) → Never (OfQueries founding id log queries)
  queries_never founding id log None = refused_never (refusal.Input input.Queries)
  queries_never founding id log (Some queries) = fine_never (inspect_verdict founding id log queries).steps

  keyframes_never : (every : ℕ) (queries : List ℕ) (founding : Founding) (id : List ℕ) (log : List Entry) → Never (OfKeyframes every queries founding id log)
  keyframes_never every queries founding id log =
      let of_bytes : List ℕ → Coming = λ bytes. OfQueries founding id log (queries_of bytes) in
      right_never input.Every (keeps_few every log) (OfFile input.Queries (ask_file queries most_queries) of_bytes)
      (file_never input.Queries (ask_file queries most_queries) of_bytes (λ bytes. queries_never founding id log (queries_of bytes)))

  time_line_never : (request : InspectRequest) (text : List ℕ) (source : PlainSource) (founding : Founding) → Never (OfTimeLine request text source founding)
  time_line_never request text source founding =
      let id = session_id_of request.name text founding.persisted in
      own_never source id (OfKeyframes request.every request.queries founding id source.stored.log) (keyframes_never request.every request.queries founding id source.stored.log)

  inspected_log_never : (request : InspectRequest) (text : List ℕ) (tree : ProgramTree) (source : PlainSource) → Never (OfInspectedLog request text tree source)
  inspected_log_never request text tree source =
      persisted_never request.persisted (λ v. OfTimeLine request text source (founded tree v)) (λ v. time_line_never request text source (founded tree v))

  inspect_never : (request : InspectRequest) (text : List ℕ) (tree : ProgramTree) → Never (OfInspect request text tree)
  inspect_never request text tree = log_file_never request.log (OfInspectedLog request text tree) (inspected_log_never request text tree)

  traced_never : (request : TraceRequest) (text : List ℕ) (source : PlainSource) (founding : Founding) → Never (OfTraced request text source founding)
  traced_never request text source founding =
      let id = session_id_of request.name text founding.persisted in
      let told : Verdict = trace_verdict founding id source.stored.log request.from request.to in
      own_never source id (Only told) (fine_never told.steps)

  traced_log_never : (request : TraceRequest) (text : List ℕ) (tree : ProgramTree) (source : PlainSource) → Never (OfTracedLog request text tree source)
  traced_log_never request text tree source =
      persisted_never request.persisted (λ v. OfTraced request text source (founded tree v)) (λ v. traced_never request text source (founded tree v))

  trace_never : (request : TraceRequest) (text : List ℕ) (tree : ProgramTree) → Never (OfTrace request text tree)
  trace_never request text tree = log_file_never request.log (OfTracedLog request text tree) (traced_log_never request text tree)

  -- ---- join

  view_script_never : ((visit : PlainVisit) → ¬ IsBad (ByVisit visit)) → (request : JoinRequest) (text : List ℕ) (tree : ProgramTree) (script : Option (List PlainLine)) → Never (OfViewScript request text tree script)
  view_script_never not_visit request text tree None = refused_never (refusal.Input input.Script)
  view_script_never not_visit request text tree (Some lines) =
      persisted_never request.persisted (λ v. Only (at_once (ByVisit (visit_to request text lines (founded tree v)))))
      (λ v. only_never (at_once (ByVisit (visit_to request text lines (founded tree v)))) (not_visit (visit_to request text lines (founded tree v))))

  join_never : ((visit : PlainVisit) → ¬ IsBad (ByVisit visit)) → (request : JoinRequest) (text : List ℕ) (tree : ProgramTree) → Never (OfJoin request text tree)
  join_never not_visit request text tree =
      right_never input.Address (is_address (encode_utf8_all request.address)) (OfView request text tree)
      (file_never input.Script (ask_file request.script most_script) (λ bytes. OfViewScript request text tree (view_script_of bytes))
      (λ bytes. view_script_never not_visit request text tree (view_script_of bytes)))

  -- ---- join, where the lines come to the run

  live_never : ((live : PlainLive) → ¬ IsBad (ByLive live)) → (request : LiveRequest) (text : List ℕ) (tree : ProgramTree) → Never (OfLive request text tree)
  live_never not_live request text tree =
      right_never input.Address (is_address (encode_utf8_all request.address)) (OfLiveBegun request text tree)
      (persisted_never request.persisted (λ v. Only (at_once (ByLive (live_of request text (founded tree v)))))
      (λ v. only_never (at_once (ByLive (live_of request text (founded tree v)))) (not_live (live_of request text (founded tree v)))))

  -- ---- reflect

  journal_never : (journal : Option (List ℕ)) (without : Coming) (with_one : List ℕ → Coming) → Never without → (journal ≡ None) ⊎ ((name : List ℕ) → Never (with_one name)) → Never (OfJournal journal without with_one)
  journal_never None without with_one none each = none
  journal_never (Some name) without with_one none (inl is) = absurd cc
  journal_never (Some name) without with_one none (inr each) = each name

  looked_never : (log : Option (List ℕ)) (next : Coming) → Never next → Never (OfLooked log next)
  looked_never None next never verdict comes on = never verdict comes on
  looked_never (Some name) next never verdict (rest, is, comes) on = free_never next never rest comes (subst (λ (v : Verdict). IsBad v.closing) is on)

  ready_never : ((reflection : PlainReflection) → ¬ IsBad (ByReflecting reflection)) → (reflection : PlainReflection) → Never (OfReady reflection)
  ready_never not_reflecting reflection =
      looked_never reflection.log (Only (at_once (ByReflecting reflection))) (only_never (at_once (ByReflecting reflection)) (not_reflecting reflection))

  reflected_never : ((reflection : PlainReflection) → ¬ IsBad (ByReflecting reflection)) → (request : ReflectRequest) (id : List ℕ) (source : PlainSource) → Never (OfReflected request id source)
  reflected_never not_reflecting request id source =
      let reflection : PlainReflection = reflection_of request id (session_of source.stored) in
      own_never source id (OfReady reflection) (ready_never not_reflecting reflection)

  served_never : ((reflection : PlainReflection) → ¬ IsBad (ByReflecting reflection)) → (request : ReflectRequest) → (request.journal ≡ None) ⊎ ((keeping : PlainKeeping) → ¬ IsBad (ByKeeping keeping)) → (id : List ℕ)
      → Never (OfServed request id)
  served_never not_reflecting request kept id =
      journal_never request.journal (OfUnkept request id) (λ journal. Only (at_once (ByKeeping (keeping_of request id journal))))
      (opening_never request.from (OfReflected request id) (reflected_never not_reflecting request id))
      (map_right kept (λ not_keeping name. only_never (at_once (ByKeeping (keeping_of request id name))) (not_keeping (keeping_of request id name))))

  reflect_never : ((reflection : PlainReflection) → ¬ IsBad (ByReflecting reflection)) → (request : ReflectRequest) → (request.journal ≡ None) ⊎ ((keeping : PlainKeeping) → ¬ IsBad (ByKeeping keeping)) → (text : List ℕ)
      → Never (OfReflect request text)
  reflect_never not_reflecting request kept text =
      let served : PlainValue → Coming = λ v. OfServed request (session_id_of request.name text v) in
      right_never input.Address (is_address (encode_utf8_all request.address)) (OfPersisted request.persisted served)
      (persisted_never request.persisted served (λ v. served_never not_reflecting request kept (session_id_of request.name text v)))

  -- ---- host

  behind_never : (steps : List Step) (next : Coming) → Never next → Never (ThenAll steps next)
  behind_never steps next never verdict (rest, is, comes) on = never rest comes (subst (λ (v : Verdict). IsBad v.closing) is on)

  module _ (not_hosting : (hosting : PlainHosting) → ¬ IsBad (ByHosting hosting)) (request : HostRequest) where
    host_ready_never : (hosting : PlainHosting) → Never (OfHostReady hosting)
    host_ready_never hosting =
        behind_never (look_steps hosting.logs) (Free (Only (at_once (ByHosting hosting))))
        (free_never (Only (at_once (ByHosting hosting))) (only_never (at_once (ByHosting hosting)) (not_hosting hosting)))

    host_ids_never : (on_demand : Bool) (ids : List SessionId) → Never (OfHostIds request on_demand ids)
    host_ids_never on_demand ids =
        let ready : Coming = OfHostReady (hosting_of request on_demand ids) in
        right_never input.Config (are_apart ids) (OfRight input.Address (is_address (encode_utf8_all request.address)) ready)
        (right_never input.Address (is_address (encode_utf8_all request.address)) ready (host_ready_never (hosting_of request on_demand ids)))

    host_programs_never : (config : Config) (read : List ReadProgram) (names : List (List ℕ)) → Never (OfHostPrograms request config read names)
    host_programs_never config read [] = host_ids_never config.on_demand (host_ids read config.sessions)
    host_programs_never config read (name ∷ names) =
        let more : List ℕ → List ReadProgram = λ bytes. read ++ record { name = name; text = bytes } ∷ [] in
        file_never input.Program (ask_file name most_program_bytes) (λ bytes. OfProgram (λ tree. OfHostPrograms request config (more bytes) names) bytes)
        (λ bytes. program_never (λ tree. OfHostPrograms request config (more bytes) names) bytes (λ tree. host_programs_never config (more bytes) names))

    config_never : (config : Option Config) → Never (OfConfig request config)
    config_never None = refused_never (refusal.Input input.Config)
    config_never (Some config) = host_programs_never config [] (programs_of config.sessions)

  -- what has to be so of a command that goes on
  abbrev pub GoesOnWell : Option Command → Type 0
  GoesOnWell (Some (Join request)) = (visit : PlainVisit) → ¬ IsBad (ByVisit visit)
  GoesOnWell (Some (Live request)) = (live : PlainLive) → ¬ IsBad (ByLive live)
  GoesOnWell (Some (Reflect request)) =
      ((reflection : PlainReflection) → ¬ IsBad (ByReflecting reflection)) × ((request.journal ≡ None) ⊎ ((keeping : PlainKeeping) → ¬ IsBad (ByKeeping keeping)))
  GoesOnWell (Some (Host request)) = (hosting : PlainHosting) → ¬ IsBad (ByHosting hosting)
  GoesOnWell (Some (Drill request)) = ¬ IsBad (ByDrill request)
  GoesOnWell command = ⊤

  words_never : (command : Option Command) → GoesOnWell command → Never (OfWords command)
  words_never None other = refused_never refusal.Usage
  words_never (Some (Stamp script from log)) other =
      file_never input.Script (ask_file script most_script) (λ bytes. OfScript from log (script_of bytes)) (λ bytes. script_never from log (script_of bytes))
  words_never (Some (Check program)) other =
      file_never input.Program (ask_file program most_program_bytes) (OfProgram (λ tree. Only (count_verdict tree)))
      (λ bytes. program_never (λ tree. Only (count_verdict tree)) bytes (λ tree. fine_never (count_verdict tree).steps))
  words_never (Some (Replay request)) other =
      file_never input.Program (ask_file request.program most_program_bytes) (λ bytes. OfProgram (OfTree request bytes) bytes)
      (λ bytes. program_never (OfTree request bytes) bytes (tree_never request bytes))
  words_never (Some (Inspect request)) other =
      file_never input.Program (ask_file request.program most_program_bytes) (λ bytes. OfProgram (OfInspect request bytes) bytes)
      (λ bytes. program_never (OfInspect request bytes) bytes (inspect_never request bytes))
  words_never (Some (Trace request)) other =
      file_never input.Program (ask_file request.program most_program_bytes) (λ bytes. OfProgram (OfTrace request bytes) bytes)
      (λ bytes. program_never (OfTrace request bytes) bytes (trace_never request bytes))
  words_never (Some (Votes log)) other =
      log_file_never log (λ source. Only (votes_verdict source.stored.log)) (λ source. fine_never (votes_verdict source.stored.log).steps)
  words_never (Some (Hub script logs)) other =
      file_never input.Script (ask_file script most_script) (λ bytes. OfHubScript logs (hub_script_of bytes)) (λ bytes. hub_script_never logs (hub_script_of bytes))
  words_never (Some (Join request)) well =
      file_never input.Program (ask_file request.program most_program_bytes) (λ bytes. OfProgram (OfJoin request bytes) bytes)
      (λ bytes. program_never (OfJoin request bytes) bytes (join_never well request bytes))
  words_never (Some (Live request)) well =
      file_never input.Program (ask_file request.program most_program_bytes) (λ bytes. OfProgram (OfLive request bytes) bytes)
      (λ bytes. program_never (OfLive request bytes) bytes (live_never well request bytes))
  words_never (Some (Reflect request)) well =
      file_never input.Program (ask_file request.program most_program_bytes) (λ bytes. OfProgram (λ tree. OfReflect request bytes) bytes)
      (λ bytes. program_never (λ tree. OfReflect request bytes) bytes (λ tree. reflect_never well.0 request well.1 bytes))
  words_never (Some (Host request)) well =
      file_never input.Config (ask_file request.config most_config) (λ bytes. OfConfig request (config_of bytes)) (λ bytes. config_never well request (config_of bytes))
  words_never (Some (Drill request)) well = only_never (at_once (ByDrill request)) well

  pub never : (command : Option Command) → GoesOnWell command → Never (Comes command)
  never command well = free_never (OfWords command) (words_never command well)

-- the run goes on
abbrev pub IsGoingOn : Closing → Type 0
IsGoingOn (ByVisit visit) = ⊤
IsGoingOn (ByLive live) = ⊤
IsGoingOn (ByReflecting reflection) = ⊤
IsGoingOn (ByKeeping keeping) = ⊤
IsGoingOn (ByGoingOn keeping place) = ⊤
IsGoingOn (ByHosting hosting) = ⊤
IsGoingOn (ByDrill request) = ⊤
IsGoingOn closing = ⊥

goes_on_never : (command : Option Command) → ¬ RunsOn command → GoesOnWell IsGoingOn (λ on. absurd on) (λ why on. absurd on) (λ on. absurd on) command
goes_on_never None other = tt
goes_on_never (Some (Stamp script from log)) other = tt
goes_on_never (Some (Check program)) other = tt
goes_on_never (Some (Replay request)) other = tt
goes_on_never (Some (Inspect request)) other = tt
goes_on_never (Some (Trace request)) other = tt
goes_on_never (Some (Votes log)) other = tt
goes_on_never (Some (Hub script logs)) other = tt
goes_on_never (Some (Join request)) other = absurd (other tt)
goes_on_never (Some (Live request)) other = absurd (other tt)
goes_on_never (Some (Reflect request)) other = absurd (other tt)
goes_on_never (Some (Host request)) other = absurd (other tt)
goes_on_never (Some (Drill request)) other = absurd (other tt)

-- what comes of another command does not go on
pub never_goes_on : (command : Option Command) → ¬ RunsOn command → (verdict : Verdict) → Comes command verdict → ¬ IsGoingOn verdict.closing
never_goes_on command other = never IsGoingOn (λ on. absurd on) (λ why on. absurd on) (λ on. absurd on) command (goes_on_never command other)

-- ---- with a journal

-- a journal is to be opened
abbrev pub IsKeeping : Closing → Type 0
IsKeeping (ByKeeping keeping) = ⊤
IsKeeping closing = ⊥

keeps_none : (command : Option Command) → NamesNoJournal command → GoesOnWell IsKeeping (λ on. absurd on) (λ why on. absurd on) (λ on. absurd on) command
keeps_none None none = tt
keeps_none (Some (Stamp script from log)) none = tt
keeps_none (Some (Check program)) none = tt
keeps_none (Some (Replay request)) none = tt
keeps_none (Some (Inspect request)) none = tt
keeps_none (Some (Trace request)) none = tt
keeps_none (Some (Votes log)) none = tt
keeps_none (Some (Hub script logs)) none = tt
keeps_none (Some (Join request)) none = λ visit on. absurd on
keeps_none (Some (Live request)) none = λ live on. absurd on
keeps_none (Some (Reflect request)) none = (λ reflection on. absurd on, inl none)
keeps_none (Some (Host request)) none = λ hosting on. absurd on
keeps_none (Some (Drill request)) none = λ on. absurd on

-- where none is named, none is opened
pub never_keeps : (command : Option Command) → NamesNoJournal command → (verdict : Verdict) → Comes command verdict → ¬ IsKeeping verdict.closing
never_keeps command none = never IsKeeping (λ on. absurd on) (λ why on. absurd on) (λ on. absurd on) command (keeps_none command none)

-- ---- with lines that come to the run

-- the run goes on as a live view's
abbrev pub IsLiving : Closing → Type 0
IsLiving (ByLive live) = ⊤
IsLiving closing = ⊥

lives_not : (command : Option Command) → AsksNoLive command → GoesOnWell IsLiving (λ on. absurd on) (λ why on. absurd on) (λ on. absurd on) command
lives_not None none = tt
lives_not (Some (Stamp script from log)) none = tt
lives_not (Some (Check program)) none = tt
lives_not (Some (Replay request)) none = tt
lives_not (Some (Inspect request)) none = tt
lives_not (Some (Trace request)) none = tt
lives_not (Some (Votes log)) none = tt
lives_not (Some (Hub script logs)) none = tt
lives_not (Some (Join request)) none = λ visit on. absurd on
lives_not (Some (Live request)) none = absurd none
lives_not (Some (Reflect request)) none = (λ reflection on. absurd on, inr (λ keeping on. absurd on))
lives_not (Some (Host request)) none = λ hosting on. absurd on
lives_not (Some (Drill request)) none = λ on. absurd on

-- no other words lead to one
pub never_lives : (command : Option Command) → AsksNoLive command → (verdict : Verdict) → Comes command verdict → ¬ IsLiving verdict.closing
never_lives command none = never IsLiving (λ on. absurd on) (λ why on. absurd on) (λ on. absurd on) command (lives_not command none)

-- ---- on a net

-- the run goes on with a net
abbrev pub IsOnNet : Closing → Type 0
IsOnNet (ByVisit visit) = ⊤
IsOnNet (ByLive live) = ⊤
IsOnNet (ByReflecting reflection) = ⊤
IsOnNet (ByKeeping keeping) = ⊤
IsOnNet (ByGoingOn keeping place) = ⊤
IsOnNet (ByHosting hosting) = ⊤
IsOnNet closing = ⊥

on_net_goes_on : (closing : Closing) → IsOnNet closing → IsGoingOn closing
on_net_goes_on (ByVisit visit) on = tt
on_net_goes_on (ByLive live) on = tt
on_net_goes_on (ByReflecting reflection) on = tt
on_net_goes_on (ByKeeping keeping) on = tt
on_net_goes_on (ByGoingOn keeping place) on = tt
on_net_goes_on (ByHosting hosting) on = tt
on_net_goes_on (ByDrill request) on = absurd on
on_net_goes_on Fine on = absurd on
on_net_goes_on (ByRefusal why) on = absurd on
on_net_goes_on ByWant on = absurd on
on_net_goes_on ByReadFault on = absurd on
on_net_goes_on ByWriteFault on = absurd on
on_net_goes_on ByNetFault on = absurd on

-- what comes of another command than join, reflect and host does not go on with a net
pub never_on_net : (command : Option Command) → ¬ UsesNet command → (verdict : Verdict) → Comes command verdict → ¬ IsOnNet verdict.closing
never_on_net None other verdict comes on = never_goes_on None (λ runs. absurd runs) verdict comes (on_net_goes_on verdict.closing on)
never_on_net (Some (Stamp script from log)) other verdict comes on = never_goes_on (Some (Stamp script from log)) (λ runs. absurd runs) verdict comes (on_net_goes_on verdict.closing on)
never_on_net (Some (Check program)) other verdict comes on = never_goes_on (Some (Check program)) (λ runs. absurd runs) verdict comes (on_net_goes_on verdict.closing on)
never_on_net (Some (Replay request)) other verdict comes on = never_goes_on (Some (Replay request)) (λ runs. absurd runs) verdict comes (on_net_goes_on verdict.closing on)
never_on_net (Some (Inspect request)) other verdict comes on = never_goes_on (Some (Inspect request)) (λ runs. absurd runs) verdict comes (on_net_goes_on verdict.closing on)
never_on_net (Some (Trace request)) other verdict comes on = never_goes_on (Some (Trace request)) (λ runs. absurd runs) verdict comes (on_net_goes_on verdict.closing on)
never_on_net (Some (Votes log)) other verdict comes on = never_goes_on (Some (Votes log)) (λ runs. absurd runs) verdict comes (on_net_goes_on verdict.closing on)
never_on_net (Some (Hub script logs)) other verdict comes on = never_goes_on (Some (Hub script logs)) (λ runs. absurd runs) verdict comes (on_net_goes_on verdict.closing on)
never_on_net (Some (Join request)) other verdict comes on = absurd (other tt)
never_on_net (Some (Live request)) other verdict comes on = absurd (other tt)
never_on_net (Some (Reflect request)) other verdict comes on = absurd (other tt)
never_on_net (Some (Host request)) other verdict comes on = absurd (other tt)
never_on_net (Some (Drill request)) other verdict (inl want) on = absurd (subst (λ (v : Verdict). IsOnNet v.closing) want on)
never_on_net (Some (Drill request)) other verdict (inr is) on = absurd (subst (λ (v : Verdict). IsOnNet v.closing) is on)
