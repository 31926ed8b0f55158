-- Some verdict other than want of memory comes of a command, whatever its files give.
use Rattle.std.proofs.Common.{◌≡◌, inl, inr, ℕ, Bool, true, false, cond, nat_lt, encode_utf8_all, List, [], ◌∷◌, ◌++◌, Option, Some, None, refl, sym, arith, subst}
use Rattle.tea_base.specs.declared.entry.Entry.{Entry}
use Rattle.tea_base.specs.declared.entry.SessionId.{SessionId}
use Rattle.reflector_core.specs.declared.request.Request.{Request}
use Rattle.reflector_core.specs.Stored.{session_of}
use Rattle.model_tree.specs.Program.{Reading, a_program, no_program, too_large, IsReading, IsRead}
use Rattle.model_tree.specs.Tree.{ProgramTree}
use Rattle.model_solved.specs.Founding.{Founding}
use Rattle.model_solved.specs.declared.fault.CheckFault.{CheckFault}
use Rattle.model_solved.specs.Faults.{first_fault}
use Rattle.model_value.specs.Plain.{PlainValue, nil}
use Rattle.run_steps.specs.Steps.{Ask, Loads, Looks}
use Rattle.command_outcome.specs.declared.outcome.Input.{Input}
use Rattle.command_outcome.specs.declared.outcome.Input.TheVariants as input
use Rattle.command_outcome.specs.declared.outcome.CommandRefusal.{CommandRefusal}
use Rattle.command_outcome.specs.declared.outcome.CommandRefusal.TheVariants as refusal
use Rattle.command_outcome.specs.declared.outcome.Put.{Put}
use Rattle.view_script.specs.PlainLine.{PlainLine}
use Rattle.view_script.specs.ViewScript.{view_script_of}
use Rattle.command_words.specs.Address.{is_address}
use Rattle.command_words.specs.declared.words.ReplayRequest.{ReplayRequest}
use Rattle.command_words.specs.declared.words.InspectRequest.{InspectRequest}
use Rattle.command_words.specs.declared.words.TraceRequest.{TraceRequest}
use Rattle.command_words.specs.declared.words.JoinRequest.{JoinRequest}
use Rattle.command_words.specs.declared.words.LiveRequest.{LiveRequest}
use Rattle.command_words.specs.declared.words.ReflectRequest.{ReflectRequest}
use Rattle.command_words.specs.declared.words.HostRequest.{HostRequest}
use Rattle.command_words.specs.declared.words.DrillRequest.{DrillRequest}
use Rattle.command_words.specs.declared.words.Command.{Command}
use Rattle.command_words.specs.declared.words.Command.TheVariants.{Stamp, Check, Replay, Inspect, Trace, Votes, Hub, Join, Live, Reflect, Host, Drill}
use Rattle.command_outcome.specs.ProgramText.{check_line, counts_line, syntax_line, too_large_line}
use Rattle.command_stamp.specs.Script.{script_of}
use Rattle.command_votes.specs.VotesText.{votes_text}
use Rattle.command_inspect.specs.declared.query.Query.{Query}
use Rattle.command_inspect.specs.InspectText.{inspect_text}
use Rattle.command_inspect.specs.Queries.{queries_of}
use Rattle.command_trace.specs.TraceText.{trace_text}
use Rattle.command_outcome.specs.Outcome.{steps_of}
use Rattle.command_outcome.specs.ProgramEnd.{IsLineOf}
use Rattle.model_tree.specs.Bounds.{most_program_bytes}
use Rattle.persist_json.specs.JsonOf.{most_json}
use Rattle.tea_base.specs.Limits.{most_snapshot}
use Rattle.commands.specs.Laws.{AreGiven, IsOnlyWant, SomeVerdictComes}
use Rattle.command_hub.specs.declared.script.HubLine.{HubLine}
use Rattle.command_hub.specs.HubScript.{hub_script_of}
use Rattle.command_hub.specs.HubRun.{hub_puts, hub_run}
use Rattle.host_config.specs.Config.{config_of}
use Rattle.host_config.specs.Programs.{programs_of}
use Rattle.host_config.specs.declared.reading.Config.{Config}
use Rattle.commands.specs.declared.hosting.ReadProgram.{ReadProgram}
use Rattle.commands.specs.Verdict.{ByDrill, ByHosting, ByKeeping, ByLive, ByReflecting, ByRefusal, ByVisit, ByWant, Coming, Fine, OfCommand, OfConfig, OfFile, OfFounded, OfGiven, OfHostIds, OfHostPrograms, OfHostReady, OfHubScript, OfInspect, OfInspectedLog, OfJoin, OfJournal, OfJson, OfKeyframes, OfLive, OfLiveBegun, OfLog, OfOpening, OfOwn, OfPersisted, OfProgram, OfQueries, OfRecorded, OfReflect, OfReflected, OfRight, OfScript, OfServed, OfSnapshot, OfTimeLine, OfTrace, OfTraced, OfTracedLog, OfTree, OfUnkept, OfView, OfViewScript, Only, PlainHosting, PlainKeeping, PlainLive, PlainReflection, PlainSource, PlainVisit, Starts, are_apart, ask_file, at_once, before, behind, count_verdict, fine, first_source, founded, host_ids, hosting_of, keeping_of, keeps_few, live_of, look_steps, most_config, most_log, most_queries, most_script, names_no_other, reflection_of, session_id_of, stamp_verdict, trace_verdict, visit_to, votes_verdict, OfLooked, OfReady}

abbrev pub Told : Type 0
Told = Ask → Option (List ℕ)

-- what `model_lang::one_reading` says besides
abbrev pub IsSomeReading : Type 0
IsSomeReading = (text : List ℕ) → ¬ ((reading : Reading) → ¬ IsReading text reading)

-- a refusal is no want of memory, a visit is none, a live view's run is none, a reflection is none, a keeping is none, a drill is none, and a text that was printed is none
refused_not_want : (told : Told) (coming : Coming) (why : CommandRefusal) → coming (at_once (ByRefusal why)) → ¬ IsOnlyWant told coming
refused_not_want told coming why comes only = let want : ByRefusal why ≡ ByWant = only (at_once (ByRefusal why)) comes tt in absurd cc

visit_not_want : (told : Told) (coming : Coming) (visit : PlainVisit) → coming (at_once (ByVisit visit)) → ¬ IsOnlyWant told coming
visit_not_want told coming visit comes only = let want : ByVisit visit ≡ ByWant = only (at_once (ByVisit visit)) comes tt in absurd cc

live_view_not_want : (told : Told) (coming : Coming) (live : PlainLive) → coming (at_once (ByLive live)) → ¬ IsOnlyWant told coming
live_view_not_want told coming live comes only = let want : ByLive live ≡ ByWant = only (at_once (ByLive live)) comes tt in absurd cc

keeping_not_want : (told : Told) (coming : Coming) (keeping : PlainKeeping) → coming (at_once (ByKeeping keeping)) → ¬ IsOnlyWant told coming
keeping_not_want told coming keeping comes only = let want : ByKeeping keeping ≡ ByWant = only (at_once (ByKeeping keeping)) comes tt in absurd cc

reflection_not_want : (told : Told) (coming : Coming) (reflection : PlainReflection) → coming (at_once (ByReflecting reflection)) → ¬ IsOnlyWant told coming
reflection_not_want told coming reflection comes only = let want : ByReflecting reflection ≡ ByWant = only (at_once (ByReflecting reflection)) comes tt in absurd cc

drill_not_want : (told : Told) (coming : Coming) (request : DrillRequest) → coming (at_once (ByDrill request)) → ¬ IsOnlyWant told coming
drill_not_want told coming request comes only = let want : ByDrill request ≡ ByWant = only (at_once (ByDrill request)) comes tt in absurd cc

no_file_given : (told : Told) (puts : List Put) (text : List ℕ) → AreGiven told (steps_of puts text)
no_file_given told [] text = tt
no_file_given told (put ∷ puts) text = no_file_given told puts text

fine_not_want : (told : Told) (coming : Coming) (puts : List Put) (text : List ℕ) → coming (fine (steps_of puts text)) → ¬ IsOnlyWant told coming
fine_not_want told coming puts text comes only = let want : Fine ≡ ByWant = only (fine (steps_of puts text)) comes (no_file_given told puts text) in absurd cc

-- what comes of the bytes of a file comes of the file
given_not_want : (told : Told) (at : Input) (given : Option (List ℕ)) (next : List ℕ → Coming) → ((bytes : List ℕ) → ¬ IsOnlyWant told (next bytes)) → ¬ IsOnlyWant told (OfGiven at given next)
given_not_want told at None next each = refused_not_want told (OfGiven at None next) (refusal.Input at) refl
given_not_want told at (Some bytes) next each = each bytes

file_not_want : (told : Told) (at : Input) (ask : Ask) (next : List ℕ → Coming) → ((bytes : List ℕ) → ¬ IsOnlyWant told (next bytes)) → ¬ IsOnlyWant told (OfFile at ask next)
file_not_want told at ask next each only =
    given_not_want told at (told ask) next each
    (λ rest comes given. only (before (Loads ask (told ask)) rest) (told ask, (rest, refl, inr comes)) (refl, given))

right_not_want : (told : Told) (at : Input) (is : Bool) (next : Coming) → ¬ IsOnlyWant told next → ¬ IsOnlyWant told (OfRight at is next)
right_not_want told at true next each = each
right_not_want told at false next each = refused_not_want told (OfRight at false next) (refusal.Input at) refl

-- ---- logs

log_not_want : (told : Told) (next : PlainSource → Coming) (bytes : List ℕ) → ((source : PlainSource) → ¬ IsOnlyWant told (next source)) → ¬ IsOnlyWant told (OfLog next bytes)
log_not_want told next bytes each only =
    refused_not_want told (OfLog next bytes) (refusal.Input input.Log)
    (inr (λ source is. each source (λ verdict comes given. only verdict (inl (source, is, comes)) given), refl))
    only

log_file_not_want : (told : Told) (name : List ℕ) (next : PlainSource → Coming) → ((source : PlainSource) → ¬ IsOnlyWant told (next source)) → ¬ IsOnlyWant told (OfFile input.Log (ask_file name most_log) (OfLog next))
log_file_not_want told name next each = file_not_want told input.Log (ask_file name most_log) (OfLog next) (λ bytes. log_not_want told next bytes each)

opening_not_want : (told : Told) (from : Option (List ℕ)) (next : PlainSource → Coming) → ((source : PlainSource) → ¬ IsOnlyWant told (next source)) → ¬ IsOnlyWant told (OfOpening from next)
opening_not_want told None next each = each first_source
opening_not_want told (Some name) next each = log_file_not_want told name next each

own_not_want : (told : Told) (source : PlainSource) (id : List ℕ) (next : Coming) → ¬ IsOnlyWant told next → ¬ IsOnlyWant told (OfOwn source.named id next)
own_not_want told source id next each = right_not_want told input.Journal (names_no_other source.named id) next each

-- ---- stamp

script_not_want : (told : Told) (from log : Option (List ℕ)) (requests : Option (List Request)) → ¬ IsOnlyWant told (OfScript from log requests)
script_not_want told from log None = refused_not_want told (OfScript from log None) (refusal.Input input.Script) refl
script_not_want told from log (Some requests) =
    opening_not_want told from (λ source. Only (stamp_verdict (session_of source.stored) log requests)) (λ source. fine_not_want told (Only (stamp_verdict (session_of source.stored) log requests)) _ _ refl)

-- ---- hub

hub_script_not_want : (told : Told) (logs : Option (List ℕ)) (lines : Option (List HubLine)) → ¬ IsOnlyWant told (OfHubScript logs lines)
hub_script_not_want told logs None = refused_not_want told (OfHubScript logs None) (refusal.Input input.Script) refl
hub_script_not_want told logs (Some lines) = let run = hub_run lines in fine_not_want told (OfHubScript logs (Some lines)) (hub_puts logs run.hub) run.text refl

-- ---- programs

faulty_line : (found : Option CheckFault) (fault : CheckFault) → found ≡ Some fault → IsLineOf found (check_line fault)
faulty_line found fault is = subst (λ (f : Option CheckFault). IsLineOf f (check_line fault)) (sym is) refl

read_not_want : (told : Told) (next : ProgramTree → Coming) (bytes : List ℕ) (tree : ProgramTree) (found : Option CheckFault) → first_fault tree ≡ found → IsRead bytes tree → ¬ IsOnlyWant told (next tree) → ¬ IsOnlyWant told (OfProgram next bytes)
read_not_want told next bytes tree None sound read each =
    λ only. each (λ verdict comes given. only verdict (inl (tree, record { read = read; sound = sound }, comes)) given)
read_not_want told next bytes tree (Some fault) is read each =
    refused_not_want told (OfProgram next bytes) (refusal.Program (check_line fault))
    (inr (check_line fault, record { reading = a_program tree; is_reading = read; refused = faulty_line (first_fault tree) fault is }, refl))

reading_not_want : (told : Told) (next : ProgramTree → Coming) (bytes : List ℕ) (reading : Reading) → IsReading bytes reading → ((tree : ProgramTree) → ¬ IsOnlyWant told (next tree)) → ¬ IsOnlyWant told (OfProgram next bytes)
reading_not_want told next bytes (a_program tree) is each = read_not_want told next bytes tree (first_fault tree) refl is (each tree)
reading_not_want told next bytes no_program is each =
    refused_not_want told (OfProgram next bytes) (refusal.Program (syntax_line 0))
    (inr (syntax_line 0, record { reading = no_program; is_reading = is; refused = (0, omega arith, refl) }, refl))
reading_not_want told next bytes (too_large what count) is each =
    refused_not_want told (OfProgram next bytes) (refusal.Program (too_large_line what count))
    (inr (too_large_line what count, record { reading = too_large what count; is_reading = is; refused = refl }, refl))

program_not_want : IsSomeReading → (told : Told) (next : ProgramTree → Coming) (bytes : List ℕ) → ((tree : ProgramTree) → ¬ IsOnlyWant told (next tree)) → ¬ IsOnlyWant told (OfProgram next bytes)
program_not_want some told next bytes each only = some bytes (λ reading is. reading_not_want told next bytes reading is each only)

-- ---- persisted values

json_not_want : (told : Told) (next : PlainValue → Coming) (bytes : List ℕ) → ((v : PlainValue) → ¬ IsOnlyWant told (next v)) → ¬ IsOnlyWant told (OfJson next bytes)
json_not_want told next bytes each only =
    refused_not_want told (OfJson next bytes) (refusal.Input input.Persisted)
    (inr (λ v is. each v (λ verdict comes given. only verdict (inl (v, is, comes)) given), refl))
    only

persisted_not_want : (told : Told) (name : Option (List ℕ)) (next : PlainValue → Coming) → ((v : PlainValue) → ¬ IsOnlyWant told (next v)) → ¬ IsOnlyWant told (OfPersisted name next)
persisted_not_want told None next each = each nil
persisted_not_want told (Some name) next each = file_not_want told input.Persisted (ask_file name most_json) (OfJson next) (λ bytes. json_not_want told next bytes each)

-- ---- replay

resumed_if : (told : Told) (coming : Coming) (early : Bool) (puts : List Put) (text : List ℕ) (why : CommandRefusal) → coming (cond early (at_once (ByRefusal why)) (fine (steps_of puts text))) → ¬ IsOnlyWant told coming
resumed_if told coming true puts text why comes = refused_not_want told coming why comes
resumed_if told coming false puts text why comes = fine_not_want told coming puts text comes

snapshot_not_want : (told : Told) (request : ReplayRequest) (tree : ProgramTree) (id : List ℕ) (log : List Entry) (bytes : List ℕ) → ¬ IsOnlyWant told (OfSnapshot request tree id log bytes)
snapshot_not_want told request tree id log bytes only =
    refused_not_want told (OfSnapshot request tree id log bytes) (refusal.Input input.Snapshot)
    (inr (λ w is. resumed_if told (OfSnapshot request tree id log bytes) (nat_lt request.time w.time) _ _ (refusal.Input input.Time) (inl (w, is, refl)) only, refl))
    only

starts_not_want : (told : Told) (from : Option (List ℕ)) (request : ReplayRequest) (founding : Founding) (id : List ℕ) (log : List Entry) → ¬ IsOnlyWant told (Starts from request founding id log)
starts_not_want told None request founding id log = fine_not_want told (Starts None request founding id log) _ _ refl
starts_not_want told (Some from) request founding id log =
    file_not_want told input.Snapshot (ask_file from most_snapshot) (OfSnapshot request founding.tree id log) (snapshot_not_want told request founding.tree id log)

founded_not_want : (told : Told) (request : ReplayRequest) (text : List ℕ) (source : PlainSource) (founding : Founding) → ¬ IsOnlyWant told (OfFounded request text source founding)
founded_not_want told request text source founding =
    let id = session_id_of request.name text founding.persisted in
    own_not_want told source id (Starts request.from request founding id source.stored.log) (starts_not_want told request.from request founding id source.stored.log)

recorded_not_want : (told : Told) (request : ReplayRequest) (text : List ℕ) (tree : ProgramTree) (source : PlainSource) → ¬ IsOnlyWant told (OfRecorded request text tree source)
recorded_not_want told request text tree source =
    persisted_not_want told request.persisted (λ v. OfFounded request text source (founded tree v)) (λ v. founded_not_want told request text source (founded tree v))

tree_not_want : (told : Told) (request : ReplayRequest) (text : List ℕ) (tree : ProgramTree) → ¬ IsOnlyWant told (OfTree request text tree)
tree_not_want told request text tree = log_file_not_want told request.log (OfRecorded request text tree) (recorded_not_want told request text tree)

-- ---- inspect

queries_not_want : (told : Told) (founding : Founding) (id : List ℕ) (log : List Entry) (queries : Option (List Query)) → ¬ IsOnlyWant told (OfQueries founding id log queries)
queries_not_want told founding id log None = refused_not_want told (OfQueries founding id log None) (refusal.Input input.Queries) refl
queries_not_want told founding id log (Some queries) = fine_not_want told (OfQueries founding id log (Some queries)) [] (inspect_text founding id log queries) refl

keyframes_not_want : (told : Told) (every : ℕ) (queries : List ℕ) (founding : Founding) (id : List ℕ) (log : List Entry) → ¬ IsOnlyWant told (OfKeyframes every queries founding id log)
keyframes_not_want told every queries founding id log =
    let of_bytes : List ℕ → Coming = λ bytes. OfQueries founding id log (queries_of bytes) in
    right_not_want told input.Every (keeps_few every log) (OfFile input.Queries (ask_file queries most_queries) of_bytes)
    (file_not_want told input.Queries (ask_file queries most_queries) of_bytes (λ bytes. queries_not_want told founding id log (queries_of bytes)))

time_line_not_want : (told : Told) (request : InspectRequest) (text : List ℕ) (source : PlainSource) (founding : Founding) → ¬ IsOnlyWant told (OfTimeLine request text source founding)
time_line_not_want told request text source founding =
    let id = session_id_of request.name text founding.persisted in
    own_not_want told source id (OfKeyframes request.every request.queries founding id source.stored.log) (keyframes_not_want told request.every request.queries founding id source.stored.log)

inspected_log_not_want : (told : Told) (request : InspectRequest) (text : List ℕ) (tree : ProgramTree) (source : PlainSource) → ¬ IsOnlyWant told (OfInspectedLog request text tree source)
inspected_log_not_want told request text tree source =
    persisted_not_want told request.persisted (λ v. OfTimeLine request text source (founded tree v)) (λ v. time_line_not_want told request text source (founded tree v))

inspect_not_want : (told : Told) (request : InspectRequest) (text : List ℕ) (tree : ProgramTree) → ¬ IsOnlyWant told (OfInspect request text tree)
inspect_not_want told request text tree = log_file_not_want told request.log (OfInspectedLog request text tree) (inspected_log_not_want told request text tree)

-- ---- trace

traced_not_want : (told : Told) (request : TraceRequest) (text : List ℕ) (source : PlainSource) (founding : Founding) → ¬ IsOnlyWant told (OfTraced request text source founding)
traced_not_want told request text source founding =
    let id = session_id_of request.name text founding.persisted in
    let traced : Coming = Only (trace_verdict founding id source.stored.log request.from request.to) in
    own_not_want told source id traced (fine_not_want told traced [] (trace_text founding id source.stored.log request.from request.to) refl)

traced_log_not_want : (told : Told) (request : TraceRequest) (text : List ℕ) (tree : ProgramTree) (source : PlainSource) → ¬ IsOnlyWant told (OfTracedLog request text tree source)
traced_log_not_want told request text tree source =
    persisted_not_want told request.persisted (λ v. OfTraced request text source (founded tree v)) (λ v. traced_not_want told request text source (founded tree v))

trace_not_want : (told : Told) (request : TraceRequest) (text : List ℕ) (tree : ProgramTree) → ¬ IsOnlyWant told (OfTrace request text tree)
trace_not_want told request text tree = log_file_not_want told request.log (OfTracedLog request text tree) (traced_log_not_want told request text tree)

-- ---- join

view_script_not_want : (told : Told) (request : JoinRequest) (text : List ℕ) (tree : ProgramTree) (script : Option (List PlainLine)) → ¬ IsOnlyWant told (OfViewScript request text tree script)
view_script_not_want told request text tree None = refused_not_want told (OfViewScript request text tree None) (refusal.Input input.Script) refl
view_script_not_want told request text tree (Some lines) =
    let visits : PlainValue → Coming = λ v. Only (at_once (ByVisit (visit_to request text lines (founded tree v)))) in
    persisted_not_want told request.persisted visits (λ v. visit_not_want told (visits v) (visit_to request text lines (founded tree v)) refl)

join_not_want : (told : Told) (request : JoinRequest) (text : List ℕ) (tree : ProgramTree) → ¬ IsOnlyWant told (OfJoin request text tree)
join_not_want told request text tree =
    right_not_want told input.Address (is_address (encode_utf8_all request.address)) (OfView request text tree)
    (file_not_want told input.Script (ask_file request.script most_script) (λ bytes. OfViewScript request text tree (view_script_of bytes))
    (λ bytes. view_script_not_want told request text tree (view_script_of bytes)))

-- ---- join, where the lines come to the run

live_not_want : (told : Told) (request : LiveRequest) (text : List ℕ) (tree : ProgramTree) → ¬ IsOnlyWant told (OfLive request text tree)
live_not_want told request text tree =
    let lives : PlainValue → Coming = λ v. Only (at_once (ByLive (live_of request text (founded tree v)))) in
    right_not_want told input.Address (is_address (encode_utf8_all request.address)) (OfLiveBegun request text tree)
    (persisted_not_want told request.persisted lives (λ v. live_view_not_want told (lives v) (live_of request text (founded tree v)) refl))

-- ---- reflect

looked_not_want : (told : Told) (log : Option (List ℕ)) (next : Coming) → ¬ IsOnlyWant told next → ¬ IsOnlyWant told (OfLooked log next)
looked_not_want told None next each only = each only
looked_not_want told (Some name) next each only = each (λ rest comes given. only (before (Looks name) rest) (rest, refl, inr comes) given)

ready_not_want : (told : Told) (reflection : PlainReflection) → ¬ IsOnlyWant told (OfReady reflection)
ready_not_want told reflection =
    let reflects : Coming = Only (at_once (ByReflecting reflection)) in
    looked_not_want told reflection.log reflects (reflection_not_want told reflects reflection refl)

reflected_not_want : (told : Told) (request : ReflectRequest) (id : List ℕ) (source : PlainSource) → ¬ IsOnlyWant told (OfReflected request id source)
reflected_not_want told request id source =
    let reflection : PlainReflection = reflection_of request id (session_of source.stored) in
    own_not_want told source id (OfReady reflection) (ready_not_want told reflection)

unkept_not_want : (told : Told) (request : ReflectRequest) (id : List ℕ) → ¬ IsOnlyWant told (OfUnkept request id)
unkept_not_want told request id = opening_not_want told request.from (OfReflected request id) (reflected_not_want told request id)

journal_not_want : (told : Told) (journal : Option (List ℕ)) (without : Coming) (with_one : List ℕ → Coming) → ¬ IsOnlyWant told without → ((name : List ℕ) → ¬ IsOnlyWant told (with_one name)) → ¬ IsOnlyWant told (OfJournal journal without with_one)
journal_not_want told None without with_one none each = none
journal_not_want told (Some name) without with_one none each = each name

served_not_want : (told : Told) (request : ReflectRequest) (id : List ℕ) → ¬ IsOnlyWant told (OfServed request id)
served_not_want told request id =
    let keeps : List ℕ → Coming = λ journal. Only (at_once (ByKeeping (keeping_of request id journal))) in
    journal_not_want told request.journal (OfUnkept request id) keeps (unkept_not_want told request id) (λ journal. keeping_not_want told (keeps journal) (keeping_of request id journal) refl)

reflect_not_want : (told : Told) (request : ReflectRequest) (text : List ℕ) → ¬ IsOnlyWant told (OfReflect request text)
reflect_not_want told request text =
    let served : PlainValue → Coming = λ v. OfServed request (session_id_of request.name text v) in
    right_not_want told input.Address (is_address (encode_utf8_all request.address)) (OfPersisted request.persisted served)
    (persisted_not_want told request.persisted served (λ v. served_not_want told request (session_id_of request.name text v)))

-- ---- host

looks_given : (told : Told) (names : List (List ℕ)) → AreGiven told (look_steps names ++ [])
looks_given told [] = tt
looks_given told (name ∷ names) = looks_given told names

host_ready_not_want : (told : Told) (hosting : PlainHosting) → ¬ IsOnlyWant told (OfHostReady hosting)
host_ready_not_want told hosting only =
    let want : ByHosting hosting ≡ ByWant = only (behind (look_steps hosting.logs) (at_once (ByHosting hosting))) (at_once (ByHosting hosting), refl, inr refl) (looks_given told hosting.logs) in
    absurd cc

host_ids_not_want : (told : Told) (request : HostRequest) (on_demand : Bool) (ids : List SessionId) → ¬ IsOnlyWant told (OfHostIds request on_demand ids)
host_ids_not_want told request on_demand ids =
    let ready : Coming = OfHostReady (hosting_of request on_demand ids) in
    right_not_want told input.Config (are_apart ids) (OfRight input.Address (is_address (encode_utf8_all request.address)) ready)
    (right_not_want told input.Address (is_address (encode_utf8_all request.address)) ready (host_ready_not_want told (hosting_of request on_demand ids)))

host_programs_not_want : IsSomeReading → (told : Told) (request : HostRequest) (config : Config) (read : List ReadProgram) (names : List (List ℕ)) → ¬ IsOnlyWant told (OfHostPrograms request config read names)
host_programs_not_want some told request config read [] = host_ids_not_want told request config.on_demand (host_ids read config.sessions)
host_programs_not_want some told request config read (name ∷ names) =
    let more : List ℕ → List ReadProgram = λ bytes. read ++ record { name = name; text = bytes } ∷ [] in
    file_not_want told input.Program (ask_file name most_program_bytes) (λ bytes. OfProgram (λ tree. OfHostPrograms request config (more bytes) names) bytes)
    (λ bytes. program_not_want some told (λ tree. OfHostPrograms request config (more bytes) names) bytes (λ tree. host_programs_not_want some told request config (more bytes) names))

config_not_want : IsSomeReading → (told : Told) (request : HostRequest) (config : Option Config) → ¬ IsOnlyWant told (OfConfig request config)
config_not_want some told request None = refused_not_want told (OfConfig request None) (refusal.Input input.Config) refl
config_not_want some told request (Some config) = host_programs_not_want some told request config [] (programs_of config.sessions)

-- ---- the commands

command_not_want : IsSomeReading → (told : Told) (command : Command) → ¬ IsOnlyWant told (OfCommand command)
command_not_want some told (Stamp script from log) =
    file_not_want told input.Script (ask_file script most_script) (λ bytes. OfScript from log (script_of bytes)) (λ bytes. script_not_want told from log (script_of bytes))
command_not_want some told (Check program) =
    file_not_want told input.Program (ask_file program most_program_bytes) _ (λ bytes. program_not_want some told _ bytes (λ tree. fine_not_want told (λ came. came ≡ count_verdict tree) [] (counts_line tree) refl))
command_not_want some told (Replay request) =
    file_not_want told input.Program (ask_file request.program most_program_bytes) (λ bytes. OfProgram (OfTree request bytes) bytes)
    (λ bytes. program_not_want some told (OfTree request bytes) bytes (tree_not_want told request bytes))
command_not_want some told (Inspect request) =
    file_not_want told input.Program (ask_file request.program most_program_bytes) (λ bytes. OfProgram (OfInspect request bytes) bytes)
    (λ bytes. program_not_want some told (OfInspect request bytes) bytes (inspect_not_want told request bytes))
command_not_want some told (Trace request) =
    file_not_want told input.Program (ask_file request.program most_program_bytes) (λ bytes. OfProgram (OfTrace request bytes) bytes)
    (λ bytes. program_not_want some told (OfTrace request bytes) bytes (trace_not_want told request bytes))
command_not_want some told (Votes log) =
    log_file_not_want told log (λ source. Only (votes_verdict source.stored.log)) (λ source. fine_not_want told (Only (votes_verdict source.stored.log)) [] (votes_text source.stored.log) refl)
command_not_want some told (Hub script logs) =
    file_not_want told input.Script (ask_file script most_script) (λ bytes. OfHubScript logs (hub_script_of bytes)) (λ bytes. hub_script_not_want told logs (hub_script_of bytes))
command_not_want some told (Join request) =
    file_not_want told input.Program (ask_file request.program most_program_bytes) (λ bytes. OfProgram (OfJoin request bytes) bytes)
    (λ bytes. program_not_want some told (OfJoin request bytes) bytes (join_not_want told request bytes))
command_not_want some told (Live request) =
    file_not_want told input.Program (ask_file request.program most_program_bytes) (λ bytes. OfProgram (OfLive request bytes) bytes)
    (λ bytes. program_not_want some told (OfLive request bytes) bytes (live_not_want told request bytes))
command_not_want some told (Reflect request) =
    file_not_want told input.Program (ask_file request.program most_program_bytes) (λ bytes. OfProgram (λ tree. OfReflect request bytes) bytes)
    (λ bytes. program_not_want some told (λ tree. OfReflect request bytes) bytes (λ tree. reflect_not_want told request bytes))
command_not_want some told (Host request) =
    file_not_want told input.Config (ask_file request.config most_config) (λ bytes. OfConfig request (config_of bytes)) (λ bytes. config_not_want some told request (config_of bytes))
command_not_want some told (Drill request) = drill_not_want told (OfCommand (Drill request)) request refl

pub some_verdict_comes : IsSomeReading → SomeVerdictComes
some_verdict_comes some None told only = refused_not_want told _ refusal.Usage (inr refl) only
some_verdict_comes some (Some command) told only = command_not_want some told command (λ verdict comes given. only verdict (inr comes) given)
