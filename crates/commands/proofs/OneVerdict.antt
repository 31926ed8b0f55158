-- One verdict comes of a command, as long as its steps were told the same.
use Rattle.std.proofs.Common.{◌≡◌, ◌⊎◌, inl, inr, ℕ, Bool, true, false, encode_utf8_all, List, [], ◌∷◌, ◌++◌, length, Option, Some, None, refl, sym, ap, subst, ◌∙◌}
use Rattle.std.proofs.lemmas.Option.{same_Some}
use Rattle.tea_base.specs.declared.entry.Entry.{Entry}
use Rattle.tea_base.specs.declared.entry.SessionId.{SessionId}
use Rattle.reflector_core.specs.Stored.{session_of}
use Rattle.reflector_core.specs.declared.request.Request.{Request}
use Rattle.model_tree.specs.Program.{Reading, a_program, no_program, too_large, IsReading}
use Rattle.model_tree.specs.Tree.{ProgramTree}
use Rattle.model_solved.specs.Founding.{Founding}
use Rattle.model_solved.specs.declared.fault.CheckFault.{CheckFault}
use Rattle.model_solved.specs.Faults.{first_fault}
use Rattle.model_solved.specs.Methods.{field_counts}
use Rattle.model_value.specs.Plain.{PlainValue, nil}
use Rattle.persist_json.specs.JsonOf.{data_of, IsJsonOf, most_json}
use Rattle.persist_json.proofs.Readings.{same_value}
use Rattle.world_plain.specs.World.{WorldRecord}
use Rattle.snapshot_codec.specs.Answer.{IsSnapshot}
use Rattle.snapshot_codec.specs.Reading.{world_in}
use Rattle.snapshot_codec.proofs.Fitting.{world-fits}
use Rattle.snapshot_codec.proofs.WorldCodec.{world-again}
use Rattle.run_steps.specs.Steps.{Ask, Step, Loads, Puts, Looks, Prints, Connects, Returns, Hears, Sends}
use Rattle.command_outcome.specs.declared.outcome.Input.{Input}
use Rattle.command_outcome.specs.declared.outcome.Input.TheVariants as input
use Rattle.command_outcome.specs.declared.outcome.CommandRefusal.TheVariants as refusal
use Rattle.view_script.specs.PlainLine.{PlainLine}
use Rattle.view_script.specs.ViewScript.{view_script_of}
use Rattle.command_words.specs.Address.{is_address}
use Rattle.command_words.specs.declared.words.ReplayRequest.{ReplayRequest}
use Rattle.command_words.specs.declared.words.InspectRequest.{InspectRequest}
use Rattle.command_words.specs.declared.words.TraceRequest.{TraceRequest}
use Rattle.command_words.specs.declared.words.JoinRequest.{JoinRequest}
use Rattle.command_words.specs.declared.words.LiveRequest.{LiveRequest}
use Rattle.command_words.specs.declared.words.ReflectRequest.{ReflectRequest}
use Rattle.command_words.specs.declared.words.HostRequest.{HostRequest}
use Rattle.command_words.specs.declared.words.Command.{Command}
use Rattle.command_words.specs.declared.words.Command.TheVariants.{Stamp, Check, Replay, Inspect, Trace, Votes, Hub, Join, Live, Reflect, Host, Drill}
use Rattle.command_outcome.specs.ProgramText.{syntax_line}
use Rattle.command_stamp.specs.Script.{script_of}
use Rattle.command_inspect.specs.declared.query.Query.{Query}
use Rattle.command_inspect.specs.Queries.{queries_of}
use Rattle.command_outcome.specs.ProgramEnd.{IsLineOf, IsRefused, IsRefusedBy}
use Rattle.model_tree.specs.Bounds.{most_program_bytes}
use Rattle.tea_base.specs.Limits.{most_snapshot}
use Rattle.commands.proofs.LogLaws.{same_source}
use Rattle.commands.specs.Laws.{AreAlike, AreDoneAlike, IsOneVerdict, IsFunction}
use Rattle.command_hub.specs.declared.script.HubLine.{HubLine}
use Rattle.command_hub.specs.HubScript.{hub_script_of}
use Rattle.host_config.specs.Config.{config_of}
use Rattle.host_config.specs.Programs.{programs_of}
use Rattle.host_config.specs.declared.reading.Config.{Config}
use Rattle.commands.specs.declared.hosting.ReadProgram.{ReadProgram}
use Rattle.commands.specs.Verdict.{ByDrill, ByHosting, ByKeeping, ByLive, ByReflecting, ByRefusal, ByVisit, ByWant, Closing, Coming, Free, OfConfig, OfFile, OfFounded, OfGiven, OfHostIds, OfHostPrograms, OfHostReady, OfHubScript, OfInspect, OfInspectedLog, OfJoin, OfJournal, OfJson, OfKeyframes, OfLive, OfLiveBegun, OfLog, OfOpening, OfOwn, OfPersisted, OfProgram, OfQueries, OfRecorded, OfReflect, OfReflected, OfRight, OfScript, OfServed, OfSnapshot, OfTimeLine, OfTrace, OfTraced, OfTracedLog, OfTree, OfUnkept, OfView, OfViewScript, OfWords, Only, PlainHosting, PlainSource, Starts, ThenAll, Verdict, are_apart, ask_file, at_once, before, behind, count_verdict, first_source, founded, host_ids, hosting_of, hub_verdict, inspect_verdict, keeping_of, keeps_few, live_of, look_steps, most_config, most_log, most_queries, most_script, names_no_other, reflection_of, resumed_verdict, session_id_of, stamp_verdict, trace_verdict, visit_to, votes_verdict, OfLooked, OfReady, PlainReflection}

-- what `model_lang::one_reading` says
abbrev pub IsOneReading : Type 0
IsOneReading = (text : List ℕ) (reading other : Reading) → IsReading text reading → IsReading text other → reading ≡ other

abbrev pub Alike : Verdict → Verdict → Type 0
Alike verdict other = AreAlike verdict.steps verdict.closing other.steps other.closing

-- want of memory is like all that may stand in its place
wants_first : (steps : List Step) (closing : Closing) → AreAlike [] ByWant steps closing
wants_first [] closing = inr (inl refl)
wants_first (step ∷ steps) closing = refl

wants_last : (steps : List Step) (closing : Closing) → AreAlike steps closing [] ByWant
wants_last [] closing = inr (inr (inl refl))
wants_last (step ∷ steps) closing = refl

-- a verdict is like itself
step_alike : (step : Step) (alike : Type 0) → alike → AreDoneAlike step step alike
step_alike (Loads ask given) alike holds = (refl, λ (same : given ≡ given). holds)
step_alike (Puts name bytes) alike holds = (refl, holds)
step_alike (Looks name) alike holds = (refl, holds)
step_alike (Prints text) alike holds = (refl, holds)
step_alike (Connects address) alike holds = (refl, holds)
step_alike Returns alike holds = (refl, holds)
step_alike (Hears what) alike holds = λ (same : what ≡ what). holds
step_alike (Sends frame) alike holds = (refl, holds)

self_alike : (steps : List Step) (closing : Closing) → AreAlike steps closing steps closing
self_alike [] closing = inl refl
self_alike (step ∷ steps) closing = step_alike step (AreAlike steps closing steps closing) (self_alike steps closing)

alike_by : (verdict other first second : Verdict) → verdict ≡ first → other ≡ second → Alike first second → Alike verdict other
alike_by verdict other first second is also alike =
    subst (λ (v : Verdict). Alike v other) (sym is) (subst (λ (v : Verdict). Alike first v) (sym also) alike)

one_only : (is : Verdict) → IsOneVerdict (Only is)
one_only is verdict other a b = alike_by verdict other is is a b (self_alike is.steps is.closing)

one_free : (coming : Coming) → IsOneVerdict coming → IsOneVerdict (Free coming)
one_free coming one verdict other (inl a) b = alike_by verdict other (at_once ByWant) other a refl (wants_first other.steps other.closing)
one_free coming one verdict other (inr a) (inl b) = alike_by verdict other verdict (at_once ByWant) refl b (wants_last verdict.steps verdict.closing)
one_free coming one verdict other (inr a) (inr b) = one verdict other a b

one_given : (at : Input) (given : Option (List ℕ)) (next : List ℕ → Coming) → ((bytes : List ℕ) → IsOneVerdict (next bytes)) → IsOneVerdict (OfGiven at given next)
one_given at None next one = one_only (at_once (ByRefusal (refusal.Input at)))
one_given at (Some bytes) next one = one bytes

one_file : (at : Input) (ask : Ask) (next : List ℕ → Coming) → ((bytes : List ℕ) → IsOneVerdict (next bytes)) → IsOneVerdict (OfFile at ask next)
one_file at ask next one verdict other (given, (rest, is, a)) (told, (more, also, b)) =
    alike_by verdict other (before (Loads ask given) rest) (before (Loads ask told) more) is also (
      refl,
      λ (same : given ≡ told).
          one_free (OfGiven at given next) (one_given at given next one) rest more a
          (subst (λ (bytes : Option (List ℕ)). Free (OfGiven at bytes next) more) (sym same) b),
    )

one_right : (at : Input) (is : Bool) (next : Coming) → IsOneVerdict next → IsOneVerdict (OfRight at is next)
one_right at true next one = one
one_right at false next one = one_only (at_once (ByRefusal (refusal.Input at)))

-- ---- logs

one_log : (next : PlainSource → Coming) → ((source : PlainSource) → IsOneVerdict (next source)) → (bytes : List ℕ) → IsOneVerdict (OfLog next bytes)
one_log next each bytes verdict other (inl (source, is, a)) (inl (source', is', b)) =
    each source verdict other a (subst (λ (s : PlainSource). next s other) (same_source bytes source' source is' is) b)
one_log next each bytes verdict other (inl (source, is, a)) (inr (none, b)) = absurd (none source is)
one_log next each bytes verdict other (inr (none, a)) (inl (source, is, b)) = absurd (none source is)
one_log next each bytes verdict other (inr (none, a)) (inr (none', b)) = one_only (at_once (ByRefusal (refusal.Input input.Log))) verdict other a b

one_log_file : (name : List ℕ) (next : PlainSource → Coming) → ((source : PlainSource) → IsOneVerdict (next source)) → IsOneVerdict (OfFile input.Log (ask_file name most_log) (OfLog next))
one_log_file name next each = one_file input.Log (ask_file name most_log) (OfLog next) (one_log next each)

one_opening : (from : Option (List ℕ)) (next : PlainSource → Coming) → ((source : PlainSource) → IsOneVerdict (next source)) → IsOneVerdict (OfOpening from next)
one_opening None next each = each first_source
one_opening (Some name) next each = one_log_file name next each

one_own : (source : PlainSource) (id : List ℕ) (next : Coming) → IsOneVerdict next → IsOneVerdict (OfOwn source.named id next)
one_own source id next one = one_right input.Journal (names_no_other source.named id) next one

one_script : (from log : Option (List ℕ)) (script : Option (List Request)) → IsOneVerdict (OfScript from log script)
one_script from log None = one_only (at_once (ByRefusal (refusal.Input input.Script)))
one_script from log (Some requests) = one_opening from (λ source. Only (stamp_verdict (session_of source.stored) log requests)) (λ source. one_only (stamp_verdict (session_of source.stored) log requests))

-- ---- hub

one_hub_script : (logs : Option (List ℕ)) (lines : Option (List HubLine)) → IsOneVerdict (OfHubScript logs lines)
one_hub_script logs None = one_only (at_once (ByRefusal (refusal.Input input.Script)))
one_hub_script logs (Some lines) = one_only (hub_verdict logs lines)

-- ---- programs

same_tree : (tree other : ProgramTree) → a_program tree ≡ a_program other → tree ≡ other
same_tree tree other is = cc

no_line : (found : Option CheckFault) (line : List ℕ) {fact : Type 0} → found ≡ None → IsLineOf found line → fact
no_line None line none is = absurd is
no_line (Some fault) line none is = absurd cc

-- a program without faults is not refused
not_refused : IsOneReading → (bytes line : List ℕ) (tree : ProgramTree) {fact : Type 0} → IsReading bytes (a_program tree) → first_fault tree ≡ None → IsRefused bytes line → fact
not_refused one bytes line tree read sound refused =
    no_line (first_fault tree) line sound
    (subst (λ (r : Reading). IsRefusedBy r (length bytes) line) (one bytes refused.reading (a_program tree) refused.is_reading read) refused.refused)

abbrev pub AreLinesAlike : List ℕ → List ℕ → Type 0
AreLinesAlike line other = (line ≡ other) ⊎ ((at : ℕ) × (also : ℕ) × (line ≡ syntax_line at) × (other ≡ syntax_line also))

fault_lines : (found : Option CheckFault) (line other : List ℕ) → IsLineOf found line → IsLineOf found other → line ≡ other
fault_lines None line other a b = absurd a
fault_lines (Some fault) line other a b = a ∙ sym b

lines_alike : (reading : Reading) (bytes : ℕ) (line other : List ℕ) → IsRefusedBy reading bytes line → IsRefusedBy reading bytes other → AreLinesAlike line other
lines_alike (a_program tree) bytes line other a b = inl (fault_lines (first_fault tree) line other a b)
lines_alike no_program bytes line other a b = inr (a.0, b.0, a.2, b.2)
lines_alike (too_large what count) bytes line other a b = inl (a ∙ sym b)

refused_alike : IsOneReading → (bytes line other : List ℕ) → IsRefused bytes line → IsRefused bytes other → AreLinesAlike line other
refused_alike one bytes line other a b =
    let same : b.reading ≡ a.reading = one bytes b.reading a.reading b.is_reading a.is_reading in
    lines_alike a.reading (length bytes) line other a.refused (subst (λ (r : Reading). IsRefusedBy r (length bytes) other) same b.refused)

-- two refusals of a text
abbrev pub refused_as : List ℕ → Verdict
refused_as line = at_once (ByRefusal (refusal.Program line))

told_alike : (line other : List ℕ) → AreLinesAlike line other → Alike (refused_as line) (refused_as other)
told_alike line other (inl same) = inl (ap (λ (l : List ℕ). ByRefusal (refusal.Program l)) same)
told_alike line other (inr (at, also, first, second)) =
    inr (inr (inr ((at, ap (λ (l : List ℕ). ByRefusal (refusal.Program l)) first), (also, ap (λ (l : List ℕ). ByRefusal (refusal.Program l)) second))))

one_program : IsOneReading → (next : ProgramTree → Coming) → ((tree : ProgramTree) → IsOneVerdict (next tree)) → (bytes : List ℕ) → IsOneVerdict (OfProgram next bytes)
one_program one next each bytes verdict other (inl (tree, sound, a)) (inl (tree', sound', b)) =
    let same : tree' ≡ tree = same_tree tree' tree (one bytes (a_program tree') (a_program tree) sound'.read sound.read) in
    each tree verdict other a (subst (λ (t : ProgramTree). next t other) same b)
one_program one next each bytes verdict other (inl (tree, sound, a)) (inr (line, refused, b)) = not_refused one bytes line tree sound.read sound.sound refused
one_program one next each bytes verdict other (inr (line, refused, a)) (inl (tree, sound, b)) = not_refused one bytes line tree sound.read sound.sound refused
one_program one next each bytes verdict other (inr (line, refused, a)) (inr (line', refused', b)) =
    alike_by verdict other (refused_as line) (refused_as line') a b (told_alike line line' (refused_alike one bytes line line' refused refused'))

-- ---- persisted values

same_json : (bytes : List ℕ) (v w : PlainValue) → IsJsonOf bytes v → IsJsonOf bytes w → w ≡ v
same_json bytes v w of_v of_w = same_value w v of_w.is of_v.is of_w.fit.1 of_v.fit.1 (same_Some (data_of w) (data_of v) (sym of_w.reads ∙ of_v.reads))

one_json : (next : PlainValue → Coming) → ((v : PlainValue) → IsOneVerdict (next v)) → (bytes : List ℕ) → IsOneVerdict (OfJson next bytes)
one_json next each bytes verdict other (inl (v, is, a)) (inl (w, is', b)) =
    each v verdict other a (subst (λ (u : PlainValue). next u other) (same_json bytes v w is is') b)
one_json next each bytes verdict other (inl (v, is, a)) (inr (none, b)) = absurd (none v is)
one_json next each bytes verdict other (inr (none, a)) (inl (w, is, b)) = absurd (none w is)
one_json next each bytes verdict other (inr (none, a)) (inr (none', b)) = one_only (at_once (ByRefusal (refusal.Input input.Persisted))) verdict other a b

one_persisted : (name : Option (List ℕ)) (next : PlainValue → Coming) → ((v : PlainValue) → IsOneVerdict (next v)) → IsOneVerdict (OfPersisted name next)
one_persisted None next each = each nil
one_persisted (Some name) next each = one_file input.Persisted (ask_file name most_json) (OfJson next) (one_json next each)

-- ---- replay

same_world : (counts id bytes : List ℕ) (w v : WorldRecord) → IsSnapshot counts id bytes w → IsSnapshot counts id bytes v → v ≡ w
same_world counts id bytes w v is is' =
    same_Some v w
    (sym (world-again counts v (world-fits counts v is'.world is'.valid)) ∙ ap (world_in counts) (sym is'.spelled ∙ is.spelled)
    ∙ world-again counts w (world-fits counts w is.world is.valid))

one_snapshot : (request : ReplayRequest) (tree : ProgramTree) (id : List ℕ) (log : List Entry) (bytes : List ℕ) → IsOneVerdict (OfSnapshot request tree id log bytes)
one_snapshot request tree id log bytes verdict other (inl (w, is, a)) (inl (v, is', b)) =
    let same = same_world (field_counts tree) id bytes w v is is' in
    one_only (resumed_verdict request tree log w) verdict other a (subst (λ (u : WorldRecord). Only (resumed_verdict request tree log u) other) same b)
one_snapshot request tree id log bytes verdict other (inl (w, is, a)) (inr (none, b)) = absurd (none w is)
one_snapshot request tree id log bytes verdict other (inr (none, a)) (inl (w, is, b)) = absurd (none w is)
one_snapshot request tree id log bytes verdict other (inr (none, a)) (inr (none', b)) = one_only (at_once (ByRefusal (refusal.Input input.Snapshot))) verdict other a b

one_start : (from : Option (List ℕ)) (request : ReplayRequest) (founding : Founding) (id : List ℕ) (log : List Entry) → IsOneVerdict (Starts from request founding id log)
one_start None request founding id log = one_only _
one_start (Some from) request founding id log = one_file input.Snapshot (ask_file from most_snapshot) (OfSnapshot request founding.tree id log) (one_snapshot request founding.tree id log)

one_founded : (request : ReplayRequest) (text : List ℕ) (source : PlainSource) (founding : Founding) → IsOneVerdict (OfFounded request text source founding)
one_founded request text source founding =
    let id = session_id_of request.name text founding.persisted in
    one_own source id (Starts request.from request founding id source.stored.log) (one_start request.from request founding id source.stored.log)

one_recorded : (request : ReplayRequest) (text : List ℕ) (tree : ProgramTree) (source : PlainSource) → IsOneVerdict (OfRecorded request text tree source)
one_recorded request text tree source =
    one_persisted request.persisted (λ v. OfFounded request text source (founded tree v)) (λ v. one_founded request text source (founded tree v))

one_tree : (request : ReplayRequest) (text : List ℕ) (tree : ProgramTree) → IsOneVerdict (OfTree request text tree)
one_tree request text tree = one_log_file request.log (OfRecorded request text tree) (one_recorded request text tree)

-- ---- inspect

one_queries : (founding : Founding) (id : List ℕ) (log : List Entry) (queries : Option (List Query)) → IsOneVerdict (OfQueries founding id log queries)
one_queries founding id log None = one_only (at_once (ByRefusal (refusal.Input input.Queries)))
one_queries founding id log (Some queries) = one_only (inspect_verdict founding id log queries)

one_keyframes : (every : ℕ) (queries : List ℕ) (founding : Founding) (id : List ℕ) (log : List Entry) → IsOneVerdict (OfKeyframes every queries founding id log)
one_keyframes every queries founding id log =
    let of_bytes : List ℕ → Coming = λ bytes. OfQueries founding id log (queries_of bytes) in
    one_right input.Every (keeps_few every log) (OfFile input.Queries (ask_file queries most_queries) of_bytes)
    (one_file input.Queries (ask_file queries most_queries) of_bytes (λ bytes. one_queries founding id log (queries_of bytes)))

one_time_line : (request : InspectRequest) (text : List ℕ) (source : PlainSource) (founding : Founding) → IsOneVerdict (OfTimeLine request text source founding)
one_time_line request text source founding =
    let id = session_id_of request.name text founding.persisted in
    one_own source id (OfKeyframes request.every request.queries founding id source.stored.log) (one_keyframes request.every request.queries founding id source.stored.log)

one_inspected_log : (request : InspectRequest) (text : List ℕ) (tree : ProgramTree) (source : PlainSource) → IsOneVerdict (OfInspectedLog request text tree source)
one_inspected_log request text tree source =
    one_persisted request.persisted (λ v. OfTimeLine request text source (founded tree v)) (λ v. one_time_line request text source (founded tree v))

one_inspect : (request : InspectRequest) (text : List ℕ) (tree : ProgramTree) → IsOneVerdict (OfInspect request text tree)
one_inspect request text tree = one_log_file request.log (OfInspectedLog request text tree) (one_inspected_log request text tree)

-- ---- trace

one_traced : (request : TraceRequest) (text : List ℕ) (source : PlainSource) (founding : Founding) → IsOneVerdict (OfTraced request text source founding)
one_traced request text source founding =
    let id = session_id_of request.name text founding.persisted in
    let told : Verdict = trace_verdict founding id source.stored.log request.from request.to in
    one_own source id (Only told) (one_only told)

one_traced_log : (request : TraceRequest) (text : List ℕ) (tree : ProgramTree) (source : PlainSource) → IsOneVerdict (OfTracedLog request text tree source)
one_traced_log request text tree source =
    one_persisted request.persisted (λ v. OfTraced request text source (founded tree v)) (λ v. one_traced request text source (founded tree v))

one_trace : (request : TraceRequest) (text : List ℕ) (tree : ProgramTree) → IsOneVerdict (OfTrace request text tree)
one_trace request text tree = one_log_file request.log (OfTracedLog request text tree) (one_traced_log request text tree)

-- ---- join

one_view_script : (request : JoinRequest) (text : List ℕ) (tree : ProgramTree) (script : Option (List PlainLine)) → IsOneVerdict (OfViewScript request text tree script)
one_view_script request text tree None = one_only (at_once (ByRefusal (refusal.Input input.Script)))
one_view_script request text tree (Some lines) =
    one_persisted request.persisted (λ v. Only (at_once (ByVisit (visit_to request text lines (founded tree v))))) (λ v. one_only (at_once (ByVisit (visit_to request text lines (founded tree v)))))

one_view : (request : JoinRequest) (text : List ℕ) (tree : ProgramTree) → IsOneVerdict (OfView request text tree)
one_view request text tree =
    one_file input.Script (ask_file request.script most_script) (λ bytes. OfViewScript request text tree (view_script_of bytes)) (λ bytes. one_view_script request text tree (view_script_of bytes))

one_join : (request : JoinRequest) (text : List ℕ) (tree : ProgramTree) → IsOneVerdict (OfJoin request text tree)
one_join request text tree = one_right input.Address (is_address (encode_utf8_all request.address)) (OfView request text tree) (one_view request text tree)

-- ---- join, where the lines come to the run

one_live : (request : LiveRequest) (text : List ℕ) (tree : ProgramTree) → IsOneVerdict (OfLive request text tree)
one_live request text tree =
    one_right input.Address (is_address (encode_utf8_all request.address)) (OfLiveBegun request text tree)
    (one_persisted request.persisted (λ v. Only (at_once (ByLive (live_of request text (founded tree v))))) (λ v. one_only (at_once (ByLive (live_of request text (founded tree v))))))

-- ---- reflect

one_looked : (log : Option (List ℕ)) (next : Coming) → IsOneVerdict next → IsOneVerdict (OfLooked log next)
one_looked None next one verdict other first second = one verdict other first second
one_looked (Some name) next one verdict other (rest, is, a) (more, also, b) =
    alike_by verdict other (before (Looks name) rest) (before (Looks name) more) is also (refl, one_free next one rest more a b)

one_ready : (reflection : PlainReflection) → IsOneVerdict (OfReady reflection)
one_ready reflection = one_looked reflection.log (Only (at_once (ByReflecting reflection))) (one_only (at_once (ByReflecting reflection)))

one_reflected : (request : ReflectRequest) (id : List ℕ) (source : PlainSource) → IsOneVerdict (OfReflected request id source)
one_reflected request id source =
    let reflection : PlainReflection = reflection_of request id (session_of source.stored) in
    one_own source id (OfReady reflection) (one_ready reflection)

one_unkept : (request : ReflectRequest) (id : List ℕ) → IsOneVerdict (OfUnkept request id)
one_unkept request id = one_opening request.from (OfReflected request id) (one_reflected request id)

one_journal : (journal : Option (List ℕ)) (without : Coming) (with_one : List ℕ → Coming) → IsOneVerdict without → ((name : List ℕ) → IsOneVerdict (with_one name)) → IsOneVerdict (OfJournal journal without with_one)
one_journal None without with_one one each = one
one_journal (Some name) without with_one one each = each name

one_served : (request : ReflectRequest) (id : List ℕ) → IsOneVerdict (OfServed request id)
one_served request id =
    one_journal request.journal (OfUnkept request id) (λ journal. Only (at_once (ByKeeping (keeping_of request id journal)))) (one_unkept request id)
    (λ journal. one_only (at_once (ByKeeping (keeping_of request id journal))))

one_reflect : (request : ReflectRequest) (text : List ℕ) → IsOneVerdict (OfReflect request text)
one_reflect request text =
    let served : PlainValue → Coming = λ v. OfServed request (session_id_of request.name text v) in
    one_right input.Address (is_address (encode_utf8_all request.address)) (OfPersisted request.persisted served)
    (one_persisted request.persisted served (λ v. one_served request (session_id_of request.name text v)))

-- ---- host

behind_alike : (steps : List Step) (verdict other : Verdict) → Alike verdict other → Alike (behind steps verdict) (behind steps other)
behind_alike [] verdict other alike = alike
behind_alike (step ∷ steps) verdict other alike =
    step_alike step (AreAlike (steps ++ verdict.steps) verdict.closing (steps ++ other.steps) other.closing) (behind_alike steps verdict other alike)

one_behind : (steps : List Step) (next : Coming) → IsOneVerdict next → IsOneVerdict (ThenAll steps next)
one_behind steps next one verdict other (rest, is, a) (more, also, b) =
    alike_by verdict other (behind steps rest) (behind steps more) is also (behind_alike steps rest more (one rest more a b))

one_host_ready : (hosting : PlainHosting) → IsOneVerdict (OfHostReady hosting)
one_host_ready hosting =
    one_behind (look_steps hosting.logs) (Free (Only (at_once (ByHosting hosting)))) (one_free (Only (at_once (ByHosting hosting))) (one_only (at_once (ByHosting hosting))))

one_host_ids : (request : HostRequest) (on_demand : Bool) (ids : List SessionId) → IsOneVerdict (OfHostIds request on_demand ids)
one_host_ids request on_demand ids =
    let ready : Coming = OfHostReady (hosting_of request on_demand ids) in
    one_right input.Config (are_apart ids) (OfRight input.Address (is_address (encode_utf8_all request.address)) ready)
    (one_right input.Address (is_address (encode_utf8_all request.address)) ready (one_host_ready (hosting_of request on_demand ids)))

one_host_programs : IsOneReading → (request : HostRequest) (config : Config) (read : List ReadProgram) (names : List (List ℕ)) → IsOneVerdict (OfHostPrograms request config read names)
one_host_programs one request config read [] = one_host_ids request config.on_demand (host_ids read config.sessions)
one_host_programs one request config read (name ∷ names) =
    let more : List ℕ → List ReadProgram = λ bytes. read ++ record { name = name; text = bytes } ∷ [] in
    one_file input.Program (ask_file name most_program_bytes) (λ bytes. OfProgram (λ tree. OfHostPrograms request config (more bytes) names) bytes)
    (λ bytes. one_program one (λ tree. OfHostPrograms request config (more bytes) names) (λ tree. one_host_programs one request config (more bytes) names) bytes)

one_config : IsOneReading → (request : HostRequest) (config : Option Config) → IsOneVerdict (OfConfig request config)
one_config one request None = one_only (at_once (ByRefusal (refusal.Input input.Config)))
one_config one request (Some config) = one_host_programs one request config [] (programs_of config.sessions)

-- ---- the commands

one_words : IsOneReading → (command : Option Command) → IsOneVerdict (OfWords command)
one_words one None = one_only (at_once (ByRefusal refusal.Usage))
one_words one (Some (Stamp script from log)) =
    one_file input.Script (ask_file script most_script) (λ bytes. OfScript from log (script_of bytes)) (λ bytes. one_script from log (script_of bytes))
one_words one (Some (Check program)) =
    one_file input.Program (ask_file program most_program_bytes) (OfProgram (λ tree. Only (count_verdict tree))) (one_program one (λ tree. Only (count_verdict tree)) (λ tree. one_only (count_verdict tree)))
one_words one (Some (Replay request)) =
    one_file input.Program (ask_file request.program most_program_bytes) (λ bytes. OfProgram (OfTree request bytes) bytes)
    (λ bytes. one_program one (OfTree request bytes) (one_tree request bytes) bytes)
one_words one (Some (Inspect request)) =
    one_file input.Program (ask_file request.program most_program_bytes) (λ bytes. OfProgram (OfInspect request bytes) bytes)
    (λ bytes. one_program one (OfInspect request bytes) (one_inspect request bytes) bytes)
one_words one (Some (Trace request)) =
    one_file input.Program (ask_file request.program most_program_bytes) (λ bytes. OfProgram (OfTrace request bytes) bytes)
    (λ bytes. one_program one (OfTrace request bytes) (one_trace request bytes) bytes)
one_words one (Some (Votes log)) =
    one_log_file log (λ source. Only (votes_verdict source.stored.log)) (λ source. one_only (votes_verdict source.stored.log))
one_words one (Some (Hub script logs)) =
    one_file input.Script (ask_file script most_script) (λ bytes. OfHubScript logs (hub_script_of bytes)) (λ bytes. one_hub_script logs (hub_script_of bytes))
one_words one (Some (Join request)) =
    one_file input.Program (ask_file request.program most_program_bytes) (λ bytes. OfProgram (OfJoin request bytes) bytes)
    (λ bytes. one_program one (OfJoin request bytes) (one_join request bytes) bytes)
one_words one (Some (Live request)) =
    one_file input.Program (ask_file request.program most_program_bytes) (λ bytes. OfProgram (OfLive request bytes) bytes)
    (λ bytes. one_program one (OfLive request bytes) (one_live request bytes) bytes)
one_words one (Some (Reflect request)) =
    one_file input.Program (ask_file request.program most_program_bytes) (λ bytes. OfProgram (λ tree. OfReflect request bytes) bytes)
    (λ bytes. one_program one (λ tree. OfReflect request bytes) (λ tree. one_reflect request bytes) bytes)
one_words one (Some (Host request)) =
    one_file input.Config (ask_file request.config most_config) (λ bytes. OfConfig request (config_of bytes)) (λ bytes. one_config one request (config_of bytes))
one_words one (Some (Drill request)) = one_only (at_once (ByDrill request))

pub is_function : IsOneReading → IsFunction
is_function one command = one_free (OfWords command) (one_words one command)
