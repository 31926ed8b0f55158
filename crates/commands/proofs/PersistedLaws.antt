-- A replay whose persisted value was read goes on as its request says.
use Rattle.std.proofs.Common.{◌≡◌, ℕ, Bool, true, false, List, Option, Some, None, inl, inr, subst, sym}
use Rattle.tea_base.specs.declared.entry.Entry.{Entry}
use Rattle.model_tree.specs.Tree.{ProgramTree}
use Rattle.model_solved.specs.Founding.{Founding}
use Rattle.model_value.specs.Plain.{PlainValue, nil}
use Rattle.model_value.specs.View.{plain}
use Rattle.model_value.specs.declared.value.Value.TheVariants.{Nil}
use Rattle.model_value.proofs.Plains.{plain-Nil}
use Rattle.run_steps.specs.Steps.{Ask}
use Rattle.command_outcome.specs.declared.outcome.Input.{Input}
use Rattle.command_outcome.specs.declared.outcome.Input.TheVariants as input
use Rattle.command_words.specs.declared.words.ReplayRequest.{ReplayRequest}
use Rattle.persist_json.specs.JsonOf.{most_json}
use Rattle.commands.specs.Verdict.{Coming, Free, OfFile, OfFounded, OfJson, OfPersisted, OfRecorded, OfRight, PlainSource, Starts, Verdict, founded, names_no_other, session_id_of, ask_file}

-- what a request asks for once its persisted value is known does not depend on where that is named
abbrev pub renamed : Option (List ℕ) → ReplayRequest → ReplayRequest
renamed name request = record request { persisted = name }

pub starts_alike : (from name : Option (List ℕ)) (request : ReplayRequest) (founding : Founding) (id : List ℕ) (log : List Entry) (verdict : Verdict)
    → Starts from (renamed name request) founding id log verdict → Starts from request founding id log verdict
starts_alike None name request founding id log verdict comes = comes
starts_alike (Some from) name request founding id log verdict comes = comes

-- where the log is not the journal of another session
right_alike : (is : Bool) (one other : Coming) (verdict : Verdict) → (one verdict → other verdict) → OfRight input.Journal is one verdict → OfRight input.Journal is other verdict
right_alike true one other verdict goes comes = goes comes
right_alike false one other verdict goes refused = refused

pub founded_alike : (name : Option (List ℕ)) (request : ReplayRequest) (text : List ℕ) (source : PlainSource) (founding : Founding) (verdict : Verdict)
    → OfFounded (renamed name request) text source founding verdict → OfFounded request text source founding verdict
founded_alike name request text source founding verdict =
    let id = session_id_of request.name text founding.persisted in
    right_alike (names_no_other source.named id) (Starts request.from (renamed name request) founding id source.stored.log) (Starts request.from request founding id source.stored.log) verdict
    (starts_alike request.from name request founding id source.stored.log verdict)

-- where each file's bytes lead on alike, so does the file
pub file_alike : (at : Input) (ask : Ask) (one other : List ℕ → Coming) → ((bytes : List ℕ) (verdict : Verdict) → one bytes verdict → other bytes verdict)
    → (verdict : Verdict) → OfFile at ask one verdict → OfFile at ask other verdict
file_alike at ask one other goes verdict (None, (rest, is, comes)) = (None, (rest, is, comes))
file_alike at ask one other goes verdict (Some bytes, (rest, is, inl want)) = (Some bytes, (rest, is, inl want))
file_alike at ask one other goes verdict (Some bytes, (rest, is, inr comes)) = (Some bytes, (rest, is, inr (goes bytes rest comes)))

pub json_alike : (one other : PlainValue → Coming) → ((v : PlainValue) (verdict : Verdict) → one v verdict → other v verdict)
    → (bytes : List ℕ) (verdict : Verdict) → OfJson one bytes verdict → OfJson other bytes verdict
json_alike one other goes bytes verdict (inl (v, is, comes)) = inl (v, is, goes v verdict comes)
json_alike one other goes bytes verdict (inr refused) = inr refused

-- the persisted value is in a file
pub recorded_by_file : (request : ReplayRequest) (name : List ℕ) (other : Option (List ℕ)) (text : List ℕ) (tree : ProgramTree) (source : PlainSource) (verdict : Verdict) → request.persisted ≡ Some name
    → OfFile input.Persisted (ask_file name most_json) (OfJson (λ v. OfFounded (renamed other request) text source (founded tree v))) verdict → Free (OfRecorded request text tree source) verdict
recorded_by_file request name other text tree source verdict named comes =
    let asked = λ (v : PlainValue). OfFounded request text source (founded tree v) in
    let left = λ (v : PlainValue). OfFounded (renamed other request) text source (founded tree v) in
    let alike = json_alike left asked (λ v verdict came. founded_alike other request text source (founded tree v) verdict came) in
    inr (subst (λ (p : Option (List ℕ)). OfPersisted p asked verdict) (sym named) (file_alike input.Persisted (ask_file name most_json) (OfJson left) (OfJson asked) alike verdict comes))

-- there is none
pub recorded_without : (request : ReplayRequest) (other : Option (List ℕ)) (text : List ℕ) (tree : ProgramTree) (source : PlainSource) (verdict : Verdict) → request.persisted ≡ None
    → Free (OfFounded (renamed other request) text source (founded tree nil)) verdict → Free (OfRecorded request text tree source) verdict
recorded_without request other text tree source verdict named (inl want) = inl want
recorded_without request other text tree source verdict named (inr comes) =
    let asked = λ (v : PlainValue). OfFounded request text source (founded tree v) in
    inr (subst (λ (p : Option (List ℕ)). OfPersisted p asked verdict) (sym named) (founded_alike other request text source (founded tree nil) verdict comes))

-- the program has its persisted value, and the session its id
pub founded_so : (next : Founding → List ℕ → Coming) (name text id : List ℕ) (founding asked : Founding) (verdict : Verdict) → founding ≡ asked → id ≡ session_id_of name text asked.persisted
    → Free (next founding id) verdict → Free (next asked (session_id_of name text asked.persisted)) verdict
founded_so next name text id founding asked verdict same is comes =
    subst (λ (f : Founding). Free (next f (session_id_of name text asked.persisted)) verdict) same (subst (λ (i : List ℕ). Free (next founding i) verdict) is comes)

-- ---- whatever follows the persisted value

pub persisted_by_file : (name : Option (List ℕ)) (file : List ℕ) (next : PlainValue → Coming) (verdict : Verdict) → name ≡ Some file → OfFile input.Persisted (ask_file file most_json) (OfJson next) verdict → OfPersisted name next verdict
persisted_by_file name file next verdict is comes = subst (λ (p : Option (List ℕ)). OfPersisted p next verdict) (sym is) comes

pub persisted_without : (name : Option (List ℕ)) (next : PlainValue → Coming) (verdict : Verdict) → name ≡ None → next (plain Nil) verdict → OfPersisted name next verdict
persisted_without name next verdict is comes = subst (λ (p : Option (List ℕ)). OfPersisted p next verdict) (sym is) (subst (λ (v : PlainValue). next v verdict) plain-Nil comes)

pub persisted_freely : (name : Option (List ℕ)) (next : PlainValue → Coming) (verdict : Verdict) → name ≡ None → Free (next (plain Nil)) verdict → Free (OfPersisted name next) verdict
persisted_freely name next verdict is (inl want) = inl want
persisted_freely name next verdict is (inr comes) = inr (persisted_without name next verdict is comes)
