-- The run of a service, and what is put and told after its posts.
use Rattle.std.proofs.Common.{◌≡◌, inr, ℕ, ◌+◌, ◌≤◌, Bool, List, [], ◌∷◌, ◌++◌, length, Option, None, Result, Ok, Err, IfOk, refl, sym, ap, ◌∙◌, subst, append_assoc}
use Rattle.std.specs.Prelude.{⊤}
use Rattle.std.proofs.lemmas.List.{length-map}
use Rattle.tea_base.specs.declared.entry.SessionId.{SessionId}
use Rattle.tea_io.specs.declared.net.NetCall.{NetCall}
use Rattle.tea_io.specs.declared.net.NetCall.TheVariants.{Listen}
use Rattle.run_steps.specs.Steps.{Step}
use Rattle.run_steps.specs.Outside.{FilesTell, OutputTells, NetTells, LinksTell, files_side, files_side_tells, outside, outside_tells}
use Rattle.run_steps.proofs.Beside.{all_beside_net}
use Rattle.run_steps.proofs.Joined.{acts_behind}
use Rattle.reflector_core.specs.SessionState.{SessionState}
use Rattle.reflect_server.specs.declared.reflection.ServeFault.{ServeFault}
use Rattle.reflect_server.specs.declared.reflection.ServeFault.TheVariants.{ListenFault, WantOfMemory}
use Rattle.host_posts.specs.Hosts.{HostsOn}
use Rattle.host_posts.specs.Shares.{SharesTell}
use Rattle.host_posts.specs.declared.posting.HostedOn.{HostedOn}
use Rattle.command_words.specs.declared.words.ServingSpan.TheVariants as serving_span
use Rattle.command_reflect.specs.declared.reflection.LogPlace.{LogPlace}
use Rattle.command_host.specs.Hosting.{log_names, rooms_for, session_puts}
use Rattle.commands.specs.Verdict.{ByHosting, ByNetFault, ByWant, Coming, Free, OfHostPuts, Only, PlainHosting, ThenAll, Verdict, behind, made_puts, put_steps}
use Rattle.croquet.specs.declared.status.Status.{Status}
use Rattle.croquet.specs.Calls.{Completes, CompletesFreely, CompletesPuts, fault_ending}
use Rattle.croquet.specs.Run.{on_net_fault, OutOfMemory, OfHostedOn, RanAsService, Reaches, TellsEnding}
use Rattle.croquet.proofs.Acts.{ActsSo}
use Rattle.croquet.proofs.HostRuns.{enough, ran_behind, ran_short}
use Rattle.croquet.proofs.Runs.{RanSo, ran_closed, ran_leading}
use Rattle.croquet.proofs.VisitRuns.{ran_beside}

-- ---- puts behind which more is to come

module _ {F W : Type 0} (files : FilesTell F) (out : OutputTells W) where
  abbrev PutsSo : List (List ℕ) → List ℕ → List SessionId → List SessionState → Result ⊤ Status → F → W → F → W → Type 0
  PutsSo logs prefix ids sessions answer f w f' w' = CompletesPuts (files_side_tells files out) logs prefix ids sessions answer (files_side f w) (files_side f' w')

  -- steps that are done, or at which the run is cut, may come freely
  pub completes_freely
      : (steps : List Step) (answer : Result ⊤ Status) (f f' : F) (w w' : W) → Completes (files_side_tells files out) steps answer (files_side f w) (files_side f' w')
      → CompletesFreely (files_side_tells files out) steps answer (files_side f w) (files_side f' w')
  completes_freely steps (Ok done) f f' w w' completes = completes
  completes_freely steps (Err result) f f' w w' completes =
      λ verdict. ran_leading files out (ThenAll steps (Free (Only verdict))) (Free (ThenAll steps (Free (Only verdict)))) f f' w w' result (λ v comes. inr comes)
      (ran_short files out steps (Only verdict) f f' w w' result completes)

  module _ (places : List LogPlace) (prefix : List ℕ) (ids : List SessionId) (sessions : List SessionState) (f mid f' : F) (w next w' : W) (listed : ℕ) (is : listed ≡ length places) where
    as_listed : listed ≡ length (log_names places)
    as_listed = is ∙ sym (length-map places (λ (place : LogPlace). place.name))

    -- the listed sessions were put, and then those that were made on demand, or the run was cut there
    pub puts_on
        : (answer : Result ⊤ Status) → ActsSo files out (put_steps (session_puts (log_names places) sessions)) None f w mid next
        → CompletesFreely (files_side_tells files out) (put_steps (made_puts listed prefix ids sessions)) answer (files_side mid next) (files_side f' w')
        → PutsSo (log_names places) prefix ids sessions answer f w f' w'
    puts_on (Ok done) acts made =
        let steps = put_steps (session_puts (log_names places) sessions) in
        acts_behind (files_side_tells files out) steps (put_steps (made_puts (length (log_names places)) prefix ids sessions)) None (files_side f w) (files_side mid next) (files_side f' w') acts
        (subst (λ (count : ℕ). ActsSo files out (put_steps (made_puts count prefix ids sessions)) None mid next f' w') as_listed made)
    puts_on (Err result) acts made =
        λ verdict.
        (let steps = put_steps (session_puts (log_names places) sessions) in
        ran_behind files out steps (Free (ThenAll (put_steps (made_puts (length (log_names places)) prefix ids sessions)) (Free (Only verdict)))) f f' w w' result mid next acts
        (subst (λ (count : ℕ). RanSo files out (Free (ThenAll (put_steps (made_puts count prefix ids sessions)) (Free (Only verdict)))) mid next f' w' result) as_listed (made verdict)))

    -- all were put, and the run goes on after that
    pub ran_after_puts
        : (verdict : ℕ → Verdict) (result : Status) → ActsSo files out (put_steps (session_puts (log_names places) sessions) ++ put_steps (made_puts (length (log_names places)) prefix ids sessions)) None f w mid next
        → RanSo files out (Free (Only (verdict listed))) mid next f' w' result → RanSo files out (OfHostPuts (log_names places) prefix ids sessions (verdict (length (log_names places)))) f w f' w' result
    ran_after_puts verdict result acts last =
        let first = put_steps (session_puts (log_names places) sessions) in
        let made = put_steps (made_puts (length (log_names places)) prefix ids sessions) in
        let ran : RanSo files out (Free (Only (verdict (length (log_names places))))) mid next f' w' result = subst (λ (count : ℕ). RanSo files out (Free (Only (verdict count))) mid next f' w' result) as_listed last in
        record {
          steps = (first ++ made) ++ ran.steps;
          ending = ran.ending;
          course = record {
            verdict = behind first (behind made ran.course.verdict);
            comes = (behind made ran.course.verdict, refl, inr (ran.course.verdict, refl, ran.course.comes));
            more = ran.course.more;
            concludes = ran.course.concludes;
            all =
                ap (λ (rest : List Step). (first ++ made) ++ rest) ran.course.all ∙ sym (append_assoc (first ++ made) ran.course.verdict.steps ran.course.more)
                ∙ ap (λ (steps : List Step). steps ++ ran.course.more) (append_assoc first made ran.course.verdict.steps);
          };
          does = record {
            cut = ran.does.cut;
            done = ran.does.done;
            acts = acts_behind (files_side_tells files out) (first ++ made) ran.steps ran.does.cut (files_side f w) (files_side mid next) ran.does.done acts ran.does.acts;
            left = ran.does.left;
            goes_back = ran.does.goes_back;
            told = ran.does.told;
          };
        }

  -- a listed session was not put
  pub puts_short
      : (logs : List (List ℕ)) (prefix : List ℕ) (ids : List SessionId) (sessions : List SessionState) (f f' : F) (w w' : W) (result : Status)
      → Completes (files_side_tells files out) (put_steps (session_puts logs sessions)) (Err result) (files_side f w) (files_side f' w')
      → PutsSo logs prefix ids sessions (Err result) f w f' w'
  puts_short logs prefix ids sessions f f' w w' result completes =
      λ verdict. ran_short files out (put_steps (session_puts logs sessions)) (ThenAll (put_steps (made_puts (length logs) prefix ids sessions)) (Free (Only verdict))) f f' w w' result completes

-- ---- after the posts

-- the fault of posts that have no session to tell of was told
pub ran_unposted
    : {F W : Type 0} (files : FilesTell F) (out : OutputTells W) (logs : List (List ℕ)) (prefix : List ℕ) (fault : ServeFault) (f : F) (w w' : W) (result : Status)
    → TellsEnding out (fault_ending fault) w w' result → RanSo files out (OfHostedOn logs prefix (Err fault)) f w f w' result
ran_unposted files out logs prefix ListenFault f w w' result told = ran_closed files out ByNetFault on_net_fault f w w' result (refl, refl) told
ran_unposted files out logs prefix WantOfMemory f w w' result told = ran_closed files out ByWant OutOfMemory f w w' result (refl, refl) told

-- each session that posts have hosted has a place, or memory that was taken
pub rooms_suffice
    : {N S L : Type 0} (gives : ℕ → Type 0) (may : Type 0) (listed : List SessionId) (on_demand : Bool) (net : NetTells N L) (parts : SharesTell N S L) (links : LinksTell L) (calls : List NetCall) (count : ℕ) (n n' : N) (answer : Result HostedOn ServeFault) (logs rooms : ℕ)
    → HostsOn gives may listed on_demand net parts links calls count n n' answer → logs ≡ length listed → rooms ≡ rooms_for on_demand (length listed) → IfOk answer (λ hosted. length hosted.ids ≤ logs + rooms)
rooms_suffice gives may listed on_demand net parts links calls count n n' (Ok hosted) logs rooms hosts as_many taken =
    enough on_demand listed hosts.ids.others hosted.ids logs rooms hosts.ids.are hosts.ids.none hosts.ids.few as_many taken
rooms_suffice gives may listed on_demand net parts links calls count n n' (Err fault) logs rooms hosts as_many taken = tt

-- a command that goes on as a service
pub ran_serving
    : {F W N S L : Type 0} (gives : ℕ → Type 0) (may : Option (List ℕ) → Type 0) (files : FilesTell F) (out : OutputTells W) (net : NetTells N L) (parts : SharesTell N S L) (links : LinksTell L) (coming : Coming) (hosting : PlainHosting) (count : ℕ) (until : Option (List ℕ)) (answer : Result HostedOn ServeFault)
    (f mid f' : F) (w next w' : W) (n n' : N) (result : Status)
    → hosting.span ≡ serving_span.Posts count until
    → Reaches (files_side_tells files out) coming (ByHosting hosting) (files_side f w) (files_side mid next)
    → HostsOn gives (may until) hosting.ids hosting.on_demand net parts links (Listen hosting.address ∷ []) count n n' answer
    → RanSo files out (OfHostedOn hosting.logs hosting.prefix answer) mid next f' w' result
    → RanAsService gives may (outside_tells files out net links) parts coming (outside f w n None) (outside f' w' n' None) result
ran_serving gives may files out net parts links coming hosting count until answer f mid f' w next w' n n' result spans reached hosts ran = record {
  hosting = hosting;
  links = count;
  until = until;
  spans = spans;
  ready = outside mid next n None;
  reaches = record {
    steps = reached.steps;
    comes = reached.comes;
    acts = all_beside_net net links (files_side_tells files out) n refl refl reached.steps None (files_side f w) (files_side mid next) reached.acts;
  };
  answer = answer;
  served = outside mid next n' None;
  serves = (hosts, refl);
  behind = ran_beside files out net links n' (OfHostedOn hosting.logs hosting.prefix answer) mid f' next w' result ran;
}
