-- The run of a host, and what is told after it.
use Rattle.std.proofs.Common.{◌≡◌, inl, inr, ℕ, ◌+◌, ◌-◌, ◌≤◌, Bool, true, false, List, [], ◌∷◌, ◌++◌, length, drop, None, Result, Ok, Err, IfOk, refl, sym, ap, ◌∙◌, subst, append_assoc, arith}
use Rattle.std.proofs.lemmas.List.{append-nil, length-drop}
use Rattle.tea_base.specs.declared.entry.SessionId.{SessionId}
use Rattle.id_claims.specs.Ids.{most_ids}
use Rattle.tea_io.specs.declared.net.NetCall.{NetCall}
use Rattle.tea_io.specs.declared.net.NetCall.TheVariants.{Listen}
use Rattle.run_steps.specs.Steps.{Step}
use Rattle.run_steps.specs.Outside.{FilesTell, OutputTells, NetTells, LinksTell, files_side, files_side_tells, outside, outside_tells}
use Rattle.run_steps.proofs.Beside.{all_beside_net}
use Rattle.run_steps.proofs.Joined.{acts_behind}
use Rattle.reflect_server.specs.declared.reflection.ServeFault.{ServeFault}
use Rattle.reflect_server.specs.declared.reflection.ServeFault.TheVariants.{ListenFault, WantOfMemory}
use Rattle.host_server.specs.Hosts.{Hosts}
use Rattle.host_server.specs.declared.hosting.Hosted.{Hosted}
use Rattle.command_words.specs.declared.words.ServingSpan.TheVariants as serving_span
use Rattle.command_host.specs.Hosting.{rooms_for}
use Rattle.commands.specs.Verdict.{ByHosting, ByNetFault, ByWant, Coming, Free, OfHostReady, PlainHosting, ThenAll, at_once, behind, look_steps}
use Rattle.croquet.specs.declared.status.Status.{Status}
use Rattle.croquet.specs.Calls.{fault_ending}
use Rattle.croquet.specs.Run.{Ending, on_net_fault, OutOfMemory, OfHosted, RanAsHost, Reaches, TellsEnding}
use Rattle.croquet.proofs.Acts.{ActsSo, DoesAll}
use Rattle.croquet.proofs.Runs.{RanSo, ran_closed}
use Rattle.croquet.proofs.VisitRuns.{ran_beside}

-- ---- steps that come first

module _ {F W : Type 0} (files : FilesTell F) (out : OutputTells W) (steps : List Step) (coming : Coming) (f f' : F) (w w' : W) (result : Status) where
  -- they were done, and the run goes on after them
  pub ran_behind : (mid : F) (next : W) → ActsSo files out steps None f w mid next → RanSo files out coming mid next f' w' result → RanSo files out (ThenAll steps coming) f w f' w' result
  ran_behind mid next acts ran = record {
    steps = steps ++ ran.steps;
    ending = ran.ending;
    course = record {
      verdict = behind steps ran.course.verdict;
      comes = (ran.course.verdict, refl, ran.course.comes);
      more = ran.course.more;
      concludes = ran.course.concludes;
      all = ap (λ (rest : List Step). steps ++ rest) ran.course.all ∙ sym (append_assoc steps ran.course.verdict.steps ran.course.more);
    };
    does = record {
      cut = ran.does.cut;
      done = ran.does.done;
      acts = acts_behind (files_side_tells files out) steps ran.steps ran.does.cut (files_side f w) (files_side mid next) ran.does.done acts ran.does.acts;
      left = ran.does.left;
      goes_back = ran.does.goes_back;
      told = ran.does.told;
    };
  }

  -- the run was cut at one of them
  pub ran_short : ((ending : Ending) → DoesAll files out steps ending f w f' w' result) → RanSo files out (ThenAll steps (Free coming)) f w f' w' result
  ran_short does = record {
    steps = steps;
    ending = OutOfMemory;
    course = record {
      verdict = behind steps (at_once ByWant);
      comes = (at_once ByWant, refl, inl refl);
      more = [];
      concludes = (refl, refl);
      all = sym (append-nil (steps ++ []) ∙ append-nil steps);
    };
    does = does OutOfMemory;
  }

-- ---- before anything listens

-- the run has looked at the names of all sessions, and goes on
pub looked_at_all
    : {F W : Type 0} (files : FilesTell F) (out : OutputTells W) (hosting : PlainHosting) (f f' : F) (w w' : W) → ActsSo files out (look_steps hosting.logs) None f w f' w'
    → Reaches (files_side_tells files out) (OfHostReady hosting) (ByHosting hosting) (files_side f w) (files_side f' w')
looked_at_all files out hosting f f' w w' acts = record {
  steps = look_steps hosting.logs ++ [];
  comes = (at_once (ByHosting hosting), refl, inr refl);
  acts = subst (λ (steps : List Step). ActsSo files out steps None f w f' w') (sym (append-nil (look_steps hosting.logs))) acts;
}

-- ---- after the host

-- the fault of one that has no session to tell of was told
pub ran_unhosted
    : {F W : Type 0} (files : FilesTell F) (out : OutputTells W) (logs : List (List ℕ)) (prefix : List ℕ) (fault : ServeFault) (f : F) (w w' : W) (result : Status)
    → TellsEnding out (fault_ending fault) w w' result → RanSo files out (OfHosted logs prefix (Err fault)) f w f w' result
ran_unhosted files out logs prefix ListenFault f w w' result told = ran_closed files out ByNetFault on_net_fault f w w' result (refl, refl) told
ran_unhosted files out logs prefix WantOfMemory f w w' result told = ran_closed files out ByWant OutOfMemory f w w' result (refl, refl) told

-- ---- memory for its files

-- the ids of listed sessions and of those that were made on demand have places and rooms
pub enough
    : (on_demand : Bool) (listed others ids : List SessionId) (logs rooms : ℕ) → listed ++ others ≡ ids → (on_demand ≡ false → others ≡ []) → length ids ≤ most_ids
    → logs ≡ length listed → rooms ≡ rooms_for on_demand (length listed) → length ids ≤ logs + rooms
enough true listed others ids logs rooms are none few as_many taken =
    let left : rooms ≡ most_ids - length listed = taken in
    omega (arith, few, as_many, left)
enough false listed others ids logs rooms are none few as_many taken =
    let same : listed ≡ ids = sym (append-nil listed) ∙ subst (λ (more : List SessionId). listed ++ more ≡ ids) (none refl) are in
    let long : length listed ≡ length ids = ap length same in
    omega (arith, long, as_many)

-- behind so many that are listed there are no more than there is memory for
pub few_behind : (listed : ℕ) (ids : List SessionId) (rooms : ℕ) → length ids ≤ listed + rooms → length (drop listed ids) ≤ rooms
few_behind listed ids rooms few =
    let short = length-drop listed ids in
    omega (arith, short, few)

-- each session that was hosted has a place, or memory that was taken
pub rooms_are_enough
    : {N L : Type 0} (gives : ℕ → Type 0) (listed : List SessionId) (on_demand : Bool) (net : NetTells N L) (links : LinksTell L) (calls : List NetCall) (count : ℕ) (n n' : N) (answer : Result Hosted ServeFault) (logs rooms : ℕ)
    → Hosts gives listed on_demand net links calls count n n' answer → logs ≡ length listed → rooms ≡ rooms_for on_demand (length listed) → IfOk answer (λ hosted. length hosted.ids ≤ logs + rooms)
rooms_are_enough gives listed on_demand net links calls count n n' (Ok hosted) logs rooms hosts as_many taken =
    enough on_demand listed hosts.ids.others hosted.ids logs rooms hosts.ids.are hosts.ids.none hosts.ids.few as_many taken
rooms_are_enough gives listed on_demand net links calls count n n' (Err fault) logs rooms hosts as_many taken = tt

-- ---- its run

-- a command that goes on as a host's run
pub ran_hosting
    : {F W N L : Type 0} (gives : ℕ → Type 0) (files : FilesTell F) (out : OutputTells W) (net : NetTells N L) (links : LinksTell L) (coming : Coming) (hosting : PlainHosting) (connections : ℕ) (answer : Result Hosted ServeFault)
    (f mid f' : F) (w next w' : W) (n n' : N) (result : Status)
    → hosting.span ≡ serving_span.Connections connections
    → Reaches (files_side_tells files out) coming (ByHosting hosting) (files_side f w) (files_side mid next)
    → Hosts gives hosting.ids hosting.on_demand net links (Listen hosting.address ∷ []) connections n n' answer
    → RanSo files out (OfHosted hosting.logs hosting.prefix answer) mid next f' w' result
    → RanAsHost gives (outside_tells files out net links) coming (outside f w n None) (outside f' w' n' None) result
ran_hosting gives files out net links coming hosting connections answer f mid f' w next w' n n' result spans reached hosts ran = record {
  hosting = hosting;
  connections = connections;
  spans = spans;
  ready = outside mid next n None;
  reaches = record {
    steps = reached.steps;
    comes = reached.comes;
    acts = all_beside_net net links (files_side_tells files out) n refl refl reached.steps None (files_side f w) (files_side mid next) reached.acts;
  };
  answer = answer;
  served = outside mid next n' None;
  serves = (hosts, refl);
  behind = ran_beside files out net links n' (OfHosted hosting.logs hosting.prefix answer) mid f' next w' result ran;
}
