-- The run of a reflector, and what is told behind it.
use Rattle.std.proofs.Common.{◌≡◌, inl, inr, ℕ, Bool, true, false, List, [], ◌∷◌, Option, Some, None, Result, Ok, Err, refl, ap, ◌∙◌, subst}
use Rattle.tea_io.specs.declared.net.NetFault.{NetFault}
use Rattle.tea_io.specs.declared.net.NetFault.TheVariants as net_fault
use Rattle.host_posts.specs.Shares.{SharesTell}
use Rattle.reflect_server.specs.declared.reflection.ServeFault.{ServeFault}
use Rattle.reflect_server.specs.declared.reflection.ServeFault.TheVariants.{ListenFault, WantOfMemory}
use Rattle.reflect_server.specs.declared.reflection.KeptFault.{KeptFault}
use Rattle.reflect_server.specs.declared.reflection.KeptFault.TheVariants as kept_fault
use Rattle.run_steps.specs.Steps.{Step, Looks, Prints, Puts}
use Rattle.run_steps.specs.Outside.{Acts, Came, Failed, WantedMemory, Well, FilesTell, OutputTells, PutsFile, NetTells, LinksTell, files_side, files_side_tells, outside, outside_tells}
use Rattle.run_steps.proofs.Beside.{all_beside_net}
use Rattle.command_outcome.specs.declared.outcome.Put.{Put}
use Rattle.commands.specs.Verdict.{Closing, OfLooked, ByNetFault, ByReflecting, ByWant, ByWriteFault, Coming, Free, Only, PlainReflection, Then, Verdict, at_once, before, reflected_closing}
use Rattle.croquet.specs.declared.status.Status.{Status}
use Rattle.croquet.specs.Calls.{LooksOrEnds, TellsNoPlace, TellsUnput, fault_ending, kept_fault_ending, reflected_ending}
use Rattle.croquet.specs.Run.{Concludes, Ending, on_net_fault, on_write_fault, OutOfMemory, OfKept, OfKeptOn, OfReflected, OfReflectedOn, RanAsReflector, Reaches, ReflectsFor, TellsCut, TellsEnding}
use Rattle.croquet.proofs.Acts.{DoesAll, does_so}
use Rattle.croquet.proofs.Runs.{RanSo, later, ran_closed}

concludes : (unkept : Bool) (stopped : Option NetFault) → Concludes (reflected_closing unkept stopped) [] (reflected_ending unkept stopped)
concludes true stopped = (refl, refl)
concludes false None = (refl, refl)
concludes false (Some net_fault.Failed) = (refl, refl)
concludes false (Some net_fault.WantOfMemory) = (refl, refl)

-- a text is printed, and the run is closed as it is after its reflector or its host
abbrev pub closed_with : List ℕ → Bool → Option NetFault → Verdict
closed_with text unkept stopped = record { steps = Prints text ∷ []; closing = reflected_closing unkept stopped }

-- what was done with the text, to the end of the run or to a cut
module _ {F W : Type 0} (files : FilesTell F) (out : OutputTells W) (text : List ℕ) (unkept : Bool) (stopped : Option NetFault) (steps : List Step) (same : steps ≡ Prints text ∷ []) (f f' : F) (w w' : W) (result : Status) where
  ran_with : DoesAll files out steps (reflected_ending unkept stopped) f w f' w' result → RanSo files out (Free (Only (closed_with text unkept stopped))) f w f' w' result
  ran_with does = record {
    steps = Prints text ∷ [];
    ending = reflected_ending unkept stopped;
    course = record {
      verdict = closed_with text unkept stopped;
      comes = inr refl;
      more = [];
      concludes = concludes unkept stopped;
      all = refl;
    };
    does = subst (λ (given : List Step). DoesAll files out given (reflected_ending unkept stopped) f w f' w' result) same does;
  }

  -- the text was printed, or this was cut
  pub ran_cut : ((ending : Ending) → DoesAll files out steps ending f w f' w' result) → RanSo files out (Free (Only (closed_with text unkept stopped))) f w f' w' result
  ran_cut does = ran_with (does (reflected_ending unkept stopped))

-- it was printed, and the end was told
module _ {F W : Type 0} (files : FilesTell F) (out : OutputTells W) (text : List ℕ) (unkept : Bool) (stopped : Option NetFault) (steps : List Step) (same : steps ≡ Prints text ∷ []) (f f' : F) (w next w' : W) (result : Status) where
  pub ran_told
      : Acts (files_side_tells files out) steps None (files_side f w) (files_side f' next) → TellsEnding out (reflected_ending unkept stopped) next w' result
      → RanSo files out (Free (Only (closed_with text unkept stopped))) f w f' w' result
  ran_told acts told =
      ran_with files out text unkept stopped steps same f f' w w' result
      (does_so files out steps None (reflected_ending unkept stopped) f f' w next w' result acts told)

-- a file was put, and the run goes on after it
pub ran_put
    : {F W : Type 0} (files : FilesTell F) (out : OutputTells W) (put : Put) (coming : Coming) (f mid f' : F) (w quiet w' : W) (result : Status)
    → quiet ≡ w → PutsFile files Well put.name put.bytes f mid → RanSo files out coming mid quiet f' w' result → RanSo files out (Then (Puts put.name put.bytes) coming) f w f' w' result
ran_put {W = W} files out put coming f mid f' w quiet w' result same well ran =
    let on : RanSo files out coming mid w f' w' result = subst (λ (o : W). RanSo files out coming mid o f' w' result) same ran in
    record {
      steps = Puts put.name put.bytes ∷ on.steps;
      ending = on.ending;
      course = later (Puts put.name put.bytes) coming (Then (Puts put.name put.bytes) coming) on.steps on.ending (λ rest comes. (rest, refl, comes)) on.course;
      does = record {
        cut = on.does.cut;
        done = on.does.done;
        acts = inl (files_side mid w, (well, refl), on.does.acts);
        left = on.does.left;
        goes_back = on.does.goes_back;
        told = on.does.told;
      };
    }

-- the run was cut at a put
cut_at_put
    : {F W : Type 0} (files : FilesTell F) (out : OutputTells W) (put : Put) (next : Coming) (came : Came) (f f' : F) (w w' : W) (result : Status)
    → Acts (files_side_tells files out) (Puts put.name put.bytes ∷ []) (Some (record { step = Puts put.name put.bytes; came = came })) (files_side f w) (files_side f' w)
    → TellsCut out came (Puts put.name put.bytes) w w' result → RanSo files out (Then (Puts put.name put.bytes) (Free next)) f w f' w' result
cut_at_put files out put next came f f' w w' result acts told = record {
  steps = Puts put.name put.bytes ∷ [];
  ending = OutOfMemory;
  course = record {
    verdict = before (Puts put.name put.bytes) (at_once ByWant);
    comes = (at_once ByWant, refl, inl refl);
    more = [];
    concludes = (refl, refl);
    all = refl;
  };
  does = does_so files out (Puts put.name put.bytes ∷ []) (Some (record { step = Puts put.name put.bytes; came = came })) OutOfMemory f f' w w w' result acts told;
}

-- a file was not put, and this was told
pub ran_unput
    : {F W : Type 0} (files : FilesTell F) (out : OutputTells W) (put : Put) (next : Coming) (f f' : F) (w w' : W) (result : Status)
    → TellsUnput files out put f w f' w' result → RanSo files out (Then (Puts put.name put.bytes) (Free next)) f w f' w' result
ran_unput files out put next f f' w w' result (inl (failed, told)) = cut_at_put files out put next Failed f f' w w' result (inr (inl ((failed, refl), refl))) told
ran_unput files out put next f f' w w' result (inr (wanted, told)) = cut_at_put files out put next WantedMemory f f' w w' result (inr (inr ((wanted, refl), refl))) told

-- ---- before anything listens

-- the run has looked at the name of the log, if there is one, and goes on
pub looked_on
    : {F W : Type 0} (files : FilesTell F) (out : OutputTells W) (log : Option (List ℕ)) (closing : Closing) (f f' : F) (w w' : W)
    → LooksOrEnds files out log (Ok tt) f w f' w' → Reaches (files_side_tells files out) (OfLooked log (Only (at_once closing))) closing (files_side f w) (files_side f' w')
looked_on files out None closing f f' w w' (same, quiet) = record { steps = []; comes = refl; acts = ap (λ (g : _). files_side g w') same ∙ ap (files_side f) quiet }
looked_on files out (Some name) closing f f' w w' (looks, quiet) = record {
  steps = Looks name ∷ [];
  comes = (at_once closing, refl, inr refl);
  acts = inl (files_side f' w', (looks, ap (files_side f') quiet), refl);
}

-- the run was cut at a look
cut_at_look
    : {F W : Type 0} (files : FilesTell F) (out : OutputTells W) (name : List ℕ) (next : Coming) (came : Came) (f f' : F) (w w' : W) (result : Status)
    → Acts (files_side_tells files out) (Looks name ∷ []) (Some (record { step = Looks name; came = came })) (files_side f w) (files_side f' w)
    → TellsCut out came (Looks name) w w' result → RanSo files out (Then (Looks name) (Free next)) f w f' w' result
cut_at_look files out name next came f f' w w' result acts told = record {
  steps = Looks name ∷ [];
  ending = OutOfMemory;
  course = record {
    verdict = before (Looks name) (at_once ByWant);
    comes = (at_once ByWant, refl, inl refl);
    more = [];
    concludes = (refl, refl);
    all = refl;
  };
  does = does_so files out (Looks name ∷ []) (Some (record { step = Looks name; came = came })) OutOfMemory f f' w w w' result acts told;
}

unlooked
    : {F W : Type 0} (files : FilesTell F) (out : OutputTells W) (name : List ℕ) (next : Coming) (f f' : F) (w w' : W) (result : Status)
    → TellsNoPlace files out name f w f' w' result → RanSo files out (Then (Looks name) (Free next)) f w f' w' result
unlooked files out name next f f' w w' result (inl (failed, told)) = cut_at_look files out name next Failed f f' w w' result (inr (inl ((failed, refl), refl))) told
unlooked files out name next f f' w w' result (inr (wanted, told)) = cut_at_look files out name next WantedMemory f f' w w' result (inr (inr ((wanted, refl), refl))) told

-- the log cannot be put, and this was told
pub ran_unlooked
    : {F W : Type 0} (files : FilesTell F) (out : OutputTells W) (log : Option (List ℕ)) (next : Coming) (f f' : F) (w w' : W) (result : Status)
    → LooksOrEnds files out log (Err result) f w f' w' → RanSo files out (OfLooked log next) f w f' w' result
ran_unlooked files out None next f f' w w' result never = absurd never
ran_unlooked files out (Some name) next f f' w w' result told = unlooked files out name next f f' w w' result told

-- the fault of one that has no session to tell of was told
pub ran_failed
    : {F W : Type 0} (files : FilesTell F) (out : OutputTells W) (log : Option (List ℕ)) (fault : ServeFault) (f : F) (w w' : W) (result : Status)
    → TellsEnding out (fault_ending fault) w w' result → RanSo files out (OfReflected log (Err fault)) f w f w' result
ran_failed files out log ListenFault f w w' result told = ran_closed files out ByNetFault on_net_fault f w w' result (refl, refl) told
ran_failed files out log WantOfMemory f w w' result told = ran_closed files out ByWant OutOfMemory f w w' result (refl, refl) told

-- the same of one whose session has a keeper
pub ran_unkept
    : {F W : Type 0} (files : FilesTell F) (out : OutputTells W) (log : Option (List ℕ)) (unkept : Bool) (fault : KeptFault) (f : F) (w w' : W) (result : Status)
    → TellsEnding out (kept_fault_ending fault) w w' result → RanSo files out (OfKept log unkept (Err fault)) f w f w' result
ran_unkept files out log unkept kept_fault.ListenFault f w w' result told = ran_closed files out ByNetFault on_net_fault f w w' result (refl, refl) told
ran_unkept files out log unkept kept_fault.WantOfMemory f w w' result told = ran_closed files out ByWant OutOfMemory f w w' result (refl, refl) told
ran_unkept files out log unkept kept_fault.Unkept f w w' result told = ran_closed files out ByWriteFault on_write_fault f w w' result (refl, refl) told

-- the fault of posts that have no session to tell of was told
pub ran_posts_failed
    : {F W : Type 0} (files : FilesTell F) (out : OutputTells W) (log : Option (List ℕ)) (fault : ServeFault) (f : F) (w w' : W) (result : Status)
    → TellsEnding out (fault_ending fault) w w' result → RanSo files out (OfReflectedOn log (Err fault)) f w f w' result
ran_posts_failed files out log ListenFault f w w' result told = ran_closed files out ByNetFault on_net_fault f w w' result (refl, refl) told
ran_posts_failed files out log WantOfMemory f w w' result told = ran_closed files out ByWant OutOfMemory f w w' result (refl, refl) told

-- the same where the session has a keeper
pub ran_posts_unkept
    : {F W : Type 0} (files : FilesTell F) (out : OutputTells W) (log : Option (List ℕ)) (unkept : Bool) (fault : KeptFault) (f : F) (w w' : W) (result : Status)
    → TellsEnding out (kept_fault_ending fault) w w' result → RanSo files out (OfKeptOn log unkept (Err fault)) f w f w' result
ran_posts_unkept files out log unkept kept_fault.ListenFault f w w' result told = ran_closed files out ByNetFault on_net_fault f w w' result (refl, refl) told
ran_posts_unkept files out log unkept kept_fault.WantOfMemory f w w' result told = ran_closed files out ByWant OutOfMemory f w w' result (refl, refl) told
ran_posts_unkept files out log unkept kept_fault.Unkept f w w' result told = ran_closed files out ByWriteFault on_write_fault f w w' result (refl, refl) told

-- a command that goes on as a reflector's run
pub ran_reflecting
    : {F W N S L : Type 0} (gives : ℕ → Type 0) (may : Option (List ℕ) → Type 0) (files : FilesTell F) (out : OutputTells W) (net : NetTells N L) (parts : SharesTell N S L) (links : LinksTell L) (coming : Coming) (reflection : PlainReflection)
    (f mid f' : F) (w next w' : W) (n n' : N) (result : Status)
    → Reaches (files_side_tells files out) coming (ByReflecting reflection) (files_side f w) (files_side mid next)
    → ReflectsFor reflection.span gives may (outside_tells files out net links) parts reflection (outside mid next n None) (outside f' w' n' None) result
    → RanAsReflector gives may (outside_tells files out net links) parts coming (outside f w n None) (outside f' w' n' None) result
ran_reflecting gives may files out net parts links coming reflection f mid f' w next w' n n' result reached serves = record {
  reflection = reflection;
  ready = outside mid next n None;
  reaches = record {
    steps = reached.steps;
    comes = reached.comes;
    acts = all_beside_net net links (files_side_tells files out) n refl refl reached.steps None (files_side f w) (files_side mid next) reached.acts;
  };
  serves = serves;
}
