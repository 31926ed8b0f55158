-- Steps that are done one after the other.
use Rattle.std.proofs.Common.{◌≡◌, inl, inr, ℕ, suc, ◌+◌, ◌<◌, List, [], ◌∷◌, length, drop, get_or, Option, None, refl, sym, ap, subst, ◌∙◌, arith}
use Rattle.std.proofs.lemmas.List.{at_drop_more}
use Rattle.reflector_core.specs.SessionState.{SessionState}
use Rattle.command_outcome.specs.declared.outcome.Put.{Put}
use Rattle.command_outcome.specs.Outcome.{steps_of}
use Rattle.command_reflect.specs.ReflectedSteps.{reflected_put}
use Rattle.command_reflect.specs.declared.reflection.LogPlace.{LogPlace}
use Rattle.command_host.specs.Hosting.{log_names, session_puts}
use Rattle.commands.specs.Verdict.{look_steps, put_steps}
use Rattle.run_steps.specs.Steps.{Step, Looks, Puts, Prints}
use Rattle.run_steps.specs.Outside.{Acts, Cut, Failed, WantedMemory, Well, FilesTell, LooksAt, OutputTells, PrintsText, PutsFile, files_side, files_side_tells}
use Rattle.croquet.specs.declared.status.Status.{Status}
use Rattle.croquet.specs.declared.status.Status.TheVariants as status
use Rattle.croquet.specs.Calls.{TellsNoPlace, TellsUnput}
use Rattle.croquet.specs.Run.{Does, Ending, TellsEnd, TellsMemory}

-- these steps are done, and then this end is told, or where they were cut
abbrev pub DoesAll : {F W : Type 0} → FilesTell F → OutputTells W → List Step → Ending → F → W → F → W → Status → Type 0
DoesAll files out steps ending f w f' w' result = Does (files_side_tells files out) steps ending (files_side f w) (files_side f' w') result

abbrev pub ActsSo : {F W : Type 0} → FilesTell F → OutputTells W → List Step → Option Cut → F → W → F → W → Type 0
ActsSo files out steps cut f w f' w' = Acts (files_side_tells files out) steps cut (files_side f w) (files_side f' w')

-- whatever these steps do from here on, those steps do from there on
abbrev pub LeadsOn : {F W : Type 0} → FilesTell F → OutputTells W → List Step → F → W → List Step → F → W → Type 0
LeadsOn {F = F} {W = W} files out steps f w all f0 w0 = (cut : Option Cut) (f' : F) (w' : W) → ActsSo files out steps cut f w f' w' → ActsSo files out all cut f0 w0 f' w'

-- steps that were done, and told
pub does_so
    : {F W : Type 0} (files : FilesTell F) (out : OutputTells W) (steps : List Step) (cut : Option Cut) (ending : Ending) (f mid : F) (w next w' : W) (result : Status)
    → ActsSo files out steps cut f w mid next → TellsEnd out cut ending next w' result → DoesAll files out steps ending f w mid w' result
does_so files out steps cut ending f mid w next w' result acts told = record {
  cut = cut;
  done = files_side mid next;
  acts = acts;
  left = files_side mid next;
  goes_back = refl;
  told = (told, refl);
}

-- a file is put, and then what follows is done, or the run is cut
module _ {F W : Type 0} (files : FilesTell F) (out : OutputTells W) (put : Put) (rest all : List Step) (f f0 : F) (w w0 : W) (on : LeadsOn files out (Puts put.name put.bytes ∷ rest) f w all f0 w0) (next : F) where
  pub put_on : (quiet : W) → quiet ≡ w → PutsFile files Well put.name put.bytes f next → LeadsOn files out rest next quiet all f0 w0
  put_on quiet same well cut f' w' acts = on cut f' w' (inl (files_side next w, (well, refl), subst (λ (o : W). ActsSo files out rest cut next o f' w') same acts))

  pub unput_on : (w' : W) (result : Status) → TellsUnput files out put f w next w' result → (ending : Ending) → DoesAll files out all ending f0 w0 next w' result
  unput_on w' result (inl (failed, told)) ending = does_so files out all _ ending f0 next w0 w w' result (on _ next w (inr (inl ((failed, refl), refl)))) told
  unput_on w' result (inr (wanted, told)) ending = does_so files out all _ ending f0 next w0 w w' result (on _ next w (inr (inr ((wanted, refl), refl)))) told

-- a file can be put, and then what follows is done, or the run is cut
module _ {F W : Type 0} (files : FilesTell F) (out : OutputTells W) (name : List ℕ) (rest all : List Step) (f f0 : F) (w w0 : W) (on : LeadsOn files out (Looks name ∷ rest) f w all f0 w0) (next : F) where
  look_on : (quiet : W) → quiet ≡ w → LooksAt files Well name f next → LeadsOn files out rest next quiet all f0 w0
  look_on quiet same well cut f' w' acts = on cut f' w' (inl (files_side next w, (well, refl), subst (λ (o : W). ActsSo files out rest cut next o f' w') same acts))

  unlooked_on : (w' : W) (result : Status) → TellsNoPlace files out name f w next w' result → (ending : Ending) → DoesAll files out all ending f0 w0 next w' result
  unlooked_on w' result (inl (failed, told)) ending = does_so files out all _ ending f0 next w0 w w' result (on _ next w (inr (inl ((failed, refl), refl)))) told
  unlooked_on w' result (inr (wanted, told)) ending = does_so files out all _ ending f0 next w0 w w' result (on _ next w (inr (inr ((wanted, refl), refl)))) told

-- none of them is left
pub all_done : {F W : Type 0} (files : FilesTell F) (out : OutputTells W) (rest all : List Step) (f f0 : F) (w w0 : W) → rest ≡ [] → LeadsOn files out rest f w all f0 w0 → ActsSo files out all None f0 w0 f w
all_done files out rest all f f0 w w0 none on = on None f w (subst (λ (steps : List Step). ActsSo files out steps None f w f w) (sym none) refl)

-- the steps from a place on
at_look : (places : List LogPlace) (i : ℕ) (place : LogPlace) → i < length places → place ≡ get_or places i place
    → look_steps (log_names (drop i places)) ≡ Looks place.name ∷ look_steps (log_names (drop (i + 1) places))
at_look places i place within is =
    at_drop_more (λ (left : List LogPlace). look_steps (log_names left)) places i place within
    ∙ ap (λ (one : LogPlace). look_steps (log_names (one ∷ drop (i + 1) places))) (sym is)

module _ {F W : Type 0} (files : FilesTell F) (out : OutputTells W) (places : List LogPlace) (i : ℕ) (place : LogPlace) (within : i < length places) (is : place ≡ get_or places i place)
    (all : List Step) (f f0 : F) (w w0 : W) (on : LeadsOn files out (look_steps (log_names (drop i places))) f w all f0 w0) (next : F) where
  here_looked : LeadsOn files out (Looks place.name ∷ look_steps (log_names (drop (i + 1) places))) f w all f0 w0
  here_looked = subst (λ (steps : List Step). LeadsOn files out steps f w all f0 w0) (at_look places i place within is) on

  pub look_next : (quiet : W) → quiet ≡ w → LooksAt files Well place.name f next → LeadsOn files out (look_steps (log_names (drop (i + 1) places))) next quiet all f0 w0
  look_next = look_on files out place.name (look_steps (log_names (drop (i + 1) places))) all f f0 w w0 here_looked next

  pub unlooked : (w' : W) (result : Status) → TellsNoPlace files out place.name f w next w' result → (ending : Ending) → DoesAll files out all ending f0 w0 next w' result
  unlooked = unlooked_on files out place.name (look_steps (log_names (drop (i + 1) places))) all f f0 w w0 here_looked next

-- the steps from a session on
pub no_sessions : (names : List (List ℕ)) (sessions : List SessionState) → sessions ≡ [] → put_steps (session_puts names sessions) ≡ []
no_sessions [] sessions none = refl
no_sessions (name ∷ names) [] none = refl
no_sessions (name ∷ names) (session ∷ sessions) none = absurd cc

pub no_places : (places : List LogPlace) (sessions : List SessionState) → places ≡ [] → put_steps (session_puts (log_names places) sessions) ≡ []
no_places places sessions none = ap (λ (left : List LogPlace). put_steps (session_puts (log_names left) sessions)) none

-- no place was first
pub none_left : (places : List LogPlace) → places ≡ drop 1 places → places ≡ []
none_left [] same = refl
none_left (place ∷ rest) same = let long : suc (length rest) ≡ length rest = ap length same in absurd (omega (arith, long))

at_session : (places rest : List LogPlace) (place : LogPlace) (sessions : List SessionState) (i : ℕ) (session : SessionState) → places ≡ place ∷ rest → i < length sessions → session ≡ get_or sessions i session
    → let put = reflected_put place.name session.plain in
    put_steps (session_puts (log_names places) (drop i sessions)) ≡ Puts put.name put.bytes ∷ put_steps (session_puts (log_names rest) (drop (i + 1) sessions))
at_session places rest place sessions i session first within is =
    ap (λ (left : List LogPlace). put_steps (session_puts (log_names left) (drop i sessions))) first
    ∙ (at_drop_more (λ (left : List SessionState). put_steps (session_puts (log_names (place ∷ rest)) left)) sessions i session within
    ∙ ap (λ (one : SessionState). put_steps (session_puts (log_names (place ∷ rest)) (one ∷ drop (i + 1) sessions))) (sym is))

module _ {F W : Type 0} (files : FilesTell F) (out : OutputTells W) (places rest : List LogPlace) (place : LogPlace) (first : places ≡ place ∷ rest) (sessions : List SessionState) (i : ℕ) (session : SessionState)
    (within : i < length sessions) (is : session ≡ get_or sessions i session) (put : Put) (put_is : put ≡ reflected_put place.name session.plain)
    (all : List Step) (f f0 : F) (w w0 : W) (on : LeadsOn files out (put_steps (session_puts (log_names places) (drop i sessions))) f w all f0 w0) (next : F) where
  here_put : LeadsOn files out (Puts put.name put.bytes ∷ put_steps (session_puts (log_names rest) (drop (i + 1) sessions))) f w all f0 w0
  here_put =
      subst (λ (one : Put). LeadsOn files out (Puts one.name one.bytes ∷ put_steps (session_puts (log_names rest) (drop (i + 1) sessions))) f w all f0 w0) (sym put_is)
      (subst (λ (steps : List Step). LeadsOn files out steps f w all f0 w0) (at_session places rest place sessions i session first within is) on)

  pub session_next : (quiet : W) → quiet ≡ w → PutsFile files Well put.name put.bytes f next → LeadsOn files out (put_steps (session_puts (log_names rest) (drop (i + 1) sessions))) next quiet all f0 w0
  session_next = put_on files out put (put_steps (session_puts (log_names rest) (drop (i + 1) sessions))) all f f0 w w0 here_put next

  pub session_unput : (w' : W) (result : Status) → TellsUnput files out put f w next w' result → (ending : Ending) → DoesAll files out all ending f0 w0 next w' result
  session_unput = unput_on files out put (put_steps (session_puts (log_names rest) (drop (i + 1) sessions))) all f f0 w w0 here_put next

-- the steps from a file on
pub at_put : (puts : List Put) (i : ℕ) (put : Put) (text : List ℕ) → i < length puts → put ≡ get_or puts i put → steps_of (drop i puts) text ≡ Puts put.name put.bytes ∷ steps_of (drop (i + 1) puts) text
at_put puts i put text within is =
    at_drop_more (λ (left : List Put). steps_of left text) puts i put within ∙ ap (λ (one : Put). steps_of (one ∷ drop (i + 1) puts) text) (sym is)

-- a file is put, and then what follows is done, or the run is cut
module _ {F W : Type 0} (files : FilesTell F) (out : OutputTells W) (puts : List Put) (text : List ℕ) (i : ℕ) (put : Put) (within : i < length puts) (is : put ≡ get_or puts i put)
    (all : List Step) (f f0 : F) (w w0 : W) (on : LeadsOn files out (steps_of (drop i puts) text) f w all f0 w0) (next : F) where
  here : (cut : Option Cut) (f' : F) (w' : W) → ActsSo files out (Puts put.name put.bytes ∷ steps_of (drop (i + 1) puts) text) cut f w f' w' → ActsSo files out all cut f0 w0 f' w'
  here cut f' w' acts =
      on cut f' w' (subst (λ (steps : List Step). ActsSo files out steps cut f w f' w') (sym (at_put puts i put text within is)) acts)

  pub put_next : (quiet : W) → quiet ≡ w → PutsFile files Well put.name put.bytes f next → LeadsOn files out (steps_of (drop (i + 1) puts) text) next quiet all f0 w0
  put_next = put_on files out put (steps_of (drop (i + 1) puts) text) all f f0 w w0 here next

  pub unput : (w' : W) (result : Status) → TellsUnput files out put f w next w' result → (ending : Ending) → DoesAll files out all ending f0 w0 next w' result
  unput = unput_on files out put (steps_of (drop (i + 1) puts) text) all f f0 w w0 here next

-- the text is printed, or the run is cut at it
module _ {F W : Type 0} (files : FilesTell F) (out : OutputTells W) (puts : List Put) (text : List ℕ) (left : puts ≡ [])
    (all : List Step) (f f0 : F) (w w0 : W) (on : LeadsOn files out (steps_of puts text) f w all f0 w0) (next : W) where
  last : (cut : Option Cut) → ActsSo files out (Prints text ∷ []) cut f w f next → ActsSo files out all cut f0 w0 f next
  last cut acts = on cut f next (subst (λ (ps : List Put). ActsSo files out (steps_of ps text) cut f w f next) (sym left) acts)

  pub printed_well : PrintsText out Well text w next → ActsSo files out all None f0 w0 f next
  printed_well well = last None (inl (files_side f next, (well, refl), refl))

  pub printed_failed : PrintsText out Failed text w next → (ending : Ending) → DoesAll files out all ending f0 w0 f next status.WriteFault
  printed_failed failed ending = does_so files out all _ ending f0 f w0 next next status.WriteFault (last _ (inr (inl ((failed, refl), refl)))) (refl, refl)

  pub printed_wanting : (w' : W) (result : Status) → PrintsText out WantedMemory text w next → TellsMemory out next w' result → (ending : Ending) → DoesAll files out all ending f0 w0 f w' result
  printed_wanting w' result wanted told ending = does_so files out all _ ending f0 f w0 next w' result (last _ (inr (inr ((wanted, refl), refl)))) told
