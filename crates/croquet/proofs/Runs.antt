-- Runs over files and an output, from their calls.
use Rattle.std.proofs.Common.{inl, inr, ℕ, List, [], ◌∷◌, Option, Some, None, refl, sym, ap, codes}
use Rattle.std.proofs.lemmas.List.{append-nil}
use Rattle.run_steps.specs.Steps.{Step, Loads}
use Rattle.run_steps.specs.Outside.{Acts, Came, Well, Failed, WantedMemory, FilesTell, OutputTells, ReadsFile, files_side, files_side_tells}
use Rattle.command_outcome.specs.declared.outcome.CommandRefusal.TheVariants as refusal
use Rattle.commands.specs.declared.work.Waiting.{Waiting}
use Rattle.commands.specs.declared.work.Next.{Next}
use Rattle.commands.specs.Verdict.{Closing, ByRefusal, ByWant, Verdict, Coming, Free, Only, before, at_once, fine}
use Rattle.commands.specs.Work.{ComesNext, Remains, ask_of, input_of}
use Rattle.commands.proofs.WaitLaws.{above_limit}
use Rattle.croquet.specs.declared.status.Status.{Status}
use Rattle.croquet.specs.declared.status.Status.TheVariants as status
use Rattle.croquet.specs.declared.top.Turn.{Turn}
use Rattle.croquet.specs.declared.top.Turn.TheVariants as turn
use Rattle.croquet.specs.Calls.{Turns}
use Rattle.croquet.specs.Run.{Concludes, Course, Does, Ending, refusal_ending, OutOfMemory, Silent, RanBySteps, Reaches, Tells, TellsCut, TellsEnding, TellsMemory}

-- a run over files and an output alone
abbrev pub RanSo : {F W : Type 0} → FilesTell F → OutputTells W → Coming → F → W → F → W → Status → Type 0
RanSo files out coming f w f' w' result = RanBySteps (files_side_tells files out) coming (files_side f w) (files_side f' w') result

-- and a command that has come so far over them
abbrev pub TurnsSo : {F W : Type 0} → FilesTell F → OutputTells W → Turn → Coming → F → W → F → W → Type 0
TurnsSo files out came coming f w f' w' = Turns (files_side_tells files out) came coming (files_side f w) (files_side f' w')

-- what comes behind a step that leads to it
pub later : (step : Step) (coming other : Coming) (steps : List Step) (ending : Ending) → ((rest : Verdict) → coming rest → other (before step rest)) → Course coming steps ending → Course other (step ∷ steps) ending
later step coming other steps ending leads course = record {
  verdict = before step course.verdict;
  comes = leads course.verdict course.comes;
  more = course.more;
  concludes = course.concludes;
  all = ap (λ (s : List Step). step ∷ s) course.all;
}

-- a file was read, and handed over, and the run goes on behind the command
reaches_on
    : {F W : Type 0} (files : FilesTell F) (out : OutputTells W) (wait : Waiting) (given : Option (List ℕ)) (next : Next) (closing : Closing) (f mid f' : F) (w w' : W)
    → ReadsFile files Well (ask_of wait) given f mid
    → ((rest : Verdict) → ComesNext next rest → Remains wait (before (Loads (ask_of wait) given) rest))
    → Reaches (files_side_tells files out) (ComesNext next) closing (files_side mid w) (files_side f' w') → Reaches (files_side_tells files out) (Remains wait) closing (files_side f w) (files_side f' w')
reaches_on files out wait given next closing f mid f' w w' read leads reached = record {
  steps = Loads (ask_of wait) given ∷ reached.steps;
  comes = leads _ reached.comes;
  acts = inl (files_side mid w, (read, refl), reached.acts);
}

-- a file was read, and handed over
pub turns_on
    : {F W : Type 0} (files : FilesTell F) (out : OutputTells W) (wait : Waiting) (given : Option (List ℕ)) (next : Next) (came : Turn) (f mid f' : F) (w w' : W)
    → ReadsFile files Well (ask_of wait) given f mid
    → ((rest : Verdict) → ComesNext next rest → Remains wait (before (Loads (ask_of wait) given) rest))
    → TurnsSo files out came (ComesNext next) mid w f' w' → TurnsSo files out came (Remains wait) f w f' w'
turns_on files out wait given next (turn.Over result) f mid f' w w' read leads ran = record {
  steps = Loads (ask_of wait) given ∷ ran.steps;
  ending = ran.ending;
  course = later (Loads (ask_of wait) given) (ComesNext next) (Remains wait) ran.steps ran.ending leads ran.course;
  does = record {
    cut = ran.does.cut;
    done = ran.does.done;
    acts = inl (files_side mid w, (read, refl), ran.does.acts);
    left = ran.does.left;
    goes_back = ran.does.goes_back;
    told = ran.does.told;
  };
}
turns_on files out wait given next (turn.Visits request) f mid f' w w' read leads reached = reaches_on files out wait given next _ f mid f' w w' read leads reached
turns_on files out wait given next (turn.Lives start) f mid f' w w' read leads reached = reaches_on files out wait given next _ f mid f' w w' read leads reached
turns_on files out wait given next (turn.Reflects reflection) f mid f' w w' read leads reached = reaches_on files out wait given next _ f mid f' w w' read leads reached
turns_on files out wait given next (turn.Keeps keeping) f mid f' w w' read leads reached = reaches_on files out wait given next _ f mid f' w w' read leads reached
turns_on files out wait given next (turn.Hosts hosting) f mid f' w w' read leads reached = reaches_on files out wait given next _ f mid f' w w' read leads reached
turns_on files out wait given next (turn.Drills request) f mid f' w w' read leads reached = reaches_on files out wait given next _ f mid f' w w' read leads reached

-- where a file is not read, what comes of one above its limit stands for what would have come
unread : (wait : Waiting) → Course (Remains wait) (Loads (ask_of wait) None ∷ []) (refusal_ending (refusal.Input (input_of wait)))
unread wait = record {
  verdict = before (Loads (ask_of wait) None) (at_once (ByRefusal (refusal.Input (input_of wait))));
  comes = above_limit wait;
  more = [];
  concludes = (refl, refl);
  all = refl;
}

-- the run was cut at a read
cut_at_read
    : {F W : Type 0} (files : FilesTell F) (out : OutputTells W) (wait : Waiting) (f f' : F) (w w' : W) (result : Status) (came : Came)
    → Acts (files_side_tells files out) (Loads (ask_of wait) None ∷ []) (Some (record { step = Loads (ask_of wait) None; came = came })) (files_side f w) (files_side f' w)
    → TellsCut out came (Loads (ask_of wait) None) w w' result → RanSo files out (Remains wait) f w f' w' result
cut_at_read files out wait f f' w w' result came acts told = record {
  steps = Loads (ask_of wait) None ∷ [];
  ending = refusal_ending (refusal.Input (input_of wait));
  course = unread wait;
  does = record {
    cut = Some (record { step = Loads (ask_of wait) None; came = came });
    done = files_side f' w;
    acts = acts;
    left = files_side f' w;
    goes_back = refl;
    told = (told, refl);
  };
}

pub ran_unread
    : {F W : Type 0} (files : FilesTell F) (out : OutputTells W) (wait : Waiting) (f f' : F) (w w' : W) (result : Status)
    → ReadsFile files Failed (ask_of wait) None f f' → Tells out (codes "read-fault\n") status.ReadFault w w' result → RanSo files out (Remains wait) f w f' w' result
ran_unread files out wait f f' w w' result read told = cut_at_read files out wait f f' w w' result Failed (inr (inl ((read, refl), refl))) told

-- memory was wanted at its read
pub ran_unread_memory
    : {F W : Type 0} (files : FilesTell F) (out : OutputTells W) (wait : Waiting) (f f' : F) (w w' : W) (result : Status)
    → ReadsFile files WantedMemory (ask_of wait) None f f' → TellsMemory out w w' result → RanSo files out (Remains wait) f w f' w' result
ran_unread_memory files out wait f f' w w' result read told = cut_at_read files out wait f f' w w' result WantedMemory (inr (inr ((read, refl), refl))) told

-- an end was told, before any step
told_at_once : {F W : Type 0} (files : FilesTell F) (out : OutputTells W) (ending : Ending) (f : F) (w w' : W) (result : Status)
    → TellsEnding out ending w w' result → Does (files_side_tells files out) [] ending (files_side f w) (files_side f w') result
told_at_once files out ending f w w' result told = record {
  cut = None;
  done = files_side f w;
  acts = refl;
  left = files_side f w;
  goes_back = refl;
  told = (told, refl);
}

-- a command was closed before any step
pub ran_closed
    : {F W : Type 0} (files : FilesTell F) (out : OutputTells W) (closing : Closing) (ending : Ending) (f : F) (w w' : W) (result : Status)
    → Concludes closing [] ending → TellsEnding out ending w w' result → RanSo files out (Only (at_once closing)) f w f w' result
ran_closed files out closing ending f w w' result concludes told = record {
  steps = [];
  ending = ending;
  course = record { verdict = at_once closing; comes = refl; more = []; concludes = concludes; all = refl };
  does = told_at_once files out ending f w w' result told;
}

-- steps were done
pub ran_done
    : {F W : Type 0} (files : FilesTell F) (out : OutputTells W) (steps : List Step) (f f' : F) (w w' : W) (result : Status)
    → Does (files_side_tells files out) steps (Silent status.Ok) (files_side f w) (files_side f' w') result → RanSo files out (Only (fine steps)) f w f' w' result
ran_done files out steps f f' w w' result does = record {
  steps = steps;
  ending = Silent status.Ok;
  course = record { verdict = fine steps; comes = refl; more = []; concludes = (refl, refl); all = sym (append-nil steps) };
  does = does;
}

-- memory was wanted before anything was done
pub ran_wanting
    : {F W : Type 0} (files : FilesTell F) (out : OutputTells W) (coming : Coming) (f : F) (w w' : W) (result : Status)
    → TellsMemory out w w' result → RanSo files out (Free coming) f w f w' result
ran_wanting files out coming f w w' result told = record {
  steps = [];
  ending = OutOfMemory;
  course = record { verdict = at_once ByWant; comes = inl refl; more = []; concludes = (refl, refl); all = refl };
  does = told_at_once files out OutOfMemory f w w' result told;
}

-- what comes of one coming may come of another
pub ran_leading
    : {F W : Type 0} (files : FilesTell F) (out : OutputTells W) (coming other : Coming) (f f' : F) (w w' : W) (result : Status)
    → ((verdict : Verdict) → coming verdict → other verdict) → RanSo files out coming f w f' w' result → RanSo files out other f w f' w' result
ran_leading files out coming other f f' w w' result leads ran = record {
  steps = ran.steps;
  ending = ran.ending;
  course = record {
    verdict = ran.course.verdict;
    comes = leads ran.course.verdict ran.course.comes;
    more = ran.course.more;
    concludes = ran.course.concludes;
    all = ran.course.all;
  };
  does = ran.does;
}

-- what comes of a command may come of what is free
pub turns_freely
    : {F W : Type 0} (files : FilesTell F) (out : OutputTells W) (coming other : Coming) (came : Turn) (f f' : F) (w w' : W)
    → ((verdict : Verdict) → coming verdict → other verdict) → TurnsSo files out came coming f w f' w' → TurnsSo files out came (Free other) f w f' w'
turns_freely files out coming other (turn.Over result) f f' w w' leads ran =
    ran_leading files out coming (Free other) f f' w w' result (λ verdict comes. inr (leads verdict comes)) ran
turns_freely files out coming other (turn.Visits request) f f' w w' leads reached = record { steps = reached.steps; comes = inr (leads _ reached.comes); acts = reached.acts }
turns_freely files out coming other (turn.Lives start) f f' w w' leads reached = record { steps = reached.steps; comes = inr (leads _ reached.comes); acts = reached.acts }
turns_freely files out coming other (turn.Reflects reflection) f f' w w' leads reached = record { steps = reached.steps; comes = inr (leads _ reached.comes); acts = reached.acts }
turns_freely files out coming other (turn.Keeps keeping) f f' w w' leads reached = record { steps = reached.steps; comes = inr (leads _ reached.comes); acts = reached.acts }
turns_freely files out coming other (turn.Hosts hosting) f f' w w' leads reached = record { steps = reached.steps; comes = inr (leads _ reached.comes); acts = reached.acts }
turns_freely files out coming other (turn.Drills request) f f' w w' leads reached = record { steps = reached.steps; comes = inr (leads _ reached.comes); acts = reached.acts }
