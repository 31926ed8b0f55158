-- The counts of a run's faults: none falls, and what is told where none has risen.
use Rattle.std.proofs.Common.{◌≡◌, ◌⊎◌, inl, inr, ℕ, ◌≤◌, List, [], ◌∷◌, Option, Some, None, refl, sym, ap, subst, arith, codes}
use Rattle.tea_io.specs.Told.{Rose}
use Rattle.run_steps.specs.Steps.{Step, Loads, Puts, Looks, Prints, Connects, Returns, Hears, Sends}
use Rattle.run_steps.specs.Outside.{Acts, ActsOn, Came, CountsFault, Cut, Failed, FilesTell, GivesBack, GoesBackFrom, LinksTell, NetTells, Outside, OutputTells, PrintsText, WantedMemory, Well, outside_tells}
use Rattle.view_shell.specs.declared.ending.ViewEnd.{ViewEnd}
use Rattle.view_shell.specs.declared.ending.ViewEnd.TheVariants as view_end
use Rattle.croquet.specs.declared.status.Status.{Status}
use Rattle.croquet.specs.declared.status.Status.TheVariants as status
use Rattle.croquet.specs.Complete.{IsByPeer, IsDone, NoneFailed}
use Rattle.croquet.specs.Run.{Does, Ending, OutOfMemory, Says, Silent, Tells, TellsCut, TellsEnd, TellsEnding, TellsMemory, failed_ending, refused_line, view_ending}

-- a count that rose in a part of a run rose in the whole
pub rose_within : (a b c d : ℕ) → a ≤ b → c ≤ d → Rose b c → Rose a d
rose_within a b c d first last rose = omega (arith, first, last, rose)

counted : (came : Came) (before now : ℕ) → CountsFault came before now → before ≤ now
counted Well before now counts = counts
counted Failed before now counts = counts.0
counted WantedMemory before now counts = counts

-- what stays counts what it did
stays : {T : Type 0} (count : T → ℕ) (old new : T) → new ≡ old → count old ≤ count new
stays count old new same = let is : count new ≡ count old = ap count same in omega (arith, is)

-- ---- the output

printed : {W : Type 0} (out : OutputTells W) (came : Came) (text : List ℕ) (w w' : W) → PrintsText out came text w w' → out.faults w ≤ out.faults w'
printed out came text w w' prints = counted came _ _ prints.counted

memory_keeps : {W : Type 0} (out : OutputTells W) (w w' : W) (result : Status) → TellsMemory out w w' result → out.faults w ≤ out.faults w'
memory_keeps out w w' result (inl (prints, is)) = printed out Well _ w w' prints
memory_keeps out w w' result (inr (inl (prints, is))) = printed out Failed _ w w' prints
memory_keeps out w w' result (inr (inr (prints, is))) = printed out WantedMemory _ w w' prints

line_keeps : {W : Type 0} (out : OutputTells W) (line : List ℕ) (given : Status) (w w' : W) (result : Status) → Tells out line given w w' result → out.faults w ≤ out.faults w'
line_keeps out line given w w' result (inl (prints, is)) = printed out Well _ w w' prints
line_keeps out line given w w' result (inr (inl (prints, is))) = printed out Failed _ w w' prints
line_keeps out line given w w' result (inr (inr (mid, prints, told))) =
    let first = printed out WantedMemory _ w mid prints in
    let last = memory_keeps out mid w' result told in
    omega (arith, first, last)

ending_keeps : {W : Type 0} (out : OutputTells W) (ending : Ending) (w w' : W) (result : Status) → TellsEnding out ending w w' result → out.faults w ≤ out.faults w'
ending_keeps out (Silent given) w w' result told = stays out.faults w w' told.0
ending_keeps out (Says line given) w w' result told = line_keeps out line given w w' result told
ending_keeps out OutOfMemory w w' result told = memory_keeps out w w' result told

cut_keeps : {W : Type 0} (out : OutputTells W) (came : Came) (step : Step) (w w' : W) (result : Status) → TellsCut out came step w w' result → out.faults w ≤ out.faults w'
cut_keeps out Well step w w' result never = absurd never
cut_keeps out Failed step w w' result told = ending_keeps out (failed_ending step) w w' result told
cut_keeps out WantedMemory step w w' result told = memory_keeps out w w' result told

end_keeps : {W : Type 0} (out : OutputTells W) (cut : Option Cut) (ending : Ending) (w w' : W) (result : Status) → TellsEnd out cut ending w w' result → out.faults w ≤ out.faults w'
end_keeps out None ending w w' result told = ending_keeps out ending w w' result told
end_keeps out (Some cut) ending w w' result told = cut_keeps out cut.came cut.step w w' result told

-- ---- what is told where no write has failed

-- all was done, or memory ran out
abbrev pub EndsDone : Option Cut → Ending → Type 0
EndsDone None ending = (ending ≡ Silent status.Ok) ⊎ (ending ≡ OutOfMemory)
EndsDone (Some cut) ending = cut.came ≡ WantedMemory

memory_told : {W : Type 0} (out : OutputTells W) (w w' : W) (result : Status) → ¬ Rose (out.faults w) (out.faults w') → TellsMemory out w w' result → result ≡ status.WantOfMemory
memory_told out w w' result calm (inl (prints, is)) = is
memory_told out w w' result calm (inr (inl (prints, is))) = absurd (calm prints.counted.1)
memory_told out w w' result calm (inr (inr (prints, is))) = is

done_told : {W : Type 0} (out : OutputTells W) (cut : Option Cut) (ending : Ending) (w w' : W) (result : Status) → ¬ Rose (out.faults w) (out.faults w') → EndsDone cut ending → TellsEnd out cut ending w w' result → IsDone result
done_told out None ending w w' result calm (inl is) told = inl (subst (λ (e : Ending). TellsEnding out e w w' result) is told).1
done_told out None ending w w' result calm (inr is) told = inr (memory_told out w w' result calm (subst (λ (e : Ending). TellsEnding out e w w' result) is told))
done_told out (Some cut) ending w w' result calm is told = inr (memory_told out w w' result calm (subst (λ (c : Came). TellsCut out c cut.step w w' result) is told))

-- a line is told, or memory ran out
line_told : {W : Type 0} (out : OutputTells W) (line : List ℕ) (given : Status) (w w' : W) (result : Status) → ¬ Rose (out.faults w) (out.faults w') → Tells out line given w w' result → (result ≡ given) ⊎ (result ≡ status.WantOfMemory)
line_told out line given w w' result calm (inl (prints, is)) = inl is
line_told out line given w w' result calm (inr (inl (prints, is))) = absurd (calm prints.counted.1)
line_told out line given w w' result calm (inr (inr (mid, prints, told))) =
    inr (memory_told out mid w' result (λ rose. calm (rose_within _ _ _ _ (printed out WantedMemory _ w mid prints) (omega arith) rose)) told)

-- the end of a view is its script's, its links', or want of memory
abbrev pub IsSaidEnd : ViewEnd → Type 0
IsSaidEnd view_end.NetFault = ⊥
IsSaidEnd view_end.WriteFault = ⊥
IsSaidEnd end = Unit {0}

by_peer : (result given : Status) → IsByPeer given → (result ≡ given) ⊎ (result ≡ status.WantOfMemory) → IsDone result ⊎ IsByPeer result
by_peer result given by (inl is) = inr (subst (λ (s : Status). IsByPeer s) (sym is) by)
by_peer result given by (inr wants) = inl (inr wants)

view_told : {W : Type 0} (out : OutputTells W) (end : ViewEnd) (w w' : W) (result : Status) → ¬ Rose (out.faults w) (out.faults w') → IsSaidEnd end → TellsEnding out (view_ending end) w w' result → IsDone result ⊎ IsByPeer result
view_told out view_end.Done w w' result calm said told = inl (inl told.1)
view_told out (view_end.Refused code kept) w w' result calm said told = by_peer result status.Refused (inl refl) (line_told out (refused_line code kept) status.Refused w w' result calm told)
view_told out view_end.NetFault w w' result calm never told = absurd never
view_told out view_end.Ended w w' result calm said told = by_peer result status.Ended (inr (inl refl)) (line_told out (codes "ended\n") status.Ended w w' result calm told)
view_told out view_end.Peer w w' result calm said told = by_peer result status.Peer (inr (inr refl)) (line_told out (codes "peer\n") status.Peer w w' result calm told)
view_told out view_end.WriteFault w w' result calm never told = absurd never
view_told out view_end.WantOfMemory w w' result calm said told = inl (inr (memory_told out w w' result calm told))

-- it is the end of a view, or memory ran out
abbrev pub EndsSaid : Option Cut → Ending → Type 0
EndsSaid None ending = (ending ≡ OutOfMemory) ⊎ ((end : ViewEnd) × (ending ≡ view_ending end) × IsSaidEnd end)
EndsSaid (Some cut) ending = cut.came ≡ WantedMemory

said_told : {W : Type 0} (out : OutputTells W) (cut : Option Cut) (ending : Ending) (w w' : W) (result : Status) → ¬ Rose (out.faults w) (out.faults w') → EndsSaid cut ending → TellsEnd out cut ending w w' result → IsDone result ⊎ IsByPeer result
said_told out None ending w w' result calm (inl is) told = inl (done_told out None ending w w' result calm (inr is) told)
said_told out None ending w w' result calm (inr (end, is, said)) told = view_told out end w w' result calm said (subst (λ (e : Ending). TellsEnding out e w w' result) is told)
said_told out (Some cut) ending w w' result calm is told = inl (done_told out (Some cut) ending w w' result calm is told)

-- ---- all counts

-- none falls
pub record CountsStay {F W N L : Type 0} (files : FilesTell F) (out : OutputTells W) (net : NetTells N L) (old new : Outside F W N L) : Type 0 where
  pub of_files : files.faults old.files ≤ files.faults new.files
  pub of_output : out.faults old.out ≤ out.faults new.out
  pub of_net : net.faults old.net ≤ net.faults new.net

module _ {F W N L : Type 0} (files : FilesTell F) (out : OutputTells W) (net : NetTells N L) (links : LinksTell L) where
  pub counts_stay : (old new : Outside F W N L) → new ≡ old → CountsStay files out net old new
  counts_stay old new same = record {
    of_files = stays (λ (o : Outside F W N L). files.faults o.files) old new same;
    of_output = stays (λ (o : Outside F W N L). out.faults o.out) old new same;
    of_net = stays (λ (o : Outside F W N L). net.faults o.net) old new same;
  }

  pub counts_on : (a b c : Outside F W N L) → CountsStay files out net a b → CountsStay files out net b c → CountsStay files out net a c
  counts_on a b c first last = record {
    of_files = let x = first.of_files in let y = last.of_files in omega (arith, x, y);
    of_output = let x = first.of_output in let y = last.of_output in omega (arith, x, y);
    of_net = let x = first.of_net in let y = last.of_net in omega (arith, x, y);
  }

  -- where no call has failed in a run, none has in a part of it
  pub none_within : (a b c d : Outside F W N L) → CountsStay files out net a b → CountsStay files out net c d → NoneFailed files out net a d → NoneFailed files out net b c
  none_within a b c d first last none = record {
    of_files = λ rose. none.of_files (rose_within _ _ _ _ first.of_files last.of_files rose);
    of_output = λ rose. none.of_output (rose_within _ _ _ _ first.of_output last.of_output rose);
    of_net = λ rose. none.of_net (rose_within _ _ _ _ first.of_net last.of_net rose);
  }

  -- one part of the outside has moved, and its count has not fallen
  files_move : (old new : Outside F W N L) (f : F) → files.faults old.files ≤ files.faults f → new ≡ record old { files = f } → CountsStay files out net old new
  files_move old new f le is = rw is (record { of_files = le; of_output = omega arith; of_net = omega arith })

  output_moves : (old new : Outside F W N L) (w : W) → out.faults old.out ≤ out.faults w → new ≡ record old { out = w } → CountsStay files out net old new
  output_moves old new w le is = rw is (record { of_files = omega arith; of_output = le; of_net = omega arith })

  pub net_moves : (old new : Outside F W N L) (n : N) (link : Option L) → net.faults old.net ≤ net.faults n → new ≡ record old { net = n; link = link } → CountsStay files out net old new
  net_moves old new n link le is = rw is (record { of_files = omega arith; of_output = omega arith; of_net = le })

  given_back : (link : Option L) (n n' : N) → GivesBack net links link n n' → net.faults n ≤ net.faults n'
  given_back None n n' same = stays net.faults n n' same
  given_back (Some link) n n' back = let is = back.faults in omega (arith, is)

  pub step_keeps : (came : Came) (step : Step) (old new : Outside F W N L) → ActsOn (outside_tells files out net links) came step old new → CountsStay files out net old new
  step_keeps came (Loads ask given) old new (reads, is) = files_move old new new.files (counted came _ _ reads.counted) is
  step_keeps came (Puts name bytes) old new (puts, is) = files_move old new new.files (counted came _ _ puts.counted) is
  step_keeps came (Looks name) old new (looks, is) = files_move old new new.files (counted came _ _ looks.counted) is
  step_keeps came (Prints text) old new (prints, is) = output_moves old new new.out (counted came _ _ prints.counted) is
  step_keeps came (Connects address) old new (free, makes, is) = net_moves old new new.net new.link makes.cause.later is
  step_keeps came Returns old new (well, back, is) = net_moves old new new.net None (given_back old.link _ _ back) is
  step_keeps came (Hears what) old new (hears, is) = net_moves old new old.net new.link (omega arith) is
  step_keeps came (Sends frame) old new (sends, is) = net_moves old new old.net new.link (omega arith) is

  pub steps_keep : (steps : List Step) (cut : Option Cut) (old new : Outside F W N L) → Acts (outside_tells files out net links) steps cut old new → CountsStay files out net old new
  steps_keep [] None old new same = counts_stay old new same
  steps_keep [] (Some cut) old new never = absurd never
  steps_keep (step ∷ steps) cut old new (inl (mid, acts, rest)) = counts_on old mid new (step_keeps Well step old mid acts) (steps_keep steps cut mid new rest)
  steps_keep (step ∷ steps) cut old new (inr (inl (acts, is))) = step_keeps Failed step old new acts
  steps_keep (step ∷ steps) cut old new (inr (inr (acts, is))) = step_keeps WantedMemory step old new acts

  back_keeps : (link : Option L) (old new : Outside F W N L) → GoesBackFrom link (outside_tells files out net links) old new → CountsStay files out net old new
  back_keeps None old new same = counts_stay old new same
  back_keeps (Some link) old new acts = step_keeps Well Returns old new acts

  -- ---- a run by steps

  module _ (steps : List Step) (ending : Ending) (old new : Outside F W N L) (result : Status) (does : Does (outside_tells files out net links) steps ending old new result) where
    to_left : CountsStay files out net old does.left
    to_left = counts_on old does.done does.left (steps_keep steps does.cut old does.done does.acts) (back_keeps does.done.link does.done does.left does.goes_back)

    told_keeps : CountsStay files out net does.left new
    told_keeps = output_moves does.left new new.out (end_keeps out does.cut ending does.left.out new.out result does.told.0) does.told.1

    pub run_keeps : CountsStay files out net old new
    run_keeps = counts_on old does.left new to_left told_keeps

    -- no call has failed in the steps, nor where the end was told
    pub none_in_steps : NoneFailed files out net old new → NoneFailed files out net old does.done
    none_in_steps none =
        none_within old old does.done new (counts_stay old old refl)
        (counts_on does.done does.left new (back_keeps does.done.link does.done does.left does.goes_back) told_keeps) none

    told_calm : NoneFailed files out net old new → ¬ Rose (out.faults does.left.out) (out.faults new.out)
    told_calm none = (none_within old does.left new new to_left (counts_stay new new refl) none).of_output

    pub done_by : NoneFailed files out net old new → EndsDone does.cut ending → IsDone result
    done_by none ends = done_told out does.cut ending does.left.out new.out result (told_calm none) ends does.told.0

    pub said_by : NoneFailed files out net old new → EndsSaid does.cut ending → IsDone result ⊎ IsByPeer result
    said_by none ends = said_told out does.cut ending does.left.out new.out result (told_calm none) ends does.told.0
