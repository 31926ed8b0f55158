-- The run of a view, and a command that goes on as one.
use Rattle.std.proofs.Common.{◌≡◌, ◌⊎◌, inl, inr, ◌++◌, List, [], Option, Some, None, refl, ap}
use Rattle.std.specs.Prelude.{⊤}
use Rattle.run_steps.specs.Steps.{Step, Loads, Puts, Looks, Prints, Connects, Returns, Hears, Sends}
use Rattle.run_steps.specs.Outside.{Came, Well, Failed, WantedMemory, Cut, FilesTell, OutputTells, NetTells, LinksTell, Outside, GoesBackFrom, net_side, net_side_tells, files_side, files_side_tells, outside, outside_tells}
use Rattle.run_steps.proofs.Beside.{acts_with_files, all_beside_net, all_with_files}
use Rattle.run_steps.proofs.Joined.{acts_behind}
use Rattle.view_shell.specs.declared.ending.ViewEnd.{ViewEnd}
use Rattle.view_shell.specs.declared.ending.ViewEnd.TheVariants as view_end
use Rattle.view_shell.specs.Phases.{Phase}
use Rattle.view_shell.specs.Viewers.{first_phase}
use Rattle.view_shell.specs.ViewRun.{EndsBy, IsCutEnd, ViewRan}
use Rattle.commands.specs.Verdict.{ByVisit, Closing, Coming, PlainVisit}
use Rattle.croquet.specs.declared.status.Status.{Status}
use Rattle.croquet.specs.Calls.{TellsViewEnd, VisitRan}
use Rattle.croquet.specs.Run.{Does, Ending, view_ending, RanBySteps, Reaches, TellsCut, TellsEnd, TellsEnding, TellsMemory}

-- ---- the end of a view's run

-- where the run was cut, its end tells the step at which it was
tells_cut : {W : Type 0} (out : OutputTells W) (came : Came) (step : Step) (end : ViewEnd) (w w' : W) (result : Status) → IsCutEnd came step end → TellsViewEnd out end w w' result → TellsCut out came step w w' result
tells_cut out Well step end w w' result never told = absurd never
tells_cut out WantedMemory step end w w' result is told = rw is at told
tells_cut out Failed (Loads ask given) end w w' result never told = absurd never
tells_cut out Failed (Puts name bytes) end w w' result never told = absurd never
tells_cut out Failed (Looks name) end w w' result never told = absurd never
tells_cut out Failed (Prints text) end w w' result is told = rw is at told
tells_cut out Failed (Connects address) end w w' result is told = rw is at told
tells_cut out Failed Returns end w w' result never told = absurd never
tells_cut out Failed (Hears what) end w w' result is told = rw is at told
tells_cut out Failed (Sends frame) end w w' result is told = rw is at told

-- how the end of a run was told: so, or as want of memory
abbrev pub ToldSo : {W : Type 0} → OutputTells W → ViewEnd → W → W → Status → Type 0
ToldSo out end w w' result = TellsEnding out (view_ending end) w w' result ⊎ TellsMemory out w w' result

told_so : {W : Type 0} (out : OutputTells W) (end : ViewEnd) (w w' : W) (result : Status) → TellsViewEnd out end w w' result → ToldSo out end w w' result
told_so out view_end.Done w w' result told = inl told
told_so out (view_end.Refused code kept) w w' result told = told
told_so out view_end.NetFault w w' result told = inl told
told_so out view_end.Ended w w' result told = inl told
told_so out view_end.Peer w w' result told = inl told
told_so out view_end.WriteFault w w' result told = inl told
told_so out view_end.WantOfMemory w w' result told = inl told

-- a view's run was done, and its end told
module _ {W N L : Type 0} (out : OutputTells W) (net : NetTells N L) (links : LinksTell L) (visit : PlainVisit) (w next w' : W) (n n' : N) where
  abbrev pub from : Phase
  from = first_phase visit.founding visit.id visit.view visit.address visit.lines

  ends : (end : ViewEnd) (result : Status) (ran : ViewRan (net_side_tells out net links) from end (net_side w n None) (net_side next n' None))
      → (tells : ViewEnd) → EndsBy ran.stops.last None tells → TellsEnd out ran.stops.cut (view_ending tells) next w' result
      → VisitRan (net_side_tells out net links) visit (net_side w n None) (net_side w' n' None) result
  ends end result ran tells by told = record {
    steps = ran.stops.steps;
    ending = view_ending tells;
    visits = record { last = ran.stops.last; end = tells; walks = ran.stops.walks; ends = by; is = refl };
    does = record {
      cut = ran.stops.cut;
      done = ran.mid;
      acts = ran.stops.acts;
      left = net_side next n' None;
      goes_back = ran.back;
      told = (told, refl);
    };
  }

  ends_by
      : (end : ViewEnd) (result : Status) (ran : ViewRan (net_side_tells out net links) from end (net_side w n None) (net_side next n' None)) (cut : Option Cut) → ran.stops.cut ≡ cut
      → EndsBy ran.stops.last cut end → TellsViewEnd out end next w' result → ToldSo out end next w' result
      → VisitRan (net_side_tells out net links) visit (net_side w n None) (net_side w' n' None) result
  ends_by end result ran None is by told (inl so) = ends end result ran end by (rw is so)
  ends_by end result ran None is by told (inr wanting) = ends end result ran view_end.WantOfMemory (inr refl) (rw is wanting)
  ends_by end result ran (Some cut) is by told so = ends end result ran view_end.WantOfMemory (inr refl) (rw is (tells_cut out cut.came cut.step end next w' result by told))

  pub visit_ran
      : (end : ViewEnd) (result : Status) → ViewRan (net_side_tells out net links) from end (net_side w n None) (net_side next n' None) → TellsViewEnd out end next w' result
      → VisitRan (net_side_tells out net links) visit (net_side w n None) (net_side w' n' None) result
  visit_ran end result ran told = ends_by end result ran ran.stops.cut refl ran.stops.ends told (told_so out end next w' result told)

-- memory was wanted before a view's run began
pub visit_wanting
    : {W N L : Type 0} (out : OutputTells W) (net : NetTells N L) (links : LinksTell L) (visit : PlainVisit) (w w' : W) (n : N) (result : Status) → TellsMemory out w w' result
    → VisitRan (net_side_tells out net links) visit (net_side w n None) (net_side w' n None) result
visit_wanting out net links visit w w' n result told = record {
  steps = [];
  ending = view_ending view_end.WantOfMemory;
  visits = record { last = first_phase visit.founding visit.id visit.view visit.address visit.lines; end = view_end.WantOfMemory; walks = refl; ends = inr refl; is = refl };
  does = record { cut = None; done = net_side w n None; acts = refl; left = net_side w n None; goes_back = refl; told = (told, refl) };
}

-- ---- over all

-- no link went back where there is no net
none_went_back : {F W : Type 0} (files : FilesTell F) (out : OutputTells W) (link : Option ⊤) (old new : Outside F W ⊤ ⊤) → GoesBackFrom link (files_side_tells files out) old new → new ≡ old
none_went_back files out None old new kept = kept
none_went_back files out (Some there) old new (well, never, kept) = absurd never

-- files and an output with a net that stays as it is
abbrev pub beside : {F W N L : Type 0} → N → Outside F W ⊤ ⊤ → Outside F W N L
beside held o = outside o.files o.out held None

-- what is done over files and an output alone is done with any net
module _ {F W N L : Type 0} (files : FilesTell F) (out : OutputTells W) (net : NetTells N L) (links : LinksTell L) (held : N) where
  pub does_beside : (steps : List Step) (ending : Ending) (old new : Outside F W ⊤ ⊤) (result : Status) → Does (files_side_tells files out) steps ending old new result
      → Does (outside_tells files out net links) steps ending (beside held old) (beside held new) result
  does_beside steps ending old new result does = record {
    cut = does.cut;
    done = beside held does.done;
    acts = all_beside_net net links (files_side_tells files out) held refl refl steps does.cut old does.done does.acts;
    left = beside held does.left;
    goes_back = ap (λ (o : Outside F W ⊤ ⊤). beside {F = F} {W = W} {N = N} {L = L} held o) (none_went_back files out does.done.link does.done does.left does.goes_back);
    told = (does.told.0, ap (λ (o : Outside F W ⊤ ⊤). beside {F = F} {W = W} {N = N} {L = L} held o) does.told.1);
  }

  pub steps_beside : (coming : Coming) (old new : Outside F W ⊤ ⊤) (result : Status) → RanBySteps (files_side_tells files out) coming old new result
      → RanBySteps (outside_tells files out net links) coming (beside held old) (beside held new) result
  steps_beside coming old new result ran =
      record { steps = ran.steps; ending = ran.ending; course = ran.course; does = does_beside ran.steps ran.ending old new result ran.does }

  pub reaches_beside : (coming : Coming) (closing : Closing) (old new : Outside F W ⊤ ⊤) → Reaches (files_side_tells files out) coming closing old new
      → Reaches (outside_tells files out net links) coming closing (beside held old) (beside held new)
  reaches_beside coming closing old new reached =
      record { steps = reached.steps; comes = reached.comes; acts = all_beside_net net links (files_side_tells files out) held refl refl reached.steps None old new reached.acts }

  -- a run over files and an output alone is one with any net
  pub ran_beside : (coming : Coming) (f f' : F) (w w' : W) (result : Status)
      → RanBySteps (files_side_tells files out) coming (files_side f w) (files_side f' w') result → RanBySteps (outside_tells files out net links) coming (outside f w held None) (outside f' w' held None) result
  ran_beside coming f f' w w' result ran = steps_beside coming (files_side f w) (files_side f' w') result ran

-- a link that went back did so beside files that stay
goes_back_beside
    : {F W N L : Type 0} (files : FilesTell F) (out : OutputTells W) (net : NetTells N L) (links : LinksTell L) (held : F) (link : Option L) (old new : Outside ⊤ W N L) → GoesBackFrom link (net_side_tells out net links) old new
    → GoesBackFrom link (outside_tells files out net links) (outside held old.out old.net old.link) (outside held new.out new.net new.link)
goes_back_beside {F = F} {W = W} {N = N} {L = L} files out net links held None old new kept = ap (λ (o : Outside ⊤ W N L). outside {F = F} {W = W} {N = N} {L = L} held o.out o.net o.link) kept
goes_back_beside files out net links held (Some link) old new back = acts_with_files files (net_side_tells out net links) held refl Well Returns old new back

-- a command that goes on as a view's run
pub ran_visiting
    : {F W N L : Type 0} (files : FilesTell F) (out : OutputTells W) (net : NetTells N L) (links : LinksTell L) (coming : Coming) (visit : PlainVisit) (f f' : F) (w next w' : W) (n n' : N) (result : Status)
    → Reaches (files_side_tells files out) coming (ByVisit visit) (files_side f w) (files_side f' next) → VisitRan (net_side_tells out net links) visit (net_side next n None) (net_side w' n' None) result
    → RanBySteps (outside_tells files out net links) coming (outside f w n None) (outside f' w' n' None) result
ran_visiting {F = F} {W = W} {N = N} {L = L} files out net links coming visit f f' w next w' n n' result reached ran =
    let beside = λ (o : Outside ⊤ W N L). outside {F = F} {W = W} {N = N} {L = L} f' o.out o.net o.link in
    let does = ran.does in
    record {
      steps = reached.steps ++ ran.steps;
      ending = ran.ending;
      course = record { verdict = record { steps = reached.steps; closing = ByVisit visit }; comes = reached.comes; more = ran.steps; concludes = ran.visits; all = refl };
      does = record {
        cut = does.cut;
        done = beside does.done;
        acts = acts_behind (outside_tells files out net links) reached.steps ran.steps does.cut (outside f w n None) (outside f' next n None) (beside does.done)
            (all_beside_net net links (files_side_tells files out) n refl refl reached.steps None (files_side f w) (files_side f' next) reached.acts)
            (all_with_files files (net_side_tells out net links) f' refl ran.steps does.cut (net_side next n None) does.done does.acts);
        left = beside does.left;
        goes_back = goes_back_beside files out net links f' does.done.link does.done does.left does.goes_back;
        told = (does.told.0, ap beside does.told.1);
      };
    }
