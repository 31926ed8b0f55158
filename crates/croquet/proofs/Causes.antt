-- A join ends with its links, refused, or by its peer only where its links caused it.
use Rattle.std.proofs.Common.{◌≡◌, inl, inr, ℕ, List, Option, Some, None, refl, sym, subst, ◌∙◌, codes}
use Rattle.run_steps.specs.Steps.{Step, Loads, Puts, Looks, Prints}
use Rattle.run_steps.specs.Outside.{Came, Cut, Failed, LinksTell, FilesTell, NetTells, Outside, OutputTells, WantedMemory, Well, outside_tells}
use Rattle.view_shell.specs.declared.ending.ViewEnd.{ViewEnd}
use Rattle.view_shell.specs.declared.ending.ViewEnd.TheVariants as view_end
use Rattle.view_shell.specs.Phases.{Over, Phase, Walks}
use Rattle.view_shell.specs.Viewers.{first_phase}
use Rattle.view_shell.specs.ViewRun.{EndsBy}
use Rattle.view_follows.specs.Answered.{AnsweredVisitsHaveNoFault, VisitsEndByRefusals, VisitsEndWithLinks}
use Rattle.commands.specs.Verdict.{ByVisit, Closing, Coming, PlainVisit}
use Rattle.croquet.specs.declared.status.Status.{Status}
use Rattle.croquet.specs.declared.status.Status.TheVariants as status
use Rattle.croquet.specs.Complete.{IsCausedBy, OnlyByLinks}
use Rattle.croquet.specs.Run.{Concludes, Ending, RanBySteps, Tells, TellsCut, TellsEnd, TellsEnding, TellsMemory, Visits, failed_ending, refused_line, view_ending}

-- the end of a view that such a status tells
abbrev TellsLinks : Status → ViewEnd → Type 0
TellsLinks status.Ended end = end ≡ view_end.Ended
TellsLinks status.Refused end = (code kept : ℕ) × (end ≡ view_end.Refused code kept)
TellsLinks status.Peer end = end ≡ view_end.Peer
TellsLinks result end = Unit {0}

memory_links : {W : Type 0} (out : OutputTells W) (end : ViewEnd) (w w' : W) (result : Status) → TellsMemory out w w' result → TellsLinks result end
memory_links out end w w' result (inl (prints, is)) = subst (λ (s : Status). TellsLinks s end) (sym is) tt
memory_links out end w w' result (inr (inl (prints, is))) = subst (λ (s : Status). TellsLinks s end) (sym is) tt
memory_links out end w w' result (inr (inr (prints, is))) = subst (λ (s : Status). TellsLinks s end) (sym is) tt

line_links : {W : Type 0} (out : OutputTells W) (end : ViewEnd) (line : List ℕ) (given : Status) (w w' : W) (result : Status) → TellsLinks given end → Tells out line given w w' result → TellsLinks result end
line_links out end line given w w' result links (inl (prints, is)) = subst (λ (s : Status). TellsLinks s end) (sym is) links
line_links out end line given w w' result links (inr (inl (prints, is))) = subst (λ (s : Status). TellsLinks s end) (sym is) tt
line_links out end line given w w' result links (inr (inr (mid, prints, told))) = memory_links out end mid w' result told

end_links : {W : Type 0} (out : OutputTells W) (end : ViewEnd) (w w' : W) (result : Status) → TellsEnding out (view_ending end) w w' result → TellsLinks result end
end_links out view_end.Done w w' result told = subst (λ (s : Status). TellsLinks s view_end.Done) (sym told.1) tt
end_links out (view_end.Refused code kept) w w' result told = line_links out (view_end.Refused code kept) (refused_line code kept) status.Refused w w' result (code, kept, refl) told
end_links out view_end.NetFault w w' result told = line_links out view_end.NetFault (codes "net-fault\n") status.NetFault w w' result tt told
end_links out view_end.Ended w w' result told = line_links out view_end.Ended (codes "ended\n") status.Ended w w' result refl told
end_links out view_end.Peer w w' result told = line_links out view_end.Peer (codes "peer\n") status.Peer w w' result refl told
end_links out view_end.WriteFault w w' result told = subst (λ (s : Status). TellsLinks s view_end.WriteFault) (sym told.1) tt
end_links out view_end.WantOfMemory w w' result told = memory_links out view_end.WantOfMemory w w' result told

fault_links : {W : Type 0} (out : OutputTells W) (end : ViewEnd) (step : Step) (w w' : W) (result : Status) → TellsEnding out (failed_ending step) w w' result → TellsLinks result end
fault_links out end (Loads ask given) w w' result told = line_links out end (codes "read-fault\n") status.ReadFault w w' result tt told
fault_links out end (Puts name bytes) w w' result told = line_links out end (codes "write-fault\n") status.WriteFault w w' result tt told
fault_links out end (Looks name) w w' result told = line_links out end (codes "write-fault\n") status.WriteFault w w' result tt told
fault_links out end (Prints text) w w' result told = subst (λ (s : Status). TellsLinks s end) (sym told.1) tt
fault_links out end other w w' result told = line_links out end (codes "net-fault\n") status.NetFault w w' result tt told

cut_links : {W : Type 0} (out : OutputTells W) (end : ViewEnd) (came : Came) (step : Step) (w w' : W) (result : Status) → TellsCut out came step w w' result → TellsLinks result end
cut_links out end Well step w w' result never = absurd never
cut_links out end Failed step w w' result told = fault_links out end step w w' result told
cut_links out end WantedMemory step w w' result told = memory_links out end w w' result told

told_links : {W : Type 0} (out : OutputTells W) (cut : Option Cut) (end : ViewEnd) (w w' : W) (result : Status) → TellsEnd out cut (view_ending end) w w' result → TellsLinks result end
told_links out None end w w' result told = end_links out end w w' result told
told_links out (Some cut) end w w' result told = cut_links out end cut.came cut.step w w' result told

-- what the end of a view came by
over_by : (last : Phase) (end other : ViewEnd) → (other ≡ view_end.WantOfMemory → ⊥) → end ≡ other → EndsBy last None end → last ≡ Over other
over_by last end other not is (inl over) = subst (λ (e : ViewEnd). last ≡ Over e) is over
over_by last end other not is (inr want) = absurd (not (sym is ∙ want))

module _ (peer : AnsweredVisitsHaveNoFault) (ended : VisitsEndWithLinks) (refused : VisitsEndByRefusals) where
  leads : (visit : PlainVisit) (steps : List Step) (ending : Ending) (visits : Visits visit steps ending) (other : ViewEnd) → (other ≡ view_end.WantOfMemory → ⊥) → visits.end ≡ other
      → Walks (first_phase visit.founding visit.id visit.view visit.address visit.lines) steps (Over other)
  leads visit steps ending visits other not is =
      subst (λ (p : Phase). Walks (first_phase visit.founding visit.id visit.view visit.address visit.lines) steps p) (over_by visits.last visits.end other not is visits.ends) visits.walks

  visit_links : (visit : PlainVisit) (steps : List Step) (ending : Ending) (result : Status) (visits : Visits visit steps ending) → TellsLinks result visits.end → OnlyByLinks visit steps result
  visit_links visit steps ending result visits links = record {
    ended = λ goes is. ended visit.founding visit.id visit.view visit.address visit.lines steps goes (leads visit steps ending visits view_end.Ended (λ same. cc) (subst (λ (s : Status). TellsLinks s visits.end) is links));
    refused = λ none is.
        let told = subst (λ (s : Status). TellsLinks s visits.end) is links in
        refused visit.founding visit.id visit.view visit.address visit.lines steps told.0 told.1 none (leads visit steps ending visits (view_end.Refused told.0 told.1) (λ same. cc) told.2);
    peer = λ log answered is.
        peer visit.founding visit.id visit.view visit.address visit.lines log steps answered (leads visit steps ending visits view_end.Peer (λ same. cc) (subst (λ (s : Status). TellsLinks s visits.end) is links));
  }

  module _ {W : Type 0} (out : OutputTells W) where
    caused_by : (closing : Closing) (steps : List Step) (ending : Ending) (cut : Option Cut) (w w' : W) (result : Status) → Concludes closing steps ending → TellsEnd out cut ending w w' result → IsCausedBy closing steps result
    caused_by (ByVisit visit) steps ending cut w w' result visits told =
        visit_links visit steps ending result visits (told_links out cut visits.end w w' result (subst (λ (e : Ending). TellsEnd out cut e w w' result) visits.is told))
    caused_by closing steps ending cut w w' result concludes told = tt

  pub is_caused : {F W N L : Type 0} (files : FilesTell F) (out : OutputTells W) (net : NetTells N L) (links : LinksTell L) (coming : Coming) (old new : Outside F W N L) (result : Status)
      → (ran : RanBySteps (outside_tells files out net links) coming old new result) → IsCausedBy ran.course.verdict.closing ran.course.more result
  is_caused files out net links coming old new result ran =
      caused_by out ran.course.verdict.closing ran.course.more ran.ending ran.does.cut ran.does.left.out new.out result ran.course.concludes ran.does.told.0
