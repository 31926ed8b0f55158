-- What the run of a view does to the outside: the steps of its phases up to a cut, and how it ends.
use Rattle.std.specs.Prelude.{◌≡◌, ◌⊎◌, ℕ, List, [], ◌∷◌, Option, Some, None, Result, MatchResult}
use Rattle.run_steps.specs.Steps.{Step, Prints, Connects, Hears, Sends}
use Rattle.run_steps.specs.Outside.{Outside, OutsideTells, OutputTells, LinksTell, PrintsText, Came, Well, Failed, WantedMemory, Cut, HearsLink, SendsFrame, Acts, LinkGoesBack}
use Rattle.view_shell.specs.declared.ending.ViewEnd.{ViewEnd}
use Rattle.view_shell.specs.declared.ending.ViewEnd.TheVariants as ending
use Rattle.view_shell.specs.Phases.{Phase, Over, Walks}

-- how a run ends that is cut at a step, where its call came out so
abbrev pub IsCutEnd : Came → Step → ViewEnd → Type 0
IsCutEnd Well step end = ⊥
IsCutEnd WantedMemory step end = end ≡ ending.WantOfMemory
IsCutEnd came (Prints text) end = end ≡ ending.WriteFault
IsCutEnd came (Connects address) end = end ≡ ending.NetFault
IsCutEnd came (Hears what) end = end ≡ ending.NetFault
IsCutEnd came (Sends frame) end = end ≡ ending.NetFault
IsCutEnd came step end = ⊥

-- how it ends: as the phase says that it has reached, or for want of memory in any phase, or by its cut
abbrev pub EndsBy : Phase → Option Cut → ViewEnd → Type 0
EndsBy last None end = (last ≡ Over end) ⊎ (end ≡ ending.WantOfMemory)
EndsBy last (Some cut) end = IsCutEnd cut.came cut.step end

-- what the steps of a part of the outside do to it, up to a cut
abbrev pub Doing : Type 0 → Type 1
Doing S = List Step → Option Cut → S → S → Type 0

-- what they do to a link alone
abbrev pub ActsOnLink : {L : Type 0} → LinksTell L → Came → Step → L → L → Type 0
ActsOnLink links came (Hears what) old new = HearsLink links came what old new
ActsOnLink links came (Sends frame) old new = SendsFrame links came frame old new
ActsOnLink links came step old new = ⊥

abbrev pub LinkActs : {L : Type 0} → LinksTell L → Doing L
LinkActs links [] None old new = new ≡ old
LinkActs links [] (Some cut) old new = ⊥
LinkActs {L = L} links (step ∷ steps) cut old new =
    ((mid : L) × ActsOnLink links Well step old mid × LinkActs links steps cut mid new)
    ⊎ ((ActsOnLink links Failed step old new × (cut ≡ Some (record { step = step; came = Failed })))
    ⊎ (ActsOnLink links WantedMemory step old new × (cut ≡ Some (record { step = step; came = WantedMemory }))))

-- from one phase to another by steps that were all done
pub record Goes {S : Type 0} (does : Doing S) (from to : Phase) (old new : S) : Type 0 where
  pub steps : List Step
  pub walks : Walks from steps to
  pub acts : does steps None old new

-- from a phase to an end: the steps were done up to a cut, or to the end
pub record Stops {S : Type 0} (does : Doing S) (from : Phase) (end : ViewEnd) (old new : S) : Type 0 where
  pub steps : List Step
  pub last : Phase
  pub cut : Option Cut
  pub walks : Walks from steps last
  pub acts : does steps cut old new
  pub ends : EndsBy last cut end

-- what a call does from a phase on: it goes to the phase that its answer leads to, or it stops with its end
abbrev pub GoesOrStops : {S A : Type 0} → Doing S → Phase → (A → Phase) → Result A ViewEnd → S → S → Type 0
GoesOrStops does from to result old new =
    MatchResult result (λ answer. Goes does from (to answer) old new) (λ end. Stops does from end old new)

-- a run from a phase to its end: its steps, and then the link that is in use, if any, goes back
pub record ViewRan {F W N L : Type 0} (tells : OutsideTells F W N L) (from : Phase) (end : ViewEnd)
    (old new : Outside F W N L) : Type 0 where
  pub mid : Outside F W N L
  pub stops : Stops (Acts tells) from end old mid
  pub back : LinkGoesBack tells mid new

-- a text was not printed whole, or not at all
abbrev pub StopsPrinting : {W : Type 0} → OutputTells W → ViewEnd → List ℕ → W → W → Type 0
StopsPrinting out ending.WriteFault text old new = PrintsText out Failed text old new
StopsPrinting out ending.WantOfMemory text old new = PrintsText out WantedMemory text old new ⊎ (new ≡ old)
StopsPrinting out end text old new = ⊥
