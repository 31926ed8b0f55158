-- That a view's run is a function of what its links tell.
use Rattle.std.specs.Prelude.{◌≡◌, List, [], ◌∷◌}
use Rattle.view_shell.specs.declared.ending.ViewEnd.{ViewEnd}
use Rattle.run_steps.specs.Steps.{Step, Hears}
use Rattle.view_shell.specs.Phases.{Phase, Over, Walks}

-- two steps are the same, but for what they heard, and this is so if that was the same
abbrev pub AreSteppedAlike : Step → Step → Type 0 → Type 0
AreSteppedAlike (Hears what) (Hears other) alike = what ≡ other → alike
AreSteppedAlike step other alike = (step ≡ other) × alike

-- the run has come to its end
abbrev pub IsOver : Phase → Type 0
IsOver last = (end : ViewEnd) × (last ≡ Over end)

-- The steps are the same, one after the other, as long as they heard the same; and where they are all the same, so is the phase that
-- they lead to. One list may be a front of the other, if it does not lead to an end.
abbrev pub AreWalkedAlike : List Step → List Step → Phase → Phase → Type 0
AreWalkedAlike [] [] last other = last ≡ other
AreWalkedAlike [] (step ∷ steps) last other = ¬ IsOver last
AreWalkedAlike (step ∷ steps) [] last other = ¬ IsOver other
AreWalkedAlike (step ∷ steps) (also ∷ others) last other =
    AreSteppedAlike step also (AreWalkedAlike steps others last other)

-- from each phase one text is printed, and the same frames are sent, for what is heard
abbrev pub IsOneRun : Type 0
IsOneRun = (from last other : Phase) (steps others : List Step) → Walks from steps last → Walks from others other
    → AreWalkedAlike steps others last other
