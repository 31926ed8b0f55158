-- A view's run is a function of what its links tell.
use Rattle.std.proofs.Common.{◌≡◌, [], ◌∷◌, refl, sym, ap, subst, ◌∙◌}
use Rattle.tea_io.specs.declared.link.Heard.{Heard}
use Rattle.tea_io.specs.declared.link.Heard.TheVariants as heard
use Rattle.run_steps.specs.Steps.{Step, Prints, Connects, Returns, Hears, Sends}
use Rattle.view_shell.specs.Phases.{Viewer, Phase, Aim, Connecting, Sending, Receiving, Printing, Leaving, PrintingLast, Returning, Over, Hearing, Moves, Walks}
use Rattle.view_shell.specs.declared.ending.ViewEnd.{ViewEnd}
use Rattle.view_shell.specs.OneRun.{AreSteppedAlike, AreWalkedAlike, IsOneRun, IsOver}

same_hearing : (v : Viewer) (aim : Aim) (what : Heard) (next later : Phase) → Hearing v aim what next → Hearing v aim what later → next ≡ later
same_hearing v aim (heard.Frame bytes) next later first second = first ∙ sym second
same_hearing v aim heard.Quiet next later first second = first ∙ sym second
same_hearing v aim heard.End next later first second = first ∙ sym second
same_hearing v aim heard.Failed next later first second = absurd first
same_hearing v aim heard.WantOfMemory next later first second = absurd first

one_hearing : (v : Viewer) (aim : Aim) (what other : Heard) (next later : Phase) → what ≡ other → Hearing v aim what next → Hearing v aim other later → next ≡ later
one_hearing v aim what other next later same first second = same_hearing v aim what next later first (subst (λ (w : Heard). Hearing v aim w later) (sym same) second)

-- one step is due in each phase, and leads to one phase
one_move : (from : Phase) (step other : Step) (next later : Phase) → Moves from step next → Moves from other later → AreSteppedAlike step other (next ≡ later)
one_move (Connecting v how) (Connects address) (Connects also) next later (is, goes) (same, moves) = (ap Connects (is ∙ sym same), goes ∙ sym moves)
one_move (Connecting v how) (Connects address) other next later first second = absurd second
one_move (Sending v frame frames task) (Sends bytes) (Sends also) next later (is, fits, reads, goes) (same, suits, tells, moves) = (ap Sends (is ∙ sym same), goes ∙ sym moves)
one_move (Sending v frame frames task) (Sends bytes) other next later first second = absurd second
one_move (Printing v text) (Prints piece) (Prints also) next later (is, goes) (same, moves) = (ap Prints (is ∙ sym same), goes ∙ sym moves)
one_move (Printing v text) (Prints piece) other next later first second = absurd second
one_move (Leaving v text) (Prints piece) (Prints also) next later (is, goes) (same, moves) = (ap Prints (is ∙ sym same), goes ∙ sym moves)
one_move (Leaving v text) (Prints piece) other next later first second = absurd second
one_move (PrintingLast text) (Prints piece) (Prints also) next later (is, goes) (same, moves) = (ap Prints (is ∙ sym same), goes ∙ sym moves)
one_move (PrintingLast text) (Prints piece) other next later first second = absurd second
one_move (Returning v how) Returns Returns next later first second = (refl, first ∙ sym second)
one_move (Returning v how) Returns other next later first second = absurd second
one_move (Receiving v aim) (Hears what) (Hears other) next later first second = λ (same : what ≡ other). one_hearing v aim what other next later same first second
one_move (Receiving v aim) (Hears what) other next later first second = absurd second
one_move from step other next later first second = absurd first

stepped : (step other : Step) (alike more : Type 0) → (alike → more) → AreSteppedAlike step other alike → AreSteppedAlike step other more
stepped (Hears what) (Hears other) alike more leads steps = λ (same : what ≡ other). leads (steps same)
stepped step other alike more leads steps = (steps.0, leads steps.1)

-- no step is due behind an end
over_rests : (end : ViewEnd) (step : Step) (next : Phase) → Moves (Over end) step next → ⊥
over_rests end step next moves = moves

not_over : (from last next : Phase) (step : Step) → from ≡ last → Moves from step next → ¬ IsOver last
not_over from last next step same moves (end, is) = over_rests end step next (subst (λ (p : Phase). Moves p step next) (same ∙ is) moves)

pub one_run : IsOneRun
one_run from last other [] [] walks also = sym walks ∙ also
one_run from last other [] (step ∷ others) walks (next, moves, also) = not_over from last next step walks moves
one_run from last other (step ∷ steps) [] (next, moves, walks) also = not_over from other next step also moves
one_run from last other (step ∷ steps) (again ∷ others) (next, moves, walks) (later, goes, also) =
    stepped step again (next ≡ later) (AreWalkedAlike steps others last other)
    (λ (same : next ≡ later). one_run next last other steps others walks (subst (λ (p : Phase). Walks p others other) (sym same) also))
    (one_move from step again next later moves goes)
