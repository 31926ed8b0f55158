-- A live view and the script of its lines.
use Rattle.std.specs.Prelude.{true, ◌≡◌, ◌≤◌, ◌⊎◌, ℕ, false, List, [], ◌∷◌, ◌++◌, map, Option, Some, None}
use Rattle.tea_io.specs.declared.link.Heard.TheVariants as heard
use Rattle.model_solved.specs.Founding.{Founding}
use Rattle.run_steps.specs.Steps.{Step, Prints, Connects, Hears, Sends}
use Rattle.view_script.specs.PlainLine.{PlainLine, publish_count, most_publishes}
use Rattle.view_script.specs.ViewScript.{then_lines}
use Rattle.view_shell.specs.Viewers.{first_phase}
use Rattle.view_shell.specs.Phases.{Phase, Connecting, Receiving, Over, Walks}
use Rattle.live_view.specs.declared.input.LiveInput.{LiveInput}
use Rattle.live_view.specs.declared.input.LiveInput.TheVariants as input
use Rattle.live_view.specs.Lines.{lines_in, read_line}
use Rattle.live_view.specs.Live.{LiveState, live_run}

-- a live view that was told nothing yet
abbrev pub first_state : Founding → List ℕ → ℕ → List ℕ → LiveState
first_state founding id view address =
    record {
      phase = first_phase founding id view address [];
      closed = false;
      count = 0;
      holds = 0;
      joined = None;
      lost = false;
    }

-- what the steps of a script were told, and what they sent and printed
abbrev pub inputs_of : List Step → List LiveInput
inputs_of [] = []
inputs_of (Connects address ∷ steps) = input.Linked ∷ inputs_of steps
inputs_of (Hears what ∷ steps) = input.Says what ∷ inputs_of steps
inputs_of (step ∷ steps) = inputs_of steps

abbrev pub sent_in : List Step → List (List ℕ)
sent_in [] = []
sent_in (Sends bytes ∷ steps) = bytes ∷ sent_in steps
sent_in (step ∷ steps) = sent_in steps

abbrev pub printed_in : List Step → List ℕ
printed_in [] = []
printed_in (Prints text ∷ steps) = text ++ printed_in steps
printed_in (step ∷ steps) = printed_in steps

-- a phase in which the next thing has to be told, or none
abbrev pub IsWaiting : Phase → Type 0
IsWaiting (Connecting v how) = Unit {0}
IsWaiting (Receiving v aim) = Unit {0}
IsWaiting (Over end) = Unit {0}
IsWaiting phase = ⊥

-- the lines that these texts spell, one text after the other
abbrev pub joined_lines : Option (List PlainLine) → Option (List PlainLine) → Option (List PlainLine)
joined_lines None rest = None
joined_lines (Some lines) rest = then_lines lines rest

abbrev pub read_in : List (List ℕ) → Option (List PlainLine)
read_in [] = Some []
read_in (text ∷ more) = joined_lines (lines_in (read_line text)) (read_in more)

-- what a link tells before its first frame
abbrev pub IsBeforeFrames : LiveInput → Type 0
IsBeforeFrames input.Linked = Unit {0}
IsBeforeFrames (input.Says heard.Quiet) = Unit {0}
IsBeforeFrames (input.Says heard.End) = Unit {0}
IsBeforeFrames told = ⊥

-- These lines come, and their end, before the first frame of all that the links tell. `inputs` is both, in the order in which the view is told.
abbrev pub ComeBeforeFrames : List LiveInput → List LiveInput → List LiveInput → Type 0
ComeBeforeFrames [] links inputs = inputs ≡ links
ComeBeforeFrames (line ∷ lines) links [] = ⊥
ComeBeforeFrames (line ∷ lines) links (told ∷ inputs) =
    ((told ≡ line) × ComeBeforeFrames lines links inputs)
    ⊎ ((rest : List LiveInput) × (links ≡ told ∷ rest) × IsBeforeFrames told
    × ComeBeforeFrames (line ∷ lines) rest inputs)

-- The lines come before the first frame, and then their end: before a link is there, or after it is, as in a run. Besides, the view is told what
-- the links of a script of these lines tell. What it sends and prints is what that script sends and prints, wherever it waits or ends. The lines
-- `here` are apart.
abbrev pub LiveIsScript : Type 0
LiveIsScript =
    (founding : Founding) (id : List ℕ) (view : ℕ) (address : List ℕ) (texts : List (List ℕ)) (script : List PlainLine)
    (steps : List Step) (last : Phase) (inputs : List LiveInput)
    → read_in texts ≡ Some script → publish_count script ≤ most_publishes
    → Walks (first_phase founding id view address script) steps last → IsWaiting last
    → ComeBeforeFrames (map input.Line texts ++ input.Closed ∷ []) (inputs_of steps) inputs
    → live_run (first_state founding id view address) inputs ≡ record {
      frames = sent_in steps;
      text = printed_in steps;
      fit = true;
      phase = last;
    }
