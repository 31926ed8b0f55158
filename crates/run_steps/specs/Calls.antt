-- How the calls of a run come out.
use Rattle.std.specs.Prelude.{ℕ, List, Option, Some, None, Result, Ok, Err}
use Rattle.run_steps.specs.declared.calls.CallFault.{CallFault}
use Rattle.run_steps.specs.declared.calls.CallFault.TheVariants as fault
use Rattle.run_steps.specs.Outside.{Came, Well, Failed, WantedMemory}

abbrev pub came_of : {T : Type 0} → Result T CallFault → Came
came_of (Ok value) = Well
came_of (Err fault.Failed) = Failed
came_of (Err fault.WantOfMemory) = WantedMemory

-- what a read gave, if it went well
abbrev pub given_of : Result (Option (List ℕ)) CallFault → Option (List ℕ)
given_of (Ok given) = given
given_of (Err fault) = None

-- what a call made, if it went well
abbrev pub made_of : {T : Type 0} → Result T CallFault → Option T
made_of (Ok made) = Some made
made_of (Err fault) = None
