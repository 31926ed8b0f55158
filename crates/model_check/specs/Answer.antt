-- What a check answers, beside the faults.
use Rattle.std.specs.Prelude.{◌≡◌, ◌≢◌, List, Some, None, Result, Ok, Err}
use Rattle.model_value.specs.Plain.{nil}
use Rattle.model_tree.specs.declared.tree.Class.{Class}
use Rattle.model_tree.specs.TreeView.{program_tree}
use Rattle.model_solved.specs.declared.fault.CheckFault.{CheckFault}
use Rattle.model_solved.specs.declared.fault.CheckFault.TheVariants.{WantOfMemory}
use Rattle.model_solved.specs.Faults.{first_of, faults_of_program}
use Rattle.model_solved.specs.Founding.{CheckedView}

-- it is the first of these faults, unless memory ran out
abbrev pub IsFirstFault : CheckFault → List CheckFault → Type 0
IsFirstFault fault faults = fault ≢ WantOfMemory → first_of faults ≡ Some fault

-- what was wanted, where there is no fault
abbrev pub Solves : {A : Type 0} → Result A CheckFault → List CheckFault → (A → Type 0) → Type 0
Solves (Ok a) faults wanted = (first_of faults ≡ None) × wanted a
Solves (Err fault) faults wanted = IsFirstFault fault faults

-- the program itself, with nil as its persisted value, or its first fault
abbrev pub Checks : Result CheckedView CheckFault → List Class → Type 0
Checks result program = Solves result (faults_of_program (program_tree program)) (λ checked. checked
    ≡ record { classes = program; persisted = nil })
