-- How the reading of a program ends.
use Rattle.std.specs.Prelude.{◌≡◌, ◌≢◌, ℕ, ◌≤◌, ⊤, List, length, Option, Some, None, Result, Ok, Err}
use Rattle.model_tree.specs.Program.{IsRead, Reading, a_program, no_program, too_large, IsReading}
use Rattle.model_tree.specs.Tree.{ProgramTree}
use Rattle.model_solved.specs.Founding.{CheckedView, checked_tree}
use Rattle.model_lang.specs.declared.fault.LangFault.{LangFault}
use Rattle.model_lang.specs.declared.fault.LangFault.TheVariants as lang
use Rattle.model_solved.specs.Faults.{first_fault}
use Rattle.model_solved.specs.declared.fault.CheckFault.{CheckFault}
use Rattle.model_solved.specs.declared.fault.CheckFault.TheVariants as check
use Rattle.command_outcome.specs.declared.program.ProgramFault.{ProgramFault}
use Rattle.command_outcome.specs.declared.program.ProgramFault.TheVariants.{Refused, WantOfMemory}
use Rattle.command_outcome.specs.ProgramText.{check_line, syntax_line, too_large_line}

-- the line of a check's first fault
abbrev pub IsLineOf : Option CheckFault → List ℕ → Type 0
IsLineOf None line = ⊥
IsLineOf (Some fault) line = line ≡ check_line fault

-- the line of a text with so many bytes that is refused; where it is no program it tells a place in it, or its end
abbrev pub IsRefusedBy : Reading → ℕ → List ℕ → Type 0
IsRefusedBy (a_program tree) bytes line = IsLineOf (first_fault tree) line
IsRefusedBy no_program bytes line = (at : ℕ) × (at ≤ bytes) × (line ≡ syntax_line at)
IsRefusedBy (too_large what count) bytes line = line ≡ too_large_line what count

-- these bytes are refused as a program, and this is the line of it
pub record IsRefused (bytes line : List ℕ) : Type 0 where
  pub reading : Reading
  pub is_reading : IsReading bytes reading
  pub refused : IsRefusedBy reading (length bytes) line

-- these bytes are a program without faults
pub record IsFaultless (bytes : List ℕ) (tree : ProgramTree) : Type 0 where
  pub read : IsRead bytes tree
  pub sound : first_fault tree ≡ None

-- how a text is told that is not read
abbrev pub IsUnread : LangFault → ProgramFault → Type 0
IsUnread (lang.Syntax at) fault = fault ≡ Refused (syntax_line at)
IsUnread (lang.TooLarge what count) fault = fault ≡ Refused (too_large_line what count)
IsUnread lang.WantOfMemory fault = fault ≡ WantOfMemory

-- how a program is told that a check refuses
abbrev pub IsUnsound : CheckFault → ProgramFault → Type 0
IsUnsound fault told = (fault ≢ check.WantOfMemory) × (told ≡ Refused (check_line fault))

-- how the reading of a program ends
abbrev pub ProgramEnd : Result CheckedView ProgramFault → List ℕ → Type 0
ProgramEnd (Ok program) bytes = IsFaultless bytes (checked_tree program)
ProgramEnd (Err (Refused line)) bytes = IsRefused bytes line
ProgramEnd (Err WantOfMemory) bytes = ⊤
