-- How a program that is refused is told.
use Rattle.std.proofs.Common.{◌≡◌, ℕ, List, length, Option, Some, None, Err, refl}
use Rattle.model_lang.specs.Answer.{Parses, IsPlaced}
use Rattle.model_lang.specs.declared.fault.LangFault.{LangFault}
use Rattle.model_lang.specs.declared.fault.LangFault.TheVariants as lang
use Rattle.model_tree.specs.declared.tree.Class.{Class}
use Rattle.model_tree.specs.Program.{IsRead, a_program, no_program, too_large}
use Rattle.model_tree.specs.Tree.{ProgramTree}
use Rattle.model_check.specs.Answer.{IsFirstFault}
use Rattle.model_solved.specs.Faults.{faults_of_program, first_fault}
use Rattle.model_solved.specs.declared.fault.CheckFault.{CheckFault}
use Rattle.command_outcome.specs.declared.program.ProgramFault.{ProgramFault}
use Rattle.command_outcome.specs.ProgramText.{check_line}
use Rattle.command_outcome.specs.ProgramEnd.{IsLineOf, IsUnread, IsUnsound, ProgramEnd}

-- a text that is not read
pub refused_unread : (bytes : List ℕ) (lang_fault : LangFault) (fault : ProgramFault) → Parses (Err lang_fault) bytes → IsPlaced {A = List Class} (Err lang_fault) (length bytes) → IsUnread lang_fault fault → ProgramEnd (Err fault) bytes
refused_unread bytes (lang.Syntax at) fault none placed is = rw is (record { reading = no_program; is_reading = none; refused = (at, placed, refl) })
refused_unread bytes (lang.TooLarge what count) fault many placed is = rw is (record { reading = too_large what count; is_reading = many; refused = refl })
refused_unread bytes lang.WantOfMemory fault parsed placed is = rw is tt

line_found : (found : Option CheckFault) (fault : CheckFault) → found ≡ Some fault → IsLineOf found (check_line fault)
line_found None fault is = absurd cc
line_found (Some found) fault is = let same : fault ≡ found = cc in rw same refl

-- a program with a fault
pub refused_unsound : (bytes : List ℕ) (tree : ProgramTree) (found : CheckFault) (fault : ProgramFault) → IsRead bytes tree → IsFirstFault found (faults_of_program tree) → IsUnsound found fault → ProgramEnd (Err fault) bytes
refused_unsound bytes tree found fault read refused (some, is) =
    rw is (record { reading = a_program tree; is_reading = read; refused = line_found (first_fault tree) found (refused some) })
