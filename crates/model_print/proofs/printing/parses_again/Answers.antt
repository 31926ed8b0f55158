use Rattle.std.proofs.Common.{◌≡◌, ℕ, List, Result, Ok, Err}
use Rattle.model_tree.specs.declared.tree.Class.{Class}
use Rattle.model_lang.specs.declared.fault.LangFault.{LangFault}
use Rattle.model_lang.specs.declared.fault.LangFault.TheVariants.{Syntax, TooLarge, WantOfMemory}
use Rattle.model_tree.specs.Tree.{ProgramTree}
use Rattle.model_tree.specs.TreeView.{program_tree}
use Rattle.model_tree.specs.Program.{IsProgram, Reading, a_program, no_program, too_large, IsReading}
use Rattle.model_lang.specs.Answer.{Parses}
use Rattle.model_print.specs.Canonical.{canonical_text}
use Rattle.model_print.specs.Printing.{GivesAgain}
use Rattle.model_print.proofs.Canonical.{canonical-reads}
use Rattle.model_print.proofs.printing.parses_again.Goals as goal

-- where of a text only one thing comes
again : ((text : List ℕ) (reading other : Reading) → IsReading text reading → IsReading text other → reading ≡ other) → (tree : ProgramTree) (read : Result (List Class) LangFault) → IsProgram tree → Parses read (canonical_text tree) → GivesAgain tree read
again one tree (Ok classes) is h =
    let e : a_program (program_tree classes) ≡ a_program tree = one (canonical_text tree) (a_program (program_tree classes)) (a_program tree) h (canonical-reads tree is) in
    cc
again one tree (Err (TooLarge what count)) is h =
    let e : too_large what count ≡ a_program tree = one (canonical_text tree) (too_large what count) (a_program tree) h (canonical-reads tree is) in
    cc
again one tree (Err (Syntax at)) is h =
    let e : no_program ≡ a_program tree = one (canonical_text tree) no_program (a_program tree) h (canonical-reads tree is) in
    cc
again one tree (Err WantOfMemory) is h = tt

pub returns : goal.returns
returns c = again c.one_reading.ensures.one
