-- Checked programs as contracts see them, and what a session is founded from.
use Rattle.std.specs.Prelude.{List, refl}
use Rattle.std.specs.Coded.{Coded, code_by, coded×}
use Rattle.model_value.specs.Plain.{PlainValue}
use Rattle.model_value.specs.PlainCode.{coded_plain}
use Rattle.saved_value.specs.Saving.{CanBeSaved}
use Rattle.model_tree.specs.Tree.{ProgramTree}
use Rattle.model_tree.specs.Program.{IsProgram}
use Rattle.model_tree.specs.TreeView.{program_tree}
use Rattle.model_tree.specs.declared.tree.Class.{Class}

-- the classes of a program, and its persisted value: the one with which its sessions are founded, nil where there is none
pub record CheckedView : Type 0 where
  pub classes : List Class
  pub persisted : PlainValue

abbrev pub coded_checked : Coded (List Class) → Coded CheckedView
coded_checked classes =
    code_by (List Class × PlainValue) (coded× classes coded_plain) (λ c. (c.classes, c.persisted)) (λ p.
    record { classes = p.0; persisted = p.1 }) (λ _. refl)

abbrev pub checked_tree : CheckedView → ProgramTree
checked_tree checked = program_tree checked.classes

-- what a session is founded from: a program and its persisted value
pub record Founding : Type 0 where
  pub tree : ProgramTree
  pub persisted : PlainValue

abbrev pub founding_of : CheckedView → Founding
founding_of checked = record { tree = checked_tree checked; persisted = checked.persisted }

-- what is so of each checked program: it is one, and its persisted value can be saved
pub record IsFounding (founding : Founding) : Type 0 where
  pub program : IsProgram founding.tree
  pub persisted : CanBeSaved founding.persisted
