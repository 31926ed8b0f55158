-- How the opening of a page ends.
use Rattle.std.specs.Prelude.{◌≡◌, ℕ, ◌≤◌, ◌<◌, ⊤, List, [], ◌++◌, length, Option, Some, None, Result, Ok, Err, encode_utf8_all}
use Rattle.std.specs.Str.{IsUtf8, chars}
use Rattle.byte_fields.specs.Fields.{text_field}
use Rattle.sha2.specs.Sha256.{sha256}
use Rattle.model_value.specs.Plain.{nil}
use Rattle.model_solved.specs.Founding.{CheckedView, checked_tree}
use Rattle.model_tree.specs.Tree.{ProgramTree}
use Rattle.snapshot_codec.specs.Spelling.{persisted_bytes}
use Rattle.command_outcome.specs.ProgramEnd.{IsFaultless, IsRefused}
use Rattle.live_view.specs.Script.{first_state}
use Rattle.live_view.specs.View.{live_state}
use Rattle.croquet_page.specs.declared.opening.OpenFault.{OpenFault}
use Rattle.croquet_page.specs.declared.opening.OpenFault.TheVariants as fault
use Rattle.croquet_page.specs.declared.page.Page.{Page}
use Rattle.croquet_page.specs.Pages.{IsSilent}

-- the most bytes of a session's name
abbrev pub most_name : ℕ
most_name = 255

abbrev pub IsName : List ℕ → Type 0
IsName name = IsUtf8 name × (length name ≤ most_name)

-- the id of the session of a name and a program's text, which has no persisted value
abbrev pub session_of : List ℕ → List ℕ → List ℕ
session_of program name = sha256 (text_field (chars name) ++ program ++ persisted_bytes nil)

-- why the opening of a page of this program, name and view is refused
abbrev pub Refuses : List ℕ → List ℕ → ℕ → OpenFault → Type 0
Refuses program name view (fault.Program line) = IsRefused program line
Refuses program name view fault.Name = ¬ IsName name
Refuses program name view fault.View = view ≡ 0
Refuses program name view fault.WantOfMemory = ⊤

-- how the name and the program are read
abbrev pub ReadsName : List ℕ → List ℕ → ℕ → Result (List ℕ) OpenFault → Type 0
ReadsName program name view (Ok title) = IsName name × (encode_utf8_all title ≡ name) × (title ≡ chars name)
ReadsName program name view (Err why) = Refuses program name view why

abbrev pub ReadsProgram : List ℕ → List ℕ → ℕ → Result CheckedView OpenFault → Type 0
ReadsProgram program name view (Ok checked) = IsFaultless program (checked_tree checked)
ReadsProgram program name view (Err why) = Refuses program name view why

-- what a session of this program is founded from: it has no persisted value
pub record IsFoundedFrom (program : List ℕ) (founded : CheckedView) : Type 0 where
  pub reads : IsFaultless program (checked_tree founded)
  pub without : founded.persisted ≡ nil

-- a page whose view was told nothing yet, of the session of this program and name
pub record Founds (program name : List ℕ) (view : ℕ) (page : Page) : Type 0 where
  pub tree : ProgramTree
  pub reads : IsFaultless program tree
  pub named : IsName name
  pub numbered : 0 < view
  pub first : (address : List ℕ)
      → live_state address page.view
      ≡ first_state (record { tree = tree; persisted = nil }) (session_of program name) view address
  pub silent : IsSilent page.last

-- how the opening of a page of this program, name and view ends
abbrev pub Opens : List ℕ → List ℕ → ℕ → Result Page OpenFault → Type 0
Opens program name view (Ok page) = Founds program name view page
Opens program name view (Err why) = Refuses program name view why

-- its number, the page that there is then, and the line that tells why there is none
abbrev pub open_number : Result Page OpenFault → ℕ
open_number (Ok page) = 0
open_number (Err (fault.Program line)) = 2
open_number (Err fault.Name) = 3
open_number (Err fault.View) = 4
open_number (Err fault.WantOfMemory) = 8

abbrev pub page_of : Result Page OpenFault → Option Page
page_of (Ok page) = Some page
page_of (Err why) = None

abbrev pub line_of : Result Page OpenFault → List ℕ
line_of (Ok page) = []
line_of (Err (fault.Program line)) = line
line_of (Err fault.Name) = []
line_of (Err fault.View) = []
line_of (Err fault.WantOfMemory) = []
