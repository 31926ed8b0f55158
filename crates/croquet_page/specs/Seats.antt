-- What a call of a seat does.
use Rattle.std.specs.Prelude.{◌≡◌, ℕ, List, [], ◌++◌, length, min, take, drop, slice_get, Option, Some, None, Result, string_bytes}
use Rattle.live_view.specs.declared.input.LiveInput.{LiveInput}
use Rattle.croquet_page.specs.declared.opening.OpenFault.{OpenFault}
use Rattle.croquet_page.specs.declared.page.Page.{Page}
use Rattle.croquet_page.specs.declared.seat.Seat.{Seat}
use Rattle.croquet_page.specs.declared.told.Answer.{Answer}
use Rattle.croquet_page.specs.declared.told.Told.{Told}
use Rattle.croquet_page.specs.Numbers.{closed_told}
use Rattle.croquet_page.specs.Opening.{Opens, line_of, open_number, page_of}
use Rattle.croquet_page.specs.Pages.{LooksPage, TellsPage, told_of}

-- a page that is opened is in the seat, in place of the one that was; the line tells why there is none
pub record OpensSeat (program name : List ℕ) (view : ℕ) (new : Seat) (number : ℕ) : Type 0 where
  pub opening : Result Page OpenFault
  pub opens : Opens program name view opening
  pub numbered : number ≡ open_number opening
  pub page : new.page ≡ page_of opening
  pub line : new.line ≡ line_of opening

-- a seat whose page is told this; an empty seat stays empty, and says so
abbrev pub TellsSeat : Option LiveInput → Option Page → Option Page → Told → Type 0
TellsSeat told None None says = says ≡ closed_told
TellsSeat told None (Some new) says = ⊥
TellsSeat told (Some old) None says = ⊥
TellsSeat told (Some old) (Some new) says = (answer : Answer) × TellsPage answer told old.view new
    × (says ≡ told_of answer new)

-- a seat whose page is asked for its world
abbrev pub LooksSeat : Option Page → Option Page → Told → Type 0
LooksSeat None None says = says ≡ closed_told
LooksSeat None (Some new) says = ⊥
LooksSeat (Some old) None says = ⊥
LooksSeat (Some old) (Some new) says = (answer : Answer) × LooksPage answer old.view new × (says ≡ told_of answer new)

-- ---- what is copied out

abbrev pub or_none : Option (List ℕ) → List ℕ
or_none None = []
or_none (Some bytes) = bytes

-- the frame at this place among those that the last call told
abbrev pub frame_at : ℕ → Option Page → List ℕ
frame_at index None = []
frame_at index (Some page) = or_none (slice_get page.last.frames index)

-- the text that the last call told; of an empty seat, the line of the program that was refused
abbrev pub text_in : List ℕ → Option Page → List ℕ
text_in line None = line
text_in line (Some page) = string_bytes page.last.text

-- as many of these bytes as there is room for, and what was there after them
abbrev pub laid_over : List ℕ → List ℕ → List ℕ
laid_over bytes room = let count = min (length bytes) (length room) in take count bytes ++ drop count room
