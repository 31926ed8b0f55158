-- What a link says, what it was sent, and why.
use Rattle.std.specs.Prelude.{◌≡◌, ℕ, ⊤, ◌≤◌, ◌⊎◌, List, [], ◌∷◌, Option, Result, Ok, Err, IsErrOf}
use Rattle.tea_io.specs.Told.{with_more, TakesFirst, HasNoMore, Rose}
use Rattle.tea_io.specs.declared.link.Heard.{Heard}
use Rattle.tea_io.specs.declared.link.Heard.TheVariants.{Frame, Quiet, End, Failed, WantOfMemory}
use Rattle.tea_io.specs.declared.link.LinkFault.{LinkFault}
use Rattle.tea_io.specs.declared.link.LinkFault.TheVariants as fault

-- how often a link failed, was quiet, and said that it has ended
pub record Counts : Type 0 where
  pub faults : ℕ
  pub quiets : ℕ
  pub ends : ℕ

-- those of a link that is new
abbrev pub no_counts : Counts
no_counts = record { faults = 0; quiets = 0; ends = 0 }

-- those of a link that does nothing but fail
abbrev pub only_faults : ℕ → Counts
only_faults faults = record { faults = faults; quiets = 0; ends = 0 }

-- what a receive adds to what was heard: want of memory is not noted
abbrev pub note_of : Heard → List Heard
note_of (Frame bytes) = Frame bytes ∷ []
note_of Quiet = Quiet ∷ []
note_of End = End ∷ []
note_of Failed = Failed ∷ []
note_of WantOfMemory = []

-- a frame is the first of those to come, an end comes where none is left, and nothing else takes one
abbrev pub TakesFrame : Option (List (List ℕ)) → Option (List (List ℕ)) → Heard → Type 0
TakesFrame before now (Frame bytes) = TakesFirst before now bytes
TakesFrame before now Quiet = now ≡ before
TakesFrame before now End = HasNoMore before × (now ≡ before)
TakesFrame before now Failed = now ≡ before
TakesFrame before now WantOfMemory = now ≡ before

-- a link that is quiet at so many receives in a row is given up, whatever time that took
abbrev pub most_quiets : ℕ
most_quiets = 6000

-- no count falls
pub record NoneFalls (before now : Counts) : Type 0 where
  pub faults : before.faults ≤ now.faults
  pub quiets : before.quiets ≤ now.quiets
  pub ends : before.ends ≤ now.ends

-- the count that rises with what is heard
abbrev pub CountRises : Counts → Counts → Heard → Type 0
CountRises before now (Frame bytes) = ⊤
CountRises before now Quiet = Rose before.quiets now.quiets
CountRises before now End = Rose before.ends now.ends
CountRises before now Failed = Rose before.faults now.faults
CountRises before now WantOfMemory = ⊤

-- a frame was sent; where the call failed it was sent whole or not at all; for want of memory it
-- was not
abbrev pub Sends
    : Option (List (List ℕ)) → Option (List (List ℕ)) → List ℕ → Result (Unit {0}) LinkFault
    → Type 0
Sends before now frame (Ok done) = now ≡ with_more before (frame ∷ [])
Sends before now frame (Err fault.Failed) = (now ≡ before) ⊎ (now ≡ with_more before (frame ∷ []))
Sends before now frame (Err fault.WantOfMemory) = now ≡ before

-- `Failed` comes only where the count of faults rose
abbrev pub SendCause : Counts → Counts → Result (Unit {0}) LinkFault → Type 0
SendCause before now result = IsErrOf result fault.Failed → Rose before.faults now.faults
