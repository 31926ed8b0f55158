-- The steps of a run, each with what it was told.
use Rattle.std.specs.Prelude.{ℕ, List, Option}
use Rattle.tea_io.specs.declared.link.Heard.{Heard}

-- a file that is read: its name, and the most bytes that it may have
pub record Ask : Type 0 where
  pub name : List ℕ
  pub limit : ℕ

-- a step: a row for each kind
pub data Step : Type 0 where
  -- a file is read: its bytes, or none where it is above its limit
  Loads : Ask → Option (List ℕ) → Step
  -- bytes are put under a name
  Puts : List ℕ → List ℕ → Step
  -- it is looked whether bytes can be put under a name
  Looks : List ℕ → Step
  -- a piece of text is printed
  Prints : List ℕ → Step
  -- a link to an address is made
  Connects : List ℕ → Step
  -- the link is given back to the net
  Returns : Step
  -- the link says what comes next
  Hears : Heard → Step
  -- a frame is sent on the link
  Sends : List ℕ → Step
