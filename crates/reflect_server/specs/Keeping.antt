-- What the keeper of a session tells of the history of its reflector.
use Rattle.std.specs.Prelude.{◌⊎◌, ℕ, List, []}
use Rattle.tea_io.specs.Told.{Rose}
use Rattle.reflector_core.specs.PlainSession.{PlainSession}
use Rattle.reflector_core.specs.declared.keeper.CallFault.{CallFault}
use Rattle.reflector_core.specs.declared.keeper.CallFault.TheVariants as fault
use Rattle.session_lock.specs.declared.knowledge.Item.{Item}
use Rattle.session_lock.specs.Keeping.{KeepsPlay}
use Rattle.reflect_server.specs.Opening.{AreHere, AreLeavesOf, StopsAtLeave}

-- of which history it keeps the play, and whether a call of it has failed
pub record KeeperTells : Type 1 where
  pub keeps : List Item → Type 0
  pub failed : Type 0

-- what it holds covers the play of the history; it has failed where its faults have risen above the count that it began with
abbrev pub keeper_tells : {K : Type 0} → (K → PlainSession → Type 0) → (K → Type 0) → (K → ℕ) → ℕ → PlainSession → K
    → KeeperTells
keeper_tells holds shut faults first opening keeper = record {
  keeps = λ history. KeepsPlay holds shut faults first opening history keeper;
  failed = Rose first (faults keeper);
}

-- without a keeper nothing is kept, and nothing fails
abbrev pub no_keeper : KeeperTells
no_keeper = record { keeps = λ history. Unit {0}; failed = ⊥ }

-- The session was opened and no more: its history is that of the opening Leaves.
pub record HasOnlyOpened (gives : ℕ → Type 0) (opening : PlainSession) (kept : KeeperTells) : Type 0 where
  pub opener : ℕ
  pub views : List (ℕ × ℕ)
  pub here : AreHere opening.log views
  pub history : List Item
  pub made : AreLeavesOf gives opener views history
  pub keeps : kept.keeps history

-- An opening Leave was not kept: its history is that of the Leaves before it, and of this one.
pub record HasNotOpened (gives : ℕ → Type 0) (opening : PlainSession) (kept : KeeperTells) : Type 0 where
  pub opener : ℕ
  pub views : List (ℕ × ℕ)
  pub here : AreHere opening.log views
  pub history : List Item
  pub stops : StopsAtLeave gives opener views history
  pub keeps : kept.keeps history
  pub failed : kept.failed

-- nothing was called, or the session was opened and no more
abbrev pub HasOpenedAtMost : (ℕ → Type 0) → PlainSession → KeeperTells → Type 0
HasOpenedAtMost gives opening kept = kept.keeps [] ⊎ HasOnlyOpened gives opening kept

-- why a session was not opened
abbrev pub IsUnopened : (ℕ → Type 0) → PlainSession → KeeperTells → CallFault → Type 0
IsUnopened gives opening kept fault.WantOfMemory = kept.keeps []
IsUnopened gives opening kept fault.Unkept = HasNotOpened gives opening kept
