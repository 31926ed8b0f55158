-- What ran in a recorded session, in order: its first message, and then its entries, each after the messages that were due up to it.
use Rattle.std.specs.Prelude.{◌≡◌, ℕ, zero, suc, nat_le, if◌then◌else◌, List, [], ◌∷◌, ◌++◌, Option, Some, None}
use Rattle.tea_base.specs.declared.entry.Entry.{Entry}
use Rattle.model_tree.specs.Tree.{ProgramTree}
use Rattle.world_plain.specs.World.{WorldRecord}
use Rattle.world.specs.declared.told.HeardEvent.{HeardEvent}
use Rattle.world.specs.Worlds.{Scene, Founding, first_scene, at_later_time, enough, advance, external}
use Rattle.world.specs.Turns.{PlainRan, next_ran, after_turn, begun, first_ran, heard_of}

-- what ran: a message, or an entry with the event that models heard of it
pub data Ran : Type 0 where
  OfMessage : PlainRan → Ran
  OfEntry : Entry → Option HeardEvent → Ran

-- when it ran
abbrev pub time_of : Ran → ℕ
time_of (OfMessage ran) = ran.time
time_of (OfEntry entry heard) = entry.time

-- what ran, and the worlds before and after it
pub record Step : Type 0 where
  pub ran : Ran
  pub before : WorldRecord
  pub after : WorldRecord

-- ---- messages

-- a turn, if a message runs next
abbrev pub turn_steps : ProgramTree → ℕ → Option PlainRan → Scene → List Step
turn_steps program t None s = []
turn_steps program t (Some ran) s =
    record { ran = OfMessage ran; before = s.world; after = (after_turn program t s).world } ∷ []

-- a turn, and then more; where no message runs next there are none
abbrev pub then_turns : ProgramTree → ℕ → (Scene → List Step) → Option PlainRan → Scene → List Step
then_turns program t more None s = []
then_turns program t more (Some ran) s = turn_steps program t (Some ran) s ++ more (after_turn program t s)

-- the messages that are due up to t, one after the other, and at most so many
abbrev pub turns_within : ProgramTree → ℕ → ℕ → Scene → List Step
turns_within program zero t s = []
turns_within program (suc n) t s = then_turns program t (turns_within program n t) (next_ran t s.world) s

abbrev pub turns_until : ProgramTree → ℕ → Scene → List Step
turns_until program t s = turns_within program (enough t s.world) t s

-- ---- entries

-- an entry: the messages that are due up to its time, and then the entry itself, in the world that has come to its time
abbrev pub entry_steps : ProgramTree → Entry → Scene → List Step
entry_steps program e s =
    let before = (advance program e.time s).world in
    turns_until program e.time s ++ record {
      ran = OfEntry e (heard_of before e.view e.what);
      before = before;
      after = (external program e s).world;
    } ∷ []

-- the entries with a time of at most t, and then the messages that are due up to it
abbrev pub steps_on : ProgramTree → ℕ → List Entry → Scene → List Step
steps_on program t [] s = turns_until program t s
steps_on program t (e ∷ es) s =
    if nat_le e.time t then entry_steps program e s ++ steps_on program t es (external program e s)
    else steps_on program t es s

-- ---- a session

-- the message with which it begins, if there is one
abbrev pub first_step : Founding → List ℕ → Option PlainRan → List Step
first_step founding id None = []
first_step founding id (Some ran) =
    record { ran = OfMessage ran; before = (begun founding id).world; after = (first_scene founding id).world } ∷ []

abbrev pub first_steps : Founding → List ℕ → List Step
first_steps founding id = first_step founding id (first_ran founding)

-- all that ran up to t
abbrev pub steps : Founding → List ℕ → List Entry → ℕ → List Step
steps founding id entries t = first_steps founding id ++ steps_on founding.tree t entries (first_scene founding id)

-- ---- what steps come to

-- the world that the last step left; where nothing ran, this one
abbrev pub left_by : WorldRecord → List Step → WorldRecord
left_by w [] = w
left_by w (step ∷ more) = left_by step.after more

-- the world in which something runs: a message in the world as it is, an entry once that has come to its time
abbrev pub world_before : Ran → WorldRecord → WorldRecord
world_before (OfMessage ran) w = w
world_before (OfEntry entry heard) w = at_later_time entry.time w

-- each step begins in the world that the one before it left
abbrev pub AreChained : WorldRecord → List Step → Type 0
AreChained w [] = Unit {0}
AreChained w (step ∷ more) = (step.before ≡ world_before step.ran w) × AreChained step.after more

-- the entries among what ran
abbrev pub with_entry : Ran → List Entry → List Entry
with_entry (OfMessage ran) entries = entries
with_entry (OfEntry entry heard) entries = entry ∷ entries

abbrev pub entries_in : List Step → List Entry
entries_in [] = []
entries_in (step ∷ more) = with_entry step.ran (entries_in more)
