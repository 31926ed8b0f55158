-- That the last line of a view is the replay of the log that its links told.
use Rattle.std.specs.Prelude.{◌≡◌, ◌++◌, ◌∷◌, [], ℕ, List}
use Rattle.std.specs.List.{AllByRecursion}
use Rattle.tea_base.specs.Legal.{IsLegal}
use Rattle.tea_base.specs.Readings.{count_until}
use Rattle.tea_base.specs.declared.entry.Entry.{Entry}
use Rattle.model_solved.specs.Founding.{Founding, IsFounding}
use Rattle.world_plain.specs.Messages.{PlainOutgoing}
use Rattle.world_plain.specs.World.{WorldRecord}
use Rattle.world_lines.specs.WorldText.{full_text}
use Rattle.world.specs.Worlds.{replay}
use Rattle.replica_plain.specs.PlainReplica.{PlainReplica, new_replica}
use Rattle.replica_plain.specs.Following.{FollowsLog}
use Rattle.replica.specs.RealWorlds.{worlds}
use Rattle.run_steps.specs.Steps.{Step, Prints}
use Rattle.view_script.specs.PlainLine.{PlainLine, Show}
use Rattle.view_shell.specs.declared.ending.ViewEnd.TheVariants as ending
use Rattle.view_shell.specs.Phases.{Over, Phase, Printing, PrintingLast, Viewer, Walks, after_rest, finish, run, with_lines}
use Rattle.view_shell.specs.ViewText.{view_line}
use Rattle.view_shell.specs.Viewers.{first_phase}
use Rattle.view_follows.specs.Links.{IsServedBy, links_in}
use Rattle.view_follows.specs.Offers.{OffersFollow}

-- The line is that of a replica of this view that follows the log, so that its seq is the number of entries up to its time. Its world is
-- the replay of the log to that time, and so its digest that of the replay.
pub record IsReplayLine (founding : Founding) (id : List ℕ) (view : ℕ) (log : List Entry) (line : List ℕ) : Type 0 where
  pub replica : PlainReplica WorldRecord PlainOutgoing
  pub own : replica.view ≡ view
  pub follows : FollowsLog (worlds founding id) log replica
  pub replayed : replica.world ≡ (replay founding id log replica.world.time).world
  pub told : line ≡ view_line replica

-- the same in plain words: the line of a replica that has the replay of the log to a time, and has seen the entries until then
abbrev pub replayed : Founding → List ℕ → ℕ → List Entry → ℕ → PlainReplica WorldRecord PlainOutgoing
replayed founding id view log t =
    record (new_replica (worlds founding id) view) {
      world = (replay founding id log t).world;
      seen = count_until log t;
    }

-- the line is the one that a replay of the log prints, at some time
pub record TellsReplayOf (founding : Founding) (id : List ℕ) (view : ℕ) (log : List Entry)
    (line : List ℕ) : Type 0 where
  pub time : ℕ
  pub timed : (replay founding id log time).world.time ≡ time
  pub told : line ≡ view_line (replayed founding id view log time)

-- the text that was printed last is such a line, of a replica of this view that follows the log
pub record EndsInReplay (founding : Founding) (id : List ℕ) (view : ℕ) (log : List Entry)
    (steps : List Step) : Type 0 where
  pub front : List Step
  pub line : List ℕ
  pub last : steps ≡ front ++ Prints line ∷ []
  pub replayed : IsReplayLine founding id view log line
  pub tells : TellsReplayOf founding id view log line

-- a view, a script, a legal log and steps that lead to this phase, where the log serves each link
pub record IsServedVisit (founding : Founding) (id : List ℕ) (view : ℕ) (address : List ℕ) (lines : List PlainLine)
    (log : List Entry) (steps : List Step) (last : Phase) : Type 0 where
  pub program : IsFounding founding
  pub legal : IsLegal log
  pub walks : Walks (first_phase founding id view address lines) steps last
  pub serves : AllByRecursion (IsServedBy (worlds founding id) log) (links_in steps)

-- whoever comes to his last line is told the replay
abbrev pub ViewsReplay : Type 0
ViewsReplay = (founding : Founding) (id : List ℕ) (view : ℕ) (address : List ℕ) (lines : List PlainLine)
    (log : List Entry) (steps : List Step) (line : List ℕ)
    → IsServedVisit founding id view address lines log steps (PrintingLast line)
    → IsReplayLine founding id view log line × TellsReplayOf founding id view log line

-- and so is whoever is done
abbrev pub VisitsEndInReplay : Type 0
VisitsEndInReplay = (founding : Founding) (id : List ℕ) (view : ℕ) (address : List ℕ) (lines : List PlainLine)
    (log : List Entry) (steps : List Step)
    → IsServedVisit founding id view address lines log steps (Over ending.Done)
    → EndsInReplay founding id view log steps

-- A line `show` tells what came of the rest, and then a world in full: the replay of the log to the time that the view has.
abbrev pub ShowsReplayOf : Founding → List ℕ → List Entry → Viewer → List PlainLine → Type 0
ShowsReplayOf founding id log v rest =
    let w = after_rest (with_lines v rest) in
    run v (Show ∷ rest) ≡ finish w (full_text founding.tree (replay founding id log w.replica.world.time).world)

-- each world that it shows is a replay, as a query of the recorded session prints it
abbrev pub VisitsShowReplays : Type 0
VisitsShowReplays = (founding : Founding) (id : List ℕ) (view : ℕ) (address : List ℕ) (lines : List PlainLine)
    (log : List Entry) (steps : List Step) (v : Viewer) (text : List ℕ) (rest : List PlainLine)
    → IsServedVisit founding id view address lines log steps (Printing v text) → v.lines ≡ Show ∷ rest
    → ShowsReplayOf founding id log v rest

-- each snapshot that it offers, in whatever phase it is, is of a replica that follows the log
abbrev pub VisitsOfferFollowers : Type 0
VisitsOfferFollowers = (founding : Founding) (id : List ℕ) (view : ℕ) (address : List ℕ) (lines : List PlainLine)
    (log : List Entry) (steps : List Step) (last : Phase)
    → IsServedVisit founding id view address lines log steps last → OffersFollow (worlds founding id) log steps
