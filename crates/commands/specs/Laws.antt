-- What is so of all that comes of commands.
use Rattle.std.specs.Prelude.{◌≡◌, ◌⊎◌, ℕ, ◌≤◌, ◌<◌, List, [], ◌∷◌, Option, Some}
use Rattle.tea_base.specs.Legal.{IsLegal}
use Rattle.tea_base.specs.Limits.{time_limit}
use Rattle.tea_base.specs.declared.entry.Entry.{Entry}
use Rattle.reflector_core.specs.declared.request.Request.{Request}
use Rattle.reflector_core.specs.PlainSession.{PlainSession, IsSoundSession}
use Rattle.reflector_core.specs.Play.{TellsItsEvents, after_all, replies_from}
use Rattle.model_solved.specs.Founding.{Founding, IsFounding}
use Rattle.model_solved.specs.Methods.{field_counts}
use Rattle.world_plain.specs.Valid.{Valid}
use Rattle.world_plain.specs.World.{WorldRecord}
use Rattle.world.specs.Worlds.{replay}
use Rattle.replica_plain.specs.Worlds.{WorldFollows}
use Rattle.replica.specs.RealWorlds.{worlds}
use Rattle.run_steps.specs.Steps.{Ask, Step, Loads, Hears}
use Rattle.command_outcome.specs.declared.outcome.CommandRefusal.TheVariants as refusal
use Rattle.command_outcome.specs.ProgramText.{syntax_line}
use Rattle.command_stamp.specs.Script.{script_of}
use Rattle.command_words.specs.declared.words.ReplayRequest.{ReplayRequest}
use Rattle.command_words.specs.declared.words.Command.{Command}
use Rattle.commands.specs.Verdict.{ByRefusal, ByWant, Closing, Coming, Comes, Verdict, resumed_verdict, world_verdict}

-- The log that a script leaves tells the events of the log that it began with, and those that were answered Stamped.
abbrev pub LogsTellTheirEvents : Type 0
LogsTellTheirEvents =
    (bytes : List ℕ) (requests : List Request) (opening : PlainSession) → script_of bytes ≡ Some requests
    → IsSoundSession opening
    → TellsItsEvents opening.log requests (replies_from opening requests) (after_all opening requests).log

-- a snapshot of a world that follows the log leads to what the log leads to from its beginning
abbrev pub SnapshotsAgree : Type 0
SnapshotsAgree =
    (request : ReplayRequest) (founding : Founding) (log : List Entry) (w : WorldRecord)
    → IsFounding founding → Valid (field_counts founding.tree) w → IsLegal log → w.time ≤ request.time
    → request.time < time_limit → WorldFollows (worlds founding w.id) log w
    → resumed_verdict request founding.tree log w ≡ world_verdict request (replay founding w.id log request.time).world

-- it tells a place in a text that is no program
abbrev pub TellsPlace : Closing → Type 0
TellsPlace closing = (at : ℕ) × (closing ≡ ByRefusal (refusal.Program (syntax_line at)))

-- two closings are the same, or one is by want of memory, or both tell a place in a text that is no program
abbrev pub AreClosedAlike : Closing → Closing → Type 0
AreClosedAlike closing other =
    (closing ≡ other) ⊎ ((closing ≡ ByWant) ⊎ ((other ≡ ByWant) ⊎ (TellsPlace closing × TellsPlace other)))

-- two steps are the same, but for what they were told, and what follows is alike if that was the same
abbrev pub AreDoneAlike : Step → Step → Type 0 → Type 0
AreDoneAlike (Loads ask given) (Loads other told) alike = (ask ≡ other) × (given ≡ told → alike)
AreDoneAlike (Hears what) (Hears other) alike = what ≡ other → alike
AreDoneAlike step other alike = (step ≡ other) × alike

-- The steps are the same, one after the other, as long as they were told the same. Want of memory may stand in place of what follows.
abbrev pub AreAlike : List Step → Closing → List Step → Closing → Type 0
AreAlike [] closing [] last = AreClosedAlike closing last
AreAlike [] closing (other ∷ others) last = closing ≡ ByWant
AreAlike (step ∷ steps) closing [] last = last ≡ ByWant
AreAlike (step ∷ steps) closing (other ∷ others) last = AreDoneAlike step other (AreAlike steps closing others last)

-- all verdicts that come are alike
abbrev pub IsOneVerdict : Coming → Type 0
IsOneVerdict coming = (verdict other : Verdict) → coming verdict → coming other
    → AreAlike verdict.steps verdict.closing other.steps other.closing

-- so a command is a function of what its steps are told
abbrev pub IsFunction : Type 0
IsFunction = (command : Option Command) → IsOneVerdict (Comes command)

-- each file gave what is told of it
abbrev pub AreGiven : (Ask → Option (List ℕ)) → List Step → Type 0
AreGiven told [] = Unit {0}
AreGiven told (Loads ask given ∷ steps) = (given ≡ told ask) × AreGiven told steps
AreGiven told (other ∷ steps) = AreGiven told steps

-- of what comes where the files give this, each verdict is closed by want of memory
abbrev pub IsOnlyWant : (Ask → Option (List ℕ)) → Coming → Type 0
IsOnlyWant told coming = (verdict : Verdict) → coming verdict → AreGiven told verdict.steps → verdict.closing ≡ ByWant

-- that is so of no command, whatever its files give: some other verdict comes
abbrev pub SomeVerdictComes : Type 0
SomeVerdictComes = (command : Option Command) (told : Ask → Option (List ℕ)) → ¬ IsOnlyWant told (Comes command)
