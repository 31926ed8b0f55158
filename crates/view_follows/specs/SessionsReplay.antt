-- That in a session whose only clients are views each view ends with the replay of the log, however often its reflector was started again.
use Rattle.std.specs.Prelude.{◌≡◌, ◌++◌, ℕ, List}
use Rattle.std.specs.List.{AllByRecursion}
use Rattle.tea_base.specs.declared.entry.Entry.{Entry}
use Rattle.tea_base.specs.declared.entry.SessionId.{SessionId}
use Rattle.model_solved.specs.Founding.{Founding}
use Rattle.reflector_core.specs.Play.{first_session}
use Rattle.session_lock.specs.declared.knowledge.Item.{Item}
use Rattle.session_lock.specs.History.{play_from}
use Rattle.replica.specs.RealWorlds.{worlds}
use Rattle.replica_plain.specs.Following.{IsHonestBase}
use Rattle.run_steps.specs.Outside.{LinksTell}
use Rattle.view_shell.specs.declared.ending.ViewEnd.TheVariants as ending
use Rattle.view_shell.specs.Phases.{Over}
use Rattle.view_follows.specs.Sessions.{AreViewRuns, ReflectorRun, SessionView, last_session}
use Rattle.view_follows.specs.ViewsReplay.{EndsInReplay, IsServedVisit}

-- a law of all such runs and views
abbrev pub OfViewRuns : {C L : Type 0} → (C → ℕ → Type 0) → LinksTell L
    → (Founding → SessionId → List (ReflectorRun C L) → List (SessionView L) → Type 0) → Type 0
OfViewRuns {C = C} {L = L} gives links Law =
    (founding : Founding) (id : SessionId) (runs : List (ReflectorRun C L)) (views : List (SessionView L))
    → AreViewRuns gives id links founding runs views → Law founding id runs views

-- the log that the last run left
abbrev pub last_log : {C L : Type 0} → List (ReflectorRun C L) → List Entry
last_log runs = (last_session first_session runs).log

-- each snapshot that was kept, at whatever place of whichever run, is of a world that follows this log
abbrev pub KeepHonest : {C L : Type 0} → Founding → SessionId → List (ReflectorRun C L) → List (SessionView L) → Type 0
KeepHonest founding id runs views =
    AllByRecursion (λ run. (front back : List Item) → front ++ back ≡ run.history
    → IsHonestBase (worlds founding id.0) (last_log runs) (play_from run.opening front).kept) runs

-- it serves each link of each view, and a base that it serves is honest
abbrev pub ServesViews : {C L : Type 0} → Founding → SessionId → List (ReflectorRun C L) → List (SessionView L) → Type 0
ServesViews founding id runs views =
    AllByRecursion (λ v. IsServedVisit founding id.0 v.view v.address v.lines (last_log runs) v.steps v.last) views

-- each view that is done printed last the line of its replay
abbrev pub EndsViews : {C L : Type 0} → Founding → SessionId → List (ReflectorRun C L) → List (SessionView L) → Type 0
EndsViews founding id runs views =
    AllByRecursion (λ v. v.last ≡ Over ending.Done → EndsInReplay founding id.0 v.view (last_log runs) v.steps) views
