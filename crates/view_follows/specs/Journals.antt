-- What the journal of a run leaves to the next one, and of which runs the answers of `reflect` tell.
use Rattle.std.specs.Prelude.{◌≡◌, ℕ, ◌<◌, List, [], ◌∷◌, ◌++◌, map, take, Option, Some, Result, IfOk}
use Rattle.std.specs.List.{AllByRecursion}
use Rattle.tea_base.specs.declared.entry.SessionId.{SessionId}
use Rattle.tea_io.specs.declared.net.NetCall.{NetCall}
use Rattle.store_io.specs.Store.{MayBeTorn}
use Rattle.session_log.specs.Stored.{PlainStored}
use Rattle.reflector_core.specs.PlainSession.{PlainSession}
use Rattle.reflector_core.specs.Play.{first_session}
use Rattle.reflector_core.specs.Stored.{session_of}
use Rattle.session_journal.specs.declared.change.Change.{Change}
use Rattle.session_journal.specs.declared.change.Change.TheVariants.{Came, Kept, Reached}
use Rattle.session_journal.specs.Frames.{Place}
use Rattle.session_journal.specs.Journal.{AreBytes, Goes, journal_spelling, read_journal}
use Rattle.session_keeper.specs.Keeping.{IsJournalOf, IsShut, fault_count}
use Rattle.session_keeper.specs.declared.keeper.JournalKeeper.{JournalKeeper}
use Rattle.session_lock.specs.History.{play_from}
use Rattle.session_lock.specs.Keeping.{HoldsPlay}
use Rattle.reflect_server.specs.declared.reflection.KeptFault.{KeptFault}
use Rattle.reflect_server.specs.declared.reflection.Reflected.{Reflected}
use Rattle.reflect_server.specs.declared.reflection.ServeFault.{ServeFault}
use Rattle.reflect_server.specs.Keeping.{KeeperTells, keeper_tells, no_keeper}
use Rattle.reflect_server.specs.Opening.{gives_later}
use Rattle.reflect_server.specs.Reflects.{Reflects, ReflectsKept, ReturnsLinks, with_kept_fault}
use Rattle.run_steps.specs.Outside.{LinksTell, NetTells}
use Rattle.view_follows.specs.AnyEnds.{AreRuns, HasRun, MayLeave, WasOffered}
use Rattle.view_follows.specs.Sessions.{ReflectorRun}

-- ---- what is left

-- the journal of this keeper holds what the run came to
pub record IsHeldBy {C L S : Type 0} (told : S → Option (List ℕ)) (safe : S → ℕ) (keeper : JournalKeeper S)
    (run : ReflectorRun C L) : Type 0 where
  pub play : run.session ≡ play_from run.opening run.history
  pub holds : HoldsPlay (IsJournalOf told safe keeper) run.opening run.history

-- A record that the run was writing when it ended, and that nobody was told: an entry later than its horizon, a horizon, or a snapshot that it
-- was offered.
abbrev pub IsUntold : {C L : Type 0} → ReflectorRun C L → Change → Type 0
IsUntold run (Came time view what) = run.session.horizon < time
IsUntold run (Reached time) = Unit {0}
IsUntold run (Kept time bytes) = WasOffered run (Some (record { time = time; bytes = bytes }))

-- Bytes that are left are read as a session. Behind the records that were safe these more are read. If each of them is untold, the run may
-- leave this session.
pub record IsLeft {C L : Type 0} (id safe left : List ℕ) (run : ReflectorRun C L) : Type 0 where
  pub place : Place PlainStored
  pub read : read_journal id left ≡ Goes place
  pub own : List Change
  pub safe_are : safe ≡ journal_spelling id own
  pub more : List Change
  pub left_are : left ≡ journal_spelling id (own ++ more) ++ place.rest
  pub leaves : AllByRecursion (IsUntold run) more → MayLeave run (session_of place.state)

-- so are any bytes that begin with the safe ones, whatever ended the run, and whatever call of the store had failed
abbrev pub JournalsLeave : (C L : Type 0) {S : Type 0} → (S → Option (List ℕ)) → (S → ℕ) → Type 0
JournalsLeave C L {S = S} told safe =
    (run : ReflectorRun C L) (keeper : JournalKeeper S) (bytes left : List ℕ) → IsHeldBy told safe keeper run
    → told keeper.journal.store ≡ Some bytes → AreBytes left → MayBeTorn (Some bytes) (safe keeper.journal.store) left
    → IsLeft keeper.id.0 (take (safe keeper.journal.store) bytes) left run

-- the safe bytes alone are read as a session that the run may leave
pub record SafeIsLeft {C L : Type 0} (id safe : List ℕ) (run : ReflectorRun C L) : Type 0 where
  pub place : Place PlainStored
  pub read : read_journal id safe ≡ Goes place
  pub leaves : MayLeave run (session_of place.state)

abbrev pub SafeBytesLeave : (C L : Type 0) {S : Type 0} → (S → Option (List ℕ)) → (S → ℕ) → Type 0
SafeBytesLeave C L {S = S} told safe =
    (run : ReflectorRun C L) (keeper : JournalKeeper S) (bytes : List ℕ) → IsHeldBy told safe keeper run
    → told keeper.journal.store ≡ Some bytes → SafeIsLeft keeper.id.0 (take (safe keeper.journal.store) bytes) run

-- ---- runs on one journal

-- a run that kept a journal: the keeper that it left, and the bytes that were found of the journal when the next run began
pub record JournalRun (C L S : Type 0) : Type 0 where
  pub run : ReflectorRun C L
  pub keeper : JournalKeeper S
  pub found : List ℕ

-- The journal of this session held what the run came to. The bytes that were found begin with those that were safe, and each record that they have
-- behind these is untold.
pub record LeavesJournal {C L S : Type 0} (told : S → Option (List ℕ)) (safe : S → ℕ) (id : SessionId)
    (one : JournalRun C L S) : Type 0 where
  pub of_session : one.keeper.id ≡ id
  pub held : IsHeldBy told safe one.keeper one.run
  pub bytes : List ℕ
  pub tells : told one.keeper.journal.store ≡ Some bytes
  pub are : AreBytes one.found
  pub begins : MayBeTorn (Some bytes) (safe one.keeper.journal.store) one.found
  pub untold
      : (own more : List Change) (torn : List ℕ)
      → take (safe one.keeper.journal.store) bytes ≡ journal_spelling id.0 own
      → one.found ≡ journal_spelling id.0 (own ++ more) ++ torn
      → AllByRecursion (IsUntold one.run) more

-- a run begins with the session that is read from these bytes
abbrev pub BeginsOn : {C L : Type 0} → SessionId → List ℕ → ReflectorRun C L → Type 0
BeginsOn id found run = (place : Place PlainStored) × (read_journal id.0 found ≡ Goes place)
    × (run.opening ≡ session_of place.state)

-- so does each, on what was found of the one before it
abbrev pub BeginOnJournals : {C L S : Type 0} → (S → Option (List ℕ)) → (S → ℕ) → SessionId → JournalRun C L S
    → List (JournalRun C L S) → Type 0
BeginOnJournals told safe id one [] = Unit {0}
BeginOnJournals told safe id one (next ∷ rest) = LeavesJournal told safe id one × BeginsOn id one.found next.run
    × BeginOnJournals told safe id next rest

-- and the first one with a new session
abbrev pub KeepOneJournal : {C L S : Type 0} → (S → Option (List ℕ)) → (S → ℕ) → SessionId → List (JournalRun C L S)
    → Type 0
KeepOneJournal told safe id [] = Unit {0}
KeepOneJournal told safe id (one ∷ rest) = (one.run.opening ≡ first_session) × BeginOnJournals told safe id one rest

-- such runs are runs of one session, each of which begins with what the one before it may have left
abbrev pub JournalRunsFollow : {C L S : Type 0} → (C → ℕ → Type 0) → LinksTell L → (S → Option (List ℕ)) → (S → ℕ)
    → Type 0
JournalRunsFollow {C = C} {L = L} {S = S} gives links told safe =
    (id : SessionId) (runs : List (JournalRun C L S)) → AllByRecursion (λ one. HasRun gives id links one.run) runs
    → KeepOneJournal told safe id runs → AreRuns gives id links (map (λ one. one.run) runs)

-- ---- what is answered

-- A run of which an answer of `reflect` tells: it had this clock, and began with this session. Its links are those that the net gave, and
-- its history is one that this keeper keeps.
pub record TellsOfRun {C N L : Type 0} (gives : C → ℕ → Type 0) (id : SessionId) (clock : C) (opening : PlainSession)
    (kept : KeeperTells) (tells : NetTells N L) (links : LinksTell L) (before now : N)
    (answer : Result Reflected KeptFault) : Type 0 where
  pub run : ReflectorRun C L
  pub its_clock : run.clock ≡ clock
  pub begins : run.opening ≡ opening
  pub ran : HasRun gives id links run
  pub net : ReturnsLinks tells links before now run.connections
  pub keeps : kept.keeps run.history
  pub comes_to : IfOk answer (λ reflected. run.session ≡ reflected.session.plain)

-- so does each answer of one that has no keeper
abbrev pub AnswersTellOfRuns : {C N L : Type 0} → (C → ℕ → Type 0) → NetTells N L → LinksTell L → Type 0
AnswersTellOfRuns {C = C} {N = N} {L = L} gives tells links =
    (id : SessionId) (clock : C) (opening : PlainSession) (calls : List NetCall) (count : ℕ) (before now : N)
    (answer : Result Reflected ServeFault)
    → Reflects (gives_later (gives clock) opening.horizon) id opening tells links calls count before now answer
    → TellsOfRun gives id clock opening no_keeper tells links before now (with_kept_fault answer)

-- and of one whose keeper is a journal
abbrev pub KeptAnswersTellOfRuns : {C N L S : Type 0} → (C → ℕ → Type 0) → NetTells N L → LinksTell L
    → (S → Option (List ℕ)) → (S → ℕ) → (S → ℕ) → Type 0
KeptAnswersTellOfRuns {C = C} {N = N} {L = L} {S = S} gives tells links told safe faults =
    (id : SessionId) (clock : C) (opening : PlainSession) (first : ℕ) (keeper : JournalKeeper S) (calls : List NetCall)
    (count : ℕ) (before now : N) (answer : Result Reflected KeptFault)
    → ReflectsKept (gives_later (gives clock) opening.horizon) id opening
    (keeper_tells (IsJournalOf told safe) IsShut (fault_count faults) first opening keeper) tells links calls count
    before now answer
    → TellsOfRun gives id clock opening
    (keeper_tells (IsJournalOf told safe) IsShut (fault_count faults) first opening keeper) tells links before now
    answer
