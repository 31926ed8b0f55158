-- What the parts of a run that keeps a journal do.
use Rattle.std.specs.Prelude.{◌≡◌, ℕ, ⊤, Bool, true, List, Option, Some, None, Result, Ok, Err}
use Rattle.tea_io.specs.Told.{Rose}
use Rattle.store_io.specs.declared.store.StoreFault.{StoreFault}
use Rattle.store_io.specs.declared.store.StoreFault.TheVariants as store_fault
use Rattle.store_io.specs.declared.stores.Opened.{Opened}
use Rattle.store_io.specs.declared.stores.Opened.TheVariants as opened
use Rattle.store_io.specs.Stores.{TellsOnly}
use Rattle.reflector_core.specs.Stored.{session_of}
use Rattle.host_posts.specs.Shares.{SharesTell}
use Rattle.reflect_server.specs.declared.reflection.Opening.{Opening}
use Rattle.session_keeper.specs.declared.keeper.JournalKeeper.{JournalKeeper}
use Rattle.session_log.specs.Stored.{PlainStored}
use Rattle.session_journal.specs.Frames.{Place}
use Rattle.session_journal.specs.Journal.{AreBytes}
use Rattle.journal_store.specs.declared.opening.OpeningFault.{OpeningFault}
use Rattle.journal_store.specs.Opening.{OpensJournal}
use Rattle.journal_store.specs.Stores.{StoresTell, TakesStore}
use Rattle.run_steps.specs.Outside.{Outside, OutputTells, OutsideTells}
use Rattle.command_outcome.specs.declared.outcome.Input.TheVariants as input
use Rattle.command_outcome.specs.declared.outcome.CommandRefusal.TheVariants as refusal
use Rattle.command_reflect.specs.declared.keeping.GoingOn.{GoingOn}
use Rattle.command_reflect.specs.declared.keeping.Keeping.{Keeping}
use Rattle.command_reflect.specs.KeptSteps.{GoesOnFrom}
use Rattle.commands.specs.Keeping.{OfAbsent, OfBytes}
use Rattle.commands.specs.Verdict.{ByGoingOn, ByKeeping, PlainKeeping}
use Rattle.commands.specs.Work.{plain_keeping}
use Rattle.croquet.specs.declared.keeping.There.{There}
use Rattle.croquet.specs.declared.keeping.Stopped.{Stopped}
use Rattle.croquet.specs.declared.status.Status.{Status}
use Rattle.croquet.specs.declared.top.Turn.{Turn}
use Rattle.croquet.specs.declared.top.Turn.TheVariants as turn
use Rattle.croquet.specs.Calls.{opening_ending, ungone_ending}
use Rattle.croquet.specs.Run.{EndsRead, GoesOnWith, KeepsFor, OfAnswer, OpensAs, RanBySteps, Reaches, StopsAtBytes, TellsEnding, refusal_ending}

-- what is told of a store that is there
abbrev pub answer_there : {S : Type 0} → There S → Result (Opened S) OpeningFault
answer_there there = Ok (opened.There there.store there.bytes)

-- what is told of a journal that was not opened, or is too long; nothing of one that is there, or is not there
abbrev pub TellsUnopened : {W S : Type 0} → OutputTells W → Result (Opened S) OpeningFault → W → W → Status → Type 0
TellsUnopened out (Ok opened.Absent) old new result = ⊥
TellsUnopened out (Ok (opened.There store bytes)) old new result = ⊥
TellsUnopened out (Ok (opened.TooLarge len)) old new result =
    TellsEnding out (refusal_ending (refusal.Input input.Journal)) old new result
TellsUnopened out (Err fault) old new result = TellsEnding out (opening_ending fault) old new result

-- the journal of this keeping is opened, with this answer
abbrev pub OpensKeeping : {T S : Type 0} → StoresTell T S → PlainKeeping → Result (Opened S) OpeningFault → T → T
    → Type 0
OpensKeeping stores keeping answer s t = OpensJournal stores keeping.id keeping.journal keeping.opening answer s t

-- a journal is there, or is not there, and nothing is told; or it is told why it was not opened
abbrev pub OpensOrTells : {W T S : Type 0} → OutputTells W → StoresTell T S → PlainKeeping
    → Result (Option (There S)) Status → W → W → T → T → Type 0
OpensOrTells out stores keeping (Ok (Some there)) old new s t =
    (new ≡ old) × OpensKeeping stores keeping (answer_there there) s t
OpensOrTells out stores keeping (Ok None) old new s t = (new ≡ old) × OpensKeeping stores keeping (Ok opened.Absent) s t
OpensOrTells {S = S} out stores keeping (Err result) old new s t =
    (answer : Result (Opened S) OpeningFault) × OpensKeeping stores keeping answer s t
    × TellsUnopened out answer old new result

-- its store is out, where it is there
abbrev pub HasStore : {S : Type 0} → Bool → Result (Option (There S)) Status → Type 0
HasStore out (Ok (Some there)) = out ≡ true
HasStore out result = ⊤

-- a command is over, or its journal is to be opened
abbrev pub IsKeepingTurn : Turn → Type 0
IsKeepingTurn (turn.Over result) = ⊤
IsKeepingTurn (turn.Keeps keeping) = ⊤
IsKeepingTurn other = ⊥

-- the turn of this keeping, or of this end
abbrev pub turn_of : Result Keeping Status → Turn
turn_of (Ok keeping) = turn.Keeps keeping
turn_of (Err result) = turn.Over result

-- it is known now with what a journal is founded that is not there, or the run is over
abbrev pub FoundsOrEnds : {F W N L : Type 0} → OutsideTells F W N L → PlainKeeping → Result Keeping Status
    → Outside F W N L → Outside F W N L → Type 0
FoundsOrEnds tells first (Ok keeping) old new =
    Reaches tells (OfAbsent first.opening first) (ByKeeping (plain_keeping keeping)) old new
FoundsOrEnds tells first (Err result) old new = RanBySteps tells (OfAbsent first.opening first) old new result

-- no journal is there, and the run is over
pub record EndsUnopened {F W N L T S : Type 0} (tells : OutsideTells F W N L) (stores : StoresTell T S)
    (first : PlainKeeping) (old new : Outside F W N L) (s t : T) (result : Status) : Type 0 where
  pub keeping : PlainKeeping
  pub answer : Result (Opened S) OpeningFault
  pub told : Outside F W N L
  pub opens : OpensAs tells stores first keeping answer old told s t
  pub ends : OfAnswer tells keeping answer (λ store bytes. ⊥) told new t t result

-- a journal was opened and, where it was not there, founded and opened again: it is there now, or the run is over
abbrev pub OpensOrEnds : {F W N L T S : Type 0} → OutsideTells F W N L → StoresTell T S → PlainKeeping
    → Result (Keeping × There S) Status → Outside F W N L → Outside F W N L → T → T → Type 0
OpensOrEnds tells stores first (Ok found) old new s t =
    OpensAs tells stores first (plain_keeping found.0) (answer_there found.1) old new s t
OpensOrEnds tells stores first (Err result) old new s t = EndsUnopened tells stores first old new s t result

-- what a store holds was read so
pub record WasReadAs (told : Option (List ℕ)) (keeping : Keeping) (going : GoingOn) : Type 0 where
  pub bytes : List ℕ
  pub tells : TellsOnly told bytes
  pub are : AreBytes bytes
  pub from : GoesOnFrom keeping bytes going

-- a session goes on with its keeper, and nothing is told; or it is told why it does not go on
abbrev pub ResumesOrTells : {W S : Type 0} → OutputTells W → (S → Option (List ℕ)) → (S → ℕ) → (S → ℕ) → S
    → Place PlainStored → Result (Opening (JournalKeeper S)) (Stopped S) → W → W → Type 0
ResumesOrTells out told safe faults store place (Ok ready) old new =
    (new ≡ old) × (ready.session.plain ≡ session_of place.state)
    × GoesOnWith told safe (session_of place.state) ready.keeper
ResumesOrTells out told safe faults store place (Err stopped) old new =
    (fault : StoreFault) × (fault ≡ store_fault.Failed → Rose (faults store) (faults stopped.store))
    × TellsEnding out (ungone_ending fault) old new stopped.status

-- a session goes on from the bytes of its journal
pub record GoesOnReady {F W N L S : Type 0} (tells : OutsideTells F W N L) (told : S → Option (List ℕ)) (safe : S → ℕ)
    (keeping : PlainKeeping) (bytes : List ℕ) (ready : Opening (JournalKeeper S))
    (old new : Outside F W N L) : Type 0 where
  pub place : Place PlainStored
  pub reaches : Reaches tells (OfBytes keeping bytes) (ByGoingOn keeping place) old new
  pub session : ready.session.plain ≡ session_of place.state
  pub goes_on : GoesOnWith told safe (session_of place.state) ready.keeper

-- what comes of the bytes of a journal: its session goes on, or it does not
abbrev pub ReadsJournal
    : {F W N L S : Type 0} → OutsideTells F W N L → (S → Option (List ℕ)) → (S → ℕ) → (S → ℕ) → PlainKeeping → S
    → List ℕ → Result (Opening (JournalKeeper S)) (Stopped S) → Outside F W N L → Outside F W N L → Type 0
ReadsJournal tells told safe faults keeping store bytes (Ok ready) old new =
    GoesOnReady tells told safe keeping bytes ready old new
ReadsJournal tells told safe faults keeping store bytes (Err stopped) old new =
    StopsAtBytes tells faults keeping store bytes stopped.store old new stopped.status

-- what comes of a journal that is there: its session goes on; or it does not, and its store is given back
abbrev pub ResumesThere : {F W N L T S : Type 0} → OutsideTells F W N L → StoresTell T S → Keeping → There S
    → Result (Keeping × Opening (JournalKeeper S)) Status → Outside F W N L → Outside F W N L → T → T → Type 0
ResumesThere tells stores keeping there (Ok ready) old new s t =
    (ready.0 ≡ keeping) × (t ≡ s)
    × GoesOnReady tells stores.told stores.safe (plain_keeping keeping) there.bytes ready.1 old new
ResumesThere tells stores keeping there (Err result) old new s t =
    EndsRead tells stores (plain_keeping keeping) there.store there.bytes old new s t result

-- What comes of a keeping, up to where it serves: its session goes on, and its store is out; or the run is over.
pub record PreparesOk {F W N L T S : Type 0} (tells : OutsideTells F W N L) (stores : StoresTell T S)
    (first keeping : PlainKeeping) (ready : Opening (JournalKeeper S)) (old new : Outside F W N L)
    (s t : T) : Type 0 where
  pub store : S
  pub bytes : List ℕ
  pub told : Outside F W N L
  pub opens : OpensAs tells stores first keeping (Ok (opened.There store bytes)) old told s t
  pub goes : GoesOnReady tells stores.told stores.safe keeping bytes ready told new

pub record PreparesNone {F W N L T S : Type 0} (tells : OutsideTells F W N L) (stores : StoresTell T S)
    (first : PlainKeeping) (old new : Outside F W N L) (s t : T) (result : Status) : Type 0 where
  pub keeping : PlainKeeping
  pub answer : Result (Opened S) OpeningFault
  pub told : Outside F W N L
  pub held : T
  pub opens : OpensAs tells stores first keeping answer old told s held
  pub ends : OfAnswer tells keeping answer (λ store bytes.
      EndsRead tells stores keeping store bytes told new held t result) told new held t result

abbrev pub Prepares : {F W N L T S : Type 0} → OutsideTells F W N L → StoresTell T S → PlainKeeping
    → Result (Keeping × Opening (JournalKeeper S)) Status → Outside F W N L → Outside F W N L → T → T → Type 0
Prepares tells stores first (Ok ready) old new s t =
    PreparesOk tells stores first (plain_keeping ready.0) ready.1 old new s t
Prepares tells stores first (Err result) old new s t = PreparesNone tells stores first old new s t result

-- A session that goes on was served as long as its words say, the store is given back, and what comes of the answer is done.
pub record ServedAs (gives : ℕ → Type 0) (may : Option (List ℕ) → Type 0) {F W N L P T S : Type 0}
    (tells : OutsideTells F W N L) (parts : SharesTell N P L) (stores : StoresTell T S) (keeping : PlainKeeping)
    (opening : Opening (JournalKeeper S)) (old new : Outside F W N L) (s t : T) (result : Status) : Type 0 where
  pub keeper : JournalKeeper S
  pub serves : KeepsFor keeping.span gives may tells parts stores keeping opening.session.plain opening.keeper keeper old new result
  pub back : TakesStore stores keeping.journal keeper.journal.store s t
