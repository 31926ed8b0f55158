-- What a run does to the outside: all that comes of its command, or this up to one place, and then the line of its fault.
use Rattle.std.specs.Prelude.{◌≡◌, ℕ, Bool, false, ◌||◌, List, [], ◌∷◌, ◌++◌, ◌⊎◌, Option, Some, None, Result, Ok, Err, IfOk, codes}
use Rattle.text_lines.specs.Lines.{spell_numbers}
use Rattle.run_steps.specs.Steps.{Step, Loads, Puts, Looks, Prints}
use Rattle.run_steps.specs.Outside.{Outside, OutsideTells, OutputTells, Came, Well, Failed, WantedMemory, PrintsText, Cut, Acts, LinkGoesBack, OnPart}
use Rattle.tea_io.specs.declared.net.NetCall.TheVariants.{Listen}
use Rattle.drill.specs.declared.report.DrillReport.{DrillReport}
use Rattle.drill.specs.Drill.{HasDrilled}
use Rattle.reflect_server.specs.Keeping.{KeeperTells, keeper_tells}
use Rattle.reflect_server.specs.Reflects.{Reflects, ReflectsKept}
use Rattle.reflect_server.specs.declared.reflection.KeptFault.{KeptFault}
use Rattle.reflect_server.specs.declared.reflection.KeptFault.TheVariants as kept_fault
use Rattle.reflect_posts.specs.Reflects.{ReflectsOn, ReflectsUnkeptOn}
use Rattle.reflect_posts.specs.declared.service.ReflectedOn.{ReflectedOn}
use Rattle.tea_io.specs.Told.{Rose}
use Rattle.store_io.specs.declared.store.StoreFault.{StoreFault}
use Rattle.store_io.specs.declared.store.StoreFault.TheVariants as store_fault
use Rattle.store_io.specs.declared.stores.Opened.{Opened}
use Rattle.store_io.specs.declared.stores.Opened.TheVariants as opened
use Rattle.reflector_core.specs.PlainSession.{PlainSession}
use Rattle.reflector_core.specs.Stored.{session_of}
use Rattle.reflector_core.specs.Keeping.{IsCovered}
use Rattle.session_log.specs.Stored.{PlainStored}
use Rattle.session_journal.specs.Frames.{Place}
use Rattle.session_keeper.specs.Keeping.{IsJournalOf, IsShut, WritesJournalOf, fault_count}
use Rattle.session_keeper.specs.declared.keeper.JournalKeeper.{JournalKeeper}
use Rattle.journal_store.specs.declared.opening.OpeningFault.{OpeningFault}
use Rattle.journal_store.specs.declared.opening.OpeningFault.TheVariants as opening_fault
use Rattle.journal_store.specs.Opening.{OpensJournal}
use Rattle.journal_store.specs.Safe.{IsSafelyKept}
use Rattle.journal_store.specs.Stores.{StoresTell, TakesStore}
use Rattle.session_lock.specs.declared.knowledge.Item.{Item}
use Rattle.session_lock.specs.History.{play_from}
use Rattle.reflect_server.specs.Opening.{gives_later}
use Rattle.host_server.specs.Hosts.{Hosts}
use Rattle.host_server.specs.declared.hosting.Hosted.{Hosted}
use Rattle.host_posts.specs.Hosts.{HostsOn}
use Rattle.host_posts.specs.Shares.{SharesTell}
use Rattle.host_posts.specs.declared.posting.HostedOn.{HostedOn}
use Rattle.reflect_server.specs.declared.reflection.Reflected.{Reflected}
use Rattle.reflect_server.specs.declared.reflection.ServeFault.{ServeFault}
use Rattle.reflect_server.specs.declared.reflection.ServeFault.TheVariants as serve_fault
use Rattle.tea_base.specs.declared.want.WantOfMemory.{WantOfMemory}
use Rattle.live_view.specs.Script.{first_state}
use Rattle.live_shell.specs.LiveRun.{LiveRan}
use Rattle.live_shell.specs.LiveSteps.{FeedTells, live_outside, live_tells}
use Rattle.live_shell.specs.declared.ending.LiveEnd.{LiveEnd}
use Rattle.live_shell.specs.declared.ending.LiveEnd.TheVariants as live_end
use Rattle.view_shell.specs.declared.ending.ViewEnd.{ViewEnd}
use Rattle.view_shell.specs.declared.ending.ViewEnd.TheVariants as view_end
use Rattle.view_shell.specs.Phases.{Phase, Walks}
use Rattle.view_shell.specs.Viewers.{first_phase}
use Rattle.view_shell.specs.ViewRun.{EndsBy}
use Rattle.command_outcome.specs.declared.outcome.Input.{Input}
use Rattle.command_outcome.specs.declared.outcome.Input.TheVariants as input
use Rattle.command_outcome.specs.declared.outcome.CommandRefusal.{CommandRefusal}
use Rattle.command_outcome.specs.declared.outcome.CommandRefusal.TheVariants as refusal
use Rattle.command_words.specs.declared.words.DrillRequest.{DrillRequest}
use Rattle.command_words.specs.declared.words.ServingSpan.{ServingSpan}
use Rattle.command_words.specs.declared.words.ServingSpan.TheVariants as serving_span
use Rattle.commands.specs.Keeping.{OfAbsent, OfBytes, no_journal}
use Rattle.commands.specs.Verdict.{Closing, Fine, ByRefusal, ByWant, ByReadFault, ByWriteFault, ByNetFault, ByVisit, ByLive, ByReflecting, ByKeeping, ByGoingOn, ByHosting, ByDrill, Verdict, PlainHosting, PlainKeeping, PlainLive, PlainReflection, PlainVisit, Coming, OfEnds, OfEndsOn, OfHostEnds, OfPostEnds, Only, at_once}
use Rattle.croquet.specs.Drills.{OfDrilled, drill_size}
use Rattle.croquet.specs.declared.status.Status.{Status}
use Rattle.croquet.specs.declared.status.Status.TheVariants as status

-- ---- how a run ends

-- what is told once all steps are done or one has failed, and with which status
pub data Ending : Type 0 where
  -- nothing more
  Silent : Status → Ending
  -- a last line
  Says : List ℕ → Status → Ending
  -- that memory ran out
  OutOfMemory : Ending

-- a file or a store was not read
abbrev pub on_read_fault : Ending
on_read_fault = Says (codes "read-fault\n") status.ReadFault

-- a file or a store was not written
abbrev pub on_write_fault : Ending
on_write_fault = Says (codes "write-fault\n") status.WriteFault

-- the net or its link has failed
abbrev pub on_net_fault : Ending
on_net_fault = Says (codes "net-fault\n") status.NetFault

abbrev pub name_of : Input → List ℕ
name_of input.Script = codes "script"
name_of input.Program = codes "program"
name_of input.Log = codes "log"
name_of input.Journal = codes "journal"
name_of input.Snapshot = codes "snapshot"
name_of input.Persisted = codes "persisted"
name_of input.Time = codes "time"
name_of input.Address = codes "address"
name_of input.Every = codes "every"
name_of input.Queries = codes "queries"
name_of input.Config = codes "config"

-- its command is refused
abbrev pub refusal_ending : CommandRefusal → Ending
refusal_ending refusal.Usage = Says (codes "usage\n") status.Usage
refusal_ending (refusal.Program line) = Says line status.Program
refusal_ending (refusal.Input at) = Says (codes "input " ++ name_of at ++ codes "\n") status.Input

-- the reflector refused a frame, with this code and the value that comes with it
abbrev pub refused_line : ℕ → ℕ → List ℕ
refused_line code kept = spell_numbers (codes "refused") (code ∷ kept ∷ []) ++ 10 ∷ []

-- it went on as a view's run, which ends so; an output that failed takes no line
abbrev pub view_ending : ViewEnd → Ending
view_ending view_end.Done = Silent status.Ok
view_ending (view_end.Refused code kept) = Says (refused_line code kept) status.Refused
view_ending view_end.NetFault = on_net_fault
view_ending view_end.Ended = Says (codes "ended\n") status.Ended
view_ending view_end.Peer = Says (codes "peer\n") status.Peer
view_ending view_end.WriteFault = Silent status.WriteFault
view_ending view_end.WantOfMemory = OutOfMemory

-- it went on as a live view's run, which ends so: as its view, or its lines were not read
abbrev pub live_ending : LiveEnd → Ending
live_ending (live_end.View end) = view_ending end
live_ending live_end.ReadFault = on_read_fault

-- a step has failed; an output that failed takes no line
abbrev pub failed_ending : Step → Ending
failed_ending (Loads ask given) = on_read_fault
failed_ending (Puts name bytes) = on_write_fault
failed_ending (Looks name) = on_write_fault
failed_ending (Prints text) = Silent status.WriteFault
-- all others are of the net and its link
failed_ending other = on_net_fault

-- ---- what a command comes to

-- These steps are a view's run, and so does it end: as the phase says to which they lead, or for want of memory in any phase.
pub record Visits (visit : PlainVisit) (steps : List Step) (ending : Ending) : Type 0 where
  pub last : Phase
  pub end : ViewEnd
  pub walks : Walks (first_phase visit.founding visit.id visit.view visit.address visit.lines) steps last
  pub ends : EndsBy last None end
  pub is : ending ≡ view_ending end

-- what a closing comes to: the steps that are still done, and how the run ends behind them; a row for each
abbrev pub Concludes : Closing → List Step → Ending → Type 0
Concludes Fine steps ending = (steps ≡ []) × (ending ≡ Silent status.Ok)
Concludes (ByRefusal refusal) steps ending = (steps ≡ []) × (ending ≡ refusal_ending refusal)
Concludes ByWant steps ending = (steps ≡ []) × (ending ≡ OutOfMemory)
Concludes ByReadFault steps ending = (steps ≡ []) × (ending ≡ on_read_fault)
Concludes ByWriteFault steps ending = (steps ≡ []) × (ending ≡ on_write_fault)
Concludes ByNetFault steps ending = (steps ≡ []) × (ending ≡ on_net_fault)
Concludes (ByVisit visit) steps ending = Visits visit steps ending
-- No run by steps alone ends so: its lines come from a feed. `RanAsLive` says how it does.
Concludes (ByLive live) steps ending = ⊥
-- Nor so: a reflector serves many links at once. `RanAsReflector` says how it does.
Concludes (ByReflecting reflection) steps ending = ⊥
-- Nor so: what comes next depends on what the stores tell. `RanAsKeeper` says how.
Concludes (ByKeeping keeping) steps ending = ⊥
Concludes (ByGoingOn keeping place) steps ending = ⊥
-- Nor so: a host serves many links at once. `RanAsHost` says how it does, and `RanAsService` how its posts do.
Concludes (ByHosting hosting) steps ending = ⊥
-- Nor so: the views of a drill run in threads. `RanAsDrill` says what comes of them.
Concludes (ByDrill request) steps ending = ⊥

-- these steps, and this end, come of a command: those of a verdict that comes, and then those that its closing comes to
pub record Course (coming : Coming) (steps : List Step) (ending : Ending) : Type 0 where
  pub verdict : Verdict
  pub comes : coming verdict
  pub more : List Step
  pub concludes : Concludes verdict.closing more ending
  pub all : steps ≡ verdict.steps ++ more

-- ---- what is told last

-- The line `memory` is written. A sink that fails at it decides the status.
abbrev pub TellsMemory : {W : Type 0} → OutputTells W → W → W → Status → Type 0
TellsMemory out old new result =
    (PrintsText out Well (codes "memory\n") old new × (result ≡ status.WantOfMemory))
    ⊎ ((PrintsText out Failed (codes "memory\n") old new × (result ≡ status.WriteFault))
    ⊎ (PrintsText out WantedMemory (codes "memory\n") old new × (result ≡ status.WantOfMemory)))

-- A last line is written, and gives this status. A sink that fails at it decides the status, and so does memory that it wants.
abbrev pub Tells : {W : Type 0} → OutputTells W → List ℕ → Status → W → W → Status → Type 0
Tells {W = W} out line given old new result =
    (PrintsText out Well line old new × (result ≡ given))
    ⊎ ((PrintsText out Failed line old new × (result ≡ status.WriteFault))
    ⊎ ((mid : W) × PrintsText out WantedMemory line old mid × TellsMemory out mid new result))

-- an end is told
abbrev pub TellsEnding : {W : Type 0} → OutputTells W → Ending → W → W → Status → Type 0
TellsEnding out (Silent given) old new result = (new ≡ old) × (result ≡ given)
TellsEnding out (Says line given) old new result = Tells out line given old new result
TellsEnding out OutOfMemory old new result = TellsMemory out old new result

-- A step that failed, or at which memory was wanted, is told.
abbrev pub TellsCut : {W : Type 0} → OutputTells W → Came → Step → W → W → Status → Type 0
TellsCut out Well step old new result = ⊥
TellsCut out Failed step old new result = TellsEnding out (failed_ending step) old new result
TellsCut out WantedMemory step old new result = TellsMemory out old new result

-- The end of a run is told: where its steps were cut, by the step at which they were.
abbrev pub TellsEnd : {W : Type 0} → OutputTells W → Option Cut → Ending → W → W → Status → Type 0
TellsEnd out None ending old new result = TellsEnding out ending old new result
TellsEnd out (Some cut) ending old new result = TellsCut out cut.came cut.step old new result

-- ---- a run

-- this is told, and nothing else moves
abbrev pub OnlyTells : {F W N L : Type 0} → (W → W → Status → Type 0) → Outside F W N L → Outside F W N L → Status
    → Type 0
OnlyTells Told old new result = Told old.out new.out result × (new ≡ record old { out = new.out })

-- The steps are done, one after the other, up to one that fails or wants memory, if one does: it cuts the run, and no other step is
-- done. Then the link that is in use goes back, and the end is told.
pub record Does {F W N L : Type 0} (tells : OutsideTells F W N L) (steps : List Step) (ending : Ending)
    (old new : Outside F W N L) (result : Status) : Type 0 where
  pub cut : Option Cut
  pub done : Outside F W N L
  pub acts : Acts tells steps cut old done
  pub left : Outside F W N L
  pub goes_back : LinkGoesBack tells done left
  pub told : OnlyTells (TellsEnd tells.out cut ending) left new result

-- There are steps and an end that come of a command, and what was read, put, printed, made, heard and sent is what they give, up to
-- the place where the run was cut, and then the last line.
pub record RanBySteps {F W N L : Type 0} (tells : OutsideTells F W N L) (coming : Coming) (old new : Outside F W N L)
    (result : Status) : Type 0 where
  pub steps : List Step
  pub ending : Ending
  pub course : Course coming steps ending
  pub does : Does tells steps ending old new result

-- ---- a reflector's run

-- the steps of a verdict that comes of a command, which is closed so, are all done
pub record Reaches {F W N L : Type 0} (tells : OutsideTells F W N L) (coming : Coming) (closing : Closing)
    (old new : Outside F W N L) : Type 0 where
  pub steps : List Step
  pub comes : coming (record { steps = steps; closing = closing })
  pub acts : Acts tells steps None old new

-- a reflector of this session has done this to the net, which was to give so many links, by a clock that may give these values, counted from the
-- session's horizon, and answers so; nothing else moves
abbrev pub ServesNet
    : (ℕ → Type 0) → {F W N L : Type 0} → OutsideTells F W N L → PlainReflection → ℕ → Result Reflected ServeFault
    → Outside F W N L → Outside F W N L
    → Type 0
ServesNet gives tells reflection connections answer old new =
    OnPart tells.net (λ net. OnPart tells.links (λ links.
    Reflects (gives_later gives reflection.opening.horizon) (record { 0 = reflection.id }) reflection.opening net links
    (Listen reflection.address ∷ []) connections old.net new.net answer))
    × (new ≡ record old { net = new.net })

-- what comes of a reflector's answer: its session is put as it is stored, if there is a name for it, and then its text is printed, also where the net, or memory, gave no further link
abbrev pub OfReflected : Option (List ℕ) → Result Reflected ServeFault → Coming
OfReflected log (Ok reflected) = OfEnds log reflected.ends reflected.session.plain false reflected.stopped
OfReflected log (Err serve_fault.ListenFault) = Only (at_once ByNetFault)
OfReflected log (Err serve_fault.WantOfMemory) = Only (at_once ByWant)

-- a reflector has served so many links of the net, and what comes of its answer is done
pub record ReflectsLinks (gives : ℕ → Type 0) {F W N L : Type 0} (tells : OutsideTells F W N L)
    (reflection : PlainReflection) (connections : ℕ) (old new : Outside F W N L) (result : Status) : Type 0 where
  pub answer : Result Reflected ServeFault
  pub served : Outside F W N L
  pub serves : ServesNet gives tells reflection connections answer old served
  pub behind : RanBySteps tells (OfReflected reflection.log answer) served new result

-- So many posts have reflected this session over shares of the net, by a clock that may give these values, counted from the session's horizon, and
-- answer so; nothing else moves. A post has stopped only where it may have been asked to.
abbrev pub ServesShares
    : (ℕ → Type 0) → Type 0 → {F W N L P : Type 0} → OutsideTells F W N L → SharesTell N P L → PlainReflection → ℕ
    → Result ReflectedOn ServeFault → Outside F W N L → Outside F W N L → Type 0
ServesShares gives may tells parts reflection links answer old new =
    OnPart tells.net (λ net. OnPart tells.links (λ of_links.
    ReflectsUnkeptOn (gives_later gives reflection.opening.horizon) may (record { 0 = reflection.id }) reflection.opening
    net parts of_links (Listen reflection.address ∷ []) links old.net new.net answer))
    × (new ≡ record old { net = new.net })

-- what comes of the answer of posts: their session is put, if there is a name for it, and then its text is printed, also where a post has failed
abbrev pub OfReflectedOn : Option (List ℕ) → Result ReflectedOn ServeFault → Coming
OfReflectedOn log (Ok reflected) = OfEndsOn log reflected.posts reflected.session.plain false
OfReflectedOn log (Err serve_fault.ListenFault) = Only (at_once ByNetFault)
OfReflectedOn log (Err serve_fault.WantOfMemory) = Only (at_once ByWant)

-- so many posts have served the net, and what comes of their answer is done
pub record ReflectsByPosts (gives : ℕ → Type 0) (may : Type 0) {F W N L P : Type 0} (tells : OutsideTells F W N L)
    (parts : SharesTell N P L) (reflection : PlainReflection) (links : ℕ) (old new : Outside F W N L) (result : Status)
    : Type 0 where
  pub answer : Result ReflectedOn ServeFault
  pub served : Outside F W N L
  pub serves : ServesShares gives may tells parts reflection links answer old served
  pub behind : RanBySteps tells (OfReflectedOn reflection.log answer) served new result

-- A session was served as long as its words say, and what comes of the answer is done. A post has stopped only where the file that the words name may
-- have been there.
abbrev pub ReflectsFor
    : ServingSpan → (ℕ → Type 0) → (Option (List ℕ) → Type 0) → {F W N L P : Type 0} → OutsideTells F W N L
    → SharesTell N P L → PlainReflection → Outside F W N L → Outside F W N L → Status → Type 0
ReflectsFor (serving_span.Connections connections) gives may tells parts reflection old new result =
    ReflectsLinks gives tells reflection connections old new result
ReflectsFor (serving_span.Posts links until) gives may tells parts reflection old new result =
    ReflectsByPosts gives (may until) tells parts reflection links old new result

-- a command has done its steps, a reflector has served the net, and what comes of its answer is done
pub record RanAsReflector (gives : ℕ → Type 0) (may : Option (List ℕ) → Type 0) {F W N L P : Type 0}
    (tells : OutsideTells F W N L) (parts : SharesTell N P L) (coming : Coming) (old new : Outside F W N L)
    (result : Status) : Type 0 where
  pub reflection : PlainReflection
  pub ready : Outside F W N L
  pub reaches : Reaches tells coming (ByReflecting reflection) old ready
  pub serves : ReflectsFor reflection.span gives may tells parts reflection ready new result

-- ---- a host's run

-- a host of these sessions, and of those that it made on demand, has done this to the net, which was to give so many links, by a clock that may give
-- these values, and answers so; nothing else moves
abbrev pub ServesHost
    : (ℕ → Type 0) → {F W N L : Type 0} → OutsideTells F W N L → PlainHosting → ℕ → Result Hosted ServeFault
    → Outside F W N L → Outside F W N L → Type 0
ServesHost gives tells hosting connections answer old new =
    OnPart tells.net (λ net. OnPart tells.links (λ links.
    Hosts gives hosting.ids hosting.on_demand net links (Listen hosting.address ∷ []) connections old.net new.net
    answer))
    × (new ≡ record old { net = new.net })

-- what comes of a host's answer: each session is put as it is stored, those that were made on demand under this prefix, and then their text is
-- printed, also where the net, or memory, gave no further link
abbrev pub OfHosted : List (List ℕ) → List ℕ → Result Hosted ServeFault → Coming
OfHosted logs prefix (Ok hosted) = OfHostEnds logs prefix hosted.ids hosted.ends hosted.sessions hosted.stopped
OfHosted logs prefix (Err serve_fault.ListenFault) = Only (at_once ByNetFault)
OfHosted logs prefix (Err serve_fault.WantOfMemory) = Only (at_once ByWant)

-- a command has done its steps, a host has served the net, and what comes of its answer is done
pub record RanAsHost (gives : ℕ → Type 0) {F W N L : Type 0} (tells : OutsideTells F W N L) (coming : Coming)
    (old new : Outside F W N L) (result : Status) : Type 0 where
  pub hosting : PlainHosting
  pub connections : ℕ
  pub spans : hosting.span ≡ serving_span.Connections connections
  pub ready : Outside F W N L
  pub reaches : Reaches tells coming (ByHosting hosting) old ready
  pub answer : Result Hosted ServeFault
  pub served : Outside F W N L
  pub serves : ServesHost gives tells hosting connections answer ready served
  pub behind : RanBySteps tells (OfHosted hosting.logs hosting.prefix answer) served new result

-- ---- a service

-- So many posts have hosted these sessions, and those that they made on demand, over shares of the net, by a clock that may give these values, and
-- answer so; nothing else moves. A post has stopped only where it may have been asked to.
abbrev pub ServesPosts
    : (ℕ → Type 0) → Type 0 → {F W N L P : Type 0} → OutsideTells F W N L → SharesTell N P L → PlainHosting → ℕ
    → Result HostedOn ServeFault → Outside F W N L → Outside F W N L → Type 0
ServesPosts gives may tells parts hosting links answer old new =
    OnPart tells.net (λ net. OnPart tells.links (λ of_links.
    HostsOn gives may hosting.ids hosting.on_demand net parts of_links (Listen hosting.address ∷ []) links old.net
    new.net answer))
    × (new ≡ record old { net = new.net })

-- what comes of the answer of posts: each session is put as it is stored, and then their text is printed, also where a post has failed
abbrev pub OfHostedOn : List (List ℕ) → List ℕ → Result HostedOn ServeFault → Coming
OfHostedOn logs prefix (Ok hosted) = OfPostEnds logs prefix hosted.ids hosted.posts hosted.sessions
OfHostedOn logs prefix (Err serve_fault.ListenFault) = Only (at_once ByNetFault)
OfHostedOn logs prefix (Err serve_fault.WantOfMemory) = Only (at_once ByWant)

-- a command has done its steps, posts have hosted its sessions, each of which stopped only where the file that its words name may have been there, and
-- what comes of their answer is done
pub record RanAsService (gives : ℕ → Type 0) (may : Option (List ℕ) → Type 0) {F W N L P : Type 0}
    (tells : OutsideTells F W N L) (parts : SharesTell N P L) (coming : Coming) (old new : Outside F W N L)
    (result : Status) : Type 0 where
  pub hosting : PlainHosting
  pub links : ℕ
  pub until : Option (List ℕ)
  pub spans : hosting.span ≡ serving_span.Posts links until
  pub ready : Outside F W N L
  pub reaches : Reaches tells coming (ByHosting hosting) old ready
  pub answer : Result HostedOn ServeFault
  pub served : Outside F W N L
  pub serves : ServesPosts gives (may until) tells parts hosting links answer ready served
  pub behind : RanBySteps tells (OfHostedOn hosting.logs hosting.prefix answer) served new result

-- ---- a reflector that keeps a journal

-- what comes of the opening of a journal
abbrev pub OfOpened : {S : Type 0} → PlainKeeping → Result (Opened S) OpeningFault → Coming
OfOpened keeping (Ok opened.Absent) = OfAbsent keeping.opening keeping
OfOpened keeping (Ok (opened.There store bytes)) = OfBytes keeping bytes
OfOpened keeping (Ok (opened.TooLarge len)) = Only (at_once no_journal)
OfOpened keeping (Err opening_fault.Unfounded) = Only (at_once ByWriteFault)
OfOpened keeping (Err opening_fault.Unopened) = Only (at_once ByReadFault)
OfOpened keeping (Err opening_fault.WantOfMemory) = Only (at_once ByWant)

-- what comes of a journal that does not go on: it was not cut, or memory ran out
abbrev pub OfUngone : StoreFault → Coming
OfUngone store_fault.Failed = Only (at_once ByWriteFault)
OfUngone store_fault.WantOfMemory = Only (at_once ByWant)

-- what comes of the answer of a reflector whose session was kept, or was not kept to its end
abbrev pub OfKept : Option (List ℕ) → Bool → Result Reflected KeptFault → Coming
OfKept log unkept (Ok reflected) = OfEnds log reflected.ends reflected.session.plain unkept reflected.stopped
OfKept log unkept (Err kept_fault.ListenFault) = Only (at_once ByNetFault)
OfKept log unkept (Err kept_fault.WantOfMemory) = Only (at_once ByWant)
OfKept log unkept (Err kept_fault.Unkept) = Only (at_once ByWriteFault)

-- and of that of its posts
abbrev pub OfKeptOn : Option (List ℕ) → Bool → Result ReflectedOn KeptFault → Coming
OfKeptOn log unkept (Ok reflected) = OfEndsOn log reflected.posts reflected.session.plain unkept
OfKeptOn log unkept (Err kept_fault.ListenFault) = Only (at_once ByNetFault)
OfKeptOn log unkept (Err kept_fault.WantOfMemory) = Only (at_once ByWant)
OfKeptOn log unkept (Err kept_fault.Unkept) = Only (at_once ByWriteFault)

-- a journal is opened and, where it was not there, founded and opened again; all steps that come of that are done
abbrev pub OpensAs : {F W N L T S : Type 0} → OutsideTells F W N L → StoresTell T S → PlainKeeping → PlainKeeping
    → Result (Opened S) OpeningFault → Outside F W N L → Outside F W N L → T → T → Type 0
OpensAs {T = T} tells stores first keeping answer old new s t =
    ((keeping ≡ first) × (new ≡ old) × OpensJournal stores first.id first.journal first.opening answer s t)
    ⊎ ((mid : T) × OpensJournal stores first.id first.journal first.opening (Ok opened.Absent) s mid
    × Reaches tells (OfAbsent first.opening first) (ByKeeping keeping) old new
    × OpensJournal stores keeping.id keeping.journal keeping.opening answer mid t)

-- the steps of a verdict that comes, which is closed so, are cut: whatever was to come behind them
pub record EndsBefore {F W N L : Type 0} (tells : OutsideTells F W N L) (coming : Coming) (closing : Closing)
    (old new : Outside F W N L) (result : Status) : Type 0 where
  pub steps : List Step
  pub comes : coming (record { steps = steps; closing = closing })
  pub does : (ending : Ending) → Does tells steps ending old new result

-- a journal was read, and does not go on
pub record EndsUncut {F W N L S : Type 0} (tells : OutsideTells F W N L) (faults : S → ℕ) (keeping : PlainKeeping)
    (store : S) (bytes : List ℕ) (left : S) (old new : Outside F W N L) (result : Status) : Type 0 where
  pub place : Place PlainStored
  pub ready : Outside F W N L
  pub reaches : Reaches tells (OfBytes keeping bytes) (ByGoingOn keeping place) old ready
  pub fault : StoreFault
  pub rose : fault ≡ store_fault.Failed → Rose (faults store) (faults left)
  pub steps : RanBySteps tells (OfUngone fault) ready new result

-- The bytes of a store were read, and no session goes on from it: they are no journal of the session; or what is put and printed of them is cut; or
-- the store was not cut to what was read, or memory ran out. This store is left.
abbrev pub StopsAtBytes : {F W N L S : Type 0} → OutsideTells F W N L → (S → ℕ) → PlainKeeping → S → List ℕ → S
    → Outside F W N L → Outside F W N L → Status → Type 0
StopsAtBytes tells faults keeping store bytes left old new result =
    (RanBySteps tells (OfBytes keeping bytes) old new result × (left ≡ store))
    ⊎ (((place : Place PlainStored) × EndsBefore tells (OfBytes keeping bytes) (ByGoingOn keeping place) old new result
    × (left ≡ store))
    ⊎ EndsUncut tells faults keeping store bytes left old new result)

-- no session goes on, and the store is given back
pub record EndsRead {F W N L T S : Type 0} (tells : OutsideTells F W N L) (stores : StoresTell T S)
    (keeping : PlainKeeping) (store : S) (bytes : List ℕ) (old new : Outside F W N L) (s t : T)
    (result : Status) : Type 0 where
  pub left : S
  pub stops : StopsAtBytes tells stores.store_faults keeping store bytes left old new result
  pub back : TakesStore stores keeping.journal left s t

-- what a keeper holds covers this session, and so does what it has written; and it may keep more
pub record GoesOnWith {S : Type 0} (told : S → Option (List ℕ)) (safe : S → ℕ) (session : PlainSession)
    (keeper : JournalKeeper S) : Type 0 where
  pub covered : IsCovered (IsJournalOf told safe keeper) session.kept session
  pub written : IsCovered (WritesJournalOf told safe keeper) session.kept session
  pub unshut : ¬ IsShut keeper

-- what the journal of a session tells of its history, from this keeper on
abbrev pub journal_tells : {T S : Type 0} → StoresTell T S → PlainSession → JournalKeeper S → JournalKeeper S
    → KeeperTells
journal_tells stores session first keeper =
    keeper_tells (IsJournalOf stores.told stores.safe) IsShut (fault_count stores.store_faults)
    (fault_count stores.store_faults first) session keeper

-- A reflector of this session has done this to the net, which was to give so many links, and its keeper has kept what it came to.
abbrev pub ServesKept
    : (ℕ → Type 0) → {F W N L T S : Type 0} → OutsideTells F W N L → StoresTell T S → PlainKeeping → ℕ → PlainSession
    → JournalKeeper S → JournalKeeper S → Result Reflected KeptFault → Outside F W N L → Outside F W N L
    → Type 0
ServesKept gives tells stores keeping connections session first keeper answer old new =
    OnPart tells.net (λ net. OnPart tells.links (λ links.
    ReflectsKept (gives_later gives session.horizon) (record { 0 = keeping.id }) session
    (journal_tells stores session first keeper) net links
    (Listen keeping.address ∷ []) connections old.net new.net answer))
    × (new ≡ record old { net = new.net })

-- So many posts have done this to the net, and their keeper has kept what the session came to.
abbrev pub ServesKeptOn
    : (ℕ → Type 0) → Type 0 → {F W N L P T S : Type 0} → OutsideTells F W N L → SharesTell N P L → StoresTell T S
    → PlainKeeping → ℕ → PlainSession → JournalKeeper S → JournalKeeper S → Result ReflectedOn KeptFault
    → Outside F W N L → Outside F W N L → Type 0
ServesKeptOn gives may tells parts stores keeping links session first keeper answer old new =
    OnPart tells.net (λ net. OnPart tells.links (λ of_links.
    ReflectsOn (gives_later gives session.horizon) may (record { 0 = keeping.id }) session
    (journal_tells stores session first keeper) net parts of_links
    (Listen keeping.address ∷ []) links old.net new.net answer))
    × (new ≡ record old { net = new.net })

-- Whatever call of its store has failed: where the store tells its bytes, the safe ones are read as a session that has the log of the play of the
-- history that was kept, and at least its horizon. An end at any moment is a run whose store fails from that moment on.
abbrev pub StoresKeepPlays : {T S : Type 0} → StoresTell T S → Type 0
StoresKeepPlays {S = S} stores =
    (session : PlainSession) (first keeper : JournalKeeper S) (history : List Item)
    → (journal_tells stores session first keeper).keeps history
    → IsSafelyKept stores.told stores.safe keeper (play_from session history)

-- a call was not kept
abbrev pub is_shut : {S : Type 0} → JournalKeeper S → Bool
is_shut keeper = keeper.journal.shut || keeper.full

-- a reflector has served so many links of the net, and what comes of its answer is done
pub record KeepsLinks (gives : ℕ → Type 0) {F W N L T S : Type 0} (tells : OutsideTells F W N L)
    (stores : StoresTell T S) (keeping : PlainKeeping) (connections : ℕ) (session : PlainSession)
    (first keeper : JournalKeeper S) (old new : Outside F W N L) (result : Status) : Type 0 where
  pub answer : Result Reflected KeptFault
  pub served : Outside F W N L
  pub serves : ServesKept gives tells stores keeping connections session first keeper answer old served
  pub behind : RanBySteps tells (OfKept keeping.log (is_shut keeper) answer) served new result

-- so many posts have served the net, and what comes of their answer is done
pub record KeepsByPosts (gives : ℕ → Type 0) (may : Type 0) {F W N L P T S : Type 0} (tells : OutsideTells F W N L)
    (parts : SharesTell N P L) (stores : StoresTell T S) (keeping : PlainKeeping) (links : ℕ) (session : PlainSession)
    (first keeper : JournalKeeper S) (old new : Outside F W N L) (result : Status) : Type 0 where
  pub answer : Result ReflectedOn KeptFault
  pub served : Outside F W N L
  pub serves : ServesKeptOn gives may tells parts stores keeping links session first keeper answer old served
  pub behind : RanBySteps tells (OfKeptOn keeping.log (is_shut keeper) answer) served new result

-- A session was served as long as its words say, and what comes of the answer is done. A post has stopped only where the file that the words name may
-- have been there.
abbrev pub KeepsFor
    : ServingSpan → (ℕ → Type 0) → (Option (List ℕ) → Type 0) → {F W N L P T S : Type 0} → OutsideTells F W N L
    → SharesTell N P L → StoresTell T S → PlainKeeping → PlainSession → JournalKeeper S → JournalKeeper S
    → Outside F W N L → Outside F W N L → Status → Type 0
KeepsFor (serving_span.Connections connections) gives may tells parts stores keeping session first keeper old new result =
    KeepsLinks gives tells stores keeping connections session first keeper old new result
KeepsFor (serving_span.Posts links until) gives may tells parts stores keeping session first keeper old new result =
    KeepsByPosts gives (may until) tells parts stores keeping links session first keeper old new result

-- A journal was read, and its session goes on: a reflector has served the net, the store is given back, and what comes of the answer is done.
pub record KeepsOn (gives : ℕ → Type 0) (may : Option (List ℕ) → Type 0) {F W N L P T S : Type 0}
    (tells : OutsideTells F W N L) (parts : SharesTell N P L) (stores : StoresTell T S) (keeping : PlainKeeping)
    (bytes : List ℕ) (old new : Outside F W N L) (s t : T) (result : Status) : Type 0 where
  pub place : Place PlainStored
  pub ready : Outside F W N L
  pub reaches : Reaches tells (OfBytes keeping bytes) (ByGoingOn keeping place) old ready
  pub first : JournalKeeper S
  pub goes_on : GoesOnWith stores.told stores.safe (session_of place.state) first
  pub keeper : JournalKeeper S
  pub serves : KeepsFor keeping.span gives may tells parts stores keeping (session_of place.state) first keeper ready new result
  pub back : TakesStore stores keeping.journal keeper.journal.store s t

-- what comes of a journal that is there
abbrev pub OfThere : (ℕ → Type 0) → (Option (List ℕ) → Type 0) → {F W N L P T S : Type 0} → OutsideTells F W N L
    → SharesTell N P L → StoresTell T S → PlainKeeping → S → List ℕ → Outside F W N L → Outside F W N L → T → T
    → Status → Type 0
OfThere gives may tells parts stores keeping store bytes old new s t result =
    EndsRead tells stores keeping store bytes old new s t result
    ⊎ KeepsOn gives may tells parts stores keeping bytes old new s t result

-- what comes of a journal that was opened, or was not: where it is there, this; else the run ends, and the stores are as they were
abbrev pub OfAnswer : {F W N L T S : Type 0} → OutsideTells F W N L → PlainKeeping → Result (Opened S) OpeningFault
    → (S → List ℕ → Type 0) → Outside F W N L → Outside F W N L → T → T → Status → Type 0
OfAnswer tells keeping (Ok (opened.There store bytes)) there old new s t result = there store bytes
OfAnswer tells keeping answer there old new s t result = RanBySteps tells (OfOpened keeping answer) old new result
    × (t ≡ s)

-- A command has done its steps, its journal was opened, and what comes of that is done; the stores come to this.
pub record RanAsKeeper (gives : ℕ → Type 0) (may : Option (List ℕ) → Type 0) {F W N L P T S : Type 0}
    (tells : OutsideTells F W N L) (parts : SharesTell N P L) (stores : StoresTell T S) (coming : Coming)
    (old new : Outside F W N L) (s t : T) (result : Status) : Type 0 where
  pub first : PlainKeeping
  pub asked : Outside F W N L
  pub reaches : Reaches tells coming (ByKeeping first) old asked
  pub keeping : PlainKeeping
  pub answer : Result (Opened S) OpeningFault
  pub told : Outside F W N L
  pub held : T
  pub opens : OpensAs tells stores first keeping answer asked told s held
  pub behind : OfAnswer tells keeping answer (λ store bytes.
      OfThere gives may tells parts stores keeping store bytes told new held t result) told new held t result

-- ---- a drill

-- a command has done its steps, a drill has run by a clock that may give these values, and what comes of its answer is done
pub record RanAsDrill (gives : ℕ → Type 0) {F W N L : Type 0} (tells : OutsideTells F W N L) (coming : Coming)
    (old new : Outside F W N L) (result : Status) : Type 0 where
  pub request : DrillRequest
  pub ready : Outside F W N L
  pub reaches : Reaches tells coming (ByDrill request) old ready
  pub answer : Result DrillReport WantOfMemory
  pub drilled : IfOk answer (HasDrilled gives (drill_size request))
  pub behind : RanBySteps tells (OfDrilled gives request answer) ready new result

-- ---- a live view's run

-- A live view has asked the feed of its lines and its links in some order, has sent and printed what it makes of what they told, and ends so. Each
-- link went back, and the files stay as they are.
abbrev pub TakesPart
    : {K F W N L : Type 0} → OutsideTells F W N L → FeedTells K → PlainLive → LiveEnd → Outside F W N L
    → Outside F W N L → K → K → Type 0
TakesPart tells feed live end old new k k' =
    OnPart tells.net (λ net. OnPart tells.links (λ links.
    LiveRan (live_tells feed tells.out net links) live.address
    (first_state live.founding live.id live.view live.address) end
    (live_outside k old.out old.net old.link) (live_outside k' new.out new.net new.link)))
    × (new ≡ record old { out = new.out; net = new.net; link = new.link })

-- a command has done its steps, a live view has run, and its end was told
pub record RanAsLive {K F W N L : Type 0} (tells : OutsideTells F W N L) (feed : FeedTells K) (coming : Coming)
    (old new : Outside F W N L) (k k' : K) (result : Status) : Type 0 where
  pub live : PlainLive
  pub ready : Outside F W N L
  pub reaches : Reaches tells coming (ByLive live) old ready
  pub end : LiveEnd
  pub lived : Outside F W N L
  pub lives : TakesPart tells feed live end ready lived k k'
  pub told : OnlyTells (TellsEnding tells.out (live_ending end)) lived new result

-- ---- every run

-- a command has run without stores and without lines that come to it: by steps, as a reflector, as a host, as a service, or as a drill
abbrev pub RanAlone : (ℕ → Type 0) → (Option (List ℕ) → Type 0) → {F W N L P : Type 0} → OutsideTells F W N L
    → SharesTell N P L → Coming → Outside F W N L → Outside F W N L → Status → Type 0
RanAlone gives may tells parts coming old new result =
    RanBySteps tells coming old new result
    ⊎ (RanAsReflector gives may tells parts coming old new result
    ⊎ (RanAsHost gives tells coming old new result
    ⊎ (RanAsService gives may tells parts coming old new result ⊎ RanAsDrill gives tells coming old new result)))

-- A command has run: so, and the stores and the feed of lines are as they were; or as a reflector that keeps a journal; or as a live view. The file that
-- the words of a service name may have been there where `may` says so.
abbrev pub Ran
    : (ℕ → Type 0) → (Option (List ℕ) → Type 0) → {F W N L P T S K : Type 0} → OutsideTells F W N L → SharesTell N P L
    → StoresTell T S → FeedTells K → Coming → Outside F W N L → Outside F W N L → T → T → K → K → Status → Type 0
Ran gives may tells parts stores feed coming old new s t k k' result =
    (RanAlone gives may tells parts coming old new result × (t ≡ s) × (k' ≡ k))
    ⊎ ((RanAsKeeper gives may tells parts stores coming old new s t result × (k' ≡ k))
    ⊎ (RanAsLive tells feed coming old new k k' result × (t ≡ s)))
