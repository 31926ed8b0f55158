-- What the parts of a run do, and what they tell.
use Rattle.std.specs.Prelude.{◌≡◌, ◌⊎◌, ℕ, ⊤, Bool, true, false, List, ◌++◌, length, Option, Some, None, Result, Ok, Err, codes, map}
use Rattle.tea_io.specs.declared.net.NetFault.{NetFault}
use Rattle.tea_io.specs.declared.net.NetFault.TheVariants as net_fault
use Rattle.run_steps.specs.Steps.{Step}
use Rattle.run_steps.specs.Outside.{Outside, OutsideTells, Well, Failed, WantedMemory, FilesTell, LooksAt, OutputTells, PutsFile, Acts}
use Rattle.tea_base.specs.declared.want.WantOfMemory.{WantOfMemory}
use Rattle.snapshot_codec.specs.Spelling.{world_spelling}
use Rattle.replica.specs.View.{ReplicaView}
use Rattle.drill.specs.declared.report.DrillReport.{DrillReport}
use Rattle.reflect_server.specs.declared.reflection.ServeFault.{ServeFault}
use Rattle.reflect_server.specs.declared.reflection.ServeFault.TheVariants as serve_fault
use Rattle.reflect_server.specs.declared.reflection.KeptFault.{KeptFault}
use Rattle.reflect_server.specs.declared.reflection.KeptFault.TheVariants as kept_fault
use Rattle.view_shell.specs.declared.ending.ViewEnd.{ViewEnd}
use Rattle.view_shell.specs.declared.ending.ViewEnd.TheVariants as view_end
use Rattle.live_view.specs.Script.{first_state}
use Rattle.live_shell.specs.LiveRun.{LiveRan}
use Rattle.live_shell.specs.LiveSteps.{LiveTells, live_outside}
use Rattle.live_shell.specs.declared.ending.LiveEnd.{LiveEnd}
use Rattle.live_shell.specs.declared.ending.LiveEnd.TheVariants as live_end
use Rattle.store_io.specs.declared.store.StoreFault.{StoreFault}
use Rattle.store_io.specs.declared.store.StoreFault.TheVariants as store_fault
use Rattle.session_journal.specs.declared.reading.JournalFault.{JournalFault}
use Rattle.session_journal.specs.declared.reading.JournalFault.TheVariants as journal_fault
use Rattle.journal_store.specs.declared.opening.OpeningFault.{OpeningFault}
use Rattle.journal_store.specs.declared.opening.OpeningFault.TheVariants as opening_fault
use Rattle.command_outcome.specs.declared.outcome.Put.{Put}
use Rattle.command_outcome.specs.declared.outcome.Input.TheVariants as input
use Rattle.command_outcome.specs.declared.outcome.CommandRefusal.TheVariants as refusal
use Rattle.command_words.specs.declared.words.DrillRequest.{DrillRequest}
use Rattle.command_words.specs.Bounds.{IsBoundedDrill, IsBoundedSpan}
use Rattle.tea_base.specs.declared.entry.SessionId.{SessionId}
use Rattle.reflector_core.specs.SessionState.{SessionState}
use Rattle.command_host.specs.Hosting.{session_puts}
use Rattle.commands.specs.Verdict.{ByDrill, ByHosting, ByKeeping, ByLive, ByReflecting, ByVisit, ByWant, Coming, Free, OfHostPuts, Only, PlainLive, PlainVisit, ThenAll, Verdict, at_once, drilled_verdict, made_puts, put_steps}
use Rattle.commands.specs.Work.{IsBoundedHosting, IsBoundedKeeping, plain_hosting, plain_keeping, plain_live, plain_reflection, visit_of}
use Rattle.croquet.specs.declared.status.Status.{Status}
use Rattle.croquet.specs.declared.status.Status.TheVariants as status
use Rattle.croquet.specs.declared.top.Turn.{Turn}
use Rattle.croquet.specs.declared.top.Turn.TheVariants as turn
use Rattle.croquet.specs.Run.{Does, Ending, on_net_fault, on_read_fault, on_write_fault, refusal_ending, live_ending, view_ending, OutOfMemory, Silent, RanBySteps, Reaches, Tells, TellsEnding, TellsMemory, Visits}

-- a file was not put, and this was told
abbrev pub TellsUnput : {F W : Type 0} → FilesTell F → OutputTells W → Put → F → W → F → W → Status → Type 0
TellsUnput files out put f w f' w' result =
    (PutsFile files Failed put.name put.bytes f f' × Tells out (codes "write-fault\n") status.WriteFault w w' result)
    ⊎ (PutsFile files WantedMemory put.name put.bytes f f' × TellsMemory out w w' result)

-- no file can be put under a name, or memory was wanted for the look, and this was told
abbrev pub TellsNoPlace : {F W : Type 0} → FilesTell F → OutputTells W → List ℕ → F → W → F → W → Status → Type 0
TellsNoPlace files out name f w f' w' result =
    (LooksAt files Failed name f f' × Tells out (codes "write-fault\n") status.WriteFault w w' result)
    ⊎ (LooksAt files WantedMemory name f f' × TellsMemory out w w' result)

-- the run has looked at the name of a log, if there is one; or it ends
abbrev pub LooksOrEnds : {F W : Type 0} → FilesTell F → OutputTells W → Option (List ℕ) → Result ⊤ Status → F → W → F
    → W → Type 0
LooksOrEnds files out None (Ok looked) f w f' w' = (f' ≡ f) × (w' ≡ w)
LooksOrEnds files out None (Err result) f w f' w' = ⊥
LooksOrEnds files out (Some name) (Ok looked) f w f' w' = LooksAt files Well name f f' × (w' ≡ w)
LooksOrEnds files out (Some name) (Err result) f w f' w' = TellsNoPlace files out name f w f' w' result

-- The end of a view's run is told. Memory may be wanted for the line of a refusal.
abbrev pub TellsViewEnd : {W : Type 0} → OutputTells W → ViewEnd → W → W → Status → Type 0
TellsViewEnd out (view_end.Refused code kept) old new result =
    TellsEnding out (view_ending (view_end.Refused code kept)) old new result ⊎ TellsMemory out old new result
TellsViewEnd out end old new result = TellsEnding out (view_ending end) old new result

-- the same of a live view's run
abbrev pub TellsLiveEnd : {W : Type 0} → OutputTells W → LiveEnd → W → W → Status → Type 0
TellsLiveEnd out (live_end.View end) old new result = TellsViewEnd out end old new result
TellsLiveEnd out live_end.ReadFault old new result = TellsEnding out on_read_fault old new result

-- steps are all done; or they are cut, and this is told, whatever was to come behind them
abbrev pub Completes : {F W N L : Type 0} → OutsideTells F W N L → List Step → Result ⊤ Status → Outside F W N L
    → Outside F W N L → Type 0
Completes tells steps (Ok done) old new = Acts tells steps None old new
Completes tells steps (Err result) old new = (ending : Ending) → Does tells steps ending old new result

-- Steps are all done; or the run ends before they are, for want of memory or by the one at which they were cut, whatever verdict was to come behind
-- them.
abbrev pub CompletesFreely : {F W N L : Type 0} → OutsideTells F W N L → List Step → Result ⊤ Status → Outside F W N L
    → Outside F W N L → Type 0
CompletesFreely tells steps (Ok done) old new = Acts tells steps None old new
CompletesFreely tells steps (Err result) old new =
    (verdict : Verdict) → RanBySteps tells (Free (ThenAll steps (Free (Only verdict)))) old new result

-- The sessions of a host are all put; or the run ends before that, whatever verdict was to come behind the puts.
abbrev pub CompletesPuts : {F W N L : Type 0} → OutsideTells F W N L → List (List ℕ) → List ℕ → List SessionId
    → List SessionState → Result ⊤ Status → Outside F W N L → Outside F W N L → Type 0
CompletesPuts tells logs prefix ids sessions (Ok done) old new =
    Acts tells (put_steps (session_puts logs sessions) ++ put_steps (made_puts (length logs) prefix ids sessions)) None
    old new
CompletesPuts tells logs prefix ids sessions (Err result) old new =
    (verdict : Verdict) → RanBySteps tells (OfHostPuts logs prefix ids sessions verdict) old new result

-- nothing more is told, and the status is 0
abbrev pub all_well : Ending
all_well = Silent status.Ok

-- the run ends because the net gave no further link
abbrev pub stop_ending : NetFault → Ending
stop_ending net_fault.Failed = on_net_fault
stop_ending net_fault.WantOfMemory = OutOfMemory

-- how the run of a reflector or of a host ends after all its steps
abbrev pub reflected_ending : Bool → Option NetFault → Ending
reflected_ending true stopped = on_write_fault
reflected_ending false None = all_well
reflected_ending false (Some fault) = stop_ending fault

-- and the run of one that has no session to tell of
abbrev pub fault_ending : ServeFault → Ending
fault_ending serve_fault.ListenFault = on_net_fault
fault_ending serve_fault.WantOfMemory = OutOfMemory

-- the same of one whose session has a keeper
abbrev pub kept_fault_ending : KeptFault → Ending
kept_fault_ending kept_fault.ListenFault = on_net_fault
kept_fault_ending kept_fault.WantOfMemory = OutOfMemory
kept_fault_ending kept_fault.Unkept = on_write_fault

-- how the run ends of one whose journal was not opened
abbrev pub opening_ending : OpeningFault → Ending
opening_ending opening_fault.Unfounded = on_write_fault
opening_ending opening_fault.Unopened = on_read_fault
opening_ending opening_fault.WantOfMemory = OutOfMemory

-- of one the bytes of whose journal were not read
abbrev pub unread_ending : JournalFault → Ending
unread_ending journal_fault.NoJournal = refusal_ending (refusal.Input input.Journal)
unread_ending journal_fault.OtherSession = refusal_ending (refusal.Input input.Journal)
unread_ending journal_fault.WantOfMemory = OutOfMemory

-- and of one whose session does not go on from its journal
abbrev pub ungone_ending : StoreFault → Ending
ungone_ending store_fault.Failed = on_write_fault
ungone_ending store_fault.WantOfMemory = OutOfMemory

-- the snapshot of a replica's world
abbrev pub snapshot_of : ReplicaView → List ℕ
snapshot_of r = world_spelling r.plain.world

-- what comes of a drill's report
abbrev pub OfReport : DrillRequest → Result DrillReport WantOfMemory → Coming
OfReport request (Ok report) =
    Free (Only (drilled_verdict request report.session.plain
    (map snapshot_of report.replicas) report.total report.agree))
OfReport request (Err wanting) = Only (at_once ByWant)

-- a command is over, or its run goes on as a view's, a live view's, a reflector's, that of one whose journal is to be opened, a host's, or a drill
abbrev pub Turns : {F W N L : Type 0} → OutsideTells F W N L → Turn → Coming → Outside F W N L → Outside F W N L
    → Type 0
Turns tells (turn.Over result) coming old new = RanBySteps tells coming old new result
Turns tells (turn.Visits request) coming old new = Reaches tells coming (ByVisit (visit_of request)) old new
Turns tells (turn.Lives start) coming old new = Reaches tells coming (ByLive (plain_live start)) old new
Turns tells (turn.Reflects reflection) coming old new =
    Reaches tells coming (ByReflecting (plain_reflection reflection)) old new
Turns tells (turn.Keeps keeping) coming old new = Reaches tells coming (ByKeeping (plain_keeping keeping)) old new
Turns tells (turn.Hosts hosting) coming old new = Reaches tells coming (ByHosting (plain_hosting hosting)) old new
Turns tells (turn.Drills request) coming old new = Reaches tells coming (ByDrill request) old new

-- a command is over
abbrev pub IsOver : Turn → Type 0
IsOver (turn.Over status) = ⊤
IsOver other = ⊥

-- a reflector and a host accept from 1 to 64 links, or have so many posts; what a journal is founded with is a stored session; a host has sessions and
-- not too many; and a drill is of the size that its words may ask for
abbrev pub IsBoundedTurn : Turn → Type 0
IsBoundedTurn (turn.Reflects reflection) = IsBoundedSpan reflection.span
IsBoundedTurn (turn.Keeps keeping) = IsBoundedKeeping keeping
IsBoundedTurn (turn.Hosts hosting) = IsBoundedHosting hosting
IsBoundedTurn (turn.Drills request) = IsBoundedDrill request
IsBoundedTurn other = ⊤

-- a view's run is done, and its end told
pub record VisitRan {F W N L : Type 0} (tells : OutsideTells F W N L) (visit : PlainVisit) (old new : Outside F W N L)
    (result : Status) : Type 0 where
  pub steps : List Step
  pub ending : Ending
  pub visits : Visits visit steps ending
  pub does : Does tells steps ending old new result

-- a live view's run is done, and its end told
pub record LiveViewRan {K W N L : Type 0} (tells : LiveTells K W N L) (live : PlainLive) (k k' : K) (w w' : W)
    (n n' : N) (result : Status) : Type 0 where
  pub end : LiveEnd
  pub said : W
  pub ran : LiveRan tells live.address (first_state live.founding live.id live.view live.address) end
      (live_outside k w n None) (live_outside k' said n' None)
  pub told : TellsEnding tells.out (live_ending end) said w' result
