-- What a reflector answers, and what it has done to its net by then.
use Rattle.std.specs.Prelude.{◌≡◌, ◌⊎◌, ℕ, ◌≤◌, List, [], ◌++◌, length, vec_capacity, Option, Some, None, Result, Ok, Err}
use Rattle.std.specs.List.{AllByRecursion}
use Rattle.tea_base.specs.declared.entry.SessionId.{SessionId}
use Rattle.tea_io.specs.Told.{with_more, Rose}
use Rattle.tea_io.specs.declared.net.NetCall.{NetCall}
use Rattle.run_steps.specs.Outside.{LinksTell, NetTells}
use Rattle.tea_io.specs.declared.net.NetFault.{NetFault}
use Rattle.tea_io.specs.declared.net.NetFault.TheVariants.{Failed}
use Rattle.tea_io.specs.declared.net.NetFault.TheVariants as fault
use Rattle.connection.specs.declared.ending.Ended.TheVariants as ended
use Rattle.reflector_core.specs.PlainSession.{PlainSession}
use Rattle.reflector_core.specs.Play.{replies_from, TellsItsEvents}
use Rattle.session_lock.specs.declared.knowledge.Item.{Item}
use Rattle.session_lock.specs.Numbers.{count_of}
use Rattle.session_lock.specs.Passes.{numbers_held}
use Rattle.session_lock.specs.Rules.{all_numbers}
use Rattle.session_lock.specs.History.{play_from, history_requests, IsSoundThrough}
use Rattle.reflect_server.specs.declared.reflection.Reflected.{Reflected}
use Rattle.reflect_server.specs.declared.reflection.ServeFault.{ServeFault}
use Rattle.reflect_server.specs.declared.reflection.ServeFault.TheVariants.{ListenFault, WantOfMemory}
use Rattle.reflect_server.specs.declared.reflection.KeptFault.{KeptFault}
use Rattle.reflect_server.specs.declared.reflection.KeptFault.TheVariants as kept_fault
use Rattle.reflector_core.specs.declared.keeper.CallFault.{CallFault}
use Rattle.reflector_core.specs.declared.keeper.CallFault.TheVariants as call_fault
use Rattle.reflect_server.specs.Opening.{HasOpened}
use Rattle.reflect_server.specs.Keeping.{KeeperTells, HasOnlyOpened, HasNotOpened, HasOpenedAtMost, no_keeper}
use Rattle.reflect_server.specs.Connections.{ServedConnection, IsHistoryOf, AreServed, AreToldWithin, accepted_links, returned_links, ends_of, callers_of}
use Rattle.reflect_server.specs.Views.{StaysByMiss}
use Rattle.reflect_server.specs.Rounds.{CountsLinks, CountsStop, TakesAll, accepts, accepts_more, with_links}
use Rattle.reflect_server.specs.declared.reflecting.Prepared.{Prepared}
use Rattle.reflect_server.specs.declared.reflecting.Rooms.{Rooms}

-- the links that the net gave were all given back, in the order in which they were accepted
pub record ReturnsLinks {N L : Type 0} (tells : NetTells N L) (links : LinksTell L) (before now : N)
    (connections : List (ServedConnection L)) : Type 0 where
  pub coming : TakesAll (tells.coming before) (tells.coming now) (accepted_links connections)
  pub over : tells.over now ≡ with_more (tells.over before) (returned_links connections)
  pub lent : tells.lent now ≡ tells.lent before
  pub counts : tells.link_counts now ≡ with_links links.counts (tells.link_counts before) (returned_links connections)

-- behind these calls, an accept for each link; where the net failed, one more was made; one at which memory was wanted may be missing
abbrev pub AsksFor : {L : Type 0} → Option (List NetCall) → Option (List NetCall) → List NetCall → List L
    → Option NetFault → Type 0
AsksFor before now calls links None = now ≡ with_more before (calls ++ accepts links)
AsksFor before now calls links (Some Failed) = now ≡ with_more before (calls ++ accepts_more links)
AsksFor before now calls links (Some fault.WantOfMemory) =
    (now ≡ with_more before (calls ++ accepts links)) ⊎ (now ≡ with_more before (calls ++ accepts_more links))

-- The session is the play of the history from the opening session on, which was sound at each place. Its log has the events of the opening
-- session and, after them, those that were answered Stamped, and no others.
pub record Plays (opening : PlainSession) (history : List Item) (session : PlainSession) : Type 0 where
  pub play : session ≡ play_from opening history
  pub sound : IsSoundThrough opening history
  pub events : TellsItsEvents opening.log (history_requests history)
      (replies_from opening (history_requests history)) session.log

-- a connection ended as Unkept only where a call of the keeper has failed
abbrev pub EndUnkeptIf : {L : Type 0} → Type 0 → List (ServedConnection L) → Type 0
EndUnkeptIf failed connections = AllByRecursion (λ one. one.ended ≡ ended.Unkept → failed) connections

-- what was reflected, behind these first calls of the net: also where the net, or memory, gave no further link
pub record HasReflected (gives : ℕ → Type 0) (id : SessionId) (opening : PlainSession) (kept : KeeperTells)
    {N L : Type 0} (tells : NetTells N L) (links : LinksTell L) (calls : List NetCall) (count : ℕ) (before now : N)
    (reflected : Reflected) : Type 0 where
  pub connections : List (ServedConnection L)
  pub history : List Item
  pub net : ReturnsLinks tells links before now connections
  pub asked : AsksFor (tells.asked before) (tells.asked now) calls (accepted_links connections) reflected.stopped
  pub faults : CountsStop (tells.faults before) (tells.faults now) reflected.stopped
  pub number : CountsLinks (length connections) count reflected.stopped
  pub ends : reflected.ends ≡ ends_of connections
  pub opener : ℕ
  pub talks : IsHistoryOf gives id opening links connections opener history
  pub session : Plays opening history reflected.session.plain
  pub served : AreServed reflected.session.plain.log connections
  pub ticks : AreToldWithin reflected.session.plain.horizon connections
  pub stays : StaysByMiss opening opener (callers_of connections) history reflected.session.plain.log
  pub keeps : kept.keeps history
  pub unkept : EndUnkeptIf kept.failed connections

-- the net did not listen, and the session was opened and no more
pub record HasNotListened (gives : ℕ → Type 0) (opening : PlainSession) (kept : KeeperTells) {N L : Type 0}
    (tells : NetTells N L) (links : LinksTell L) (calls : List NetCall) (before now : N) : Type 0 where
  pub net : ReturnsLinks tells links before now []
  pub asked : tells.asked now ≡ with_more (tells.asked before) calls
  pub faults : Rose (tells.faults before) (tells.faults now)
  pub opened : HasOnlyOpened gives opening kept

-- No memory was found before a link was accepted. The net was asked nothing, or these calls.
pub record HasWanted (gives : ℕ → Type 0) (opening : PlainSession) (kept : KeeperTells) {N L : Type 0}
    (tells : NetTells N L) (links : LinksTell L) (calls : List NetCall) (before now : N) : Type 0 where
  pub net : ReturnsLinks tells links before now []
  pub asked : (tells.asked now ≡ tells.asked before) ⊎ (tells.asked now ≡ with_more (tells.asked before) calls)
  pub faults : tells.faults before ≤ tells.faults now
  pub opened : HasOpenedAtMost gives opening kept

-- what comes of a session that has a keeper
abbrev pub ReflectsKept
    : (ℕ → Type 0) → SessionId → PlainSession → KeeperTells → {N L : Type 0} → NetTells N L → LinksTell L → List NetCall
    → ℕ → N → N → Result Reflected KeptFault → Type 0
ReflectsKept gives id opening kept tells links calls count before now (Ok reflected) =
    HasReflected gives id opening kept tells links calls count before now reflected
ReflectsKept gives id opening kept tells links calls count before now (Err kept_fault.ListenFault) =
    HasNotListened gives opening kept tells links calls before now
ReflectsKept gives id opening kept tells links calls count before now (Err kept_fault.WantOfMemory) =
    HasWanted gives opening kept tells links calls before now
ReflectsKept gives id opening kept tells links calls count before now (Err kept_fault.Unkept) =
    (now ≡ before) × HasNotOpened gives opening kept

-- what comes of one that has none
abbrev pub Reflects
    : (ℕ → Type 0) → SessionId → PlainSession → {N L : Type 0} → NetTells N L → LinksTell L → List NetCall → ℕ → N → N
    → Result Reflected ServeFault → Type 0
Reflects gives id opening tells links calls count before now (Ok reflected) =
    HasReflected gives id opening no_keeper tells links calls count before now reflected
Reflects gives id opening tells links calls count before now (Err ListenFault) =
    HasNotListened gives opening no_keeper tells links calls before now
Reflects gives id opening tells links calls count before now (Err WantOfMemory) =
    HasWanted gives opening no_keeper tells links calls before now

-- by why the net did not listen
abbrev pub unheard : NetFault → KeptFault
unheard Failed = kept_fault.ListenFault
unheard fault.WantOfMemory = kept_fault.WantOfMemory

-- by why the session was not opened
abbrev pub unopened_fault : CallFault → KeptFault
unopened_fault call_fault.WantOfMemory = kept_fault.WantOfMemory
unopened_fault call_fault.Unkept = kept_fault.Unkept

-- the answer of one without a keeper as that of one with a keeper
abbrev pub with_kept_fault : Result Reflected ServeFault → Result Reflected KeptFault
with_kept_fault (Ok reflected) = Ok reflected
with_kept_fault (Err ListenFault) = Err kept_fault.ListenFault
with_kept_fault (Err WantOfMemory) = Err kept_fault.WantOfMemory

-- ---- what is made before

-- nothing is in them, and there is room for so many passes, links and ends
pub record HasRooms {L K : Type 0} (count : ℕ) (rooms : Rooms L K) : Type 0 where
  pub none_split : rooms.passes.items ≡ []
  pub room_for_passes : count ≤ vec_capacity rooms.passes
  pub none_served : rooms.served.items ≡ []
  pub room_for_links : count ≤ vec_capacity rooms.served
  pub none_ended : rooms.ends.items ≡ []
  pub room_for_ends : count ≤ vec_capacity rooms.ends

-- The lead pass, which holds all numbers and has opened the session, and room for what comes.
pub record IsPrepared (gives : ℕ → Type 0) {L K : Type 0} (count : ℕ) (prepared : Prepared L K) : Type 0 where
  pub session : prepared.lead.session ≡ prepared.shared.session
  pub opened : HasOpened gives prepared.lead.opening prepared.lead
  pub numbers : numbers_held prepared.lead ≡ all_numbers
  pub spare : count ≤ count_of prepared.lead.spare
  pub rooms : HasRooms count prepared.rooms
