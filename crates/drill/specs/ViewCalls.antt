-- What a view of the drill asks, call after call. What it asks next follows from the replies before.
use Rattle.std.specs.Prelude.{◌≡◌, ◌≢◌, ◌⊎◌, ◌<◌, ℕ, zero, suc, ◌+◌, ◌%◌, Bool, true, false, List, [], ◌∷◌, ◌++◌, Option, Some, None, is_some}
use Rattle.wire_frames.specs.declared.start.Want.{Want}
use Rattle.wire_frames.specs.declared.start.Want.TheVariants.{Fresh, After}
use Rattle.wire_frames.specs.declared.frame.ServerFrame.{ServerFrame}
use Rattle.wire_frames.specs.declared.frame.ServerFrame.TheVariants.{Done}
use Rattle.reflector_core.specs.declared.request.Request.{Request}
use Rattle.reflector_core.specs.declared.request.Request.TheVariants.{Join, Send, Tick, Leave, Offer, Pull}
use Rattle.reflector_core.specs.declared.request.Reply.{Reply}
use Rattle.reflector_core.specs.declared.request.Reply.TheVariants.{Stamped, Again, Batch}
use Rattle.join_sync.specs.declared.cursor.Cursor.{Cursor}
use Rattle.join_sync.specs.Answers.{first_cursor}
use Rattle.join_sync.specs.Batches.{most_pulled, next_cursor}
use Rattle.connection.specs.Exchanges.{Exchange, Answered}
use Rattle.drill.specs.Doing.{loss_interval}
use Rattle.drill.specs.Drilled.{drop_interval}

-- ---- one call, and its reply

-- how it joins at the event of this number, or first, at 0: afresh where it has no world, and else it wants what came after some time
abbrev pub IsWanted : ℕ → Want → Type 0
IsWanted number want = ((number % loss_interval ≡ 0) × (want ≡ Fresh))
    ⊎ ((number % loss_interval ≢ 0) × (time : ℕ) × (want ≡ After time))

-- it joins, and this connection is opened; or the Join is refused, and none is
abbrev pub AsksJoin : ℕ → ℕ → Option Cursor → Request → Reply → Type 0
AsksJoin view number opened request reply =
    (now : ℕ) × (want : Want) × IsWanted number want × (request ≡ Join view now want)
    × (opened ≡ first_cursor view reply)

-- the Done that tells of an event
abbrev pub done_of : ℕ → Reply → Option ServerFrame
done_of number (Stamped seq time) = Some (Done number seq time)
done_of number (Again seq time) = Some (Done number seq time)
done_of number other = None

-- it sends an event, and is told this Done of it; or the Send is refused, and it is told none
abbrev pub AsksSend : ℕ → Cursor → ℕ → List ℕ → Option ServerFrame → Request → Reply → Type 0
AsksSend view cursor number payload done request reply =
    (now : ℕ) × (request ≡ Send view cursor.joined number payload now) × (done ≡ done_of number reply)

-- it offers some snapshot
abbrev pub AsksOffer : ℕ → Cursor → Request → Reply → Type 0
AsksOffer view cursor request reply = (time : ℕ) × (bytes : List ℕ) × (request ≡ Offer view cursor.joined time bytes)

abbrev pub AsksTick : Request → Reply → Type 0
AsksTick request reply = (now : ℕ) × (request ≡ Tick now)

-- the batch has a tick, as one that comes to the end of the log
abbrev pub has_tick : Reply → Bool
has_tick (Batch entries tick) = is_some tick
has_tick other = false

-- it asks for the next batch, and its cursor goes on by it
abbrev pub AsksPull : Cursor → Cursor → Bool → Request → Reply → Type 0
AsksPull old new last request reply = (request ≡ Pull old.after most_pulled) × (new ≡ next_cursor old reply)
    × (last ≡ has_tick reply)

abbrev pub AsksLeave : ℕ → Cursor → Request → Reply → Type 0
AsksLeave view cursor request reply = (now : ℕ) × (request ≡ Leave view cursor.joined now)

-- ---- calls in order

-- calls of which the last is so, and those before it are so
abbrev pub FollowedBy : (List Exchange → Type 0) → (Request → Reply → Type 0) → List Exchange → Type 0
FollowedBy Before Last calls = (before : List Exchange) × (request : Request) × (reply : Reply)
    × (calls ≡ before ++ Answered request reply ∷ []) × Before before × Last request reply

-- how far a view has come: its connection, and its calls so far
abbrev pub Progress : Type 1
Progress = Cursor → List Exchange → Type 0

-- the first Join was the first call
abbrev pub AfterJoin : ℕ → Progress
AfterJoin view cursor = FollowedBy (λ before. before ≡ []) (AsksJoin view 0 (Some cursor))

-- its event was sent, and it was told of it
abbrev pub AfterSend : ℕ → ℕ → List ℕ → Progress → Progress
AfterSend view number payload Before cursor calls =
    (done : ServerFrame) × FollowedBy (Before cursor) (AsksSend view cursor number payload (Some done)) calls

-- The connection was dropped after the Send, as it is at a multiple of `drop_interval`. Where the world is lost too, a snapshot was offered.
abbrev pub AfterDrop : ℕ → ℕ → List ℕ → Progress → Progress
AfterDrop view number payload Before cursor calls =
    (number % drop_interval ≡ 0)
    × (((number % loss_interval ≢ 0) × AfterSend view number payload Before cursor calls)
    ⊎ ((number % loss_interval ≡ 0)
    × FollowedBy (AfterSend view number payload Before cursor) (AsksOffer view cursor) calls))

-- it has joined again, by a new connection
abbrev pub AfterRejoin : ℕ → ℕ → List ℕ → Progress → Progress
AfterRejoin view number payload Before cursor calls =
    (old : Cursor) × FollowedBy (AfterDrop view number payload Before old) (AsksJoin view number (Some cursor)) calls

-- its event was sent; where the connection was dropped, it was sent again by the new one
abbrev pub AfterEvent : ℕ → ℕ → Progress → Progress
AfterEvent view number Before cursor calls =
    (payload : List ℕ)
    × (((number % drop_interval ≢ 0) × AfterSend view number payload Before cursor calls)
    ⊎ AfterSend view number payload (AfterRejoin view number payload Before) cursor calls)

-- a Tick, and then so many Pulls whose batches have no tick
abbrev pub AfterPulls : ℕ → Progress → Progress
AfterPulls zero Before cursor calls = FollowedBy (Before cursor) AsksTick calls
AfterPulls (suc count) Before cursor calls =
    (old : Cursor) × FollowedBy (AfterPulls count Before old) (AsksPull old cursor false) calls

-- and then a Pull whose batch has a tick
abbrev pub AfterReading : Progress → Progress
AfterReading Before cursor calls =
    (count : ℕ) × (old : Cursor) × FollowedBy (AfterPulls count Before old) (AsksPull old cursor true) calls

-- It has joined, and made so many turns. In each it sends its event, and then reads the log to the end.
abbrev pub AfterTurns : ℕ → ℕ → Progress
AfterTurns view zero = AfterJoin view
AfterTurns view (suc made) = AfterReading (AfterEvent view (suc made) (AfterTurns view made))

-- The turn of this number was broken off: its Send was refused, or the Join that is made where the connection was dropped.
abbrev pub AfterRefusal : ℕ → ℕ → Progress → Progress
AfterRefusal view number Before cursor calls =
    (payload : List ℕ)
    × (FollowedBy (Before cursor) (AsksSend view cursor number payload None) calls
    ⊎ FollowedBy (AfterDrop view number payload Before cursor) (AsksJoin view number None) calls)

-- all turns were made, or one was broken off
abbrev pub MayLeave : ℕ → ℕ → Progress
MayLeave view events cursor calls =
    AfterTurns view events cursor calls
    ⊎ ((made : ℕ) × (made < events) × AfterRefusal view (made + 1) (AfterTurns view made) cursor calls)

-- All calls of a view. In the end it leaves. If its first Join was refused, that is its only call.
abbrev pub AreCallsOf : ℕ → ℕ → List Exchange → Type 0
AreCallsOf view events calls = FollowedBy (λ before. before ≡ []) (AsksJoin view 0 None) calls
    ⊎ ((cursor : Cursor) × FollowedBy (MayLeave view events cursor) (AsksLeave view cursor) calls)
