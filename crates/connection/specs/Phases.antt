-- The talk of a connection, phase by phase: where it stands, and what each event makes of it.
use Rattle.std.specs.Prelude.{ℕ, ◌+◌, ◌==◌, List, [], ◌∷◌, ◌++◌, if◌then◌else◌, Option, Some, None}
use Rattle.byte_fields.specs.Fields.{whole}
use Rattle.tea_base.specs.declared.entry.SessionId.{SessionId}
use Rattle.tea_io.specs.declared.link.Heard.{Heard}
use Rattle.tea_io.specs.declared.link.Heard.TheVariants as heard
use Rattle.tea_io.specs.Links.{most_quiets, note_of}
use Rattle.wire_frames.specs.Reading.{client_at}
use Rattle.wire_frames.specs.declared.frame.ClientFrame.{ClientFrame}
use Rattle.wire_frames.specs.declared.frame.ServerFrame.{ServerFrame}
use Rattle.wire_frames.specs.declared.frame.ServerFrame.TheVariants as server
use Rattle.reflector_core.specs.declared.keeper.CallFault.{CallFault}
use Rattle.reflector_core.specs.declared.keeper.CallFault.TheVariants as fault
use Rattle.reflector_core.specs.declared.request.Request.{Request}
use Rattle.reflector_core.specs.declared.request.Request.TheVariants.{Tick}
use Rattle.reflector_core.specs.declared.request.Reply.{Reply}
use Rattle.reflector_core.specs.declared.request.Reply.TheVariants as reply
use Rattle.reflector_core.specs.declared.request.Refusal.TheVariants as refusal
use Rattle.join_sync.specs.declared.act.Act.{Act}
use Rattle.join_sync.specs.declared.act.Act.TheVariants.{Call, Answer}
use Rattle.join_sync.specs.declared.cursor.Cursor.{Cursor}
use Rattle.join_sync.specs.Answers.{join_answer}
use Rattle.join_sync.specs.Batches.{next_cursor}
use Rattle.system_plain.specs.Turn.{ask_told, batch_told, first_act, joined_cursor, later_act, leave_request, pull_request}
use Rattle.connection.specs.declared.ending.Ended.{Ended}
use Rattle.connection.specs.declared.ending.Ended.TheVariants as ended
use Rattle.connection.specs.declared.ending.Halt.{Halt}
use Rattle.connection.specs.declared.ending.Halt.TheVariants as halt
use Rattle.connection.specs.Exchanges.{Exchange, Answered, Unanswered}

-- where a connection stands
pub data TalkPhase : Type 0 where
  -- the first frame is waited for, behind so many Quiets
  Opening : ℕ → TalkPhase
  -- the first frame is to be read
  Beginning : List ℕ → TalkPhase
  -- its Join is to be made
  Joining : Request → TalkPhase
  -- the Tick of a turn is to be made, behind so many Quiets
  Ticking : Cursor → ℕ → TalkPhase
  -- the Pull of the turn is to be made
  Pulling : Cursor → ℕ → TalkPhase
  -- the next frame is waited for
  Hearing : Cursor → ℕ → TalkPhase
  -- it is to be read
  Taking : Cursor → List ℕ → TalkPhase
  -- its request is to be made
  Asking : Cursor → Request → TalkPhase
  -- a frame is to be sent, and then others; then what comes behind them, what comes where a send fails, and where memory is wanted
  Sending : ServerFrame → List ServerFrame → TalkPhase → TalkPhase → TalkPhase → TalkPhase
  -- the Leave is to be made
  Leaving : Cursor → Ended → TalkPhase
  Over : Ended → TalkPhase
  -- no event leads here that can come
  Wrong : TalkPhase

-- what comes to a connection
pub data TalkEvent : Type 0 where
  -- its link is heard
  Hears : Heard → TalkEvent
  -- the bytes that were heard are read, at this time of the clock
  Reads : ℕ → TalkEvent
  -- the request that is due is made, and answered
  MakesRequest : Reply → TalkEvent
  -- the same of a request that carries the time at which it is made
  MakesAt : ℕ → Reply → TalkEvent
  -- the request that is due is made, and has no answer
  Misses : CallFault → TalkEvent
  -- the frame that is due is sent
  Sends : TalkEvent
  -- its send fails, and the frame goes all the same
  Loses : TalkEvent
  -- its send fails, and the frame does not go
  FailsToSend : TalkEvent
  -- no memory is found
  Wants : TalkEvent

-- the phase behind an event, what was asked and which frames were sent
pub record Move : Type 0 where
  pub phase : TalkPhase
  pub asked : List Exchange
  pub sent : List ServerFrame

abbrev pub goes : TalkPhase → Move
goes phase = record { phase = phase; asked = []; sent = [] }

abbrev pub asks : TalkPhase → Exchange → Move
asks phase exchange = record { phase = phase; asked = exchange ∷ []; sent = [] }

abbrev pub sends : TalkPhase → ServerFrame → Move
sends phase frame = record { phase = phase; asked = []; sent = frame ∷ [] }

-- ---- what comes next

-- how a call without an answer ends a connection
abbrev pub ended_by : CallFault → Ended
ended_by fault.WantOfMemory = ended.WantOfMemory
ended_by fault.Unkept = ended.Unkept

abbrev pub sending_phase : List ServerFrame → TalkPhase → TalkPhase → TalkPhase → TalkPhase
sending_phase [] next fails wants = next
sending_phase (frame ∷ frames) next fails wants = Sending frame frames next fails wants

-- last frames are sent, and the connection ends so, also where their send fails; where memory is wanted, another phase comes
abbrev pub ending_phase : List ServerFrame → Ended → TalkPhase → TalkPhase
ending_phase frames how wants = sending_phase frames (Over how) (Over how) wants

-- frames are sent to a view that has joined; where this fails, it leaves
abbrev pub telling_phase : Cursor → List ServerFrame → TalkPhase → TalkPhase
telling_phase cursor frames next =
    sending_phase frames next (Leaving cursor ended.LinkFault) (Leaving cursor ended.WantOfMemory)

-- the code of a refusal
abbrev pub code_in : ServerFrame → ℕ
code_in (server.Refused about code kept more) = code
code_in other = 0

-- the first frame is refused
abbrev pub refused_phase : ServerFrame → TalkPhase
refused_phase frame = ending_phase (frame ∷ []) (ended.Refused (code_in frame)) (Over ended.WantOfMemory)

abbrev pub entered_phase : Act → TalkPhase
entered_phase (Call request) = Joining request
entered_phase (Answer frame) = refused_phase frame

-- the first frame was read, or it has no reading
abbrev pub opened_phase : SessionId → Option ClientFrame → ℕ → TalkPhase
opened_phase id frame now = entered_phase (first_act id frame now)

abbrev pub greeted_phase : Option Cursor → Option ServerFrame → TalkPhase
greeted_phase (Some cursor) (Some frame) = telling_phase cursor (frame ∷ []) (Ticking cursor 0)
greeted_phase None (Some frame) = refused_phase frame
greeted_phase cursor None = Wrong

-- the Join was answered
abbrev pub join_phase : Request → Reply → TalkPhase
join_phase request given = greeted_phase (joined_cursor request given) (join_answer given)

abbrev pub acted_phase : Cursor → Act → TalkPhase
acted_phase cursor (Call request) = Asking cursor request
acted_phase cursor (Answer frame) = telling_phase cursor (frame ∷ []) (Ticking cursor 0)

-- a later frame was read, or it has no reading
abbrev pub read_phase : Cursor → Option ClientFrame → ℕ → TalkPhase
read_phase cursor frame now = acted_phase cursor (later_act cursor frame now)

-- how the reply to a frame's request ends the connection, if it does
abbrev pub end_in : Reply → Option Ended
end_in (reply.Left seq time) = Some ended.Left
end_in (reply.Refused (refusal.Stale current)) = Some (ended.Stale current)
end_in other = None

abbrev pub answered_by : Cursor → Option Ended → List ServerFrame → TalkPhase
answered_by cursor (Some how) frames = ending_phase frames how (Leaving cursor ended.WantOfMemory)
answered_by cursor None frames = telling_phase cursor frames (Ticking cursor 0)

-- the request of a frame was answered
abbrev pub reply_phase : Cursor → Request → Reply → TalkPhase
reply_phase cursor request given = answered_by cursor (end_in given) (ask_told cursor request given).sent

-- the Pull was answered
abbrev pub pulled_phase : Cursor → ℕ → Reply → TalkPhase
pulled_phase cursor quiets given =
    telling_phase cursor (batch_told cursor given).sent (Hearing (next_cursor cursor given) quiets)

-- so many Quiets came in a row
abbrev pub opening_row : ℕ → TalkPhase
opening_row quiets = if quiets == most_quiets then Over (ended.Idle most_quiets) else Opening quiets

abbrev pub hearing_row : Cursor → ℕ → TalkPhase
hearing_row cursor quiets = if quiets == most_quiets then Leaving cursor (ended.Idle most_quiets)
    else Ticking cursor quiets

-- the link was heard before the first frame
abbrev pub opening : ℕ → Heard → TalkPhase
opening quiets (heard.Frame bytes) = Beginning bytes
opening quiets heard.Quiet = opening_row (quiets + 1)
opening quiets heard.End = Over ended.LinkEnd
opening quiets heard.Failed = Over ended.LinkFault
opening quiets heard.WantOfMemory = Over ended.WantOfMemory

-- it was heard for a view that has joined
abbrev pub hearing : Cursor → ℕ → Heard → TalkPhase
hearing cursor quiets (heard.Frame bytes) = Taking cursor bytes
hearing cursor quiets heard.Quiet = hearing_row cursor (quiets + 1)
hearing cursor quiets heard.End = Leaving cursor ended.LinkEnd
hearing cursor quiets heard.Failed = Leaving cursor ended.LinkFault
hearing cursor quiets heard.WantOfMemory = Leaving cursor ended.WantOfMemory

-- ---- the table

abbrev pub talk_step : SessionId → TalkPhase → TalkEvent → Move
talk_step id (Opening quiets) (Hears what) = goes (opening quiets what)
talk_step id (Beginning bytes) (Reads now) = goes (opened_phase id (whole client_at bytes) now)
talk_step id (Beginning bytes) Wants = goes (Over ended.WantOfMemory)
talk_step id (Joining request) (MakesRequest given) = asks (join_phase request given) (Answered request given)
talk_step id (Joining request) (Misses why) = asks (Over (ended_by why)) (Unanswered why)
talk_step id (Ticking cursor quiets) (MakesAt now given) = asks (Pulling cursor quiets) (Answered (Tick now) given)
talk_step id (Ticking cursor quiets) (Misses why) = asks (Leaving cursor (ended_by why)) (Unanswered why)
talk_step id (Pulling cursor quiets) (MakesRequest given) =
    asks (pulled_phase cursor quiets given) (Answered (pull_request cursor) given)
talk_step id (Pulling cursor quiets) (Misses why) = asks (Leaving cursor (ended_by why)) (Unanswered why)
talk_step id (Hearing cursor quiets) (Hears what) = goes (hearing cursor quiets what)
talk_step id (Taking cursor bytes) (Reads now) = goes (read_phase cursor (whole client_at bytes) now)
talk_step id (Taking cursor bytes) Wants = goes (Leaving cursor ended.WantOfMemory)
talk_step id (Asking cursor request) (MakesRequest given) =
    asks (reply_phase cursor request given) (Answered request given)
talk_step id (Asking cursor request) (Misses why) = asks (Leaving cursor (ended_by why)) (Unanswered why)
talk_step id (Sending frame frames next fails wants) Sends = sends (sending_phase frames next fails wants) frame
talk_step id (Sending frame frames next fails wants) Loses = sends fails frame
talk_step id (Sending frame frames next fails wants) FailsToSend = goes fails
talk_step id (Sending frame frames next fails wants) Wants = goes wants
talk_step id (Leaving cursor how) (MakesAt now given) = asks (Over how) (Answered (leave_request cursor now) given)
talk_step id (Leaving cursor how) (Misses why) = asks (Over how) (Unanswered why)
talk_step id phase event = goes Wrong

-- one event after the other
abbrev pub talk_walk : SessionId → TalkPhase → List TalkEvent → Move
talk_walk id phase [] = goes phase
talk_walk id phase (event ∷ events) =
    let first = talk_step id phase event in
    let rest = talk_walk id first.phase events in
    record { phase = rest.phase; asked = first.asked ++ rest.asked; sent = first.sent ++ rest.sent }

-- what was heard
abbrev pub heard_by : TalkEvent → List Heard
heard_by (Hears what) = note_of what
heard_by other = []

abbrev pub heard_in : List TalkEvent → List Heard
heard_in [] = []
heard_in (event ∷ events) = heard_by event ++ heard_in events

-- what is left to do where a talk stops
abbrev pub halt_phase : Halt → TalkPhase
halt_phase (halt.Over how) = Over how
halt_phase (halt.Leave cursor how) = Leaving cursor how
