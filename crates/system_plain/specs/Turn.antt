-- A turn of a connection: what it hears comes to, what it asks of its session, and what it is told.
use Rattle.std.specs.Prelude.{ℕ, Bool, true, false, List, [], ◌∷◌, Option, Some, None, is_none, Result, Ok, Err}
use Rattle.tea_base.specs.declared.entry.SessionId.{SessionId}
use Rattle.wire_frames.specs.declared.code.RefusalCode.TheVariants as code
use Rattle.wire_frames.specs.declared.frame.ClientFrame.{ClientFrame}
use Rattle.wire_frames.specs.declared.frame.ServerFrame.{ServerFrame}
use Rattle.wire_frames.specs.declared.frame.ServerFrame.TheVariants as server
use Rattle.wire_frames.specs.declared.tags.TheConstants.{NO_TAG}
use Rattle.wire_frames.specs.Codes.{code_number}
use Rattle.reflector_core.specs.PlainSession.{PlainSession}
use Rattle.reflector_core.specs.Answer.{answer}
use Rattle.reflector_core.specs.declared.request.Request.{Request}
use Rattle.reflector_core.specs.declared.request.Request.TheVariants as request
use Rattle.reflector_core.specs.declared.request.Reply.{Reply}
use Rattle.reflector_core.specs.declared.request.Reply.TheVariants as reply
use Rattle.reflector_core.specs.declared.request.Refusal.TheVariants as refusal
use Rattle.join_sync.specs.declared.act.Act.{Act}
use Rattle.join_sync.specs.declared.act.Act.TheVariants.{Call, Answer}
use Rattle.join_sync.specs.declared.cursor.Cursor.{Cursor}
use Rattle.join_sync.specs.declared.early.Early.{Early}
use Rattle.join_sync.specs.Answers.{answer_frame, first_cursor, join_answer}
use Rattle.join_sync.specs.Batches.{most_pulled, next_cursor, next_frames}
use Rattle.join_sync.specs.Refusals.{early_frame}
use Rattle.join_sync.specs.Requests.{act_on, first_request}

-- ---- what a frame that is heard comes to

-- the frame that refuses one that could not be read
abbrev pub unread_frame : ServerFrame
unread_frame = server.Refused NO_TAG (code_number code.BadFrame) 0 0

-- a first frame that makes no request is refused
abbrev pub open_act : ClientFrame → Result Request Early → Act
open_act frame (Ok request) = Call request
open_act frame (Err early) = Answer (early_frame early frame)

-- the first frame of a connection, None one that could not be read
abbrev pub first_act : SessionId → Option ClientFrame → ℕ → Act
first_act id None now = Answer unread_frame
first_act id (Some frame) now = open_act frame (first_request frame id now)

-- a later one
abbrev pub later_act : Cursor → Option ClientFrame → ℕ → Act
later_act cursor None now = Answer unread_frame
later_act cursor (Some frame) now = act_on cursor frame now

-- a frame of a connection that has joined, or not
abbrev pub heard_act : SessionId → Option Cursor → Option ClientFrame → ℕ → Act
heard_act id None frame now = first_act id frame now
heard_act id (Some cursor) frame now = later_act cursor frame now

-- ---- what a connection is told

-- how far it is served from then on, if it has joined; what it is sent; and whether it is over
pub record Told : Type 0 where
  pub cursor : Option Cursor
  pub sent : List ServerFrame
  pub over : Bool

-- a frame, if any, as a list
abbrev pub answer_frames : Option ServerFrame → List ServerFrame
answer_frames None = []
answer_frames (Some frame) = frame ∷ []

-- an answer for which nothing was asked; it ends a connection that has not joined
abbrev pub frame_told : Option Cursor → ServerFrame → Told
frame_told cursor frame = record { cursor = cursor; sent = frame ∷ []; over = is_none cursor }

-- the view that a Join names
abbrev pub joined_view : Request → ℕ
joined_view (request.Join view now want) = view
joined_view other = 0

-- how far it is served by the reply to its Join
abbrev pub joined_cursor : Request → Reply → Option Cursor
joined_cursor request reply = first_cursor (joined_view request) reply

-- the reply to its first request makes it joined, or ends it
abbrev pub join_told : Request → Reply → Told
join_told request reply = record {
  cursor = joined_cursor request reply;
  sent = answer_frames (join_answer reply);
  over = is_none (joined_cursor request reply);
}

-- a view that left, or that joined again, is not heard any more on its old connection
abbrev pub ends_connection : Reply → Bool
ends_connection (reply.Left seq time) = true
ends_connection (reply.Refused (refusal.Stale current)) = true
ends_connection other = false

-- the reply to a later request
abbrev pub ask_told : Cursor → Request → Reply → Told
ask_told cursor request reply =
    record { cursor = Some cursor; sent = answer_frames (answer_frame request reply); over = ends_connection reply }

abbrev pub reply_told : Option Cursor → Request → Reply → Told
reply_told None request reply = join_told request reply
reply_told (Some cursor) request reply = ask_told cursor request reply

-- the reply to its Pull: what is new
abbrev pub batch_told : Cursor → Reply → Told
batch_told cursor reply = record {
  cursor = Some (next_cursor cursor reply);
  sent = next_frames cursor reply;
  over = false;
}

-- ---- the session

pub record Turn : Type 0 where
  pub session : PlainSession
  pub told : Told

abbrev pub act_turn : PlainSession → Option Cursor → Act → Turn
act_turn s cursor (Call request) =
    let outcome = answer s request in
    record { session = outcome.session; told = reply_told cursor request outcome.reply }
act_turn s cursor (Answer frame) = record { session = s; told = frame_told cursor frame }

-- a frame is heard
abbrev pub hear_turn : SessionId → PlainSession → Option Cursor → Option ClientFrame → ℕ → Turn
hear_turn id s cursor frame now = act_turn s cursor (heard_act id cursor frame now)

-- what is new is pulled, which changes nothing of the session
abbrev pub pull_request : Cursor → Request
pull_request cursor = request.Pull cursor.after most_pulled

abbrev pub pull_turn : PlainSession → Cursor → Turn
pull_turn s cursor = record { session = s; told = batch_told cursor (answer s (pull_request cursor)).reply }

-- no frame will be heard any more: the view leaves
abbrev pub leave_request : Cursor → ℕ → Request
leave_request cursor now = request.Leave cursor.view cursor.joined now
