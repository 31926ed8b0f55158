-- How a frame is answered by the session's reply to its request.
use Rattle.std.specs.Prelude.{ℕ, Option, Some, None}
use Rattle.reflector_core.specs.declared.request.Request.{Request}
use Rattle.reflector_core.specs.declared.request.Request.TheVariants as request
use Rattle.reflector_core.specs.declared.request.Reply.{Reply}
use Rattle.reflector_core.specs.declared.request.Reply.TheVariants as reply
use Rattle.wire_frames.specs.declared.frame.ServerFrame.{ServerFrame}
use Rattle.wire_frames.specs.declared.frame.ServerFrame.TheVariants.{Sync, Done, Snapped}
use Rattle.wire_frames.specs.declared.tags.TheConstants.{JOIN_TAG, SEND_TAG, SNAP_TAG, LEAVE_TAG}
use Rattle.join_sync.specs.declared.cursor.Cursor.{Cursor}
use Rattle.join_sync.specs.Refusals.{refused_frame}

-- ---- the reply to a Join

abbrev pub join_answer : Reply → Option ServerFrame
join_answer (reply.Joined seq time last from base) = Some (Sync seq last from base)
join_answer (reply.Refused refusal) = Some (refused_frame JOIN_TAG refusal)
join_answer other = None

-- the cursor of a connection that has joined: no entry and no tick was sent
abbrev pub first_cursor : ℕ → Reply → Option Cursor
first_cursor view (reply.Joined seq time last from base) =
    Some (record { view = view; joined = seq; after = from; last_tick = 0 })
first_cursor view other = None

-- ---- the replies to the requests of later frames

abbrev pub send_answer : ℕ → Reply → Option ServerFrame
send_answer number (reply.Stamped seq time) = Some (Done number seq time)
send_answer number (reply.Again seq time) = Some (Done number seq time)
send_answer number (reply.Refused refusal) = Some (refused_frame SEND_TAG refusal)
send_answer number other = None

abbrev pub snap_answer : ℕ → Reply → Option ServerFrame
snap_answer time reply.Kept = Some (Snapped time)
snap_answer time (reply.Refused refusal) = Some (refused_frame SNAP_TAG refusal)
snap_answer time other = None

-- a view that has left is not told
abbrev pub leave_answer : Reply → Option ServerFrame
leave_answer (reply.Refused refusal) = Some (refused_frame LEAVE_TAG refusal)
leave_answer other = None

-- the frame that answers the frame of a request, if one does; no frame asks for a Tick or a Pull
abbrev pub answer_frame : Request → Reply → Option ServerFrame
answer_frame (request.Join view now want) given = join_answer given
answer_frame (request.Send view joined number payload now) given = send_answer number given
answer_frame (request.Tick now) given = None
answer_frame (request.Leave view joined now) given = leave_answer given
answer_frame (request.Offer view joined time bytes) given = snap_answer time given
answer_frame (request.Pull after limit) given = None

-- ---- which replies there are

abbrev pub IsJoinReply : Reply → Type 0
IsJoinReply (reply.Joined seq time last from base) = Unit {0}
IsJoinReply (reply.Refused refusal) = Unit {0}
IsJoinReply other = ⊥

abbrev pub IsSendReply : Reply → Type 0
IsSendReply (reply.Stamped seq time) = Unit {0}
IsSendReply (reply.Again seq time) = Unit {0}
IsSendReply (reply.Refused refusal) = Unit {0}
IsSendReply other = ⊥

abbrev pub IsTickReply : Reply → Type 0
IsTickReply (reply.Ticked time) = Unit {0}
IsTickReply other = ⊥

abbrev pub IsLeaveReply : Reply → Type 0
IsLeaveReply (reply.Left seq time) = Unit {0}
IsLeaveReply (reply.Refused refusal) = Unit {0}
IsLeaveReply other = ⊥

abbrev pub IsOfferReply : Reply → Type 0
IsOfferReply reply.Kept = Unit {0}
IsOfferReply (reply.Refused refusal) = Unit {0}
IsOfferReply other = ⊥

abbrev pub IsPullReply : Reply → Type 0
IsPullReply (reply.Batch entries tick) = Unit {0}
IsPullReply (reply.Refused refusal) = Unit {0}
IsPullReply other = ⊥

-- the reply is one that the request may get
abbrev pub IsReplyTo : Request → Reply → Type 0
IsReplyTo (request.Join view now want) given = IsJoinReply given
IsReplyTo (request.Send view joined number payload now) given = IsSendReply given
IsReplyTo (request.Tick now) given = IsTickReply given
IsReplyTo (request.Leave view joined now) given = IsLeaveReply given
IsReplyTo (request.Offer view joined time bytes) given = IsOfferReply given
IsReplyTo (request.Pull after limit) given = IsPullReply given
