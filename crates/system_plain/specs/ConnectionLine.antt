-- One connection's work on a session that other callers ask too.
use Rattle.std.specs.Prelude.{◌<◌, ◌^◌, ℕ, Bool, false, if◌then◌else◌, List, [], ◌∷◌, ◌++◌, set, Option, Some, None}
use Rattle.tea_base.specs.declared.entry.SessionId.{SessionId}
use Rattle.reflector_core.specs.PlainSession.{PlainSession, IsSoundSession}
use Rattle.reflector_core.specs.Answer.{answer}
use Rattle.reflector_core.specs.declared.request.Request.{Request}
use Rattle.reflector_core.specs.declared.request.Request.TheVariants as request
use Rattle.join_sync.specs.declared.cursor.Cursor.{Cursor}
use Rattle.wire_frames.specs.declared.frame.ClientFrame.{ClientFrame}
use Rattle.wire_frames.specs.declared.frame.ServerFrame.{ServerFrame}
use Rattle.wire_frames.specs.Frames.{IsTypedClient}
use Rattle.system_plain.specs.System.{System, Connection}
pub use Rattle.system_plain.specs.Turn.{unread_frame}
use Rattle.system_plain.specs.Turn.{Turn, hear_turn, pull_turn}

-- given: the frames that were heard, None one that could not be read. sent: those that were sent. Both in order.
pub record ConnectionLine : Type 0 where
  pub session : PlainSession
  pub cursor : Option Cursor
  pub over : Bool
  pub given : List (Option ClientFrame)
  pub sent : List ServerFrame

-- A frame is heard, what is new is pulled, or a request is made that tells the connection nothing: its own Tick, or what another caller asks.
pub data LineTurn : Type 0 where
  Hears : (frame : Option ClientFrame) (now : ℕ) → LineTurn
  Pulls : LineTurn
  Others : (request : Request) → LineTurn

abbrev pub first_line : PlainSession → ConnectionLine
first_line s = record { session = s; cursor = None; over = false; given = []; sent = [] }

-- the line behind a turn, which was given these frames until then
abbrev pub line_behind : ConnectionLine → List (Option ClientFrame) → Turn → ConnectionLine
line_behind line given turn =
    record {
      session = turn.session;
      cursor = turn.told.cursor;
      over = turn.told.over;
      given = given;
      sent = line.sent ++ turn.told.sent;
    }

abbrev pub hears : SessionId → ConnectionLine → Option Cursor → Option ClientFrame → ℕ → ConnectionLine
hears id line cursor frame now =
    line_behind line (line.given ++ frame ∷ []) (hear_turn id line.session cursor frame now)

abbrev pub pulls : ConnectionLine → Option Cursor → ConnectionLine
pulls line None = line
pulls line (Some cursor) = line_behind line line.given (pull_turn line.session cursor)

-- a line that is over does nothing more
abbrev pub after_turn : SessionId → ConnectionLine → LineTurn → ConnectionLine
after_turn id line (Hears frame now) = if line.over then line else hears id line line.cursor frame now
after_turn id line Pulls = if line.over then line else pulls line line.cursor
after_turn id line (Others request) = record line { session = (answer line.session request).session }

abbrev pub after_turns : SessionId → ConnectionLine → List LineTurn → ConnectionLine
after_turns id line [] = line
after_turns id line (turn ∷ turns) = after_turns id (after_turn id line turn) turns

-- ---- a connection of a system as a line

-- it is open, and was given and sent these frames
abbrev pub line_on : PlainSession → Option Cursor → List (Option ClientFrame) → List ServerFrame → ConnectionLine
line_on s cursor given sent = record { session = s; cursor = cursor; over = false; given = given; sent = sent }

abbrev pub open_connection : ℕ → List ClientFrame → ConnectionLine → Connection
open_connection view up line =
    record { view = view; up = up; down = line.sent; cursor = line.cursor; closed = false; over = line.over }

-- the system whose numbered connection is this line, still open
abbrev pub with_line : {W O : Type 0} → System W O → ℕ → ℕ → List ClientFrame → ConnectionLine → System W O
with_line s number view up line =
    record {
      session = line.session;
      clients = s.clients;
      connections = set s.connections number (open_connection view up line);
    }

-- ---- what turns may be

-- the session is sound before and after each turn
abbrev pub AreSoundTurns : SessionId → ConnectionLine → List LineTurn → Type 0
AreSoundTurns id line [] = IsSoundSession line.session
AreSoundTurns id line (turn ∷ turns) = IsSoundSession line.session × AreSoundTurns id (after_turn id line turn) turns

-- a view is a number of 32 bits
abbrev pub IsTypedRequest : Request → Type 0
IsTypedRequest (request.Join view now want) = view < 2 ^ 32
IsTypedRequest (request.Send view joined number payload now) = view < 2 ^ 32
IsTypedRequest (request.Tick now) = Unit {0}
IsTypedRequest (request.Leave view joined now) = view < 2 ^ 32
IsTypedRequest (request.Offer view joined time bytes) = view < 2 ^ 32
IsTypedRequest (request.Pull after limit) = Unit {0}

abbrev pub IsTypedTurn : LineTurn → Type 0
IsTypedTurn (Hears None now) = Unit {0}
IsTypedTurn (Hears (Some frame) now) = IsTypedClient frame
IsTypedTurn Pulls = Unit {0}
IsTypedTurn (Others request) = IsTypedRequest request

abbrev pub AreTypedTurns : List LineTurn → Type 0
AreTypedTurns [] = Unit {0}
AreTypedTurns (turn ∷ turns) = IsTypedTurn turn × AreTypedTurns turns
