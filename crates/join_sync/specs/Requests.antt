-- What the frames of a view ask of its session.
use Rattle.std.specs.Prelude.{ℕ, if◌then◌else◌, Result, Ok, Err}
use Rattle.std.specs.Str.{bytes_eq}
use Rattle.tea_base.specs.declared.entry.SessionId.{SessionId}
use Rattle.reflector_core.specs.declared.request.Request.{Request}
use Rattle.reflector_core.specs.declared.request.Request.TheVariants as request
use Rattle.wire_frames.specs.declared.frame.ClientFrame.{ClientFrame}
use Rattle.wire_frames.specs.declared.frame.ClientFrame.TheVariants.{Join, Send, Snap, Leave, Alive}
use Rattle.wire_frames.specs.declared.frame.ServerFrame.TheVariants as server
use Rattle.join_sync.specs.declared.early.Early.{Early}
use Rattle.join_sync.specs.declared.early.Early.TheVariants.{OtherSession, NotJoined}
use Rattle.join_sync.specs.declared.act.Act.{Act}
use Rattle.join_sync.specs.declared.act.Act.TheVariants.{Call, Answer}
use Rattle.join_sync.specs.declared.cursor.Cursor.{Cursor}
use Rattle.join_sync.specs.Refusals.{second_join_frame}

-- the request of the first frame, which has to be a JOIN of this session
abbrev pub first_request : ClientFrame → SessionId → ℕ → Result Request Early
first_request (Join session view want) id now =
    if bytes_eq session.0 id.0 then Ok (request.Join view now want) else Err OtherSession
first_request (Send number payload) id now = Err NotJoined
first_request (Snap time bytes) id now = Err NotJoined
first_request Leave id now = Err NotJoined
first_request Alive id now = Err NotJoined

-- a request to join, as that of a first frame is
abbrev pub IsJoin : Request → Type 0
IsJoin (request.Join view now want) = Unit {0}
IsJoin other = ⊥

-- what a later frame comes to: a request of the view by this connection, or an answer for which nothing is asked; a second JOIN is refused
abbrev pub act_on : Cursor → ClientFrame → ℕ → Act
act_on cursor (Join session view want) now = Answer second_join_frame
act_on cursor (Send number payload) now = Call (request.Send cursor.view cursor.joined number payload now)
act_on cursor (Snap time bytes) now = Call (request.Offer cursor.view cursor.joined time bytes)
act_on cursor Leave now = Call (request.Leave cursor.view cursor.joined now)
act_on cursor Alive now = Answer server.Alive

-- a later frame may ask for it
abbrev pub IsOfFrame : Request → Type 0
IsOfFrame (request.Join view now want) = ⊥
IsOfFrame (request.Send view joined number payload now) = Unit {0}
IsOfFrame (request.Tick now) = ⊥
IsOfFrame (request.Leave view joined now) = Unit {0}
IsOfFrame (request.Offer view joined time bytes) = Unit {0}
IsOfFrame (request.Pull after limit) = ⊥
