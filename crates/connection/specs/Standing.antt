-- What a call tells of its place in the history, and where a cursor stands there.
use Rattle.std.specs.Prelude.{◌≡◌, ◌⊎◌, List, [], ◌++◌, Result, Ok, Err}
use Rattle.wire_frames.specs.Served.{Place}
use Rattle.reflector_core.specs.PlainSession.{PlainSession, IsSoundSession}
use Rattle.reflector_core.specs.Answer.{answer}
use Rattle.reflector_core.specs.Growth.{GrowsTo}
use Rattle.reflector_core.specs.declared.keeper.CallFault.{CallFault}
use Rattle.reflector_core.specs.declared.request.Request.{Request}
use Rattle.reflector_core.specs.declared.request.Reply.{Reply}
use Rattle.session_lock.specs.declared.knowledge.Item.{Item}
use Rattle.session_lock.specs.History.{IsSoundThrough}
use Rattle.session_lock.specs.Passes.{PassState}
use Rattle.join_sync.specs.declared.cursor.Cursor.{Cursor}
use Rattle.join_sync.specs.Standing.{StandsAt}
use Rattle.connection.specs.Exchanges.{Exchange, Answered, Unanswered}

-- what a call adds to what its caller asked
abbrev pub exchange_of : Request → Result Reply CallFault → Exchange
exchange_of request (Ok given) = Answered request given
exchange_of request (Err why) = Unanswered why

-- What a pass has seen only grew, behind the same opening. Where it did, the session was sound at each place of it.
pub record SeesOn (before after : PassState) : Type 0 where
  pub opening : after.opening ≡ before.opening
  pub rest : List Item
  pub grew : before.seen ++ rest ≡ after.seen
  pub sound : (rest ≡ []) ⊎ IsSoundThrough after.opening after.seen

-- a sound session on the way, from the one before to the one now, gave the reply
pub record IsAnsweredAt (before at now : PlainSession) (request : Request) (given : Reply) : Type 0 where
  pub sound : IsSoundSession at
  pub grows : GrowsTo before at
  pub replied : given ≡ (answer at request).reply
  pub same : now ≡ (answer at request).session

-- the entries that the cursor counts are in the log
abbrev pub IsStanding : PlainSession → Cursor → Type 0
IsStanding s cursor = (place : Place) × StandsAt s place cursor
