-- Why a connection ends.
use Rattle.std.specs.Prelude.{◌≡◌, ◌⊎◌, ℕ, ◌+◌, ◌-◌, ◌^◌, ◌≤◌, min, List, [], ◌∷◌, ◌++◌, Option, Some, None}
use Rattle.std.specs.List.{AllByRecursion}
use Rattle.tea_io.specs.Told.{Rose}
use Rattle.tea_io.specs.Links.{Counts, most_quiets}
use Rattle.wire_frames.specs.declared.tags.TheConstants.{JOIN_TAG}
use Rattle.wire_frames.specs.declared.code.RefusalCode.TheVariants as codes
use Rattle.wire_frames.specs.Codes.{code_number}
use Rattle.reflector_core.specs.declared.keeper.CallFault.TheVariants as fault
use Rattle.reflector_core.specs.declared.request.Request.TheVariants.{Join, Send, Leave, Offer}
use Rattle.reflector_core.specs.declared.request.Reply.TheVariants.{Refused}
use Rattle.join_sync.specs.Refusals.{refused_frame}
use Rattle.connection.specs.declared.ending.Ended.{Ended}
use Rattle.connection.specs.declared.ending.Ended.TheVariants as ended
use Rattle.connection.specs.Exchanges.{Exchange, Answered, Unanswered}
use Rattle.connection.specs.Phases.{code_in, end_in}

-- ---- what the link counted

-- a count rose so many times, or stands at its last value
abbrev pub RoseBy : ℕ → ℕ → ℕ → Type 0
RoseBy times before now = min (before + times) (2 ^ 64 - 1) ≤ now

-- by its link's end, by a fault or by a row of Quiets only where the link counted one, or so many
abbrev pub IsCauseCounted : Counts → Counts → Ended → Type 0
IsCauseCounted before now ended.LinkEnd = Rose before.ends now.ends
IsCauseCounted before now ended.LinkFault = Rose before.faults now.faults
IsCauseCounted before now (ended.Idle quiets) = (quiets ≡ most_quiets) × RoseBy quiets before.quiets now.quiets
IsCauseCounted before now other = Unit {0}

-- ---- what the caller asked

-- how the reply to a request ends a connection, if a frame asked it
abbrev pub end_of : Exchange → Option Ended
end_of (Answered (Send view joined number payload now) given) = end_in given
end_of (Answered (Leave view joined now) given) = end_in given
end_of (Answered (Offer view joined time bytes) given) = end_in given
end_of other = None

abbrev pub EndNothing : List Exchange → Type 0
EndNothing asked = AllByRecursion (λ exchange. end_of exchange ≡ None) asked

-- the last reply ends it so, and none before it ends anything
pub record EndsByReply (how : Ended) (asked : List Exchange) : Type 0 where
  pub front : List Exchange
  pub last : Exchange
  pub asked_is : asked ≡ front ++ last ∷ []
  pub before : EndNothing front
  pub ends : end_of last ≡ Some how

-- the last Leave of a connection, if it makes one
abbrev pub IsLastLeave : List Exchange → Type 0
IsLastLeave [] = Unit {0}
IsLastLeave (Answered (Leave view joined now) given ∷ []) = Unit {0}
IsLastLeave (Unanswered why ∷ []) = Unit {0}
IsLastLeave other = ⊥

-- no reply ends it, but for that to its last Leave
pub record EndsElse (asked : List Exchange) : Type 0 where
  pub front : List Exchange
  pub rest : List Exchange
  pub asked_is : asked ≡ front ++ rest
  pub before : EndNothing front
  pub leaves : IsLastLeave rest

-- no reply had ended it when a call was not kept, and then it makes its last Leave at most
pub record EndsUnkept (asked : List Exchange) : Type 0 where
  pub front : List Exchange
  pub rest : List Exchange
  pub asked_is : asked ≡ (front ++ Unanswered fault.Unkept ∷ []) ++ rest
  pub before : EndNothing front
  pub leaves : IsLastLeave rest

-- the last reply to a frame would end it as Stale, and then it leaves
pub record LeavesStale (asked : List Exchange) : Type 0 where
  pub current : ℕ
  pub front : List Exchange
  pub leave : Exchange
  pub asked_is : asked ≡ front ++ leave ∷ []
  pub stale : EndsByReply (ended.Stale current) front
  pub leaves : IsLastLeave (leave ∷ [])

-- nothing was asked, since the first frame is not read or no JOIN of this session; or a Join, which was refused
abbrev pub IsTurnedDown : ℕ → List Exchange → Type 0
IsTurnedDown code [] = (code ≡ code_number codes.BadFrame)
    ⊎ ((code ≡ code_number codes.NotJoined) ⊎ (code ≡ code_number codes.OtherSession))
IsTurnedDown code (Answered (Join view now want) (Refused refusal) ∷ []) =
    code ≡ code_in (refused_frame JOIN_TAG refusal)
IsTurnedDown code other = ⊥

-- It ends as Left or Stale where a frame's request was answered so, as Refused where its first frame was, as Unkept where a call was not kept,
-- and else by no reply. Where memory was wanted for the frame that tells of Stale, it leaves.
abbrev pub EndsExactly : Ended → List Exchange → Type 0
EndsExactly ended.Left asked = EndsByReply ended.Left asked
EndsExactly (ended.Stale current) asked = EndsByReply (ended.Stale current) asked
EndsExactly (ended.Refused code) asked = IsTurnedDown code asked
EndsExactly ended.WantOfMemory asked = EndsElse asked ⊎ LeavesStale asked
EndsExactly ended.Unkept asked = EndsUnkept asked
EndsExactly other asked = EndsElse asked
