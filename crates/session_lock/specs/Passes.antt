-- What contracts see of a shared session and of a pass, and how a call leaves a pass.
use Rattle.std.specs.Prelude.{◌≡◌, ℕ, ◌+◌, ◌<◌, ◌≤◌, true, List, [], ◌∷◌, ◌++◌, length, slice_index}
use Rattle.atomic_table.specs.Seated.{TableId}
use Rattle.tea_base.specs.declared.entry.SessionId.{SessionId}
use Rattle.reflector_core.specs.PlainSession.{PlainSession}
use Rattle.reflector_core.specs.Answer.{MayWantMemory}
use Rattle.reflector_core.specs.Keeping.{MayChange}
use Rattle.reflector_core.specs.declared.keeper.CallFault.{CallFault}
use Rattle.reflector_core.specs.declared.keeper.CallFault.TheVariants as fault
use Rattle.reflector_core.specs.declared.request.Request.{Request}
use Rattle.reflector_core.specs.declared.request.Reply.{Reply}
use Rattle.session_lock.specs.declared.knowledge.Item.{Item}
use Rattle.session_lock.specs.declared.knowledge.Item.TheVariants.{Did, Void, Unkept}
use Rattle.session_lock.specs.declared.knowledge.Range.{Range}
use Rattle.session_lock.specs.declared.knowledge.Knowledge.{Knowledge}
use Rattle.session_lock.specs.History.{play_from, reply_from, has, calls_of, SameCallsOfEach, Saw}
use Rattle.session_lock.specs.Numbers.{times, in_ranges, one_between, count_of, take_numbers, drop_numbers, first_of_ranges}
use Rattle.session_lock.specs.Rules.{all_numbers, longer}

-- what no other shared session has, its session's id, the trust that it was made with, and how often the keeper that it
-- was made with had failed
pub record SharedState (T : Type 0) : Type 0 where
  pub session : TableId
  pub id : SessionId
  pub trust : T
  pub faults : ℕ

abbrev pub shared_state : {T K : Type 0} → TableId → SessionId × T × K → ℕ → SharedState T
shared_state session key faults = record { session = session; id = key.0; trust = key.1; faults = faults }

-- of which shared session it is a pass, the session that this began with, its callers' numbers, its own caller's first,
-- its spare numbers, and the history that it has seen
pub record PassState : Type 0 where
  pub session : TableId
  pub opening : PlainSession
  pub callers : List ℕ
  pub spare : List Range
  pub seen : List Item

-- its own caller's number
abbrev pub caller : PassState → ℕ
caller p = slice_index p.callers 0

-- its callers' own calls in the history that it has seen
abbrev pub own_calls : PassState → List Item
own_calls p = calls_of p.callers p.seen

-- how many numbers it holds
abbrev pub numbers_held : PassState → ℕ
numbers_held p = length p.callers + count_of p.spare

-- how often it holds the number, as one of its callers' or as a spare one
abbrev pub times_held : ℕ → PassState → ℕ
times_held n p = times n p.callers + in_ranges n p.spare

-- the two passes together hold no number twice, and none from 2^32 on
abbrev pub HeldOnce : PassState → PassState → Type 0
HeldOnce p q = (n : ℕ) → times_held n p + times_held n q ≤ one_between 0 all_numbers n

-- it holds each number below 2^32 once, and no other
abbrev pub HoldsEach : PassState → Type 0
HoldsEach p = (n : ℕ) → times_held n p ≡ one_between 0 all_numbers n

-- no item of what it has seen has one of its spare numbers
abbrev pub UsedNoSpare : PassState → Type 0
UsedNoSpare p = (n : ℕ) → 0 < in_ranges n p.spare → calls_of (n ∷ []) p.seen ≡ []

-- what a contract sees of a seat with this knowledge
abbrev pub pass_state : TableId → Knowledge → PassState
pass_state session v = record {
  session = session;
  opening = v.opening;
  callers = v.callers;
  spare = v.spare;
  seen = v.seen;
}

-- The pass after a call. There is a history that begins with all that it had seen, without another item of its
-- callers; the pass has then seen this history and the item behind it, and its own calls have grown by just this item.
pub record Grew (before after : PassState) (history : List Item) (item : Item) : Type 0 where
  pub saw : Saw before.callers before.seen history
  pub same : after ≡ record before { seen = history ++ item ∷ [] }
  pub own : own_calls after ≡ own_calls before ++ item ∷ []
  pub mine : has (caller before) before.callers ≡ true

-- the reply is the one due at that place of the history, and what is kept was trusted there and is so after the call
pub record Replied (IsTrusted : PlainSession → Type 0) (before after : PassState) (request : Request)
    (reply : Reply) : Type 0 where
  pub history : List Item
  pub grew : Grew before after history (Did (caller before) request)
  pub replies : reply ≡ reply_from before.opening history request
  pub trusted : IsTrusted (play_from before.opening history)
  pub trusted_after : IsTrusted (play_from before.opening after.seen)

-- the call found no memory, the reply due at that place may want some, and what is kept is trusted
pub record Voided (IsTrusted : PlainSession → Type 0) (before after : PassState) (request : Request) : Type 0 where
  pub history : List Item
  pub grew : Grew before after history (Void (caller before))
  pub due : MayWantMemory (reply_from before.opening history request)
  pub trusted_after : IsTrusted (play_from before.opening after.seen)

-- the same of a call that was not kept: the reply due at that place may change the session, and a keeper is shut
pub record NotKept (IsTrusted : PlainSession → Type 0) (Shut : Type 0) (before after : PassState)
    (request : Request) : Type 0 where
  pub history : List Item
  pub grew : Grew before after history (Unkept (caller before))
  pub due : MayChange (reply_from before.opening history request)
  pub shut : Shut
  pub trusted_after : IsTrusted (play_from before.opening after.seen)

-- a call that has no answer, by why
abbrev pub Missed : (PlainSession → Type 0) → Type 0 → PassState → PassState → Request → CallFault → Type 0
Missed IsTrusted shut before after request fault.WantOfMemory = Voided IsTrusted before after request
Missed IsTrusted shut before after request fault.Unkept = NotKept IsTrusted shut before after request

-- the pass has seen a history that begins with all that it had seen, and has made no call; what is kept is trusted
pub record Caught (IsTrusted : PlainSession → Type 0) (before after : PassState) : Type 0 where
  pub saw : Saw before.callers before.seen after.seen
  pub same : after ≡ record before { seen = after.seen }
  pub own : own_calls after ≡ own_calls before
  pub trusted_after : IsTrusted (play_from before.opening after.seen)

-- The new pass gets the first of the spare numbers: one as its caller's, the others as its own spare ones. It has seen
-- the same, and has no calls.
pub record Given (before : PassState) (numbers : ℕ) (new : PassState) : Type 0 where
  pub same :
      new
      ≡ record before {
        callers = first_of_ranges (take_numbers numbers before.spare) ∷ [];
        spare = drop_numbers 1 (take_numbers numbers before.spare);
      }
  pub own : own_calls new ≡ []

-- The pass after another was merged into it. It has seen the longer of the two histories, of which the shorter is a
-- beginning, and holds the numbers of both. The calls of both stand in what it has seen, and so do those of each of their
-- callers by itself.
pub record Merged (before other after : PassState) : Type 0 where
  pub same :
      after
      ≡ record before {
        callers = before.callers ++ other.callers;
        spare = before.spare ++ other.spare;
        seen = longer before.seen other.seen;
      }
  pub saw : Saw before.callers before.seen after.seen
  pub saw_other : Saw other.callers other.seen after.seen
  pub own : calls_of before.callers after.seen ≡ own_calls before
  pub own_other : calls_of other.callers after.seen ≡ own_calls other
  pub each : SameCallsOfEach before.callers before.seen after.seen
  pub each_other : SameCallsOfEach other.callers other.seen after.seen

-- the first pass is caller 0, holds all other numbers as spare ones, and has seen nothing
abbrev pub first_pass : TableId → PlainSession → PassState
first_pass session opening = record {
  session = session;
  opening = opening;
  callers = 0 ∷ [];
  spare = record { first = 1; count = 4294967295 } ∷ [];
  seen = [];
}
