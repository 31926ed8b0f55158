-- What a keeper holds of a session, and how both go on together.
use Rattle.std.specs.Prelude.{◌≡◌, ◌⊎◌, ℕ, ◌+◌, ◌≤◌, ◌<◌, max, Bool, true, List, length, take, Option, Some, Result, Ok, Err, OnOk, OnErr}
use Rattle.tea_io.specs.Told.{Rose}
use Rattle.tea_base.specs.declared.entry.What.{What}
use Rattle.tea_base.specs.Legal.{MayFollow}
use Rattle.tea_base.specs.Limits.{time_limit, end_of_time}
use Rattle.tea_base.specs.Readings.{here_count}
use Rattle.session_log.specs.LogState.{next_entry, with_next}
use Rattle.wire_frames.specs.declared.start.Base.{Base}
use Rattle.reflector_core.specs.PlainSession.{PlainSession, IsSoundSession}
use Rattle.reflector_core.specs.Answer.{MayWantMemory}
use Rattle.reflector_core.specs.declared.request.Reply.{Reply}
use Rattle.reflector_core.specs.declared.request.Reply.TheVariants.{Joined, Stamped, Again, Ticked, Left, Kept, Batch, Refused}
use Rattle.reflector_core.specs.declared.session.going_back.Mark.{Mark}
use Rattle.reflector_core.specs.declared.keeper.Unkept.{Unkept}
use Rattle.reflector_core.specs.declared.keeper.CallFault.{CallFault}
use Rattle.reflector_core.specs.declared.keeper.CallFault.TheVariants as fault

-- ---- what is held

-- the session with one more entry, where its horizon may be ahead of the entry
abbrev pub with_entry : PlainSession → ℕ → ℕ → What → PlainSession
with_entry s time view what =
    record { log = with_next s.log time view what; horizon = max s.horizon time; kept = s.kept }

-- the session with this snapshot kept
abbrev pub with_snapshot : PlainSession → ℕ → List ℕ → PlainSession
with_snapshot s time bytes =
    record { log = s.log; horizon = s.horizon; kept = Some (record { time = time; bytes = bytes }) }

-- What is held covers a session: a session that goes on from it has the same log, and stamps nothing that this one may
-- have told. Its horizon is no lower, and not past the end of time unless this one's is.
pub record Covers (s held : PlainSession) : Type 0 where
  pub log : held.log ≡ s.log
  pub ahead : s.horizon ≤ held.horizon
  pub within : held.horizon ≤ max s.horizon end_of_time
  pub sound : IsSoundSession held

-- ---- what a call of a keeper leaves

-- what was held is held with this entry, if the entry may follow and leaves it sound
abbrev pub HoldsEntry : (PlainSession → Type 0) → (PlainSession → Type 0) → ℕ → ℕ → What → Type 0
HoldsEntry before after time view what =
    (held : PlainSession) → before held → IsSoundSession held → MayFollow held.log (next_entry held.log time view what)
    → IsSoundSession (with_entry held time view what) → after (with_entry held time view what)

-- what was held is held with a horizon that is no lower than this time, and not past the end of time unless one of both was
pub record HoldsReached (after : PlainSession → Type 0) (held : PlainSession) (time : ℕ) : Type 0 where
  pub horizon : ℕ
  pub holds : after (record { log = held.log; horizon = horizon; kept = held.kept })
  pub reaches : max held.horizon time ≤ horizon
  pub within : horizon ≤ max (max held.horizon time) end_of_time

-- the same, if at this time there is time left for the Exit of each view that is here
abbrev pub HoldsTick : (PlainSession → Type 0) → (PlainSession → Type 0) → ℕ → Type 0
HoldsTick before after time =
    (held : PlainSession) → before held → IsSoundSession held → time + here_count held.log < time_limit
    → HoldsReached after held time

-- what was held is held, with this snapshot or without it
abbrev pub HoldsSnapshot : (PlainSession → Type 0) → (PlainSession → Type 0) → ℕ → List ℕ → Type 0
HoldsSnapshot before after time bytes =
    (held : PlainSession) → before held → IsSoundSession held → time ≤ held.horizon → after held
    ⊎ after (with_snapshot held time bytes)

-- what was held is held
abbrev pub HoldsStill : (PlainSession → Type 0) → (PlainSession → Type 0) → Type 0
HoldsStill before after = (held : PlainSession) → before held → after held

-- a keeper that was shut stays so, and it is shut by a fault alone
pub record ShutsByFault (shut_old shut_new : Type 0) (faults_old faults_new : ℕ) : Type 0 where
  pub later : faults_old ≤ faults_new
  pub stays : shut_old → shut_new
  pub shuts : shut_new → shut_old ⊎ Rose faults_old faults_new

-- each call of a keeper that is shut is Unkept, and a keeper that says so is shut from then on
pub record KeepCause {T : Type 0} (shut_old shut_new : Type 0) (faults_old faults_new : ℕ)
    (result : Result T Unkept) : Type 0 where
  pub kept : OnOk result (shut_old → ⊥)
  pub unkept : OnErr result shut_new
  pub shuts : ShutsByFault shut_old shut_new faults_old faults_new

-- ---- a session that goes back

-- how far a session had come
abbrev pub mark_of : PlainSession → Mark
mark_of s = record { len = length s.log; horizon = s.horizon }

-- the session as it was there, with what is kept now
abbrev pub back_to : Mark → PlainSession → PlainSession
back_to mark s = record { log = take mark.len s.log; horizon = mark.horizon; kept = s.kept }

-- ---- a session with its keeper

-- what is held covers the session, and keeps what it kept earlier or what the session keeps
pub record IsCovered (holds : PlainSession → Type 0) (earlier : Option Base) (s : PlainSession) : Type 0 where
  pub held : PlainSession
  pub is_held : holds held
  pub covers : Covers s held
  pub kept : (held.kept ≡ earlier) ⊎ (held.kept ≡ s.kept)

-- a keeper that was not shut has settled all
abbrev pub HasSettledAll : Bool → Type 0 → Type 0
HasSettledAll settled_new shut_old = (settled_new ≡ true) × (shut_old → ⊥)

-- What was written and covered the session as it was covers it as it is, unless a call failed. What was held is held, or all is settled; and so
-- it is where another snapshot is kept. A keeper is shut by a fault alone, and the session of one that is shut does not change.
pub record KeepsPace {K : Type 0} (holds writes : K → PlainSession → Type 0) (settled : K → Bool) (shut : K → Type 0)
    (faults : K → ℕ) (old new : K) (before after : PlainSession) : Type 0 where
  pub written : (held : PlainSession) → writes old held → Covers before held → (shut new → ⊥)
      → IsCovered (writes new) held.kept after
  pub held : HoldsStill (holds old) (holds new) ⊎ HasSettledAll (settled new) (shut old)
  pub kept : (after.kept ≡ before.kept) ⊎ HasSettledAll (settled new) (shut old)
  pub shuts : ShutsByFault (shut old) (shut new) (faults old) (faults new)
  pub still : shut old → after ≡ before

-- the replies of a call that may change the session
abbrev pub MayChange : Reply → Type 0
MayChange (Joined seq time last from base) = Unit {0}
MayChange (Stamped seq time) = Unit {0}
MayChange (Again seq time) = ⊥
MayChange (Ticked time) = Unit {0}
MayChange (Left seq time) = Unit {0}
MayChange Kept = Unit {0}
MayChange (Batch entries tick) = ⊥
MayChange (Refused refusal) = ⊥

-- Why a call has no answer, where this reply is due: the reply may want memory, or it may change the session and the keeper
-- is shut.
abbrev pub HasCause : {T : Type 0} → Reply → Type 0 → Result T CallFault → Type 0
HasCause due shut (Ok reply) = Unit {0}
HasCause due shut (Err fault.WantOfMemory) = MayWantMemory due
HasCause due shut (Err fault.Unkept) = MayChange due × shut

-- why an entry that may follow was not appended: for want of memory, or since the keeper is shut
abbrev pub EntryFault : {T : Type 0} → Type 0 → Result T CallFault → Type 0
EntryFault shut (Ok place) = Unit {0}
EntryFault shut (Err fault.WantOfMemory) = Unit {0}
EntryFault shut (Err fault.Unkept) = shut

-- the call found memory
abbrev pub FoundMemory : {T : Type 0} → Result T CallFault → Type 0
FoundMemory (Ok reply) = Unit {0}
FoundMemory (Err fault.WantOfMemory) = ⊥
FoundMemory (Err fault.Unkept) = Unit {0}
