-- What a view has done, by the log of its session.
use Rattle.std.specs.Prelude.{◌≡◌, ◌≤◌, ◌⊎◌, ◌-◌, ◌%◌, ℕ, true, List, ◌++◌, Option, Some, None}
use Rattle.tea_base.specs.declared.entry.Entry.{Entry}
use Rattle.tea_base.specs.declared.entry.What.{What}
use Rattle.tea_base.specs.Limits.{end_of_time}
use Rattle.tea_base.specs.Readings.{current, event_payload, is_here, last_number, view_event}
use Rattle.wire_frames.specs.declared.start.Base.{Base}
use Rattle.reflector_core.specs.PlainSession.{PlainSession}
use Rattle.drill.specs.Drilled.{IsCutShort, done_by}

-- of the whole that it does, this is left; it has sent so many events
pub record HasDone (log : List Entry) (view number : ℕ) (left whole : List What) : Type 0 where
  pub sent : last_number log view ≡ number
  pub done : done_by view log ++ left ≡ whole

-- it is here, by its Join with this seq
pub record IsHereBy (log : List Entry) (view joined : ℕ) : Type 0 where
  pub here : is_here log view ≡ true
  pub current : current log view ≡ joined

-- its event with this number has this payload
pub record HasSent (log : List Entry) (view number : ℕ) (payload : List ℕ) : Type 0 where
  pub entry : Entry
  pub at : view_event log view number ≡ Some entry
  pub carries : event_payload entry.what ≡ payload

-- its event with this number is of this time, or of an earlier one
pub record WasSentBy (log : List Entry) (view number time : ℕ) : Type 0 where
  pub entry : Entry
  pub at : view_event log view number ≡ Some entry
  pub early : entry.time ≤ time

-- a snapshot of this time is kept, or of a later one
abbrev pub KeepsFrom : ℕ → Option Base → Type 0
KeepsFrom time None = ⊥
KeepsFrom time (Some base) = time ≤ base.time

-- it has done the whole; or time has ended, and it has left early
abbrev pub HasFinished : PlainSession → ℕ → List What → Type 0
HasFinished s view whole = (done_by view s.log ≡ whole)
    ⊎ ((end_of_time ≤ s.horizon) × IsCutShort whole (done_by view s.log))

-- a view offers its snapshot and loses its world at each event whose number is a multiple of this
abbrev pub loss_interval : ℕ
loss_interval = 256

-- The replica's world was made from a base at the last event at which it was lost: the base is not older than the event before,
-- and a snapshot that is not older than the base is kept.
pub record HasBase (s : PlainSession) (view number : ℕ) (base : Option ℕ) : Type 0 where
  pub time : ℕ
  pub is : base ≡ Some time
  pub late : WasSentBy s.log view (number - number % loss_interval - 1) time
  pub kept : KeepsFrom time s.kept
