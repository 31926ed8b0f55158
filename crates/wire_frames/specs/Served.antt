-- What a connection is sent, read beside the log and the frames that it gave.
use Rattle.std.specs.Prelude.{◌≡◌, ◌⊎◌, ℕ, ◌+◌, ◌-◌, ◌<◌, ◌≤◌, List, [], ◌∷◌, Option, Some, None, slice_get, take}
use Rattle.tea_base.specs.declared.entry.Entry.{Entry}
use Rattle.tea_base.specs.declared.entry.What.TheVariants as what
use Rattle.tea_base.specs.Limits.{time_limit}
use Rattle.tea_base.specs.Readings.{count_until, last_number}
use Rattle.wire_frames.specs.declared.start.Base.{Base}
use Rattle.wire_frames.specs.declared.start.Want.{Want}
use Rattle.wire_frames.specs.declared.start.Want.TheVariants as want
use Rattle.wire_frames.specs.declared.frame.ClientFrame.{ClientFrame}
use Rattle.wire_frames.specs.declared.frame.ClientFrame.TheVariants as client
use Rattle.wire_frames.specs.declared.frame.ServerFrame.{ServerFrame}
use Rattle.wire_frames.specs.declared.frame.ServerFrame.TheVariants.{Sync, Recv, Tick, Done, Snapped, Refused, Alive}
use Rattle.wire_frames.specs.declared.code.RefusalCode.TheVariants as refusal
use Rattle.wire_frames.specs.declared.tags.TheConstants.{NO_TAG, JOIN_TAG, SEND_TAG, SNAP_TAG, LEAVE_TAG}
use Rattle.wire_frames.specs.Codes.{code_number}

-- ---- entries and ticks

-- how far the reading of a log has come: how many entries were received, and the least time that the next tick may have
pub record Place : Type 0 where
  pub seen : ℕ
  pub least : ℕ

-- an entry is one more that was seen; the next tick is above the last one
abbrev pub place_after : Place → ServerFrame → Place
place_after place (Sync joined last from base) = place
place_after place (Recv entry) = record { seen = place.seen + 1; least = place.least }
place_after place (Tick time) = record { seen = place.seen; least = time + 1 }
place_after place (Done number seq time) = place
place_after place (Snapped time) = place
place_after place (Refused about code kept more) = place
place_after place Alive = place

abbrev pub place_after_all : Place → List ServerFrame → Place
place_after_all place [] = place
place_after_all place (frame ∷ rest) = place_after_all (place_after place frame) rest

-- A RECV is the next entry of the log. A TICK comes after exactly the entries of its time or earlier, and its time is one of TeaTime.
-- Answers come anywhere.
abbrev pub ComesAt : List Entry → Place → ServerFrame → Type 0
ComesAt log place (Sync joined last from base) = ⊥
ComesAt log place (Recv entry) = slice_get log place.seen ≡ Some entry
ComesAt log place (Tick time) = (place.least ≤ time) × (time < time_limit) × (count_until log time ≡ place.seen)
ComesAt log place (Done number seq time) = Unit {0}
ComesAt log place (Snapped time) = Unit {0}
ComesAt log place (Refused about code kept more) = Unit {0}
ComesAt log place Alive = Unit {0}

-- so each of these frames comes, one after the other
abbrev pub Streams : List Entry → Place → List ServerFrame → Type 0
Streams log place [] = Unit {0}
Streams log place (frame ∷ rest) = ComesAt log place frame × Streams log (place_after place frame) rest

-- ---- answers

-- the entry of that seq and time is that view's Event with that number and payload
abbrev pub IsEventAt : List Entry → ℕ → ℕ → ℕ → ℕ → List ℕ → Type 0
IsEventAt log seq time view number payload =
    slice_get log (seq - 1) ≡ Some (record { seq = seq; time = time; view = view; what = what.Event number payload })

-- the answer that a frame of a view may have; None is a frame that could not be read
abbrev pub AnswersFrame : List Entry → ℕ → Option ClientFrame → ServerFrame → Type 0
AnswersFrame log view (Some (client.Send number payload)) (Done done seq time) =
    (done ≡ number) × IsEventAt log seq time view number payload
AnswersFrame log view (Some (client.Send number payload)) (Refused about code kept more) = about ≡ SEND_TAG
AnswersFrame log view (Some (client.Snap time bytes)) (Snapped snapped) = snapped ≡ time
AnswersFrame log view (Some (client.Snap time bytes)) (Refused about code kept more) = about ≡ SNAP_TAG
AnswersFrame log view (Some (client.Join session other want)) (Refused about code kept more) =
    (about ≡ JOIN_TAG) × (code ≡ code_number refusal.AlreadyJoined)
AnswersFrame log view (Some client.Leave) (Refused about code kept more) = about ≡ LEAVE_TAG
AnswersFrame log view (Some client.Alive) Alive = Unit {0}
AnswersFrame log view None (Refused about code kept more) = (about ≡ NO_TAG) × (code ≡ code_number refusal.BadFrame)
AnswersFrame log view given answer = ⊥

-- a LEAVE may have no answer
abbrev pub NeedsNoAnswer : Option ClientFrame → Type 0
NeedsNoAnswer (Some client.Leave) = Unit {0}
NeedsNoAnswer given = ⊥

-- they answer the frames that were given, in order, as far as they go
abbrev pub AnswersInOrder : List Entry → ℕ → List (Option ClientFrame) → List ServerFrame → Type 0
AnswersInOrder log view given [] = Unit {0}
AnswersInOrder log view [] (answer ∷ answers) = ⊥
AnswersInOrder log view (frame ∷ given) (answer ∷ answers) =
    (AnswersFrame log view frame answer × AnswersInOrder log view given answers)
    ⊎ (NeedsNoAnswer frame × AnswersInOrder log view given (answer ∷ answers))

-- the answers among the frames that were sent
abbrev pub answers_of : List ServerFrame → List ServerFrame
answers_of [] = []
answers_of (Recv entry ∷ rest) = answers_of rest
answers_of (Tick time ∷ rest) = answers_of rest
answers_of (frame ∷ rest) = frame ∷ answers_of rest

-- ---- the whole

-- where the entries begin that a join at a time asked for: after those of its base, of the time that it names, or at the first one
abbrev pub BeginsFor : List Entry → Want → ℕ → ℕ → Option Base → Type 0
BeginsFor log want.Fresh time from None = from ≡ 0
BeginsFor log want.Fresh time from (Some base) = (base.time < time) × (from ≡ count_until log base.time)
BeginsFor log want.Whole time from None = from ≡ 0
BeginsFor log want.Whole time from (Some base) = ⊥
BeginsFor log (want.After after) time from None = (after < time) × (from ≡ count_until log after)
BeginsFor log (want.After after) time from (Some base) = ⊥

-- a SYNC answers a JOIN: its entry of the log, how many Events the view sent before it, and where the entries begin
pub record AnswersJoin (log : List Entry) (view : ℕ) (want : Want) (joined last from time : ℕ)
    (base : Option Base) : Type 0 where
  pub entry : slice_get log (joined - 1) ≡ Some (record { seq = joined; time = time; view = view; what = what.Join })
  pub counted : last ≡ last_number (take (joined - 1) log) view
  pub begins : BeginsFor log want time from base

-- after the SYNC of a join at a time: entries from there on, ticks between them, and the answers
pub record ServedFrom (log : List Entry) (view : ℕ) (place : Place) (given : List (Option ClientFrame))
    (frames : List ServerFrame) : Type 0 where
  pub streams : Streams log place frames
  pub answers : AnswersInOrder log view given (answers_of frames)

-- The frames that a connection was sent, where it gave the others: none, one REFUSED, or a SYNC and what it is served from there on.
abbrev pub Served : List Entry → List (Option ClientFrame) → List ServerFrame → Type 0
Served log given [] = Unit {0}
Served log given (Refused about code kept more ∷ rest) = rest ≡ []
Served log (Some (client.Join session view want) ∷ given) (Sync joined last from base ∷ rest) =
    (time : ℕ) × AnswersJoin log view want joined last from time base
    × ServedFrom log view (record { seen = from; least = time }) given rest
Served log given (frame ∷ rest) = ⊥
