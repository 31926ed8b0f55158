-- The answer of a session to a request, and the session after it.
use Rattle.std.specs.Prelude.{ℕ, ◌+◌, ◌-◌, ◌^◌, ◌==◌, nat_le, nat_lt, min, max, Bool, false, not, ◌&&◌, ◌||◌, if◌then◌else◌, List, length, take, drop, Option, Some, None}
use Rattle.std.specs.Str.{bytes_eq}
use Rattle.tea_base.specs.declared.entry.Entry.{Entry}
use Rattle.tea_base.specs.declared.entry.What.{What}
use Rattle.tea_base.specs.declared.entry.What.TheVariants as what
use Rattle.tea_base.specs.Readings.{current, is_here, last_number, view_event, payload_bytes, count_until, here_count, event_payload}
use Rattle.tea_base.specs.Limits.{end_of_time, most_open_entries, most_payload, most_bytes, most_here, most_snapshot}
use Rattle.session_log.specs.LogState.{with_next}
use Rattle.reflector_core.specs.PlainSession.{PlainSession}
use Rattle.wire_frames.specs.declared.start.Want.{Want}
use Rattle.wire_frames.specs.declared.start.Want.TheVariants.{Fresh, Whole, After}
use Rattle.wire_frames.specs.declared.start.Base.{Base}
use Rattle.reflector_core.specs.declared.request.Request.{Request}
use Rattle.reflector_core.specs.declared.request.Request.TheVariants.{Join, Send, Tick, Leave, Offer, Pull}
use Rattle.reflector_core.specs.declared.request.Reply.{Reply}
use Rattle.reflector_core.specs.declared.request.Reply.TheVariants.{Joined, Stamped, Again, Ticked, Left, Kept, Batch, Refused}
use Rattle.reflector_core.specs.declared.request.Refusal.{Refusal}
use Rattle.reflector_core.specs.declared.request.Refusal.TheVariants.{Stale, TooLong, Differs, Gap, LogFull, TimeEnd, ViewsFull, BadView, Ahead, Older, NoSuchSeq}

-- the session after a request, and the reply
pub record SessionOutcome : Type 0 where
  pub session : PlainSession
  pub reply : Reply

-- a length as a reply gives it
abbrev pub reply_length : ℕ → ℕ
reply_length len = min len (2 ^ 32 - 1)

-- the session is this one, with this reply
abbrev pub with_reply : PlainSession → Reply → SessionOutcome
with_reply s reply = record { session = s; reply = reply }

-- a refusal changes nothing
abbrev pub refuses : PlainSession → Refusal → SessionOutcome
refuses s refusal = with_reply s (Refused refusal)

-- the next time of the log
abbrev pub stamp : ℕ → ℕ → ℕ
stamp horizon now = max (min now end_of_time) (horizon + 1)

-- the session with one more entry, whose time is the new horizon
abbrev pub append_entry : PlainSession → ℕ → ℕ → What → PlainSession
append_entry s time view what =
    record { log = with_next s.log time view what; horizon = time; kept = s.kept }

-- the caller joined before the view's last Join or Exit, or the view is not here
abbrev pub is_stale : List Entry → ℕ → ℕ → Bool
is_stale log view joined = not (current log view == joined) || not (is_here log view)

-- no more than Exits go into the log
abbrev pub is_closed : List Entry → Bool
is_closed log = nat_le most_open_entries (length log)

abbrev pub log_full : List Entry → Refusal
log_full log = LogFull (length log) (payload_bytes log)

-- an Event that was sent before, by its entry
abbrev pub repeats : PlainSession → List ℕ → Option Entry → Reply → Reply
repeats s payload None otherwise = otherwise
repeats s payload (Some entry) otherwise =
    if bytes_eq (event_payload entry.what) payload then Again entry.seq entry.time
    else Refused (Differs entry.seq)

-- the Event is appended
abbrev pub stamps : PlainSession → ℕ → ℕ → List ℕ → ℕ → SessionOutcome
stamps s view number payload now =
    let time = stamp s.horizon now in
    record { session = append_entry s time view (what.Event number payload); reply = Stamped (length s.log + 1) time }

abbrev pub send_event : PlainSession → ℕ → ℕ → ℕ → List ℕ → ℕ → SessionOutcome
send_event s view joined number payload now =
    let next = last_number s.log view + 1 in
    if is_stale s.log view joined then refuses s (Stale (current s.log view))
    else if nat_lt most_payload (length payload) then refuses s (TooLong (reply_length (length payload)))
    else if number == 0 then refuses s (Gap next)
    else if nat_lt number next
    then with_reply s (repeats s payload (view_event s.log view number) (Refused (Gap next)))
    else if nat_lt next number then refuses s (Gap next)
    else if is_closed s.log || nat_lt most_bytes (payload_bytes s.log + length payload)
    then refuses s (log_full s.log)
    else if nat_le end_of_time s.horizon then refuses s (TimeEnd s.horizon)
    else stamps s view number payload now

-- the want asks for entries after a time that has not come
abbrev pub is_ahead : ℕ → Want → Bool
is_ahead horizon Fresh = false
is_ahead horizon Whole = false
is_ahead horizon (After time) = nat_lt horizon time

-- the snapshot from which the caller starts, and the seq after which its entries begin
abbrev pub base_for : Want → Option Base → Option Base
base_for Fresh kept = kept
base_for Whole kept = None
base_for (After time) kept = None

abbrev pub from_for : List Entry → Want → Option Base → ℕ
from_for log Fresh None = 0
from_for log Fresh (Some base) = count_until log base.time
from_for log Whole kept = 0
from_for log (After time) kept = count_until log time

-- the Join is appended
abbrev pub joins : PlainSession → ℕ → ℕ → Want → SessionOutcome
joins s view now want =
    let time = stamp s.horizon now in
    record {
      session = append_entry s time view what.Join;
      reply =
          Joined (length s.log + 1) time (last_number s.log view)
          (from_for s.log want s.kept) (base_for want s.kept);
    }

abbrev pub join : PlainSession → ℕ → ℕ → Want → SessionOutcome
join s view now want =
    if view == 0 then refuses s BadView
    else if is_ahead s.horizon want then refuses s (Ahead s.horizon)
    else if not (is_here s.log view) && nat_le most_here (here_count s.log)
    then refuses s (ViewsFull (here_count s.log))
    else if is_closed s.log then refuses s (log_full s.log)
    else if nat_le end_of_time s.horizon then refuses s (TimeEnd s.horizon)
    else joins s view now want

abbrev pub tick : PlainSession → ℕ → SessionOutcome
tick s now =
    let time = max s.horizon (min now end_of_time) in
    record { session = record { log = s.log; horizon = time; kept = s.kept }; reply = Ticked time }

abbrev pub leave : PlainSession → ℕ → ℕ → ℕ → SessionOutcome
leave s view joined now =
    let time = stamp s.horizon now in
    if is_stale s.log view joined then refuses s (Stale (current s.log view))
    else record { session = append_entry s time view what.Exit; reply = Left (length s.log + 1) time }

-- the kept snapshot is of this time or a later one
abbrev pub is_older : ℕ → Option Base → Bool
is_older time None = false
is_older time (Some base) = nat_le time base.time

abbrev pub base_time_or_zero : Option Base → ℕ
base_time_or_zero None = 0
base_time_or_zero (Some base) = base.time

abbrev pub offer : PlainSession → ℕ → ℕ → ℕ → List ℕ → SessionOutcome
offer s view joined time snapshot =
    if is_stale s.log view joined then refuses s (Stale (current s.log view))
    else if nat_lt most_snapshot (length snapshot) then refuses s (TooLong (reply_length (length snapshot)))
    else if nat_lt s.horizon time then refuses s (Ahead s.horizon)
    else if is_older time s.kept then refuses s (Older (base_time_or_zero s.kept))
    else
    let base : Base = record { time = time; bytes = snapshot } in
    record { session = record { log = s.log; horizon = s.horizon; kept = Some base }; reply = Kept }

abbrev pub pull : PlainSession → ℕ → ℕ → SessionOutcome
pull s after limit =
    let tick = if nat_le (length s.log) (after + limit) then Some s.horizon else None in
    if nat_lt (length s.log) after then refuses s (NoSuchSeq (length s.log))
    else with_reply s (Batch (take limit (drop after s.log)) tick)

-- the answer to each request
abbrev pub answer : PlainSession → Request → SessionOutcome
answer s (Join view now want) = join s view now want
answer s (Send view joined number payload now) = send_event s view joined number payload now
answer s (Tick now) = tick s now
answer s (Leave view joined now) = leave s view joined now
answer s (Offer view joined time snapshot) = offer s view joined time snapshot
answer s (Pull after limit) = pull s after limit

-- the replies that may want memory
abbrev pub MayWantMemory : Reply → Type 0
MayWantMemory (Joined seq time last from base) = Unit {0}
MayWantMemory (Stamped seq time) = Unit {0}
MayWantMemory (Again seq time) = ⊥
MayWantMemory (Ticked time) = ⊥
MayWantMemory (Left seq time) = Unit {0}
MayWantMemory Kept = Unit {0}
MayWantMemory (Batch entries tick) = Unit {0}
MayWantMemory (Refused refusal) = ⊥
