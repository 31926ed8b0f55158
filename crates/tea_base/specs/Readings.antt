-- What a log says of a view, and of its bytes and times.
use Rattle.std.specs.Prelude.{ℕ, ◌+◌, ◌-◌, ◌≡◌, Bool, true, false, if◌then◌else◌, not, ◌&&◌, ◌||◌, ◌==◌, nat_le, List, [], ◌∷◌, Option, Some, None, unwrap_or, slice_get, length, filter, count_by, sum_by}
use Rattle.std.specs.List.{list_any}
use Rattle.tea_base.specs.declared.entry.Entry.{Entry}
use Rattle.tea_base.specs.declared.entry.What.{What}
use Rattle.tea_base.specs.declared.entry.What.TheVariants.{Join, Exit, Event}

abbrev pub is_join : What → Bool
is_join Join = true
is_join Exit = false
is_join (Event number payload) = false

abbrev pub is_exit : What → Bool
is_exit Join = false
is_exit Exit = true
is_exit (Event number payload) = false

abbrev pub is_event : What → Bool
is_event Join = false
is_event Exit = false
is_event (Event number payload) = true

-- an Event's payload, and nothing of a Join or an Exit
abbrev pub event_payload : What → List ℕ
event_payload Join = []
event_payload Exit = []
event_payload (Event number payload) = payload

-- it is an Event with this payload
abbrev pub IsEventOf : What → List ℕ → Type 0
IsEventOf Join bytes = ⊥
IsEventOf Exit bytes = ⊥
IsEventOf (Event number payload) bytes = payload ≡ bytes

-- its length
abbrev pub payload_len : What → ℕ
payload_len what = length (event_payload what)

-- the entry is a view's Join or Exit
abbrev pub is_presence_of : ℕ → Entry → Bool
is_presence_of view entry = entry.view == view && (is_join entry.what || is_exit entry.what)

-- the entry is a view's Event
abbrev pub is_event_of : ℕ → Entry → Bool
is_event_of view entry = entry.view == view && is_event entry.what

-- the last entry of a list
abbrev pub last_entry : List Entry → Option Entry
last_entry [] = None
last_entry (entry ∷ rest) = Some (unwrap_or (last_entry rest) entry)

-- its seq, 0 of none
abbrev pub seq_or_zero : Option Entry → ℕ
seq_or_zero None = 0
seq_or_zero (Some entry) = entry.seq

-- its time, 0 of none
abbrev pub time_or_zero : Option Entry → ℕ
time_or_zero None = 0
time_or_zero (Some entry) = entry.time

-- there is an entry, and it is a Join
abbrev pub is_some_join : Option Entry → Bool
is_some_join None = false
is_some_join (Some entry) = is_join entry.what

-- the Joins and Exits of a view
abbrev pub presence : List Entry → ℕ → List Entry
presence log view = filter (is_presence_of view) log

-- the seq of the last Join or Exit of a view, 0 if there is none
abbrev pub current : List Entry → ℕ → ℕ
current log view = seq_or_zero (last_entry (presence log view))

-- the last Join or Exit of the view is a Join
abbrev pub is_here : List Entry → ℕ → Bool
is_here log view = is_some_join (last_entry (presence log view))

-- the Events of a view
abbrev pub view_events : List Entry → ℕ → List Entry
view_events log view = filter (is_event_of view) log

-- the Events of all views
abbrev pub events : List Entry → List Entry
events log = filter (λ entry. is_event entry.what) log

-- how many Events a view sent, which is the number of the last one
abbrev pub last_number : List Entry → ℕ → ℕ
last_number log view = length (view_events log view)

-- the Event of a view with a number, counted from 1
abbrev pub view_event : List Entry → ℕ → ℕ → Option Entry
view_event log view number = if number == 0 then None else slice_get (view_events log view) (number - 1)

-- the payload bytes of all Events
abbrev pub payload_bytes : List Entry → ℕ
payload_bytes log = sum_by (λ entry. payload_len entry.what) log

-- how many entries have a time of at most this
abbrev pub count_until : List Entry → ℕ → ℕ
count_until log time = count_by (λ entry. nat_le entry.time time) log

-- how many views are here: the Joins that no Join or Exit of the same view comes after
abbrev pub here_count : List Entry → ℕ
here_count [] = 0
here_count (entry ∷ rest) =
    (if is_join entry.what && not (list_any (is_presence_of entry.view) rest) then 1 else 0) + here_count rest

-- the time of the last entry, 0 of none
abbrev pub last_time : List Entry → ℕ
last_time log = time_or_zero (last_entry log)
