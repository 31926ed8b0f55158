-- Which logs are legal.
use Rattle.std.specs.Prelude.{ℕ, ◌+◌, ◌^◌, ◌<◌, ◌≤◌, ◌≡◌, ◌≢◌, true, false, List, [], ◌∷◌, ◌++◌, length}
use Rattle.tea_base.specs.declared.entry.Entry.{Entry}
use Rattle.tea_base.specs.declared.entry.What.{What}
use Rattle.tea_base.specs.declared.entry.What.TheVariants.{Join, Exit, Event}
use Rattle.tea_base.specs.Limits.{time_limit, most_entries, most_open_entries, most_payload, most_bytes, most_here}
use Rattle.tea_base.specs.Readings.{is_here, last_number, payload_bytes, here_count, last_time, view_events}

-- the log has room for what the entry records, and the state of its view allows it
abbrev pub LogAllows : List Entry → ℕ → What → Type 0
LogAllows log view Join = (is_here log view ≡ false → here_count log < most_here) × (length log < most_open_entries)
LogAllows log view Exit = (is_here log view ≡ true) × (length log < most_entries)
LogAllows log view (Event number payload) =
    (is_here log view ≡ true) × (number ≡ last_number log view + 1) × (length payload ≤ most_payload)
    × (payload_bytes log + length payload ≤ most_bytes) × (length log < most_open_entries)

-- a legal log may go on with the entry
pub record MayFollow (log : List Entry) (entry : Entry) : Type 0 where
  pub seq : entry.seq ≡ length log + 1
  pub later : last_time log < entry.time
  pub time_bound : entry.time < time_limit
  pub named : entry.view ≢ 0
  pub view_bound : entry.view < 2 ^ 32
  pub allowed : LogAllows log entry.view entry.what

-- each entry may follow those before it
abbrev pub IsLegalAfter : List Entry → List Entry → Type 0
IsLegalAfter before [] = Unit {0}
IsLegalAfter before (entry ∷ rest) = MayFollow before entry × IsLegalAfter (before ++ entry ∷ []) rest

-- the log is legal
abbrev pub IsLegal : List Entry → Type 0
IsLegal log = IsLegalAfter [] log

-- each time is above this one and above those before it
abbrev pub TimesRiseAfter : ℕ → List Entry → Type 0
TimesRiseAfter time [] = Unit {0}
TimesRiseAfter time (entry ∷ rest) = (time < entry.time) × TimesRiseAfter entry.time rest

-- the times are 1 or more, and rise
abbrev pub TimesRise : List Entry → Type 0
TimesRise log = TimesRiseAfter 0 log

-- it is an Event with this number
abbrev pub HasNumber : ℕ → What → Type 0
HasNumber number Join = ⊥
HasNumber number Exit = ⊥
HasNumber number (Event found payload) = found ≡ number

-- the entries are Events with this number and those after it, in order
abbrev pub AreNumberedFrom : ℕ → List Entry → Type 0
AreNumberedFrom number [] = Unit {0}
AreNumberedFrom number (entry ∷ rest) = HasNumber number entry.what × AreNumberedFrom (number + 1) rest

-- the Events of each view are numbered 1, 2, 3 and so on
abbrev pub EachCountsItsEvents : List Entry → Type 0
EachCountsItsEvents log = (view : ℕ) → AreNumberedFrom 1 (view_events log view)
