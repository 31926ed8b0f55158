-- Whether a log may go on with an entry, as a test over a few numbers.
use Rattle.std.specs.Prelude.{ℕ, ◌+◌, Bool, true, false, not, ◌&&◌, ◌||◌, ◌==◌, nat_lt, nat_le, List, length}
use Rattle.tea_base.specs.declared.entry.Entry.{Entry}
use Rattle.tea_base.specs.declared.entry.What.{What}
use Rattle.tea_base.specs.declared.entry.What.TheVariants.{Join, Exit, Event}
use Rattle.tea_base.specs.Readings.{is_here, last_number, payload_bytes, here_count, last_time}
use Rattle.tea_base.specs.Limits.{time_limit, most_entries, most_open_entries, most_payload, most_bytes, most_here}
use Rattle.session_log.specs.declared.legality.LogCounts.{LogCounts}
use Rattle.session_log.specs.declared.legality.ViewState.{ViewState}

-- what the test needs of a log
abbrev pub log_counts : List Entry → LogCounts
log_counts log =
    record {
      entries = length log;
      payload_bytes = payload_bytes log;
      views_here = here_count log;
      time = last_time log;
    }

-- and of a view in it
abbrev pub view_state : List Entry → ℕ → ViewState
view_state log view = record { here = is_here log view; number = last_number log view }

-- what an entry leaves of its view's stand
abbrev pub view_state_after : ViewState → What → ViewState
view_state_after view Join = record { here = true; number = view.number }
view_state_after view Exit = record { here = false; number = view.number }
view_state_after view (Event number payload) = record { here = view.here; number = view.number + 1 }

-- there is room for what the entry records, and its view's stand allows it
abbrev pub log_allows : LogCounts → ViewState → What → Bool
log_allows log view Join =
    (view.here || nat_lt log.views_here most_here) && nat_lt log.entries most_open_entries
log_allows log view Exit = view.here && nat_lt log.entries most_entries
log_allows log view (Event number payload) =
    view.here && (number == view.number + 1
    && (nat_le (length payload) most_payload
    && (nat_le (log.payload_bytes + length payload) most_bytes && nat_lt log.entries most_open_entries)))

-- the time is later than those before it and in bounds, the view is named, and the rest is allowed
abbrev pub may_go_on : LogCounts → ViewState → Entry → Bool
may_go_on log view entry =
    nat_lt log.time entry.time && (nat_lt entry.time time_limit
    && (not (entry.view == 0) && log_allows log view entry.what))

-- A log may go on with an entry that has the next seq and a view of 32 bits.
abbrev pub may_follow : List Entry → Entry → Bool
may_follow log entry = may_go_on (log_counts log) (view_state log entry.view) entry
