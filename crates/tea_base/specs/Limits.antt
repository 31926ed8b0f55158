-- The limits of a session. Times are in microseconds.
use Rattle.std.specs.Prelude.{ℕ, ◌-◌, ◌^◌}

-- times are below this
abbrev pub time_limit : ℕ
time_limit = 2 ^ 53

-- at a horizon of this time or later nothing is stamped but Exits
abbrev pub end_of_time : ℕ
end_of_time = time_limit - 4096

-- the most entries of a log
abbrev pub most_entries : ℕ
most_entries = 1049600

-- how many entries may come before something other than an Exit is refused
abbrev pub most_open_entries : ℕ
most_open_entries = 1048576

-- the most payload bytes of an Event
abbrev pub most_payload : ℕ
most_payload = 4096

-- the most payload bytes of a log
abbrev pub most_bytes : ℕ
most_bytes = 67108864

-- the most views that are here
abbrev pub most_here : ℕ
most_here = 1024

-- the most bytes of a snapshot
abbrev pub most_snapshot : ℕ
most_snapshot = 4194304
