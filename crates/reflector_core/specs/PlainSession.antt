-- What a session is, without what its code keeps.
use Rattle.std.specs.Prelude.{ℕ, ◌+◌, ◌≤◌, ◌<◌, List, length, Option, Some, None}
use Rattle.tea_base.specs.declared.entry.Entry.{Entry}
use Rattle.tea_base.specs.Readings.{here_count, last_time}
use Rattle.tea_base.specs.Legal.{IsLegal}
use Rattle.tea_base.specs.Limits.{time_limit, most_entries, most_here, most_snapshot}
use Rattle.wire_frames.specs.declared.start.Base.{Base}

-- a log, the horizon of its times, and the kept snapshot
pub record PlainSession : Type 0 where
  pub log : List Entry
  pub horizon : ℕ
  pub kept : Option Base

-- what is kept has a time of at most this, and no more bytes than a snapshot may have
abbrev pub IsKeptBy : ℕ → Option Base → Type 0
IsKeptBy horizon None = Unit {0}
IsKeptBy horizon (Some base) = (base.time ≤ horizon) × (length base.bytes ≤ most_snapshot)

-- what is true of every session
pub record IsSoundSession (s : PlainSession) : Type 0 where
  pub legal : IsLegal s.log
  pub latest : last_time s.log ≤ s.horizon
  pub here : here_count s.log ≤ most_here
  pub room : length s.log + here_count s.log ≤ most_entries
  pub bounded : s.horizon + here_count s.log < time_limit
  pub kept : IsKeptBy s.horizon s.kept
