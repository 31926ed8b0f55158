-- The limits of what a run may be asked for.
use Rattle.std.specs.Prelude.{ℕ}

-- the most links that a reflector accepts
abbrev pub most_connections : ℕ
most_connections = 64

-- the most views of a drill
abbrev pub most_drill_views : ℕ
most_drill_views = 8

-- the most events that each view of a drill publishes
abbrev pub most_drill_events : ℕ
most_drill_events = 10000
