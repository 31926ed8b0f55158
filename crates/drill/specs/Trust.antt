-- Which snapshots the session of a drill keeps.
use Rattle.std.specs.Prelude.{◌≡◌, ◌≤◌, ℕ, true, List, Some}
use Rattle.tea_base.specs.declared.entry.Entry.{Entry}
use Rattle.model_solved.specs.Founding.{Founding}
use Rattle.world.specs.Worlds.{replay}
use Rattle.replica.specs.RealWorlds.{is_at_rest, worlds}

-- The bytes are the snapshot of the replay of the log to this time, which is at most the horizon. Its world is of this time, and at rest.
pub record AllowsReplay (founding : Founding) (id : List ℕ) (log : List Entry) (horizon time : ℕ)
    (bytes : List ℕ) : Type 0 where
  pub within : time ≤ horizon
  pub replays : (worlds founding id).unsnap bytes ≡ Some (replay founding id log time).world
  pub timed : (replay founding id log time).world.time ≡ time
  pub rests : is_at_rest (replay founding id log time).world ≡ true
