-- The sizes that a drill may have.
use Rattle.std.specs.Prelude.{◌≤◌}
use Rattle.run_steps.specs.Limits.{most_drill_events, most_drill_views}
use Rattle.drill.specs.declared.size.Size.{Size}

pub record IsOfSize (size : Size) : Type 0 where
  pub some : 1 ≤ size.views
  pub views : size.views ≤ most_drill_views
  pub events : size.events ≤ most_drill_events
