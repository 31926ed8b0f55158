use Rattle.std.proofs.Common.{◌≡◌, ◌++◌, take, drop}
use Rattle.world.specs.Worlds.{without_view}
use Rattle.world.proofs.simulation.place_of.Given as goal

abbrev pub invariant-loop-i : goal.invariant-loop-i
invariant-loop-i l = take l.i l.views ++ without_view l.view (drop l.i l.views) ≡ without_view l.view l.views
