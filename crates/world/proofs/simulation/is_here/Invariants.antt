use Rattle.std.proofs.Common.{◌≡◌, drop}
use Rattle.world.specs.Worlds.{is_view_here}
use Rattle.world.proofs.simulation.is_here.Given as goal

abbrev pub invariant-loop-other : goal.invariant-loop-other
invariant-loop-other l = is_view_here l.view (drop l.other-index l.views) ≡ is_view_here l.view l.views
