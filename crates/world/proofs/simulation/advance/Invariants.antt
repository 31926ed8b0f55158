use Rattle.std.proofs.Common.{◌≡◌}
use Rattle.world_plain.specs.Valid.{Valid}
use Rattle.world_state.specs.Answer.{world_of}
use Rattle.model_solved.specs.Founding.{checked_tree}
use Rattle.world.specs.Worlds.{field_counts, enough, advance}
use Rattle.world.specs.View.{scene}
use Rattle.world.proofs.simulation.advance.Given as goal

abbrev pub invariant-loop-message : goal.invariant-loop-message
invariant-loop-message l =
    Valid (field_counts (checked_tree l.program)) (world_of l.state)
    × (advance (checked_tree l.program) l.time (scene l.state) ≡ advance (checked_tree l.program) l.time (scene l.fn.state))

abbrev pub decreases-loop-message : goal.decreases-loop-message
decreases-loop-message l = enough l.time (world_of l.state)
