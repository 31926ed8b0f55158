use Rattle.std.proofs.Common.{◌≡◌, ◌+◌, drop}
use Rattle.world_plain.specs.World.{known_weight, total_weight}
use Rattle.known_names.proofs.known.weight_of.Given as goal

abbrev pub invariant-loop-known : goal.invariant-loop-known
invariant-loop-known l = l.sum + total_weight known_weight (drop l.known-index l.names) ≡ total_weight known_weight l.names
